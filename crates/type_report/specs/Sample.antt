-- docs/FORMAT.md, "The command's text" and "Data type entries". The line of a data type in which every number is another.
use Rattle.std.specs.Prelude.{ℕ, ◌≡◌, List, ◌++◌, codes}
use Rattle.std.specs.List.{flat_map}
use Rattle.std.specs.Borrow.{Bor}
use Rattle.refusal.specs.declared.Mode.TheVariants.{Present}
use Rattle.walk.specs.Pieces.{pieces}
use Rattle.data_type.specs.DataType.{type_of}
use Rattle.type_tree.specs.Sample.{sample}
use Rattle.type_report.specs.Json.{entry_line}

abbrev pub line : List ℕ
line =
    codes "{\"place\":0,\"length\":236,\"name\":\"R\",\"type\":\"\",\"comment\":\"c\",\"offset\":15,\"offset_from_start\":0,\"size\":14,\"marks\":[\"reference\"],\"arrays\":[],\"version\":11,\"hash\":12,\"type_hash\":13,\"type_id\":16,\"flags\":4228,\"guid\":\"{04030201-0605-0807-090A-0B0C0D0E0F10}\",\"attributes\":[{\"name\":\"n\",\"value\":\"v\"},{\"name\":\"k\",\"value\":\"\"}],\"members\":["
    ++ (codes "{\"place\":47,\"length\":114,\"name\":\"a\",\"type\":\"ta\",\"comment\":\"ca\",\"offset\":25,\"offset_from_start\":25,\"size\":24,\"marks\":[\"bits\",\"in reference\"],\"arrays\":[{\"lower_bound\":-1,\"elements\":7},{\"lower_bound\":3,\"elements\":8}],\"version\":21,\"hash\":22,\"type_hash\":23,\"type_id\":26,\"flags\":32,\"guid\":null,\"attributes\":[],\"members\":["
    ++ (codes "{\"place\":113,\"length\":48,\"name\":\"b\",\"type\":\"tb\",\"comment\":\"\",\"offset\":35,\"offset_from_start\":60,\"size\":34,\"marks\":[\"property\",\"in bits\",\"in reference\"],\"arrays\":[],\"version\":31,\"hash\":32,\"type_hash\":33,\"type_id\":36,\"flags\":64,\"guid\":null,\"attributes\":[],\"members\":[]}"
    ++ (codes "]},"
    ++ (codes "{\"place\":161,\"length\":46,\"name\":\"d\",\"type\":\"\",\"comment\":\"\",\"offset\":700,\"offset_from_start\":700,\"size\":44,\"marks\":[\"static\",\"in reference\"],\"arrays\":[],\"version\":41,\"hash\":42,\"type_hash\":43,\"type_id\":46,\"flags\":131072,\"guid\":null,\"attributes\":[],\"members\":[]}"
    ++ codes "]}\n"))))

-- wherever it lies
abbrev pub SampleTold : Type 0
SampleTold = (u : Bor (List ℕ)) → u.now ≡ sample → flat_map (entry_line Present) (pieces (type_of Present) u) ≡ line
