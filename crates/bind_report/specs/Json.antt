-- docs/FORMAT.md, "The command's text": what stands in JSON of a path, a line each.
use Rattle.std.specs.Prelude.{ℕ, List, ◌++◌, codes, decimal, Option, Some, None, Result, Ok, Err, if◌then◌else◌}
use Rattle.std.specs.List.{flat_map}
use Rattle.std.specs.Borrow.{Bor}
use Rattle.refusal.specs.Refusal.{figures_of}
use Rattle.refusal.specs.declared.Refusal.{Refusal}
use Rattle.wording.specs.Text.{quoted}
use Rattle.bind.specs.declared.Address.{Address}
use Rattle.bind.specs.declared.reading.Place.{Place}
use Rattle.bind.specs.declared.reading.Place.TheVariants.{Symbol, DataType}
use Rattle.bind_report.specs.declared.Bound.{Bound}
use Rattle.bind_report.specs.Words.{reason_text, refused_part}

-- where a value begins, and how long it is
unfoldable pub numbers_text : Address → List ℕ
numbers_text a =
    codes "\"group\":" ++ (decimal a.group.0
    ++ (codes ",\"offset\":" ++ (decimal a.offset.0
    ++ (codes ",\"bit\":" ++ (decimal a.bit
    ++ (codes ",\"size\":" ++ (decimal a.size
    ++ (codes ",\"size_in_bits\":" ++ (if a.size_in_bits then codes "true" else codes "false")))))))))

-- the entry that says so: the upload that it stands in, and its place there
abbrev pub upload_word : Place → List ℕ
upload_word (Symbol at) = codes "symbols"
upload_word (DataType at) = codes "types"

abbrev pub place_there : Place → ℕ
place_there (Symbol at) = at
place_there (DataType at) = at

unfoldable pub entry_text : Place → List ℕ
entry_text p = codes "{\"upload\":\"" ++ (upload_word p ++ (codes "\",\"place\":" ++ (decimal (place_there p) ++ codes "}")))

unfoldable pub address_text : Address → List ℕ
address_text a = numbers_text a ++ (codes ",\"type\":" ++ (quoted a.type_name.now ++ (codes ",\"entry\":" ++ entry_text a.place)))

abbrev pub part_text : Option (Bor (List ℕ)) → List ℕ
part_text None = codes "null"
part_text (Some part) = quoted part.now

-- the refusal's number, its two figures, its words and the part of the path
unfoldable pub figures_text : Refusal → List ℕ
figures_text why =
    codes "\"refused\":" ++ (decimal (figures_of why).number
    ++ (codes ",\"expected\":" ++ (decimal (figures_of why).expected
    ++ (codes ",\"got\":" ++ decimal (figures_of why).got))))

unfoldable pub refused_text : Bor (List ℕ) → Refusal → List ℕ
refused_text path why = figures_text why ++ (codes ",\"reason\":\"" ++ (reason_text why ++ (codes "\",\"part\":" ++ part_text (refused_part path why))))

abbrev pub answer_by : Bor (List ℕ) → Result Address Refusal → List ℕ
answer_by path (Ok a) = address_text a
answer_by path (Err why) = refused_text path why

unfoldable pub json_line : Bound → List ℕ
json_line b = codes "{\"path\":" ++ (quoted b.path.now ++ (codes "," ++ (answer_by b.path b.answer ++ codes "}\n")))

-- of several paths, in their order
abbrev pub lines_text : List Bound → List ℕ
lines_text bs = flat_map json_line bs
