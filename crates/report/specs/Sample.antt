-- docs/FORMAT.md, "The command's text" and "Symbol entries". A symbol with every section, in which every number is another, and three bytes behind it: its bytes, and what is written of it.
use Rattle.std.specs.Prelude.{ℕ, ◌≡◌, List, [], ◌∷◌, ◌++◌, codes}
use Rattle.std.specs.List.{flat_map}
use Rattle.std.specs.Borrow.{Bor}
use Rattle.refusal.specs.declared.Mode.TheVariants.{Present}
use Rattle.walk.specs.Pieces.{pieces}
use Rattle.symbol.specs.Symbol.{symbol_of}
use Rattle.upload.specs.declared.Form.TheVariants.{Binary}
use Rattle.report.specs.declared.Upload.{Upload}
use Rattle.report.specs.Report.{check_text, json_line}
use Rattle.report.specs.Table.{table_text}

-- the header, and the strings N, TU and CDE
abbrev pub front : List ℕ
front =
    96 ∷ 0 ∷ 0 ∷ 0 ∷ 11 ∷ 0 ∷ 0 ∷ 0 ∷ 12 ∷ 0 ∷ 0 ∷ 0 ∷ 13 ∷ 0 ∷ 0 ∷ 0 ∷ 14 ∷ 0 ∷ 0 ∷ 0 ∷ 8 ∷ 144 ∷ 15 ∷
    0 ∷ 1 ∷ 0 ∷ 2 ∷ 0 ∷ 3 ∷ 0 ∷ 78 ∷ 0 ∷ 84 ∷ 85 ∷ 0 ∷ 67 ∷ 68 ∷ 69 ∷ 0 ∷ []

-- a GUID, two attributes, extended flags, and a chain of the names p and qr
abbrev pub sections : List ℕ
sections =
    1 ∷ 2 ∷ 3 ∷ 4 ∷ 5 ∷ 6 ∷ 7 ∷ 8 ∷ 9 ∷ 10 ∷ 11 ∷ 12 ∷ 13 ∷ 14 ∷ 15 ∷ 16 ∷ 2 ∷ 0 ∷ 1 ∷ 2 ∷ 97 ∷ 0 ∷
    98 ∷ 99 ∷ 0 ∷ 2 ∷ 0 ∷ 100 ∷ 101 ∷ 0 ∷ 0 ∷ 4 ∷ 1 ∷ 0 ∷ 0 ∷ 1 ∷ 0 ∷ 0 ∷ 1 ∷ 1 ∷ 0 ∷ 112 ∷ 0 ∷ 0 ∷ 0 ∷
    0 ∷ 0 ∷ 2 ∷ 0 ∷ 113 ∷ 114 ∷ 0 ∷ []

-- five bytes that are left unread, and the start of another entry
abbrev pub behind : List ℕ
behind =
    21 ∷ 22 ∷ 23 ∷ 24 ∷ 25 ∷ 7 ∷ 0 ∷ 0 ∷ []

abbrev pub sample : List ℕ
sample = front ++ (sections ++ behind)

abbrev pub lines : List ℕ
lines =
    codes "{\"place\":0,\"length\":96,\"name\":\"N\",\"type\":\"TU\",\"comment\":\"CDE\",\"size\":13,\"group\":11,\"offset\":12,\"type_id\":14,\"flags\":36872,\"high\":15,\"extended_flags\":260,\"guid\":\"{04030201-0605-0807-090A-0B0C0D0E0F10}\",\"attributes\":[{\"name\":\"a\",\"value\":\"bc\"},{\"name\":\"de\",\"value\":\"\"}],\"former_names\":[\"p\",\"qr\"],\"unread\":5}\n"
    ++ codes "{\"place\":96,\"refused\":2,\"expected\":100,\"got\":99,\"reason\":\"refusal 2, too short: 100 bytes needed, 99 there\"}\n"

abbrev pub table : List ℕ
table =
    codes "f (binary, 99 bytes)\n"
    ++ (codes "place  name  type  size  group  offset  attrs  unread  high\n"
    ++ (codes "    0  N     TU      13    0xB     0xC      2       5    15\n"
    ++ codes "   96  refusal 2, too short: 100 bytes needed, 99 there\n"))

abbrev pub checked : List ℕ
checked =
    codes "f (binary, 99 bytes)\nat 96: refusal 2, too short: 100 bytes needed, 99 there\n2 entries: 1 accepted, 1 refused\nleft unread: 5 bytes, in 1 entry\n"

-- wherever it lies
pub record SampleTold : Type 0 where
  pub as_json : (u : Bor (List ℕ)) → u.now ≡ sample → flat_map json_line (pieces (symbol_of Present) u) ≡ lines
  pub as_table : (u : Upload) → u.path.now ≡ codes "f" → u.form ≡ Binary → u.mode ≡ Present → u.bytes.now ≡ sample → table_text u ≡ table
  pub as_checked : (u : Upload) → u.path.now ≡ codes "f" → u.form ≡ Binary → u.mode ≡ Present → u.bytes.now ≡ sample → check_text u ≡ checked
