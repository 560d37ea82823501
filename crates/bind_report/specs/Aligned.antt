-- docs/FORMAT.md, "The command's text": where the cells of the table of addresses stand, by the characters of its lines.
use Rattle.std.specs.Prelude.{ℕ, ◌≤◌, ◌≡◌, nat_lt, ◌||◌, ◌==◌, List, [], ◌∷◌, ◌++◌, codes, decimal, encode_utf8_all, length, map, Contains, Option, Some, None, Ok, Err, if◌then◌else◌}
use Rattle.std.specs.Borrow.{Bor}
use Rattle.refusal.specs.Refusal.{limit}
use Rattle.refusal.specs.declared.Refusal.{Refusal}
use Rattle.text.specs.Text.{code_point}
use Rattle.wording.specs.Meant.{IsVisible}
use Rattle.report.specs.Aligned.{Cell, left, right, IsColumn, IsRow}
use Rattle.report.specs.Cells.{hexadecimal}
use Rattle.bind.specs.declared.Address.{Address}
use Rattle.bind.specs.declared.reading.Place.{Place}
use Rattle.bind.specs.declared.reading.Place.TheVariants.{Symbol, DataType}
use Rattle.bind_report.specs.declared.Bound.{Bound}
use Rattle.bind_report.specs.declared.table.Columns.{Columns}
use Rattle.bind_report.specs.Words.{reason_text, refused_part}
use Rattle.bind_report.specs.Table.{columns_of, headings_text, line_text}

-- of all columns but the last
abbrev pub widths : Columns → ℕ → List ℕ
widths c last = c.path ∷ c.group ∷ c.offset ∷ c.size ∷ c.type_name ∷ last ∷ []

abbrev pub heading_cells : List Cell
heading_cells = left (codes "path") ∷ right (codes "group") ∷ right (codes "offset") ∷ right (codes "size") ∷ left (codes "type") ∷ left (codes "entry") ∷ []

-- where a value begins, with its bit where that is told, and how long it is
abbrev pub begins : Address → List ℕ
begins a = if a.size_in_bits || nat_lt 0 a.bit then hexadecimal a.offset.0 ++ (codes "." ++ decimal a.bit) else hexadecimal a.offset.0

abbrev pub long : Address → List ℕ
long a = if a.size_in_bits then (if a.size == 1 then codes "1 bit" else decimal a.size ++ codes " bits") else decimal a.size

abbrev pub entry : Place → List ℕ
entry (Symbol at) = codes "symbols " ++ decimal at
entry (DataType at) = codes "types " ++ decimal at

-- the cells of an address, with the path and the type's name in characters
abbrev pub address_cells : Address → List ℕ → List ℕ → List Cell
address_cells a path type_name =
    left path ∷ right (hexadecimal a.group.0) ∷ right (begins a) ∷ right (long a) ∷ left type_name ∷ left (entry a.place) ∷ []

-- a line in UTF-8 is a row of an address
pub record IsAddressRow (c : Columns) (path : List ℕ) (a : Address) (line : List ℕ) : Type 0 where
  pub path_shown : List ℕ
  pub type_name : List ℕ
  pub row : List ℕ
  pub is_path : IsVisible path_shown (map code_point path)
  pub is_type : IsVisible type_name (map code_point a.type_name.now)
  pub is : line ≡ encode_utf8_all row ++ codes "\n"
  pub cells : IsRow (widths c (length (entry a.place))) (address_cells a path_shown type_name) row

-- behind a colon the part of the path that was refused, in characters, if it has a byte
pub data IsPartTold : Option (Bor (List ℕ)) → List ℕ → Type 0 where
  no_part : IsPartTold None []
  no_byte : (p : Bor (List ℕ)) → p.now ≡ [] → IsPartTold (Some p) []
  told : (p : Bor (List ℕ)) (b : ℕ) (bs text : List ℕ) → p.now ≡ b ∷ bs → IsVisible text (map code_point p.now) → IsPartTold (Some p) (codes ": " ++ text)

-- a line in UTF-8 is that of a path without an address: the path stands in its column, and behind two spaces why
pub record IsRefusedLine (c : Columns) (path : Bor (List ℕ)) (why : Refusal) (line : List ℕ) : Type 0 where
  pub path_shown : List ℕ
  pub column : List ℕ
  pub part : List ℕ
  pub is_path : IsVisible path_shown (map code_point path.now)
  pub in_column : IsColumn c.path (left path_shown) column
  pub is_part : IsPartTold (refused_part path why) part
  pub is : line ≡ encode_utf8_all column ++ (codes "  " ++ (reason_text why ++ (encode_utf8_all part ++ codes "\n")))

-- of strings that are no longer than an upload
pub record AddressTablesMeant : Type 0 where
  pub headings : (bs : List Bound) → IsRow (widths (columns_of bs) 5) heading_cells (headings_text (columns_of bs))
  pub bound : (bs : List Bound) (b : Bound) (a : Address) → Contains bs b → b.answer ≡ Ok a → length b.path.now ≤ limit → length a.type_name.now ≤ limit
      → IsAddressRow (columns_of bs) b.path.now a (line_text (columns_of bs) b)
  pub refused : (bs : List Bound) (b : Bound) (why : Refusal) → Contains bs b → b.answer ≡ Err why → length b.path.now ≤ limit
      → IsRefusedLine (columns_of bs) b.path why (line_text (columns_of bs) b)
