-- docs/FORMAT.md, "The command's text": the table of addresses, a line a path.
use Rattle.std.specs.Prelude.{ℕ, ◌==◌, ◌||◌, max, nat_lt, Bool, List, [], ◌∷◌, ◌++◌, codes, decimal, length, Option, Some, None, Result, Ok, Err, if◌then◌else◌}
use Rattle.std.specs.List.{flat_map}
use Rattle.std.specs.Borrow.{Bor}
use Rattle.refusal.specs.declared.Refusal.{Refusal}
use Rattle.wording.specs.Text.{shown, shown_width}
use Rattle.report.specs.Cells.{at_left, at_right, hexadecimal, hexadecimal_cell, name_cell}
use Rattle.bind.specs.declared.Address.{Address}
use Rattle.bind.specs.declared.reading.Place.{Place}
use Rattle.bind_report.specs.declared.Bound.{Bound}
use Rattle.bind_report.specs.declared.table.Columns.{Columns}
use Rattle.bind_report.specs.Words.{reason_text, refused_part}
use Rattle.bind_report.specs.Json.{upload_word, place_there}

-- a bit is told behind the offset where the size is in bits, or where it is not the first
abbrev pub tells_bit : Address → Bool
tells_bit a = a.size_in_bits || nat_lt 0 a.bit

abbrev pub bit_text : Address → List ℕ
bit_text a = if tells_bit a then codes "." ++ decimal a.bit else []

abbrev pub unit_text : Address → List ℕ
unit_text a = if a.size_in_bits then (if a.size == 1 then codes " bit" else codes " bits") else []

unfoldable pub offset_text : Address → List ℕ
offset_text a = hexadecimal a.offset.0 ++ bit_text a

unfoldable pub size_text : Address → List ℕ
size_text a = decimal a.size ++ unit_text a

unfoldable pub entry_text : Place → List ℕ
entry_text p = upload_word p ++ (codes " " ++ decimal (place_there p))

-- the widths of the headings
abbrev pub headings : Columns
headings = record { path = 4; group = 5; offset = 6; size = 4; type_name = 4 }

-- those of the cells of an address
unfoldable pub widths_of : Bor (List ℕ) → Address → Columns
widths_of path a =
    record {
      path = shown_width path.now;
      group = length (hexadecimal a.group.0);
      offset = length (offset_text a);
      size = length (size_text a);
      type_name = shown_width a.type_name.now;
    }

unfoldable pub widest : Columns → Columns → Columns
widest a b =
    record {
      path = max a.path b.path;
      group = max a.group b.group;
      offset = max a.offset b.offset;
      size = max a.size b.size;
      type_name = max a.type_name b.type_name;
    }

-- wide enough for one more path: of a refused one the path stands in a column
abbrev pub fitted_by : Columns → Bor (List ℕ) → Result Address Refusal → Columns
fitted_by c path (Ok a) = widest c (widths_of path a)
fitted_by c path (Err why) = record c { path = max c.path (shown_width path.now) }

unfoldable pub fitted : Columns → Bound → Columns
fitted c b = fitted_by c b.path b.answer

unfoldable pub fitted_on : Columns → List Bound → Columns
fitted_on c [] = c
fitted_on c (b ∷ bs) = fitted_on (fitted c b) bs

abbrev pub columns_of : List Bound → Columns
columns_of bs = fitted_on headings bs

unfoldable pub headings_text : Columns → List ℕ
headings_text c =
    at_left c.path 4 (codes "path") ++ (codes "  " ++ (at_right c.group 5 (codes "group") ++ (codes "  " ++ (at_right c.offset 6 (codes "offset")
    ++ (codes "  " ++ (at_right c.size 4 (codes "size") ++ (codes "  " ++ (at_left c.type_name 4 (codes "type") ++ (codes "  " ++ codes "entry")))))))))

-- the cells of an address: its numbers, and its type and its entry
unfoldable pub offset_cell : ℕ → Address → List ℕ
offset_cell column a = at_right column (length (offset_text a)) (offset_text a)

unfoldable pub size_cell : ℕ → Address → List ℕ
size_cell column a = at_right column (length (size_text a)) (size_text a)

unfoldable pub numbers_text : Columns → Address → List ℕ
numbers_text c a = hexadecimal_cell c.group a.group.0 ++ (codes "  " ++ (offset_cell c.offset a ++ (codes "  " ++ size_cell c.size a)))

unfoldable pub address_text : Columns → Address → List ℕ
address_text c a = numbers_text c a ++ (codes "  " ++ (name_cell c.type_name a.type_name.now ++ (codes "  " ++ entry_text a.place)))

-- why there is no address, and the part of the path, if it has a byte
abbrev pub part_text : Option (Bor (List ℕ)) → List ℕ
part_text None = []
part_text (Some part) = if length part.now == 0 then [] else codes ": " ++ shown part.now

unfoldable pub refused_text : Bor (List ℕ) → Refusal → List ℕ
refused_text path why = reason_text why ++ part_text (refused_part path why)

abbrev pub answer_by : Columns → Bor (List ℕ) → Result Address Refusal → List ℕ
answer_by c path (Ok a) = address_text c a
answer_by c path (Err why) = refused_text path why

unfoldable pub line_text : Columns → Bound → List ℕ
line_text c b = name_cell c.path b.path.now ++ (codes "  " ++ (answer_by c b.path b.answer ++ codes "\n"))

-- of several paths, in their order, below the headings
abbrev pub table_text : List Bound → List ℕ
table_text bs = (headings_text (columns_of bs) ++ codes "\n") ++ flat_map (line_text (columns_of bs)) bs
