-- docs/FORMAT.md, "The command's text": the table of data types, a row for each of them and of their members.
use Rattle.std.specs.Prelude.{ℕ, zero, suc, ◌-◌, nat_lt, max, not, List, [], ◌∷◌, ◌++◌, length, codes, decimal, replicate, if◌then◌else◌}
use Rattle.std.specs.List.{flat_map}
use Rattle.part.specs.Outcome.{outcome}
use Rattle.refusal.specs.Refusal.{deepest}
use Rattle.refusal.specs.declared.Mode.{Mode}
use Rattle.walk.specs.declared.Piece.{Piece}
use Rattle.walk.specs.Pieces.{pieces}
use Rattle.attribute.specs.Attribute as attribute
use Rattle.attribute.specs.declared.AdsAttribute.{AdsAttribute}
use Rattle.data_type.specs.Array as array
use Rattle.data_type.specs.declared.AdsDataTypeInfo.{AdsDataTypeInfo}
use Rattle.data_type.specs.DataType.{type_of}
use Rattle.wording.specs.Text.{shown_width}
use Rattle.report.specs.declared.Upload.{Upload}
use Rattle.report.specs.Report.{plus, upload_text}
use Rattle.report.specs.Cells.{at_left, at_right, number_cell, name_cell, refused_row}
use Rattle.type_tree.specs.declared.node.Node.{Node}
use Rattle.type_table.specs.declared.table.Columns.{Columns}
use Rattle.type_table.specs.Cells.{is_none, array_cells, arrays_width, attribute_cell}
use Rattle.type_tree.specs.Joined.{joined}
use Rattle.type_tree.specs.Marks.{marks_text}
use Rattle.type_tree.specs.Node.{root, members_of}

-- the widths of the headings
abbrev pub headings : Columns
headings = record { place = 5; name = 4; type_name = 4; offset = 6; from_start = 10; size = 4; marks = 4; arrays = 5 }

-- those of the cells of a row
unfoldable pub widths_of : ℕ → Node → Columns
widths_of indent n =
    record {
      place = length (decimal n.place);
      name = plus indent (shown_width n.info.field.name.now);
      type_name = shown_width n.info.field.type_name.now;
      offset = length (decimal n.info.field.offset);
      from_start = length (decimal n.offset_from_start);
      size = length (decimal n.info.field.size);
      marks = length (marks_text (codes ", ") [] n.marks);
      arrays = arrays_width (array.left n.info.arrays);
    }

unfoldable pub widest : Columns → Columns → Columns
widest a b =
    record {
      place = max a.place b.place;
      name = max a.name b.name;
      type_name = max a.type_name b.type_name;
      offset = max a.offset b.offset;
      from_start = max a.from_start b.from_start;
      size = max a.size b.size;
      marks = max a.marks b.marks;
      arrays = max a.arrays b.arrays;
    }

-- wide enough for some rows
unfoldable pub fitted_on : Columns → List (ℕ × Node) → Columns
fitted_on c [] = c
fitted_on c (r ∷ rs) = fitted_on (widest c (widths_of r.0 r.1)) rs

-- a data type and its members below it, each before its own members, so many levels in all; with by how many characters a name stands
-- to the right, two more at each level
unfoldable pub rows_of : Mode → ℕ → ℕ → Node → List (ℕ × Node)
rows_of mode zero indent n = []
rows_of mode (suc levels) indent n = (indent, n) ∷ flat_map (rows_of mode levels (plus indent 2)) (members_of mode n)

-- the rows of a data type at a place
abbrev pub rows_at : Mode → Node → List (ℕ × Node)
rows_at mode n = rows_of mode deepest 0 n

-- wide enough for one more entry: of a refused one the place stands in a column
unfoldable pub fitted : Mode → Columns → Piece AdsDataTypeInfo → Columns
fitted mode c p = outcome p.answer (λ info. fitted_on c (rows_at mode (root p.start info))) (λ why. record c { place = max c.place (length (decimal p.start)) })

unfoldable pub fitted_all : Mode → Columns → List (Piece AdsDataTypeInfo) → Columns
fitted_all mode c [] = c
fitted_all mode c (p ∷ ps) = fitted_all mode (fitted mode c p) ps

abbrev pub columns_of : Mode → List (Piece AdsDataTypeInfo) → Columns
columns_of mode ps = fitted_all mode headings ps

unfoldable pub headings_text : Columns → List ℕ
headings_text c =
    at_right c.place 5 (codes "place") ++ (codes "  " ++ (at_left c.name 4 (codes "name") ++ (codes "  " ++ (at_left c.type_name 4 (codes "type")
    ++ (codes "  " ++ (at_right c.offset 6 (codes "offset") ++ (codes "  " ++ (at_right c.from_start 10 (codes "from start") ++ (codes "  " ++ (at_right c.size 4 (codes "size")
    ++ (codes "  " ++ (at_left c.marks 4 (codes "mark") ++ (codes "  " ++ (at_left c.arrays 5 (codes "array") ++ codes "  attributes"))))))))))))))

-- a name stands to the right of that of what it is a member of
unfoldable pub names_text : Columns → ℕ → Node → List ℕ
names_text c indent n =
    number_cell c.place n.place ++ (codes "  " ++ (replicate indent 32 ++ (name_cell (c.name - indent) n.info.field.name.now ++ (codes "  " ++ name_cell c.type_name n.info.field.type_name.now))))

unfoldable pub numbers_text : Columns → Node → List ℕ
numbers_text c n =
    number_cell c.offset n.info.field.offset ++ (codes "  " ++ (number_cell c.from_start n.offset_from_start ++ (codes "  " ++ number_cell c.size n.info.field.size)))

-- the cells of text: what is empty at the end of a row is left out
unfoldable pub tail_text : Columns → Node → List ℕ
tail_text c n =
    let marks : List ℕ = marks_text (codes ", ") [] n.marks in
    let arrays : List ℕ = array_cells (array.left n.info.arrays) in
    let wide : ℕ = arrays_width (array.left n.info.arrays) in
    let attributes : List AdsAttribute = attribute.left n.info.field.attributes in
    if not (is_none attributes)
    then codes "  " ++ (marks ++ (replicate (c.marks - length marks) 32 ++ (codes "  " ++ (arrays ++ (replicate (c.arrays - wide) 32 ++ (codes "  " ++ joined (codes "; ") attribute_cell attributes))))))
    else if nat_lt 0 wide then codes "  " ++ (marks ++ (replicate (c.marks - length marks) 32 ++ (codes "  " ++ arrays)))
    else if nat_lt 0 (length marks) then codes "  " ++ marks
    else []

unfoldable pub row_text : Columns → ℕ → Node → List ℕ
row_text c indent n = names_text c indent n ++ (codes "  " ++ (numbers_text c n ++ tail_text c n))

unfoldable pub row_line : Columns → ℕ × Node → List ℕ
row_line c r = row_text c r.0 r.1 ++ codes "\n"

-- the rows of an entry, or why it was refused
unfoldable pub piece_lines : Mode → Columns → Piece AdsDataTypeInfo → List ℕ
piece_lines mode c p = outcome p.answer (λ info. flat_map (row_line c) (rows_at mode (root p.start info))) (λ why. refused_row c.place p.start why ++ codes "\n")

-- what the upload is, and the headings
unfoldable pub head_text : Upload → Columns → List ℕ
head_text u c = upload_text u ++ (codes "\n" ++ (headings_text c ++ codes "\n"))

-- the table of one data type, and of all entries
unfoldable pub type_table : Upload → Node → List ℕ
type_table u n = let c : Columns = fitted_on headings (rows_at u.mode n) in head_text u c ++ flat_map (row_line c) (rows_at u.mode n)

unfoldable pub table_text : Upload → List ℕ
table_text u =
    let ps : List (Piece AdsDataTypeInfo) = pieces (type_of u.mode) u.bytes in
    let c : Columns = columns_of u.mode ps in
    head_text u c ++ flat_map (piece_lines u.mode c) ps
