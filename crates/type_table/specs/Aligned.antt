-- docs/FORMAT.md, "The command's text": where the cells of the table of data types stand, by the characters of its rows.
use Rattle.std.specs.Prelude.{ℕ, ◌≤◌, ◌≡◌, List, [], ◌∷◌, ◌++◌, codes, decimal, encode_utf8_all, length, map, replicate, Contains, Ok, Err}
use Rattle.refusal.specs.Refusal.{limit}
use Rattle.refusal.specs.declared.Mode.{Mode}
use Rattle.refusal.specs.declared.Refusal.{Refusal}
use Rattle.walk.specs.declared.Piece.{Piece}
use Rattle.text.specs.Text.{code_point}
use Rattle.attribute.specs.Attribute as attribute
use Rattle.data_type.specs.Array as array
use Rattle.data_type.specs.declared.AdsDataTypeInfo.{AdsDataTypeInfo}
use Rattle.wording.specs.Meant.{IsVisible}
use Rattle.wording.specs.Wording.{refusal_text}
use Rattle.report.specs.Aligned.{Cell, left, right, IsColumn, IsRow}
use Rattle.type_tree.specs.declared.node.Node.{Node}
use Rattle.type_table.specs.declared.table.Columns.{Columns}
use Rattle.type_table.specs.Cells.{array_cells, attribute_cell}
use Rattle.type_tree.specs.Joined.{joined}
use Rattle.type_tree.specs.Marks.{marks_text}
use Rattle.type_tree.specs.Node.{root}
use Rattle.type_table.specs.Table.{columns_of, headings_text, row_line, rows_at, piece_lines}

-- strings and counts that are no more than the bytes of an upload
pub record IsSmall (indent : ℕ) (n : Node) : Type 0 where
  pub place : indent ≤ limit
  pub name : length n.info.field.name.now ≤ limit
  pub type_name : length n.info.field.type_name.now ≤ limit
  pub arrays : length (array.left n.info.arrays) ≤ limit

-- of all columns but the last
abbrev pub widths : Columns → ℕ → List ℕ
widths c last = c.place ∷ c.name ∷ c.type_name ∷ c.offset ∷ c.from_start ∷ c.size ∷ c.marks ∷ c.arrays ∷ last ∷ []

abbrev pub heading_cells : List Cell
heading_cells =
    right (codes "place") ∷ left (codes "name") ∷ left (codes "type") ∷ right (codes "offset") ∷ right (codes "from start") ∷ right (codes "size")
    ∷ left (codes "mark") ∷ left (codes "array") ∷ left (codes "attributes") ∷ []

-- the cells of a data type or of a member, whose name stands so many characters to the right; strings and attributes in characters
abbrev pub node_cells : ℕ → Node → List ℕ → List ℕ → List ℕ → List Cell
node_cells indent n name type_name attributes =
    right (decimal n.place) ∷ left (replicate indent 32 ++ name) ∷ left type_name ∷ right (decimal n.info.field.offset) ∷ right (decimal n.offset_from_start)
    ∷ right (decimal n.info.field.size) ∷ left (marks_text (codes ", ") [] n.marks) ∷ left (array_cells (array.left n.info.arrays)) ∷ left attributes ∷ []

-- a line in UTF-8 is a row of such cells, but for so many spaces that are left out at its end
pub record IsNodeRow (c : Columns) (indent : ℕ) (n : Node) (line : List ℕ) : Type 0 where
  pub name : List ℕ
  pub type_name : List ℕ
  pub attributes : List ℕ
  pub row : List ℕ
  pub left_out : ℕ
  pub is_name : IsVisible name (map code_point n.info.field.name.now)
  pub is_type : IsVisible type_name (map code_point n.info.field.type_name.now)
  pub are_attributes : joined (codes "; ") attribute_cell (attribute.left n.info.field.attributes) ≡ encode_utf8_all attributes
  pub is : line ≡ encode_utf8_all row ++ codes "\n"
  pub cells : IsRow (widths c (length attributes)) (node_cells indent n name type_name attributes) (row ++ replicate left_out 32)

pub record TypeTablesMeant : Type 0 where
  pub headings : (mode : Mode) (ps : List (Piece AdsDataTypeInfo)) → IsRow (widths (columns_of mode ps) 10) heading_cells (headings_text (columns_of mode ps))
  pub rows : (mode : Mode) (ps : List (Piece AdsDataTypeInfo)) (p : Piece AdsDataTypeInfo) (info : AdsDataTypeInfo) (r : ℕ × Node)
      → Contains ps p → p.answer ≡ Ok info → Contains (rows_at mode (root p.start info)) r → IsSmall r.0 r.1 → IsNodeRow (columns_of mode ps) r.0 r.1 (row_line (columns_of mode ps) r)
  -- of a refused entry the place stands in its column, and behind two spaces the refusal in words
  pub refused : (mode : Mode) (ps : List (Piece AdsDataTypeInfo)) (p : Piece AdsDataTypeInfo) (why : Refusal) → Contains ps p → p.answer ≡ Err why
      → (place : List ℕ) × IsColumn (columns_of mode ps).place (right (decimal p.start)) place × (piece_lines mode (columns_of mode ps) p ≡ place ++ (codes "  " ++ (refusal_text why ++ codes "\n")))
