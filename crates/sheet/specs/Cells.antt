-- docs/FORMAT.md, "Sheet": the text of a cell, of a row and of a sheet.
use Rattle.std.specs.Prelude.{ℕ, Bool, true, List, [], ◌∷◌, ◌++◌, eqb, ltb, codes, decimal, if◌then◌else◌}
use Rattle.std.specs.List.{flat_map, list_any}
use Rattle.text.specs.Text.{text_of}

-- what a row tells: numbers, and strings in Windows-1252
pub record Row : Type 0 where
  pub index_group : ℕ
  pub index_offset : ℕ
  pub size : ℕ
  pub data_type_id : ℕ
  pub flags : ℕ
  pub high : ℕ
  pub name : List ℕ
  pub type_name : List ℕ
  pub comment : List ℕ

-- a comma, a quote, CR or LF
abbrev pub is_special : ℕ → Bool
is_special b = if eqb b 44 then true else if eqb b 34 then true else if eqb b 13 then true else eqb b 10

-- a byte as text, a quote doubled
unfoldable pub escaped : ℕ → List ℕ
escaped b = if eqb b 34 then 34 ∷ 34 ∷ [] else text_of b

unfoldable pub escaped_all : List ℕ → List ℕ
escaped_all s = flat_map escaped s

-- between quotes exactly where it holds a special byte
abbrev pub quoted_if : Bool → List ℕ → List ℕ
quoted_if special text = if special then 34 ∷ (text ++ (34 ∷ [])) else text

unfoldable pub cell : List ℕ → List ℕ
cell s = quoted_if (list_any is_special s) (escaped_all s)

-- a number, with the comma behind it
abbrev pub number : ℕ → List ℕ
number n = decimal n ++ (44 ∷ [])

unfoldable pub numbers_text : Row → List ℕ
numbers_text r = number r.index_group ++ (number r.index_offset ++ (number r.size ++ (number r.data_type_id ++ (number r.flags ++ number r.high))))

-- a row ends in CRLF
unfoldable pub strings_text : Row → List ℕ
strings_text r = cell r.name ++ ((44 ∷ []) ++ (cell r.type_name ++ ((44 ∷ []) ++ (cell r.comment ++ (13 ∷ 10 ∷ [])))))

unfoldable pub row_text : Row → List ℕ
row_text r = numbers_text r ++ strings_text r

unfoldable pub header : List ℕ
header = codes "group,offset,size,type id,flags,high,name,type,comment\r\n"

unfoldable pub sheet_text : List Row → List ℕ
sheet_text rows = header ++ flat_map row_text rows
