-- docs/FORMAT.md, "The command's text", of `compare`: the lines of the table word for word, and where there is none.
use Rattle.std.specs.Prelude.{ℕ, ◌≡◌, ◌≤◌, true, List, [], ◌∷◌, ◌++◌, codes, encode_utf8_all, length, map, Option, Some, None, Ok, Err}
use Rattle.std.specs.Borrow.{Bor}
use Rattle.std.specs.List.{list_all}
use Rattle.refusal.specs.Refusal.{limit}
use Rattle.refusal.specs.declared.Mode.{Mode}
use Rattle.refusal.specs.declared.Refusal.TheVariants.{EndByte}
use Rattle.text.specs.Text.{code_point}
use Rattle.wording.specs.Meant.{IsVisible}
use Rattle.report.specs.Cells.{at_left, at_right, name_cell}
use Rattle.report.specs.Aligned.{left, IsColumn}
use Rattle.sections.specs.declared.Part.TheVariants.{Size}
use Rattle.values.specs.declared.Value.TheVariants.{Byte, Bytes}
use Rattle.differences.specs.Meant.{AreBytes}
use Rattle.pairing.specs.declared.pieces.Piece.{Piece}
use Rattle.pairing.specs.declared.pieces.Shift.{Shift}
use Rattle.pairing.specs.declared.pieces.Shift.TheVariants.{Later, Earlier}
use Rattle.pairing.specs.declared.rows.Row.{Row}
use Rattle.pairing.specs.Rows.{stays}
use Rattle.comparison.specs.declared.table.Line.{Line}
use Rattle.comparison.specs.declared.table.Told.{Told}
use Rattle.comparison.specs.declared.table.Told.TheVariants as told
use Rattle.comparison.specs.declared.table.Told.TheVariants.{Moved, Differs, OnlyInA, OnlyInB}
use Rattle.comparison.specs.declared.table.Widths.{Widths}
use Rattle.comparison.specs.Entries.{shift_behind, together}
use Rattle.comparison.specs.Json.{title_text}
use Rattle.comparison.specs.Table.{headings_text, line_text, lines_of, place_cell, table_text, widths_on}

-- columns that are all wider than their cells
abbrev pub wide : Widths
wide = record { a = 4; b = 4; name = 11; part = 11 }

abbrev pub title_of : Told → List ℕ
title_of (told.Moved s) = []
title_of (told.Differs d) = title_text d.part
title_of (told.OnlyInA name) = codes "only in A"
title_of (told.OnlyInB name) = codes "only in B"

-- a name that is shown in 60 characters at most fills its column; a longer one moves the rest of its own line alone
pub record NameStands (column : ℕ) (s : List ℕ) : Type 0 where
  pub text : List ℕ
  pub visible : IsVisible text (map code_point s)
  pub fills : length text ≤ 60 → (chars : List ℕ) × (IsColumn column (left text) chars × (name_cell column s ≡ encode_utf8_all chars))

abbrev pub EntryStands : ℕ → Option (Bor (List ℕ)) → Type 0
EntryStands column None = length (at_left column 9 (codes "(refused)")) ≡ column
EntryStands column (Some s) = length s.now ≤ limit → NameStands column s.now

-- where entries moved no name is told
abbrev pub NamedStands : ℕ → Option (Bor (List ℕ)) → Told → Type 0
NamedStands column name (told.Moved s) = Unit {0}
NamedStands column name (told.Differs d) = EntryStands column name
NamedStands column name (told.OnlyInA own) = EntryStands column name
NamedStands column name (told.OnlyInB own) = EntryStands column name

-- the headings fill their columns, and that of the names is no wider than 60 characters
pub record HeadingsStand (w : Widths) : Type 0 where
  pub a : length (at_right w.a 1 (codes "A")) ≡ w.a
  pub b : length (at_right w.b 1 (codes "B")) ≡ w.b
  pub name : length (at_left w.name 4 (codes "name")) ≡ w.name
  pub part : length (at_left w.part 4 (codes "part")) ≡ w.part
  pub narrow : w.name ≤ 60

-- the cells of a line fill their columns: so the columns begin at the same character in every line
pub record Stands (w : Widths) (l : Line) : Type 0 where
  pub a : length (place_cell w.a l.a) ≡ w.a
  pub b : length (place_cell w.b l.b) ≡ w.b
  pub name : NamedStands w.name l.name l.told
  pub part : length (at_left w.part (length (title_of l.told)) (title_of l.told)) ≡ w.part

abbrev pub AllStand : Widths → List Line → Type 0
AllStand w [] = Unit {0}
AllStand w (l ∷ ls) = Stands w l × AllStand w ls

abbrev pub RowsStand : Widths → Mode → Shift → List Row → Type 0
RowsStand w mode before [] = Unit {0}
RowsStand w mode before (r ∷ rows) = AllStand w (lines_of mode before r) × RowsStand w mode (shift_behind before r) rows

-- within the limit
pub record IsHeld (p : Piece) : Type 0 where
  pub within : length p.bytes.now ≤ limit
  pub bytes : AreBytes p.bytes.now

-- what one upload has of an entry, or both
abbrev pub AreHeld : Option Piece → Option Piece → Type 0
AreHeld None None = ⊥
AreHeld None (Some q) = Unit {0}
AreHeld (Some p) None = Unit {0}
AreHeld (Some p) (Some q) = IsHeld p × IsHeld q

abbrev pub RowsHeld : List Row → Type 0
RowsHeld [] = Unit {0}
RowsHeld (r ∷ rows) = AreHeld r.a r.b × RowsHeld rows

-- every number another
pub record TableMeant : Type 0 where
  pub headings : headings_text wide ≡ codes "   A     B  name         part         in A -> in B\n"
  pub differs : line_text wide (record { a = Some 20; b = Some 1455; name = None; told = Differs (record { part = Some Size; in_a = Bytes 8; in_b = Bytes 4 }) })
      ≡ codes "  20  1455  (refused)    size         8 bytes -> 4 bytes\n"
  pub refused : line_text wide (record { a = Some 20; b = Some 1455; name = None; told = Differs (record { part = None; in_a = Byte 65 10; in_b = Byte 67 11 }) })
      ≡ codes "  20  1455  (refused)    refusal      byte 65 of the entry is 0x0A -> byte 67 of the entry is 0x0B\n"
  pub only_in_a : line_text wide (record { a = Some 20; b = None; name = None; told = OnlyInA (Err (EndByte 41 0x58)) })
      ≡ codes "  20     -  (refused)    only in A    refusal 16, end byte: byte 41 of the entry is 0x58 and not 0\n"
  pub only_in_b : (s : Bor (List ℕ)) → line_text wide (record { a = None; b = Some 7; name = Some s; told = OnlyInB (Ok s) })
      ≡ codes "   -     7  " ++ (name_cell 11 s.now ++ codes "  only in B\n")
  pub later : line_text wide (record { a = Some 20; b = Some 27; name = None; told = Moved (Later 7) }) ≡ codes "  20    27  from here on 7 bytes later in B\n"
  pub earlier : line_text wide (record { a = Some 27; b = Some 20; name = None; told = Moved (Earlier 7) }) ≡ codes "  27    20  from here on 7 bytes earlier in B\n"
  pub back : line_text wide (record { a = Some 27; b = Some 27; name = None; told = Moved (Later 0) }) ≡ codes "  27    27  from here on at the same places\n"
  -- there is no table exactly where every entry stays
  pub all_stay : (mode : Mode) (rows : List Row) → RowsHeld rows → table_text mode rows ≡ [] → list_all stays rows ≡ true
  pub nothing : (mode : Mode) (rows : List Row) → list_all stays rows ≡ true → table_text mode rows ≡ []
  -- and in the widths that a table has, its headings stand, and every line of every row
  pub headings_stand : (mode : Mode) (rows : List Row) (w : Widths) → widths_on mode together None rows ≡ Some w → HeadingsStand w
  pub stand : (mode : Mode) (rows : List Row) (w : Widths) → widths_on mode together None rows ≡ Some w → RowsStand w mode together rows
