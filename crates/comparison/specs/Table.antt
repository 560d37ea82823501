-- docs/FORMAT.md, "The command's text", of `compare`: the table, a line for each part that differs, for each entry that one upload has alone, and where entries moved.
use Rattle.std.specs.Prelude.{ℕ, ◌==◌, max, min, List, [], ◌∷◌, ◌++◌, codes, decimal, length, map, if◌then◌else◌, Option, Some, None, Result, Ok, Err}
use Rattle.std.specs.Borrow.{Bor}
use Rattle.std.specs.List.{flat_map}
use Rattle.refusal.specs.declared.Mode.{Mode}
use Rattle.refusal.specs.declared.Refusal.{Refusal}
use Rattle.wording.specs.Text.{shown_width}
use Rattle.wording.specs.Wording.{bytes, refusal_text}
use Rattle.report.specs.Cells.{at_left, at_right, name_cell, number_cell}
use Rattle.values.specs.Shown.{value_text}
use Rattle.differences.specs.declared.Difference.{Difference}
use Rattle.pairing.specs.declared.pieces.Piece.{Piece}
use Rattle.pairing.specs.declared.pieces.Shift.{Shift}
use Rattle.pairing.specs.declared.pieces.Shift.TheVariants as shift
use Rattle.pairing.specs.declared.rows.Row.{Row}
use Rattle.pairing.specs.Rows.{is_alike, name_in}
use Rattle.comparison.specs.declared.moved.Moved.{Moved}
use Rattle.comparison.specs.declared.table.Line.{Line}
use Rattle.comparison.specs.declared.table.Told.{Told}
use Rattle.comparison.specs.declared.table.Told.TheVariants as told
use Rattle.comparison.specs.declared.table.Widths.{Widths}
use Rattle.comparison.specs.Entries.{shift_behind, together, told_of_both}
use Rattle.comparison.specs.Json.{title_text}
use Rattle.comparison.specs.Moved.{moved_in}

abbrev pub place_of : Option Piece → Option ℕ
place_of None = None
place_of (Some p) = Some p.place

abbrev pub line_of : Row → Told → Line
line_of r t = record { a = place_of r.a; b = place_of r.b; name = name_in r.a r.b; told = t }

-- the lines of a row: where its entry moved; and the parts in which it differs, or which upload has it alone
abbrev pub moved_lines : Row → Option Moved → List Line
moved_lines r None = []
moved_lines r (Some m) = line_of r (told.Moved m.shift) ∷ []

abbrev pub differ_lines : Row → List Difference → List Line
differ_lines r ds = map (λ d. line_of r (told.Differs d)) ds

abbrev pub told_lines : Mode → Row → Option Piece → Option Piece → List Line
told_lines mode r None None = []
told_lines mode r None (Some q) = line_of r (told.OnlyInB q.name) ∷ []
told_lines mode r (Some p) None = line_of r (told.OnlyInA p.name) ∷ []
told_lines mode r (Some p) (Some q) = differ_lines r (told_of_both mode p q)

unfoldable pub lines_of : Mode → Shift → Row → List Line
lines_of mode before r = moved_lines r (moved_in before r.a r.b) ++ (if is_alike r.a r.b then [] else told_lines mode r r.a r.b)

-- how wide the cells of a line are; a name above 60 characters moves the rest of its own line alone
abbrev pub place_width : Option ℕ → ℕ
place_width None = 1
place_width (Some n) = length (decimal n)

abbrev pub name_width : Option (Bor (List ℕ)) → ℕ
name_width None = 9
name_width (Some s) = shown_width s.now

abbrev pub named_width : Option (Bor (List ℕ)) → Told → ℕ
named_width name (told.Moved s) = 0
named_width name t = min (name_width name) 60

abbrev pub told_width : Told → ℕ
told_width (told.Moved s) = 0
told_width (told.Differs d) = length (title_text d.part)
told_width (told.OnlyInA name) = 9
told_width (told.OnlyInB name) = 9

-- columns wide enough for their headings, and for one more line
abbrev pub headings : Widths
headings = record { a = 1; b = 1; name = 4; part = 4 }

unfoldable pub fitted : Widths → Line → Widths
fitted w l =
    record {
      a = max w.a (place_width l.a);
      b = max w.b (place_width l.b);
      name = max w.name (named_width l.name l.told);
      part = max w.part (told_width l.told);
    }

abbrev pub or_headings : Option Widths → Widths
or_headings None = headings
or_headings (Some w) = w

unfoldable pub fits_on : Option Widths → List Line → Option Widths
fits_on w [] = w
fits_on w (l ∷ ls) = fits_on (Some (fitted (or_headings w) l)) ls

-- none where there is no line
unfoldable pub widths_on : Mode → Shift → Option Widths → List Row → Option Widths
widths_on mode before w [] = w
widths_on mode before w (r ∷ rows) = widths_on mode (shift_behind before r) (fits_on w (lines_of mode before r)) rows

-- a place at the right of its column, and a name at the left
abbrev pub place_cell : ℕ → Option ℕ → List ℕ
place_cell column None = at_right column 1 (codes "-")
place_cell column (Some n) = number_cell column n

abbrev pub entry_cell : ℕ → Option (Bor (List ℕ)) → List ℕ
entry_cell column None = at_left column 9 (codes "(refused)")
entry_cell column (Some s) = name_cell column s.now

abbrev pub moved_text : Shift → List ℕ
moved_text (shift.Later n) = if n == 0 then codes "from here on at the same places" else codes "from here on " ++ (bytes n ++ codes " later in B")
moved_text (shift.Earlier n) = codes "from here on " ++ (bytes n ++ codes " earlier in B")

abbrev pub change_text : Difference → List ℕ
change_text d = value_text d.in_a ++ (codes " -> " ++ value_text d.in_b)

-- which upload has an entry alone, and why it has no name
abbrev pub alone_text : ℕ → List ℕ → Result (Bor (List ℕ)) Refusal → List ℕ
alone_text column word (Ok name) = word
alone_text column word (Err why) = at_left column (length word) word ++ (codes "  " ++ refusal_text why)

abbrev pub changed_text : Widths → Option (Bor (List ℕ)) → Difference → List ℕ
changed_text w name d =
    entry_cell w.name name ++ (codes "  " ++ (at_left w.part (length (title_text d.part)) (title_text d.part) ++ (codes "  " ++ (change_text d ++ codes "\n"))))

abbrev pub told_text : Widths → Option (Bor (List ℕ)) → Told → List ℕ
told_text w name (told.Moved s) = moved_text s ++ codes "\n"
told_text w name (told.Differs d) = changed_text w name d
told_text w name (told.OnlyInA own) = entry_cell w.name name ++ (codes "  " ++ (alone_text w.part (codes "only in A") own ++ codes "\n"))
told_text w name (told.OnlyInB own) = entry_cell w.name name ++ (codes "  " ++ (alone_text w.part (codes "only in B") own ++ codes "\n"))

abbrev pub places_text : Widths → Line → List ℕ
places_text w l = place_cell w.a l.a ++ (codes "  " ++ (place_cell w.b l.b ++ codes "  "))

unfoldable pub line_text : Widths → Line → List ℕ
line_text w l = places_text w l ++ told_text w l.name l.told

unfoldable pub headings_text : Widths → List ℕ
headings_text w =
    at_right w.a 1 (codes "A") ++ (codes "  " ++ (at_right w.b 1 (codes "B") ++ (codes "  " ++ (at_left w.name 4 (codes "name") ++ (codes "  "
    ++ (at_left w.part 4 (codes "part") ++ codes "  in A -> in B\n"))))))

unfoldable pub table_lines : Widths → Mode → Shift → List Row → List ℕ
table_lines w mode before [] = []
table_lines w mode before (r ∷ rows) = flat_map (line_text w) (lines_of mode before r) ++ table_lines w mode (shift_behind before r) rows

abbrev pub table_by : Option Widths → Mode → List Row → List ℕ
table_by None mode rows = []
table_by (Some w) mode rows = headings_text w ++ table_lines w mode together rows

unfoldable pub table_text : Mode → List Row → List ℕ
table_text mode rows = table_by (widths_on mode together None rows) mode rows
