-- The columns of the table are wide enough for the cells of every line: proved.
use Rattle.std.proofs.Common.{ℕ, ◌≤◌, ◌≡◌, refl, sym, subst, ◌∙◌, List, [], ◌∷◌, ◌-◌, codes, decimal, length, replicate, length-append, arith}
use Rattle.std.proofs.lemmas.List.{length-replicate}
use Rattle.wording.specs.Text.{shown, shown_width}
use Rattle.report.specs.Cells.{at_left, at_right, name_cell, number_cell}
use Rattle.report.proofs.Aligned.{in_characters, on_left}
use Rattle.std.specs.Borrow.{Bor}
use Rattle.std.specs.Prelude.{Option, Some, None, min}
use Rattle.std.proofs.Math.Nat.{le-max_left, le-max_right}
use Rattle.refusal.specs.declared.Mode.{Mode}
use Rattle.pairing.specs.declared.pieces.Shift.{Shift}
use Rattle.pairing.specs.declared.rows.Row.{Row}
use Rattle.comparison.specs.declared.table.Line.{Line}
use Rattle.comparison.specs.declared.table.Told.{Told}
use Rattle.comparison.specs.declared.table.Told.TheVariants as told
use Rattle.comparison.specs.declared.table.Widths.{Widths}
use Rattle.comparison.specs.Entries.{shift_behind, together}
use Rattle.comparison.specs.Table.{fits_on, fitted, lines_of, name_width, named_width, or_headings, place_cell, place_width, told_width, widths_on}
use Rattle.comparison.specs.TableMeant.{AllStand, EntryStands, HeadingsStand, NamedStands, RowsStand, Stands, title_of}

-- the widths of a line's cells are no more than those of the columns
record Fits (w : Widths) (l : Line) : Type 0 where
  a : place_width l.a ≤ w.a
  b : place_width l.b ≤ w.b
  name : named_width l.name l.told ≤ w.name
  part : told_width l.told ≤ w.part

right_fills : (column width : ℕ) (text : List ℕ) → length text ≡ width → width ≤ column → length (at_right column width text) ≡ column
right_fills column width text l h = length-append (replicate (column - width) 32) text ∙ omega (arith, l, length-replicate {A = ℕ} (column - width) 32)

left_fills : (column width : ℕ) (text : List ℕ) → length text ≡ width → width ≤ column → length (at_left column width text) ≡ column
left_fills column width text l h = length-append text (replicate (column - width) 32) ∙ omega (arith, l, length-replicate {A = ℕ} (column - width) 32)

place_fills : (column : ℕ) (place : Option ℕ) → place_width place ≤ column → length (place_cell column place) ≡ column
unfolding number_cell
place_fills column None h = right_fills column 1 (codes "-") refl h
place_fills column (Some n) h = right_fills column (length (decimal n)) (decimal n) refl h

title_fits : (told : Told) (column : ℕ) → told_width told ≤ column → length (title_of told) ≤ column
title_fits (told.Moved s) column h = omega arith
title_fits (told.Differs d) column h = h
title_fits (told.OnlyInA name) column h = h
title_fits (told.OnlyInB name) column h = h

entry_stands : (column : ℕ) (name : Option (Bor (List ℕ))) → min (name_width name) 60 ≤ column → EntryStands column name
unfolding name_cell
entry_stands column None h = left_fills column 9 (codes "(refused)") refl (omega (arith, h))
entry_stands column (Some s) h = λ short.
    let r = in_characters s.now short in record {
      text = r.text;
      visible = r.visible;
      fills = λ few. let c = on_left column (shown_width s.now) (shown s.now) r.text r.is r.wide (omega (arith, few, r.wide, h)) in (c.text, (c.column, c.is));
    }

named_stands : (column : ℕ) (name : Option (Bor (List ℕ))) (told : Told) → named_width name told ≤ column → NamedStands column name told
named_stands column name (told.Moved s) h = tt
named_stands column name (told.Differs d) h = entry_stands column name h
named_stands column name (told.OnlyInA own) h = entry_stands column name h
named_stands column name (told.OnlyInB own) h = entry_stands column name h

stands : (w : Widths) (l : Line) → Fits w l → Stands w l
stands w l f = record {
  a = place_fills w.a l.a f.a;
  b = place_fills w.b l.b f.b;
  name = named_stands w.name l.name l.told f.name;
  part = left_fills w.part (length (title_of l.told)) (title_of l.told) refl (title_fits l.told w.part f.part);
}

record Within (v w : Widths) : Type 0 where
  a : v.a ≤ w.a
  b : v.b ≤ w.b
  name : v.name ≤ w.name
  part : v.part ≤ w.part

itself : (w : Widths) → Within w w
itself w = record { a = omega arith; b = omega arith; name = omega arith; part = omega arith }

on : (u v w : Widths) → Within u v → Within v w → Within u w
on u v w f g = record { a = omega (arith, f.a, g.a); b = omega (arith, f.b, g.b); name = omega (arith, f.name, g.name); part = omega (arith, f.part, g.part) }

grows : (w : Widths) (l : Line) → Within w (fitted w l)
unfolding fitted
grows w l = record {
  a = le-max_left w.a (place_width l.a);
  b = le-max_left w.b (place_width l.b);
  name = le-max_left w.name (named_width l.name l.told);
  part = le-max_left w.part (told_width l.told);
}

fits : (w : Widths) (l : Line) → Fits (fitted w l) l
unfolding fitted
fits w l = record {
  a = le-max_right w.a (place_width l.a);
  b = le-max_right w.b (place_width l.b);
  name = le-max_right w.name (named_width l.name l.told);
  part = le-max_right w.part (told_width l.told);
}

wider : (v w : Widths) (l : Line) → Within v w → Fits v l → Fits w l
wider v w l g f = record { a = omega (arith, f.a, g.a); b = omega (arith, f.b, g.b); name = omega (arith, f.name, g.name); part = omega (arith, f.part, g.part) }

-- from some widths on, or from those of the headings
abbrev From : Option Widths → Widths → Type 0
From o w = Within (or_headings o) w

from_on : (o : Option Widths) (l : Line) (w : Widths) → Within (fitted (or_headings o) l) w → From o w
from_on o l w g = on (or_headings o) (fitted (or_headings o) l) w (grows (or_headings o) l) g

-- where in the end there are widths, those of the lines on the way fit in them
lines_fit : (o : Option Widths) (ls : List Line) (w : Widths) → From (fits_on o ls) w → From o w × AllStand w ls
unfolding fits_on
lines_fit o [] w g = (g, tt)
lines_fit o (l ∷ ls) w g =
    let v : Widths = fitted (or_headings o) l in
    let t = lines_fit (Some v) ls w g in
    (from_on o l w t.0, (stands w l (wider v w l t.0 (fits (or_headings o) l)), t.1))

rows_fit : (mode : Mode) (before : Shift) (o : Option Widths) (rows : List Row) (w : Widths) → From (widths_on mode before o rows) w → From o w × RowsStand w mode before rows
unfolding widths_on
rows_fit mode before o [] w g = (g, tt)
rows_fit mode before o (r ∷ rows) w g =
    let t = rows_fit mode (shift_behind before r) (fits_on o (lines_of mode before r)) rows w g in
    let l = lines_fit o (lines_of mode before r) w t.0 in
    (l.0, (l.1, t.1))

in_the_end : (mode : Mode) (rows : List Row) (w : Widths) → widths_on mode together None rows ≡ Some w → From None w × RowsStand w mode together rows
in_the_end mode rows w h = rows_fit mode together None rows w (subst (λ (o : Option Widths). From o w) (sym h) (itself w))

pub wide_enough : (mode : Mode) (rows : List Row) (w : Widths) → widths_on mode together None rows ≡ Some w → RowsStand w mode together rows
wide_enough mode rows w h = (in_the_end mode rows w h).1

-- no name makes its column wider than 60
named_few : (name : Option (Bor (List ℕ))) (told : Told) → named_width name told ≤ 60
named_few name (told.Moved s) = omega arith
named_few name (told.Differs d) = omega arith
named_few name (told.OnlyInA own) = omega arith
named_few name (told.OnlyInB own) = omega arith

abbrev Narrow : Option Widths → Type 0
Narrow o = (or_headings o).name ≤ 60

line_narrow : (w : Widths) (l : Line) → w.name ≤ 60 → (fitted w l).name ≤ 60
unfolding fitted
line_narrow w l h = omega (arith, h, named_few l.name l.told)

lines_narrow : (o : Option Widths) (ls : List Line) → Narrow o → Narrow (fits_on o ls)
unfolding fits_on
lines_narrow o [] h = h
lines_narrow o (l ∷ ls) h = lines_narrow (Some (fitted (or_headings o) l)) ls (line_narrow (or_headings o) l h)

rows_narrow : (mode : Mode) (before : Shift) (o : Option Widths) (rows : List Row) → Narrow o → Narrow (widths_on mode before o rows)
unfolding widths_on
rows_narrow mode before o [] h = h
rows_narrow mode before o (r ∷ rows) h = rows_narrow mode (shift_behind before r) (fits_on o (lines_of mode before r)) rows (lines_narrow o (lines_of mode before r) h)

pub headings_stand : (mode : Mode) (rows : List Row) (w : Widths) → widths_on mode together None rows ≡ Some w → HeadingsStand w
headings_stand mode rows w h =
    let g = (in_the_end mode rows w h).0 in record {
      a = right_fills w.a 1 (codes "A") refl g.a;
      b = right_fills w.b 1 (codes "B") refl g.b;
      name = left_fills w.name 4 (codes "name") refl g.name;
      part = left_fills w.part 4 (codes "part") refl g.part;
      narrow = subst Narrow h (rows_narrow mode together None rows (omega arith));
    }
