-- There is no table exactly where every entry stays: proved.
use Rattle.std.proofs.Common.{ℕ, ◌≡◌, refl, sym, ap, ap₂, ◌∙◌, Bool, true, false, List, [], ◌∷◌, ◌++◌, codes, Bor}
use Rattle.std.specs.Prelude.{Option, Some, None, Result, Ok, Err, ◌&&◌, nat_eq, if◌then◌else◌}
use Rattle.std.specs.Cmp.Lexicographic.{pointwise}
use Rattle.std.specs.List.{list_all}
use Rattle.refusal.specs.declared.Mode.{Mode}
use Rattle.refusal.specs.declared.Refusal.{Refusal}
use Rattle.symbol.specs.Symbol.{symbol_of}
use Rattle.symbol.specs.declared.AdsSymbolInfo.{AdsSymbolInfo}
use Rattle.report.specs.Cells.{at_left, at_right}
use Rattle.values.proofs.Same.{alike_bytes}
use Rattle.differences.specs.declared.Difference.{Difference}
use Rattle.differences.specs.Differences.{differences_by}
use Rattle.differences.proofs.Meant.{differences_meant}
use Rattle.pairing.specs.declared.pieces.Piece.{Piece}
use Rattle.pairing.specs.declared.pieces.Shift.{Shift}
use Rattle.pairing.specs.declared.pieces.Shift.TheVariants.{Later}
use Rattle.pairing.specs.declared.rows.Row.{Row}
use Rattle.pairing.specs.Pieces.{shift}
use Rattle.pairing.specs.Rows.{is_alike, is_same_shift, is_unmoved, shift_in, stays}
use Rattle.comparison.specs.declared.moved.Moved.{Moved}
use Rattle.comparison.specs.declared.table.Line.{Line}
use Rattle.comparison.specs.declared.table.Widths.{Widths}
use Rattle.comparison.specs.Entries.{answer_of, shift_behind, shift_else, told_of_both}
use Rattle.comparison.specs.Moved.{moved_in}
use Rattle.comparison.specs.Table.{differ_lines, fits_on, fitted, headings_text, lines_of, moved_lines, or_headings, table_by, table_lines, table_text, told_lines, widths_on}
use Rattle.comparison.specs.TableMeant.{IsHeld, AreHeld, RowsHeld}
use Rattle.comparison.proofs.Silent.{both, no, none_of, same_shift}

-- a row that stays has no line
lines_by : (mode : Mode) (r : Row) (a b : Option Piece) → (is_unmoved (shift_in a b) && is_alike a b) ≡ true
    → (moved_lines r (moved_in (Later 0) a b) ++ (if is_alike a b then [] else told_lines mode r r.a r.b) ≡ []) × (shift_else (Later 0) (shift_in a b) ≡ Later 0)
lines_by mode r None b h = absurd (no h)
lines_by mode r (Some p) None h = absurd (no h)
lines_by mode r (Some p) (Some q) h =
    let s : Shift = shift p.place q.place in
    let t = both (is_same_shift s (Later 0)) (pointwise nat_eq p.bytes.now q.bytes.now) h in
    let moved : Moved = record { place_in_a = p.place; place_in_b = q.place; shift = s } in (
      ap₂ (λ (x y : Bool). moved_lines r (if◌then◌else◌ {A = Option Moved} x None (Some moved)) ++ (if y then [] else told_lines mode r r.a r.b)) t.0 t.1,
      same_shift s (Later 0) t.0,
    )

no_more : (w : Option Widths) → fits_on w [] ≡ w
unfolding fits_on
no_more w = refl

no_widths : (mode : Mode) (w : Option Widths) (rows : List Row) → list_all stays rows ≡ true → widths_on mode (Later 0) w rows ≡ w
unfolding widths_on lines_of
no_widths mode w [] h = refl
no_widths mode w (r ∷ rows) h =
    let t = both (stays r) (list_all stays rows) h in
    let s = lines_by mode r r.a r.b t.0 in
    ap₂ (λ (ls : List Line) (k : Shift). widths_on mode k (fits_on w ls) rows) s.0 s.1 ∙ ap (λ (v : Option Widths). widths_on mode (Later 0) v rows) (no_more w) ∙ no_widths mode w rows t.1

pub nothing : (mode : Mode) (rows : List Row) → list_all stays rows ≡ true → table_text mode rows ≡ []
unfolding table_text
nothing mode rows h = ap (λ (w : Option Widths). table_by w mode rows) (no_widths mode None rows h)

-- columns that are there stay there
some_widths : (w : Widths) → Some w ≡ None → ⊥
some_widths w h = cc

fits_kept : (w : Option Widths) (ls : List Line) → fits_on w ls ≡ None → w ≡ None
unfolding fits_on
fits_kept w [] h = h
fits_kept w (l ∷ ls) h = absurd (some_widths (fitted (or_headings w) l) (fits_kept (Some (fitted (or_headings w) l)) ls h))

no_line : (w : Option Widths) (ls : List Line) → fits_on w ls ≡ None → ls ≡ []
unfolding fits_on
no_line w [] h = refl
no_line w (l ∷ ls) h = absurd (some_widths (fitted (or_headings w) l) (fits_kept (Some (fitted (or_headings w) l)) ls h))

widths_kept : (mode : Mode) (before : Shift) (w : Option Widths) (rows : List Row) → widths_on mode before w rows ≡ None → w ≡ None
unfolding widths_on
widths_kept mode before w [] h = h
widths_kept mode before w (r ∷ rows) h =
    fits_kept w (lines_of mode before r) (widths_kept mode (shift_behind before r) (fits_on w (lines_of mode before r)) rows h)

-- of two whose bytes differ something is told
full : (d : Difference) (ds : List Difference) → d ∷ ds ≡ [] → ⊥
full d ds h = cc

refused_in_b : (e f : Bor (List ℕ)) (answer : Result AdsSymbolInfo Refusal) (why : Refusal) → differences_by e answer f (Err why) ≡ [] → ⊥
refused_in_b e f (Ok r) why h = cc
refused_in_b e f (Err other) why h = cc

one_told : (mode : Mode) (p q : Piece) → IsHeld p → IsHeld q → (m n : Result (Bor (List ℕ)) Refusal)
    → differences_by p.bytes (answer_of mode p.bytes m) q.bytes (answer_of mode q.bytes n) ≡ [] → p.bytes.now ≡ q.bytes.now
one_told mode p q i j (Ok m) (Ok n) h =
    (differences_meant.nothing mode (record { bytes = p.bytes; answer = symbol_of mode p.bytes }) (record { bytes = q.bytes; answer = symbol_of mode q.bytes })
    (record { symbol = λ r e. e; within = i.within }) (record { symbol = λ r e. e; within = j.within }) i.bytes j.bytes h).1
one_told mode p q i j (Ok m) (Err why) h = absurd (refused_in_b p.bytes q.bytes (symbol_of mode p.bytes) why h)
one_told mode p q i j (Err why) n h = absurd (cc_of h)
  where
    cc_of : differences_by p.bytes (Err why) q.bytes (answer_of mode q.bytes n) ≡ [] → ⊥
    cc_of h = cc

no_differ : (r : Row) (ds : List Difference) → differ_lines r ds ≡ [] → ds ≡ []
no_differ r [] h = refl
no_differ r (d ∷ ds) h = cc

no_lines : (l : Line) (ls : List Line) → l ∷ ls ≡ [] → ⊥
no_lines l ls h = cc

lines_stay : (mode : Mode) (r : Row) (a b : Option Piece) → AreHeld a b
    → moved_lines r (moved_in (Later 0) a b) ++ (if is_alike a b then [] else told_lines mode r a b) ≡ [] → (is_unmoved (shift_in a b) && is_alike a b) ≡ true
lines_stay mode r None None held h = absurd held
lines_stay mode r None (Some q) held h = cc
lines_stay mode r (Some p) None held h = cc
lines_stay mode r (Some p) (Some q) held h = by (is_same_shift (shift p.place q.place) (Later 0)) (pointwise nat_eq p.bytes.now q.bytes.now) refl h
  where
    by : (x y : Bool) → pointwise nat_eq p.bytes.now q.bytes.now ≡ y
        → moved_lines r (if◌then◌else◌ {A = Option Moved} x None (Some (record { place_in_a = p.place; place_in_b = q.place; shift = shift p.place q.place }))) ++ (if y then [] else differ_lines r (told_of_both mode p q)) ≡ []
        → (x && y) ≡ true
    by true true e h = refl
    by true false e h =
        absurd (no (sym e ∙ alike_bytes p.bytes.now q.bytes.now (one_told mode p q held.0 held.1 p.name q.name (no_differ r (told_of_both mode p q) h))))
    by false y e h = cc

rows_stay : (mode : Mode) (rows : List Row) → RowsHeld rows → widths_on mode (Later 0) None rows ≡ None → list_all stays rows ≡ true
unfolding widths_on lines_of
rows_stay mode [] held h = refl
rows_stay mode (r ∷ rows) held h =
    let w : Option Widths = fits_on None (lines_of mode (Later 0) r) in
    let n : w ≡ None = widths_kept mode (shift_behind (Later 0) r) w rows h in
    let own : stays r ≡ true = lines_stay mode r r.a r.b held.0 (no_line None (lines_of mode (Later 0) r) n) in
    let s = (lines_by mode r r.a r.b own).1 in
    ap₂ (λ (x y : Bool). x && y) own
    (rows_stay mode rows held.1 (sym (ap₂ (λ (k : Shift) (v : Option Widths). widths_on mode k v rows) s n) ∙ h))

headed : (w : Widths) (lines : List ℕ) → headings_text w ++ lines ≡ [] → ⊥
unfolding headings_text
headed w lines h = absurd (filled (none_of (headings_text w) lines h).0)
  where
    filled : headings_text w ≡ [] → ⊥
    filled e = spaces (none_of (at_right w.a 1 (codes "A")) (codes "  " ++ (at_right w.b 1 (codes "B") ++ (codes "  " ++ (at_left w.name 4 (codes "name") ++ (codes "  "
        ++ (at_left w.part 4 (codes "part") ++ codes "  in A -> in B\n")))))) e).1
      where
        spaces : {xs : List ℕ} → 32 ∷ xs ≡ [] → ⊥
        spaces h = cc

pub all_stay : (mode : Mode) (rows : List Row) → RowsHeld rows → table_text mode rows ≡ [] → list_all stays rows ≡ true
unfolding table_text
all_stay mode rows held h = by (widths_on mode (Later 0) None rows) refl h
  where
    by : (w : Option Widths) → widths_on mode (Later 0) None rows ≡ w → table_by w mode rows ≡ [] → list_all stays rows ≡ true
    by None e h = rows_stay mode rows held e
    by (Some w) e h = absurd (headed w (table_lines w mode (Later 0) rows) h)
