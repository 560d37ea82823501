-- What is written of the rows, a row at a time.
use Rattle.std.proofs.Common.{◌≡◌, ℕ, List, [], ◌∷◌, ◌++◌, refl, sym, ap, ◌∙◌, append_assoc, append-nil, subst, Bool, false, ◌+◌, ◌<◌, ◌≤◌, length, get_or, drop, drop-cons, add-one}
use Rattle.std.proofs.lemmas.List.{drop_all}
use Rattle.std.specs.declared.option.Option.{Option}
use Rattle.std.specs.List.{flat_map}
use Rattle.std.specs.Prelude.{Some}
use Rattle.std.specs.Io.KnownBytes.{Appends}
use Rattle.std.proofs.KnownBytes.{Appends-trans}
use Rattle.refusal.specs.declared.Mode.{Mode}
use Rattle.pairing.specs.declared.pieces.Shift.{Shift}
use Rattle.pairing.specs.declared.rows.Row.{Row}
use Rattle.report.proofs.Going.{Going}
use Rattle.differences.specs.declared.Difference.{Difference}
use Rattle.comparison.specs.declared.table.Line.{Line}
use Rattle.comparison.specs.declared.table.Told.TheVariants as told
use Rattle.comparison.specs.declared.table.Widths.{Widths}
use Rattle.comparison.specs.Entries.{shift_behind}
use Rattle.comparison.specs.Table.{differ_lines, fits_on, fitted, line_of, line_text, lines_of, or_headings, table_lines, widths_on}
use Rattle.comparison.specs.Json.{comma, difference_json, json_lines, parts_json, row_lines}

-- of what is left the front is written
pub goes_on : {a b c : Option (List ℕ)} {rest left all : List ℕ} (said : List ℕ) → Going a b rest all → rest ≡ said ++ left → Appends b c said → Going a c left all
goes_on {a} {b} {c} {rest} {left} {all} said g e w = record {
  said = g.said ++ said;
  written = Appends-trans a b c g.said said g.written w;
  adds = append_assoc g.said said left ∙ ap (λ (l : List ℕ). g.said ++ l) (sym e) ∙ g.adds;
}

pub is_done : {a b : Option (List ℕ)} {rest all : List ℕ} → Going a b rest all → rest ≡ [] → Appends a b all
is_done {a} {b} g e = subst (Appends a b) (sym (append-nil g.said) ∙ ap (λ (l : List ℕ). g.said ++ l) (sym e) ∙ g.adds) g.written

pub row_more : (mode : Mode) (before : Shift) (rows rest : List Row) (r : Row) → rows ≡ r ∷ rest → json_lines mode before rows ≡ row_lines mode before r ++ json_lines mode (shift_behind before r) rest
unfolding json_lines
row_more mode before rows rest r h = ap (json_lines mode before) h

pub no_row : (mode : Mode) (before : Shift) (rows : List Row) → rows ≡ [] → json_lines mode before rows ≡ []
unfolding json_lines
no_row mode before rows h = ap (json_lines mode before) h

pub part_more : (is_first : Bool) (all rest : List Difference) (d : Difference) → all ≡ d ∷ rest → parts_json is_first all ≡ (comma is_first ++ difference_json d) ++ parts_json false rest
unfolding parts_json
part_more is_first all rest d h = ap (parts_json is_first) h ∙ sym (append_assoc (comma is_first) (difference_json d) (parts_json false rest))

pub no_part : (is_first : Bool) (all : List Difference) → all ≡ [] → parts_json is_first all ≡ []
unfolding parts_json
no_part is_first all h = ap (parts_json is_first) h

-- what is left of some things
pub left_at : {X : Type 0} (xs : List X) (k : ℕ) (d : X) → k < length xs → drop k xs ≡ get_or xs k d ∷ drop (k + 1) xs
left_at xs k d h = rw (add-one, drop-cons xs k d) refl

pub none_left : {X : Type 0} (xs : List X) (k : ℕ) → length xs ≤ k → drop k xs ≡ []
none_left xs k h = drop_all k xs h

-- the table, likewise
pub table_more : (w : Widths) (mode : Mode) (before : Shift) (rows rest : List Row) (r : Row) → rows ≡ r ∷ rest
    → table_lines w mode before rows ≡ flat_map (line_text w) (lines_of mode before r) ++ table_lines w mode (shift_behind before r) rest
unfolding table_lines
table_more w mode before rows rest r h = ap (table_lines w mode before) h

pub no_table : (w : Widths) (mode : Mode) (before : Shift) (rows : List Row) → rows ≡ [] → table_lines w mode before rows ≡ []
unfolding table_lines
no_table w mode before rows h = ap (table_lines w mode before) h

pub widths_more : (mode : Mode) (before : Shift) (w : Option Widths) (rows rest : List Row) (r : Row) → rows ≡ r ∷ rest
    → widths_on mode before w rows ≡ widths_on mode (shift_behind before r) (fits_on w (lines_of mode before r)) rest
unfolding widths_on
widths_more mode before w rows rest r h = ap (widths_on mode before w) h

pub no_widths : (mode : Mode) (before : Shift) (w : Option Widths) (rows : List Row) → rows ≡ [] → widths_on mode before w rows ≡ w
unfolding widths_on
no_widths mode before w rows h = ap (widths_on mode before w) h

pub fits_more : (w : Option Widths) (all rest : List Line) (l : Line) → all ≡ l ∷ rest → fits_on w all ≡ fits_on (Some (fitted (or_headings w) l)) rest
unfolding fits_on
fits_more w all rest l h = ap (fits_on w) h

pub no_fit : (w : Option Widths) (all : List Line) → all ≡ [] → fits_on w all ≡ w
unfolding fits_on
no_fit w all h = ap (fits_on w) h

pub differ_more : (r : Row) (items more all : List Line) (left rest : List Difference) (d : Difference) → left ≡ d ∷ rest → more ≡ items ++ (line_of r (told.Differs d) ∷ [])
    → items ++ differ_lines r left ≡ all → more ++ differ_lines r rest ≡ all
differ_more r items more all left rest d e m h =
    ap (λ (l : List Line). l ++ differ_lines r rest) m ∙ append_assoc items (line_of r (told.Differs d) ∷ []) (differ_lines r rest)
    ∙ ap (λ (l : List Difference). items ++ differ_lines r l) (sym e) ∙ h

pub no_differ : (r : Row) (items all : List Line) (left : List Difference) → left ≡ [] → items ++ differ_lines r left ≡ all → items ≡ all
no_differ r items all left e h = sym (append-nil items) ∙ ap (λ (l : List Difference). items ++ differ_lines r l) (sym e) ∙ h

pub fit_turn : (w : Option Widths) (own v : Widths) (all : List Line) (k : ℕ) (d : Line) (end : Option Widths) → k < length all → own ≡ or_headings w → v ≡ fitted own (get_or all k d)
    → fits_on w (drop k all) ≡ end → fits_on (Some v) (drop (k + 1) all) ≡ end
fit_turn w own v all k d end h is fits inv =
    ap (λ (u : Widths). fits_on (Some u) (drop (k + 1) all)) (fits ∙ ap (λ (u : Widths). fitted u (get_or all k d)) is)
    ∙ sym (fits_more w (drop k all) (drop (k + 1) all) (get_or all k d) (left_at all k d h)) ∙ inv

pub width_turn : (mode : Mode) (before behind : Shift) (w v end : Option Widths) (rows rest : List Row) (r : Row) (ls : List Line) → rows ≡ r ∷ rest
    → behind ≡ shift_behind before r → v ≡ fits_on w ls → ls ≡ lines_of mode before r → widths_on mode before w rows ≡ end → widths_on mode behind v rest ≡ end
width_turn mode before behind w v end rows rest r ls left s f l inv =
    ap (λ (k : Shift). widths_on mode k v rest) s ∙ ap (λ (x : Option Widths). widths_on mode (shift_behind before r) x rest) (f ∙ ap (fits_on w) l)
    ∙ sym (widths_more mode before w rows rest r left) ∙ inv
