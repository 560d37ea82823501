-- The rows of a data type, one after another, and the columns that are wide enough for them.
use Rattle.std.proofs.Common.{ℕ, zero, suc, ◌-◌, ◌≡◌, ◌≢◌, List, [], ◌∷◌, ◌++◌, codes, refl, sym, ap, subst, ◌∙◌, append_assoc, arith}
use Rattle.std.specs.List.{flat_map}
use Rattle.refusal.specs.declared.Mode.{Mode}
use Rattle.walk.specs.declared.Piece.{Piece}
use Rattle.data_type.specs.declared.AdsDataTypeInfo.{AdsDataTypeInfo}
use Rattle.data_type.specs.declared.array.AdsArrayInfo.{AdsArrayInfo}
use Rattle.report.specs.Report.{plus}
use Rattle.type_tree.specs.declared.node.Node.{Node}
use Rattle.type_table.specs.declared.table.Columns.{Columns}
use Rattle.type_table.specs.Cells.{array_cell, array_cells, arrays_on, array_width}
use Rattle.type_tree.specs.Joined.{joined, more}
use Rattle.type_tree.specs.Node.{members_of}
use Rattle.type_table.specs.Table.{rows_of, headings, widths_of, widest, fitted_on, fitted, fitted_all, columns_of}

fitted_append : (c : Columns) (rs ss : List (ℕ × Node)) → fitted_on c (rs ++ ss) ≡ fitted_on (fitted_on c rs) ss
unfolding fitted_on
fitted_append c [] ss = refl
fitted_append c (r ∷ rs) ss = fitted_append (widest c (widths_of r.0 r.1)) rs ss

-- after one more of some members
pub member_fits : (f : Node → List (ℕ × Node)) {left rest : List Node} {m : Node} (c : Columns) {d e : Columns}
    → left ≡ m ∷ rest → d ≡ fitted_on c (f m) → fitted_on c (flat_map f left) ≡ e → fitted_on d (flat_map f rest) ≡ e
member_fits f {left} {rest} {m} c {d} {e} s n h =
    ap (λ (x : Columns). fitted_on x (flat_map f rest)) n ∙ sym (fitted_append c (f m) (flat_map f rest)) ∙ ap (λ (ms : List Node). fitted_on c (flat_map f ms)) (sym s) ∙ h

-- a data type, and then its members
pub node_fits : (mode : Mode) (levels indent : ℕ) (n : Node) {left all : List Node} (c e : Columns) {d : Columns}
    → levels ≢ 0 → left ≡ [] → fitted_on c (flat_map (rows_of mode (levels - 1) (plus indent 2)) left) ≡ fitted_on d (flat_map (rows_of mode (levels - 1) (plus indent 2)) all)
    → d ≡ widest e (widths_of indent n) → all ≡ members_of mode n → c ≡ fitted_on e (rows_of mode levels indent n)
unfolding fitted_on rows_of
node_fits mode zero indent n c e some s h w a = absurd (some refl)
node_fits mode (suc levels) indent n {left} {all} c e {d} some s h w a =
    let f : ℕ → List Node → List (ℕ × Node) = λ k. flat_map (rows_of mode k (plus indent 2)) in
    let z : suc levels - 1 ≡ levels = omega arith in
    let i : fitted_on c (f levels left) ≡ fitted_on d (f levels all) = subst (λ (k : ℕ). fitted_on c (f k left) ≡ fitted_on d (f k all)) z h in
    ap (λ (ms : List Node). fitted_on c (f levels ms)) (sym s) ∙ i ∙ ap (λ (x : Columns). fitted_on x (f levels all)) w ∙ ap (λ (ms : List Node). fitted_on (widest e (widths_of indent n)) (f levels ms)) a

pub piece_fits : (mode : Mode) {left rest : List (Piece AdsDataTypeInfo)} {p : Piece AdsDataTypeInfo} (c : Columns) {d e : Columns}
    → left ≡ p ∷ rest → d ≡ fitted mode c p → fitted_all mode c left ≡ e → fitted_all mode d rest ≡ e
unfolding fitted_all
piece_fits mode {left} {rest} {p} c {d} {e} s n h = ap (λ (x : Columns). fitted_all mode x rest) n ∙ ap (fitted_all mode c) (sym s) ∙ h

pub all_fit : (mode : Mode) {left all ps : List (Piece AdsDataTypeInfo)} {c d : Columns}
    → left ≡ [] → fitted_all mode c left ≡ fitted_all mode d all → d ≡ headings → all ≡ ps → c ≡ columns_of mode ps
unfolding fitted_all
all_fit mode {left} {all} {ps} {c} {d} s h n a = ap (fitted_all mode c) (sym s) ∙ h ∙ ap (λ (x : Columns). fitted_all mode x all) n ∙ ap (fitted_all mode headings) a

-- after one more of some array records
pub array_more : {left rest : List AdsArrayInfo} {a : AdsArrayInfo} (n : ℕ) {m e : ℕ} → left ≡ a ∷ rest → m ≡ plus n (array_width a) → arrays_on n left ≡ e → arrays_on m rest ≡ e
unfolding arrays_on
array_more {left} {rest} {a} n {m} {e} s w h = ap (λ (x : ℕ). arrays_on x rest) w ∙ ap (arrays_on n) (sym s) ∙ h

pub array_all : {left : List AdsArrayInfo} (n : ℕ) {e : ℕ} → left ≡ [] → arrays_on n left ≡ e → n ≡ e
unfolding arrays_on
array_all {left} n {e} s h = ap (arrays_on n) (sym s) ∙ h

-- the lines of rows that come from members
flat_append : (g : ℕ × Node → List ℕ) (xs ys : List (ℕ × Node)) → flat_map g (xs ++ ys) ≡ flat_map g xs ++ flat_map g ys
flat_append g [] ys = refl
flat_append g (x ∷ xs) ys = ap (λ (t : List ℕ). g x ++ t) (flat_append g xs ys) ∙ sym (append_assoc (g x) (flat_map g xs) (flat_map g ys))

pub rows_flat : {X : Type 0} (f : X → List (ℕ × Node)) (g : ℕ × Node → List ℕ) (xs : List X) → flat_map (λ x. flat_map g (f x)) xs ≡ flat_map g (flat_map f xs)
rows_flat f g [] = refl
rows_flat {X} f g (x ∷ xs) = ap (λ (t : List ℕ). flat_map g (f x) ++ t) (rows_flat f g xs) ∙ sym (flat_append g (f x) (flat_map f xs))

pub node_rows : (mode : Mode) (levels indent : ℕ) (n : Node) (g : ℕ × Node → List ℕ) (all : List Node) → levels ≢ 0 → all ≡ members_of mode n
    → g (indent, n) ++ flat_map (λ m. flat_map g (rows_of mode (levels - 1) (plus indent 2) m)) all ≡ flat_map g (rows_of mode levels indent n)
unfolding rows_of
node_rows mode zero indent n g all some a = absurd (some refl)
node_rows mode (suc levels) indent n g all some a =
    let z : suc levels - 1 ≡ levels = omega arith in
    ap (λ (k : ℕ). g (indent, n) ++ flat_map (λ m. flat_map g (rows_of mode k (plus indent 2) m)) all) z
    ∙ ap (λ (ms : List Node). g (indent, n) ++ flat_map (λ m. flat_map g (rows_of mode levels (plus indent 2) m)) ms) a
    ∙ ap (λ (t : List ℕ). g (indent, n) ++ t) (rows_flat (rows_of mode levels (plus indent 2)) g (members_of mode n))

-- array records between brackets
pub array_closed : (first : AdsArrayInfo) (rest : List AdsArrayInfo) → codes "[" ++ (array_cell first ++ (more (codes ", ") array_cell rest ++ codes "]")) ≡ array_cells (first ∷ rest)
unfolding array_cells joined
array_closed first rest = ap (λ (t : List ℕ). codes "[" ++ t) (sym (append_assoc (array_cell first) (more (codes ", ") array_cell rest) (codes "]")))
