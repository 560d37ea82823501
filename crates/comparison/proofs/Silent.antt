-- Nothing is written in JSON exactly where every entry stays: proved.
use Rattle.std.proofs.Common.{ℕ, ◌≡◌, refl, sym, ap, ap₂, ◌∙◌, Bool, true, false, eqb-true, List, [], ◌∷◌, ◌++◌}
use Rattle.std.specs.Prelude.{Option, Some, None, ◌&&◌, nat_eq, if◌then◌else◌}
use Rattle.std.specs.Cmp.Lexicographic.{pointwise}
use Rattle.std.specs.List.{list_all}
use Rattle.refusal.specs.declared.Mode.{Mode}
use Rattle.pairing.specs.declared.pieces.Piece.{Piece}
use Rattle.pairing.specs.declared.pieces.Shift.{Shift}
use Rattle.pairing.specs.declared.pieces.Shift.TheVariants.{Later, Earlier}
use Rattle.pairing.specs.declared.rows.Row.{Row}
use Rattle.pairing.specs.Pieces.{shift}
use Rattle.pairing.specs.Rows.{is_alike, is_same_shift, is_unmoved, shift_in, stays}
use Rattle.comparison.specs.declared.moved.Moved.{Moved}
use Rattle.comparison.specs.Entries.{shift_behind, shift_else}
use Rattle.comparison.specs.Moved.{moved_in}
use Rattle.comparison.specs.Json.{entry_line, front_text, json_lines, moved_line, row_lines}
use Rattle.comparison.specs.Meant.{JsonMeant}

pub no : false ≡ true → ⊥
no h = cc

pub both : (a b : Bool) → (a && b) ≡ true → (a ≡ true) × (b ≡ true)
both true b h = (refl, h)
both false b h = absurd (no h)

pub same_shift : (s t : Shift) → is_same_shift s t ≡ true → s ≡ t
same_shift (Later m) (Later n) h = ap (λ (k : ℕ). Later k) (eqb-true m n h)
same_shift (Later m) (Earlier n) h = absurd (no h)
same_shift (Earlier m) (Later n) h = absurd (no h)
same_shift (Earlier m) (Earlier n) h = ap (λ (k : ℕ). Earlier k) (eqb-true m n h)

-- an entry's line has a byte, and so has what moved
some_entry : (mode : Mode) (r : Row) → entry_line mode r ≡ [] → ⊥
unfolding entry_line front_text
some_entry mode r h = cc

some_move : (m : Moved) → moved_line (Some m) ≡ [] → ⊥
unfolding moved_line
some_move m h = cc

pub none_of : (xs ys : List ℕ) → xs ++ ys ≡ [] → (xs ≡ []) × (ys ≡ [])
none_of [] ys h = (refl, h)
none_of (x ∷ xs) ys h = absurd (full x (xs ++ ys) h)
  where
    full : (y : ℕ) (ys : List ℕ) → y ∷ ys ≡ [] → ⊥
    full y ys h = cc

-- what is written of a row
abbrev written : Mode → Row → Option Piece → Option Piece → List ℕ
written mode r a b = moved_line (moved_in (Later 0) a b) ++ (if is_alike a b then [] else entry_line mode r)

stays_by : (mode : Mode) (r : Row) (a b : Option Piece) → (is_unmoved (shift_in a b) && is_alike a b) ≡ true → (written mode r a b ≡ []) × (shift_else (Later 0) (shift_in a b) ≡ Later 0)
unfolding moved_line
stays_by mode r None b h = absurd (no h)
stays_by mode r (Some p) None h = absurd (no h)
stays_by mode r (Some p) (Some q) h =
    let s : Shift = shift p.place q.place in
    let t = both (is_same_shift s (Later 0)) (pointwise nat_eq p.bytes.now q.bytes.now) h in
    let moved : Moved = record { place_in_a = p.place; place_in_b = q.place; shift = s } in (
      ap₂ (λ (x y : Bool). moved_line (if◌then◌else◌ {A = Option Moved} x None (Some moved)) ++ (if y then [] else entry_line mode r)) t.0 t.1,
      same_shift s (Later 0) t.0,
    )

silent_by : (mode : Mode) (r : Row) (a b : Option Piece) → written mode r a b ≡ [] → (is_unmoved (shift_in a b) && is_alike a b) ≡ true
silent_by mode r None b h = absurd (some_entry mode r (none_of (moved_line None) (entry_line mode r) h).1)
silent_by mode r (Some p) None h = absurd (some_entry mode r (none_of (moved_line None) (entry_line mode r) h).1)
silent_by mode r (Some p) (Some q) h = by (is_same_shift (shift p.place q.place) (Later 0)) (pointwise nat_eq p.bytes.now q.bytes.now) h
  where
    by : (x y : Bool) → moved_line (if◌then◌else◌ {A = Option Moved} x None (Some (record { place_in_a = p.place; place_in_b = q.place; shift = shift p.place q.place }))) ++ (if y then [] else entry_line mode r) ≡ [] → (x && y) ≡ true
    by true true h = refl
    by true false h = absurd (some_entry mode r (none_of (moved_line None) (entry_line mode r) h).1)
    by false y h = absurd (some_move (record { place_in_a = p.place; place_in_b = q.place; shift = shift p.place q.place }) (none_of (moved_line (Some (record { place_in_a = p.place; place_in_b = q.place; shift = shift p.place q.place }))) (if y then [] else entry_line mode r) h).0)

nothing : (mode : Mode) (rows : List Row) → list_all stays rows ≡ true → json_lines mode (Later 0) rows ≡ []
unfolding json_lines row_lines
nothing mode [] h = refl
nothing mode (r ∷ rows) h =
    let t = both (stays r) (list_all stays rows) h in
    let s = stays_by mode r r.a r.b t.0 in
    ap₂ (λ (xs : List ℕ) (k : Shift). xs ++ json_lines mode k rows) s.0 s.1 ∙ nothing mode rows t.1

all_stay : (mode : Mode) (rows : List Row) → json_lines mode (Later 0) rows ≡ [] → list_all stays rows ≡ true
unfolding json_lines row_lines
all_stay mode [] h = refl
all_stay mode (r ∷ rows) h =
    let t = none_of (written mode r r.a r.b) (json_lines mode (shift_behind (Later 0) r) rows) h in
    let own : stays r ≡ true = silent_by mode r r.a r.b t.0 in
    let s = stays_by mode r r.a r.b own in
    ap₂ (λ (x y : Bool). x && y) own (all_stay mode rows (sym (ap (λ (k : Shift). json_lines mode k rows) s.1) ∙ t.1))

pub json_meant : JsonMeant
json_meant = record { all_stay = all_stay; nothing = nothing }
