-- One turn of each loop that pairs.
use Rattle.std.proofs.Common.{ℕ, zero, suc, nat_eq, ◌&&◌, eqb-true, ◌+◌, ◌≤◌, ◌≡◌, refl, sym, ap, ◌∙◌, true, false, List, [], ◌∷◌, ◌++◌, length, drop, get_or, append_assoc, append-nil, add-one, arith}
use Rattle.std.specs.Prelude.{Option, Some, None, is_some, slice_get}
use Rattle.std.specs.declared.cmp.Ordering.{Ordering}
use Rattle.std.specs.Ordering.{is_le, is_ge, is_eq}
use Rattle.pairing.specs.declared.pairs.Rule.{Rule}
use Rattle.pairing.specs.declared.pieces.Piece.{Piece}
use Rattle.pairing.specs.declared.pairs.Pair.{Pair}
use Rattle.pairing.specs.Pairs.{Partners, alone, behind, beside, next_to, neighbours, order_at, fits_at, behind_first, joined_if, matched}
use Rattle.pairing.proofs.Going.{none_left, pushed}

pub neighbours_more : (qs ps : List Piece) (i : ℕ) {x : Piece} {rest : List Piece} (next : Option ℕ) {after : Option ℕ} (p : Partners) {q : Partners} → drop i ps ≡ x ∷ rest → q ≡ beside x qs i next p → after ≡ next_to (slice_get q.of_a i) (length q.of_b)
    → neighbours qs rest (i + 1) after q ≡ neighbours qs (drop i ps) i next p
unfolding neighbours
neighbours_more qs ps i {x = x} {rest = rest} next {after = after} p {q = q} e b n =
    ap (λ (o : Option ℕ). neighbours qs rest (i + 1) o q) n ∙ ap (λ (r : Partners). neighbours qs rest (i + 1) (next_to (slice_get r.of_a i) (length r.of_b)) r) b
    ∙ ap (λ (l : List Piece). neighbours qs l i next p) (sym e)

pub neighbours_none : (qs ps : List Piece) (i : ℕ) (next : Option ℕ) (p : Partners) → length ps ≤ i → neighbours qs (drop i ps) i next p ≡ p
unfolding neighbours
neighbours_none qs ps i next p h = ap (λ (l : List Piece). neighbours qs l i next p) (none_left ps i h)

-- what B has alone
pub alone_more : (qs : List (Option ℕ)) (i : ℕ) {q : Option ℕ} {rest : List (Option ℕ)} (now : List Pair) {next all : List Pair} → drop i qs ≡ q ∷ rest → is_some q ≡ false → next ≡ now ++ record { a = None; b = Some i } ∷ [] → now ++ alone i (drop i qs) ≡ all → next ++ alone (i + 1) rest ≡ all
unfolding alone
alone_more qs i {q = None} {rest = rest} now e s n h = pushed now (record { a = None; b = Some i }) (alone (i + 1) rest) n (ap (λ (l : List (Option ℕ)). now ++ alone i l) (sym e) ∙ h)
alone_more qs i {q = Some j} now e s n h = cc

pub alone_ends : (qs : List (Option ℕ)) (i : ℕ) {q : Option ℕ} {rest : List (Option ℕ)} (now : List Pair) {all : List Pair} → drop i qs ≡ q ∷ rest → is_some q ≡ true → now ++ alone i (drop i qs) ≡ all → now ≡ all
unfolding alone
alone_ends qs i {q = None} now e s h = cc
alone_ends qs i {q = Some j} now e s h = sym (append-nil now) ∙ ap (λ (l : List (Option ℕ)). now ++ alone i l) (sym e) ∙ h

pub alone_all : (qs : List (Option ℕ)) (i : ℕ) (now : List Pair) {all : List Pair} → length qs ≤ i → now ++ alone i (drop i qs) ≡ all → now ≡ all
unfolding alone
alone_all qs i now l h = sym (append-nil now) ∙ ap (λ (k : List (Option ℕ)). now ++ alone i k) (sym (none_left qs i l)) ∙ h

pub one_told : (now : List Pair) (x : Pair) (bs : List Pair) {mid next : List Pair} → mid ≡ now ++ x ∷ [] → next ≡ mid ++ bs → next ≡ now ++ x ∷ bs
one_told now x bs e f = f ∙ ap (λ (l : List Pair). l ++ bs) e ∙ append_assoc now (x ∷ []) bs

pub behind_none : (qs : List (Option ℕ)) (j : ℕ) (m : Option ℕ) (now : List Pair) → m ≡ Some j → length qs ≤ j → now ≡ now ++ behind m qs
unfolding alone
behind_none qs j m now e h = sym (append-nil now) ∙ ap (λ (k : List (Option ℕ)). now ++ alone (j + 1) k) (sym (none_left qs (j + 1) (omega arith))) ∙ ap (λ (o : Option ℕ). now ++ behind o qs) (sym e)

-- two lists side by side
module _ (r : Rule) (ps qs : List Piece) where
  pub matched_more : (n : ℕ) (xs ys : List ℕ) {xs' ys' : List ℕ} (p : Partners) {q : Partners} {o : Ordering} → nat_eq (length xs) 0 ≡ false → nat_eq (length ys) 0 ≡ false
      → o ≡ order_at r (slice_get ps (get_or xs 0 0)) (slice_get qs (get_or ys 0 0)) → xs' ≡ behind_first (is_le o) xs → ys' ≡ behind_first (is_ge o) ys
      → q ≡ joined_if (is_eq o && fits_at r (slice_get ps (get_or xs 0 0)) (slice_get qs (get_or ys 0 0))) (get_or xs 0 0) (get_or ys 0 0) p
      → matched r ps qs n xs' ys' q ≡ matched r ps qs (n + 1) xs ys p
  unfolding matched
  matched_more n [] ys p a b o e f j = cc
  matched_more n (x ∷ xs) [] p a b o e f j = cc
  matched_more n (x ∷ xs) (y ∷ ys) p a b o e f j =
      (λ i. matched r ps qs n (e i) (f i) (j i))
      ∙ ap (λ (s : Ordering). matched r ps qs n (behind_first (is_le s) (x ∷ xs)) (behind_first (is_ge s) (y ∷ ys)) (joined_if (is_eq s && fits_at r (slice_get ps x) (slice_get qs y)) x y p)) o
      ∙ ap (λ (k : ℕ). matched r ps qs k (x ∷ xs) (y ∷ ys) p) (sym (add-one n))

  pub matched_done : (n : ℕ) (xs ys : List ℕ) (p : Partners) → n ≡ 0 → matched r ps qs n xs ys p ≡ p
  unfolding matched
  matched_done n xs ys p e = ap (λ (k : ℕ). matched r ps qs k xs ys p) e

  pub ours_ended : (n : ℕ) (xs ys : List ℕ) (p : Partners) → nat_eq (length xs) 0 ≡ true → matched r ps qs n xs ys p ≡ p
  unfolding matched
  ours_ended zero xs ys p e = refl
  ours_ended (suc n) [] ys p e = refl
  ours_ended (suc n) (x ∷ xs) ys p e = let z = eqb-true (length (x ∷ xs)) 0 e in absurd (omega arith)

  pub theirs_ended : (n : ℕ) (xs ys : List ℕ) (p : Partners) → nat_eq (length ys) 0 ≡ true → matched r ps qs n xs ys p ≡ p
  unfolding matched
  theirs_ended zero xs ys p e = refl
  theirs_ended (suc n) [] ys p e = refl
  theirs_ended (suc n) (x ∷ xs) [] p e = refl
  theirs_ended (suc n) (x ∷ xs) (y ∷ ys) p e = let z = eqb-true (length (y ∷ ys)) 0 e in absurd (omega arith)
