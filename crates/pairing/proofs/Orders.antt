-- The orders in which pieces are gone through.
use Rattle.std.proofs.Common.{ℕ, ◌≡◌, refl, sym, ap, ◌∙◌, false, List}
use Rattle.std.specs.Prelude.{slice_get}
use Rattle.std.specs.declared.cmp.Ordering.{Ordering}
use Rattle.std.specs.declared.cmp.Ordering.TheVariants.{Less, Equal, Greater}
use Rattle.std.specs.Ordering.{ordering_then, ordering_reverse, nat_cmp, is_lt}
use Rattle.std.specs.Cmp.{IsTotalOrder, IsStrictWeakOrder}
use Rattle.std.proofs.lemmas.Cmp.{on_total, then_total, nat_cmp_total, nat_list_cmp_total, ranked}
use Rattle.std.proofs.lemmas.List.Sorted.{ranks_by}
use Rattle.pairing.specs.declared.pieces.Piece.{Piece}
use Rattle.pairing.specs.declared.pairs.Rule.{Rule}
use Rattle.pairing.specs.declared.pairs.Rule.TheVariants.{Name}
use Rattle.pairing.specs.Pairs.{key_at, order_at, number_order}

pub then_equal : (r : Ordering) → ordering_then r Equal ≡ r
then_equal Less = refl
then_equal Equal = refl
then_equal Greater = refl

pub order_total : (r : Rule) → IsTotalOrder (order_at r)
unfolding order_at
order_total r = on_total (key_at r) nat_list_cmp_total

pub number_total : (ps : List Piece) → IsTotalOrder (number_order ps)
unfolding number_order
number_total ps = then_total (on_total (slice_get ps) (order_total Name)) nat_cmp_total

pub number_weak : (ps : List Piece) → IsStrictWeakOrder (λ i j. is_lt (number_order ps i j))
number_weak ps = ranks_by (number_total ps) (λ i. i)

-- no two numbers tie
neither : (r : Ordering) → is_lt r ≡ false → is_lt (ordering_reverse r) ≡ false → r ≡ Equal
neither Less h k = cc
neither Equal h k = refl
neither Greater h k = cc

second : (r s : Ordering) → ordering_then r s ≡ Equal → s ≡ Equal
second Less s e = cc
second Equal s e = e
second Greater s e = cc

pub number_one : (ps : List Piece) (i j : ℕ) → is_lt (number_order ps i j) ≡ false → is_lt (number_order ps j i) ≡ false → i ≡ j
unfolding number_order
number_one ps i j h k =
    let tied : number_order ps i j ≡ Equal = neither (number_order ps i j) h (sym (ap is_lt ((number_total ps).antisymm j i)) ∙ k) in
    ranked i j Equal (sym (second (order_at Name (slice_get ps i) (slice_get ps j)) (nat_cmp i j) tied))
