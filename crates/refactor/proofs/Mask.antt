-- The packed count: it keeps within its mask and says whether another follows.
use Rattle.std.proofs.Common.{ℕ, ◌+◌, ◌≡◌, Bool, true, false, sym, ap, ◌∙◌, arith}
use Rattle.std.specs.Prelude.{min, max, eqb, bit_and, bit_or, if◌then◌else◌}
use Rattle.std.specs.Int.{bit_at}
use Rattle.std.specs.Int.Bits.{or_add_and}
use Rattle.std.proofs.lemmas.Nat.{and_assoc, and_or_self}
use Rattle.std.proofs.lemmas.Nat.Bits.{bit_at_and, bit_at_or, same_from_bits}
use borrow.Author.Tests.{eqb-true}
use Rattle.le.specs.Le.{has}
use Rattle.refactor.specs.Refactor.{mask, follower}
use Rattle.refactor.specs.Writing.{packed_of}

-- the mask has the follower's bit
kept : (c m f : ℕ) → min f m ≡ f → min (max (min c m) f) m ≡ max (min c m) f
kept c m f h = omega arith

each_bit : (count i : ℕ) → bit_at (bit_and (bit_or (bit_and count mask) follower) mask) i ≡ bit_at (bit_or (bit_and count mask) follower) i
each_bit count i =
    let b : bit_at (bit_or (bit_and count mask) follower) i ≡ max (min (bit_at count i) (bit_at mask i)) (bit_at follower i) =
    bit_at_or (bit_and count mask) follower i ∙ ap (λ (x : ℕ). max x (bit_at follower i)) (bit_at_and count mask i) in
    bit_at_and (bit_or (bit_and count mask) follower) mask i
    ∙ ap (λ (x : ℕ). min x (bit_at mask i)) b
    ∙ kept (bit_at count i) (bit_at mask i) (bit_at follower i) (sym (bit_at_and follower mask i))
    ∙ sym b

-- no bit outside the mask
pub within_mask : (count : ℕ) (has_next : Bool) → bit_and (packed_of count has_next) mask ≡ packed_of count has_next
unfolding packed_of
within_mask count true = same_from_bits _ _ (each_bit count)
within_mask count false = and_assoc mask count mask

-- the follower's bit: set where a record follows, else as the count has it
pub told_follower : (count : ℕ) (has_next : Bool) → has (packed_of count has_next) follower ≡ (if has_next then true else has count follower)
unfolding packed_of
told_follower count true = ap (λ (x : ℕ). eqb x follower) (and_or_self follower (bit_and count mask))
told_follower count false = ap (λ (x : ℕ). eqb x follower) (and_assoc follower count mask)

-- a count within the mask that says rightly whether another follows is packed as it is
pub packed_same : (count : ℕ) (has_next : Bool) → bit_and count mask ≡ count → has count follower ≡ has_next → packed_of count has_next ≡ count
unfolding packed_of
packed_same count true w f =
    let b : bit_and count follower ≡ follower = eqb-true (bit_and count follower) follower f in
    let o : bit_or count follower + bit_and count follower ≡ count + follower = or_add_and count follower in
    rw w (omega arith)
packed_same count false w f = w
