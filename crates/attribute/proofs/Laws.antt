-- Laws of lists of attributes.
use Rattle.std.proofs.Common.{◌≡◌, ℕ, zero, suc, ◌-◌, ◌<◌, ◌≤◌, false, List, [], ◌∷◌, length, Ok, Err, Result, arith, Bor, refl}
use Rattle.std.specs.Prelude.{eqb}
use Rattle.refusal.specs.declared.Refusal.{Refusal}
use Rattle.refusal.specs.declared.Refusal.TheVariants.{TooShort}
use Rattle.attribute.specs.declared.AdsAttribute.{AdsAttribute}
use Rattle.attribute.specs.Attribute.{first_of, listed, after_listed, stopped}
use Rattle.attribute.proofs.Room.{room}

-- what is left after a list is no more than there was
pub after_more : (s : Bor (List ℕ)) (n : ℕ) (p : AdsAttribute × Bor (List ℕ)) → first_of s ≡ Ok p → after_listed s (suc n) ≡ after_listed p.1 n
unfolding after_listed
after_more s n p h = rw h refl

pub after_stop : (s : Bor (List ℕ)) (n : ℕ) (why : Refusal) → first_of s ≡ Err why → after_listed s (suc n) ≡ s
unfolding after_listed
after_stop s n why h = rw h refl

pub after_none : (s : Bor (List ℕ)) → after_listed s zero ≡ s
unfolding after_listed
after_none s = refl

more_within : (s : Bor (List ℕ)) (n : ℕ) (w : Result (AdsAttribute × Bor (List ℕ)) Refusal) → first_of s ≡ w
    → ((q : Bor (List ℕ)) → length (after_listed q n).now ≤ length q.now) → length (after_listed s (suc n)).now ≤ length s.now
more_within s n (Ok p) h ih = rw (after_more s n p h) (omega (arith, room s p h, ih p.1))
more_within s n (Err why) h ih = rw (after_stop s n why h) (omega arith)

pub after_within : (s : Bor (List ℕ)) (n : ℕ) → length (after_listed s n).now ≤ length s.now
after_within s zero = rw (after_none s) (omega arith)
after_within s (suc n) = more_within s n (first_of s) refl (λ q. after_within q n)

-- a list has all that it counts: read again up to that count, it is the same list
pub listed_more : (s : Bor (List ℕ)) (n : ℕ) (p : AdsAttribute × Bor (List ℕ)) → first_of s ≡ Ok p → listed s (suc n) ≡ p.0 ∷ listed p.1 n
unfolding listed
listed_more s n p h = rw h refl

pub listed_stop : (s : Bor (List ℕ)) (n : ℕ) (why : Refusal) → first_of s ≡ Err why → listed s (suc n) ≡ []
unfolding listed
listed_stop s n why h = rw h refl

pub listed_none : (s : Bor (List ℕ)) → listed s zero ≡ []
unfolding listed
listed_none s = refl

again_by : (s : Bor (List ℕ)) (n : ℕ) (w : Result (AdsAttribute × Bor (List ℕ)) Refusal) → first_of s ≡ w
    → ((q : Bor (List ℕ)) → listed q (length (listed q n)) ≡ listed q n) → listed s (length (listed s (suc n))) ≡ listed s (suc n)
again_by s n (Ok p) h ih = rw (listed_more s n p h, listed_more s (length (listed p.1 n)) p h, ih p.1) refl
again_by s n (Err why) h ih = rw (listed_stop s n why h, listed_none s) refl

pub listed_again : (s : Bor (List ℕ)) (n : ℕ) → listed s (length (listed s n)) ≡ listed s n
listed_again s zero = rw (listed_none s, listed_none s) refl
listed_again s (suc n) = again_by s n (first_of s) refl (λ q. listed_again q n)

after_again_by : (s : Bor (List ℕ)) (n : ℕ) (w : Result (AdsAttribute × Bor (List ℕ)) Refusal) → first_of s ≡ w
    → ((q : Bor (List ℕ)) → after_listed q (length (listed q n)) ≡ after_listed q n) → after_listed s (length (listed s (suc n))) ≡ after_listed s (suc n)
after_again_by s n (Ok p) h ih = rw (listed_more s n p h, after_more s (length (listed p.1 n)) p h, after_more s n p h) (ih p.1)
after_again_by s n (Err why) h ih = rw (listed_stop s n why h, after_stop s n why h) (after_none s)

pub after_again : (s : Bor (List ℕ)) (n : ℕ) → after_listed s (length (listed s n)) ≡ after_listed s n
after_again s zero = rw (listed_none s) refl
after_again s (suc n) = after_again_by s n (first_of s) refl (λ q. after_again q n)

-- so many at most
most_by : (s : Bor (List ℕ)) (n : ℕ) (w : Result (AdsAttribute × Bor (List ℕ)) Refusal) → first_of s ≡ w → ((q : Bor (List ℕ)) → length (listed q n) ≤ n) → length (listed s (suc n)) ≤ suc n
most_by s n (Ok p) h ih = rw (listed_more s n p h) (let l = ih p.1 in omega arith)
most_by s n (Err why) h ih = rw (listed_stop s n why h) (omega arith)

pub listed_most : (s : Bor (List ℕ)) (n : ℕ) → length (listed s n) ≤ n
listed_most s zero = rw (listed_none s) (omega arith)
listed_most s (suc n) = most_by s n (first_of s) refl (λ q. listed_most q n)

-- where there are no bytes, there is none
pub nothing_first : (s : Bor (List ℕ)) → length s.now ≡ 0 → first_of s ≡ Err (TooShort 4 0)
unfolding first_of
nothing_first s h = rw h refl

pub nothing_listed : (s : Bor (List ℕ)) (n : ℕ) → length s.now ≡ 0 → listed s n ≡ []
nothing_listed s zero h = listed_none s
nothing_listed s (suc n) h = listed_stop s n _ (nothing_first s h)

pub nothing_after : (s : Bor (List ℕ)) (n : ℕ) → length s.now ≡ 0 → after_listed s n ≡ s
nothing_after s zero h = after_none s
nothing_after s (suc n) h = after_stop s n _ (nothing_first s h)

-- a turn of a list, by how many are left
pub listed_step : (s : Bor (List ℕ)) (left : ℕ) (p : AdsAttribute × Bor (List ℕ)) → first_of s ≡ Ok p → 0 < left → listed s left ≡ p.0 ∷ listed p.1 (left - 1)
unfolding listed
listed_step s left p h k = grind arith

pub after_step : (s : Bor (List ℕ)) (left : ℕ) (p : AdsAttribute × Bor (List ℕ)) → first_of s ≡ Ok p → 0 < left → after_listed s left ≡ after_listed p.1 (left - 1)
unfolding after_listed
after_step s left p h k = grind arith

pub stopped_step : (s : Bor (List ℕ)) (left : ℕ) (p : AdsAttribute × Bor (List ℕ)) → first_of s ≡ Ok p → 0 < left → 0 < length p.1.now → stopped s left ≡ stopped p.1 (left - 1)
unfolding stopped
stopped_step s left p h k m = grind arith

pub some_left : (n : ℕ) → eqb n 0 ≡ false → 0 < n
some_left n h = grind arith
