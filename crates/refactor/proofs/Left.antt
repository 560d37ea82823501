-- What is left of an iterator: all of it is given, one by one, and then no more.
use Rattle.std.proofs.Common.{ℕ, zero, suc, ◌-◌, ◌<◌, ◌≤◌, ◌≡◌, List, [], ◌∷◌, length, Ok, Err, Result, refl, ap, arith, Bor}
use borrow.Author.Tests.{ne_eqb}
use Rattle.std.specs.Prelude.{Some, None}
use Rattle.std.proofs.lemmas.Iterator.{YieldsList}
use Rattle.std.proofs.lemmas.Iterator.Consumers.{YieldsList-from_shown}
use Rattle.refusal.specs.declared.Refusal.{Refusal}
use Rattle.refactor.specs.declared.AdsRefactorInfo.{AdsRefactorInfo}
use Rattle.refactor.specs.declared.RefactorInfos.{RefactorInfos}
use Rattle.refactor.specs.Refactor.{first_of, listed, left, after_next, NextGives}

-- where none can be read, none is given, and none is counted from then on
nothing : (s : Bor (List ℕ)) (n : ℕ) {why : Refusal} → first_of s ≡ Err why → listed s n ≡ []
unfolding listed
nothing s zero e = refl
nothing s (suc n) e = rw e refl

pub ends_there : (a : RefactorInfos) {why : Refusal} → first_of a.bytes ≡ Err why → (a.count ≡ 0 → ⊥) → NextGives a None (record { bytes = a.bytes; count = 0 })
unfolding listed after_next
ends_there a e n = ((nothing a.bytes a.count e, refl), simp (ne_eqb a.count 0 n, e))

-- where one can be read, it is given, and the bytes behind it are left, with a count less
one_more : (s : Bor (List ℕ)) (n : ℕ) (p : AdsRefactorInfo × Bor (List ℕ)) → first_of s ≡ Ok p → 0 < n → listed s n ≡ p.0 ∷ listed p.1 (n - 1)
unfolding listed
one_more s n p e h = grind arith

pub goes_on : (a : RefactorInfos) (p : AdsRefactorInfo × Bor (List ℕ)) → first_of a.bytes ≡ Ok p → (a.count ≡ 0 → ⊥) → NextGives a (Some p.0) (record { bytes = p.1; count = a.count - 1 })
unfolding after_next
goes_on a p e n = (one_more a.bytes a.count p e (omega arith), simp (ne_eqb a.count 0 n, e))

pub all_given : (a : RefactorInfos) → YieldsList NextGives (λ x. x) a (left a)
all_given = YieldsList-from_shown NextGives (λ x. x) left (λ s t h. ap length h.0.0) (λ s x t h. h.0)

-- so many at most
most_by : (s : Bor (List ℕ)) (n : ℕ) (w : Result (AdsRefactorInfo × Bor (List ℕ)) Refusal) → first_of s ≡ w → ((q : Bor (List ℕ)) → length (listed q n) ≤ n) → length (listed s (suc n)) ≤ suc n
unfolding listed
most_by s n (Ok p) h ih = rw h (let l = ih p.1 in omega arith)
most_by s n (Err why) h ih = rw h (omega arith)

pub listed_most : (s : Bor (List ℕ)) (n : ℕ) → length (listed s n) ≤ n
unfolding listed
listed_most s zero = omega arith
listed_most s (suc n) = most_by s n (first_of s) refl (λ q. listed_most q n)
