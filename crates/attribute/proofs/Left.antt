-- What is left of an iterator: all of it is given, one by one, and then no more.
use Rattle.std.proofs.Common.{ℕ, zero, suc, ◌-◌, ◌≡◌, List, [], length, Ok, Err, refl, ap, arith, Bor}
use borrow.Author.Tests.{ne_eqb}
use Rattle.std.specs.Prelude.{Some, None}
use Rattle.std.proofs.lemmas.Iterator.{YieldsList}
use Rattle.std.proofs.lemmas.Iterator.Consumers.{YieldsList-from_shown}
use Rattle.refusal.specs.declared.Refusal.{Refusal}
use Rattle.attribute.specs.declared.AdsAttribute.{AdsAttribute}
use Rattle.attribute.specs.declared.Attributes.{Attributes}
use Rattle.attribute.specs.Attribute.{first_of, listed, left, after_next, NextGives}
use Rattle.attribute.proofs.Laws.{listed_step}

-- where none can be read, none is given, and none is counted from then on
nothing : (s : Bor (List ℕ)) (n : ℕ) {why : Refusal} → first_of s ≡ Err why → listed s n ≡ []
unfolding listed
nothing s zero e = refl
nothing s (suc n) e = rw e refl

pub ends_there : (a : Attributes) {why : Refusal} → first_of a.bytes ≡ Err why → (a.count ≡ 0 → ⊥) → NextGives a None (record { bytes = a.bytes; count = 0 })
unfolding listed after_next
ends_there a e n = ((nothing a.bytes a.count e, refl), simp (ne_eqb a.count 0 n, e))

-- where one can be read, it is given, and the bytes behind it are left, with a count less
pub goes_on : (a : Attributes) (p : AdsAttribute × Bor (List ℕ)) → first_of a.bytes ≡ Ok p → (a.count ≡ 0 → ⊥) → NextGives a (Some p.0) (record { bytes = p.1; count = a.count - 1 })
unfolding after_next
goes_on a p e n = (listed_step a.bytes a.count p e (omega arith), simp (ne_eqb a.count 0 n, e))

pub all_given : (a : Attributes) → YieldsList NextGives (λ x. x) a (left a)
all_given = YieldsList-from_shown NextGives (λ x. x) left (λ s t h. ap length h.0.0) (λ s x t h. h.0)
