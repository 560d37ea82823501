-- End bytes, one at a time.
use Rattle.std.proofs.Common.{◌≡◌, ℕ, Bool, true, false, List, [], ◌∷◌, ◌++◌, Ok, Err, arith, refl}
use Rattle.std.specs.Prelude.{eqb, if◌then◌else◌}
use Rattle.part.specs.Outcome.{and_then}
use Rattle.refusal.specs.declared.Refusal.{Refusal}
use Rattle.refusal.specs.declared.Refusal.TheVariants.{EndByte}
use Rattle.refusal.specs.EndBytes.{ended}

pub ended_passed : (e : ℕ × ℕ) (more : List (ℕ × ℕ)) → ended (e ∷ []) ≡ Ok tt → ended (e ∷ more) ≡ ended more
unfolding ended
ended_passed e more h = grind arith

pub ended_refused : (e : ℕ × ℕ) (more : List (ℕ × ℕ)) (why : Refusal) → ended (e ∷ []) ≡ Err why → ended (e ∷ more) ≡ Err why
unfolding ended
ended_refused e more why h = grind arith

pub ended_none : ended [] ≡ Ok tt
unfolding ended
ended_none = refl

-- one list of end bytes behind another
pub ended_both : (xs ys : List (ℕ × ℕ)) → ended (xs ++ ys) ≡ and_then (ended xs) (λ _. ended ys)
unfolding ended
ended_both [] ys = refl
ended_both (x ∷ xs) ys = by_zero (ended_both xs ys) (eqb x.1 0)
  where
    by_zero : ended (xs ++ ys) ≡ and_then (ended xs) (λ _. ended ys) → (zero : Bool)
        → (if zero then ended (xs ++ ys) else Err (EndByte x.0 x.1)) ≡ and_then (if zero then ended xs else Err (EndByte x.0 x.1)) (λ _. ended ys)
    by_zero h true = h
    by_zero h false = refl
