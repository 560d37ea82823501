-- docs/FORMAT.md, "Modes": what the look at end bytes means.
use Rattle.std.specs.Prelude.{ℕ, ◌≡◌, List, ◌∷◌, ◌++◌, Ok, Err}
use Rattle.std.specs.List.{All}
use Rattle.refusal.specs.declared.Refusal.{Refusal}
use Rattle.refusal.specs.declared.Refusal.TheVariants.{EndByte}
use Rattle.refusal.specs.EndBytes.{ended}

abbrev pub AllZero : List (ℕ × ℕ) → Type 0
AllZero = All (λ (e : ℕ × ℕ). e.1 ≡ 0)

-- of these bytes, each with its place, the first that is not 0
pub record FirstNot (ends : List (ℕ × ℕ)) (e : ℕ × ℕ) : Type 0 where
  pub before : List (ℕ × ℕ)
  pub behind : List (ℕ × ℕ)
  pub among : ends ≡ before ++ (e ∷ behind)
  pub zero : AllZero before
  pub not : e.1 ≡ 0 → ⊥

-- it passes exactly where all are 0, and refuses exactly the first that is not, with its place
pub record Meant (ends : List (ℕ × ℕ)) : Type 0 where
  pub passes : AllZero ends → ended ends ≡ Ok tt
  pub passed : ended ends ≡ Ok tt → AllZero ends
  pub refuses : (e : ℕ × ℕ) → FirstNot ends e → ended ends ≡ Err (EndByte e.0 e.1)
  pub refused : (why : Refusal) → ended ends ≡ Err why → (e : ℕ × ℕ) × (FirstNot ends e × (why ≡ EndByte e.0 e.1))

abbrev pub EndsMeant : Type 0
EndsMeant = (ends : List (ℕ × ℕ)) → Meant ends
