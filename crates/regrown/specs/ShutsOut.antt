-- docs/FORMAT.md, "Fit records". The useless versions of a walk's step that records which come back shut out.
use Rattle.std.specs.Prelude.{ℕ, ◌≡◌, Bool, true, false, List}
use Rattle.std.specs.Borrow.{Bor}
use Rattle.regrown.specs.Regrown.{Tells, Entry, Refused, End, Grown, ComeBack}

abbrev pub is_entry : {S : Type 0} → Tells S → Bool
is_entry (Entry r size next) = true
is_entry (Refused figures next) = false
is_entry (End next) = false

pub record ShutsOut {R S T : Type 0} (Fit : R → Type 0) (written : R → List ℕ) (meant : R → List ℕ → S) (cursor : T → ℕ) (told : T → Tells S) : Type 0 where
  -- there is a fit record to speak of
  pub some : Grown Fit
  -- a step that refuses everything, or is finished at once: it never tells a record
  pub never : (step : Bor (List ℕ) → ℕ → T) → ((s : Bor (List ℕ)) (at : ℕ) → is_entry (told (step s at)) ≡ false) → ComeBack Fit written meant step cursor told → ⊥
  -- a step that tells a record wherever it is asked, if it does at the start, wherever its cursor goes: one that tells its first record again and again is such a one
  pub again : (step : Bor (List ℕ) → ℕ → T) → ((s : Bor (List ℕ)) (at : ℕ) → is_entry (told (step s at)) ≡ is_entry (told (step s 0))) → ComeBack Fit written meant step cursor told → ⊥
