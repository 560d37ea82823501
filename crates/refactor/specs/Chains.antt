-- docs/FORMAT.md, "Refactor records": a record that a chain meets and that is refused refuses the whole chain.
use Rattle.std.specs.Prelude.{ℕ, ◌≡◌, List, Err}
use Rattle.std.specs.Borrow.{Bor}
use Rattle.part.specs.Slice.{after}
use Rattle.refusal.specs.declared.Refusal.{Refusal}
use Rattle.refactor.specs.Refactor.{first_of, infos_of}
use Rattle.refactor.specs.Laid.{Stands}

-- a record that is met and refused
pub record IsRefused (s : Bor (List ℕ)) (why : Refusal) : Type 0 where
  pub at : ℕ
  pub before : ℕ
  pub met : Stands s.now 0 at before
  pub refused : first_of (after s at) ≡ Err why

-- it refuses the chain, under its own number and whole: nothing before it is kept. Nothing else refuses a chain
pub record RefusedWhole (s : Bor (List ℕ)) (why : Refusal) : Type 0 where
  pub whole : IsRefused s why → infos_of s ≡ Err why
  pub only : infos_of s ≡ Err why → IsRefused s why

abbrev pub ChainsRefused : Type 0
ChainsRefused = (s : Bor (List ℕ)) (why : Refusal) → RefusedWhole s why
