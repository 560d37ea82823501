-- docs/FORMAT.md, "Walking": what the bounded walk means, step by step.
use Rattle.std.specs.Prelude.{ℕ, suc, ◌<◌, ◌≤◌, ◌≡◌, List, [], ◌∷◌, Some, Result, Ok, Err, length}
use Rattle.refusal.specs.declared.Refusal.{Refusal}
use Rattle.refusal.specs.declared.Refusal.TheVariants.{ZeroEntryLength}
use Rattle.entry.specs.declared.WalkEnd.{WalkEnd}
use Rattle.entry.specs.declared.WalkEnd.TheVariants.{Finished, OutOfSteps}
use Rattle.entry.specs.Entry.{claim_at}
use Rattle.entry.specs.Walk.{steps_from, cursor_after}
use Rattle.entry.specs.Bounded.{bounded_walk}

-- A walk from a place on that may make so many steps: the places where its steps begin, the cursor after them, and how it ended. Exactly one of these holds:
pub data Walks (s : List ℕ) : ℕ → ℕ → List ℕ → ℕ → Result WalkEnd Refusal → Type 0 where
  -- at or past the end it is finished, and finding that is no step
  finished : {at allowed : ℕ} → length s ≤ at → Walks s at allowed [] at (Ok Finished)
  -- before the end it is out of steps where it may make none
  used_up : {at : ℕ} → at < length s → Walks s at 0 [] at (Ok OutOfSteps)
  -- a claim of 0 stops it with 10 and the cursor stays, that step counted
  zero_claim : {at left : ℕ} → at < length s → (claim_at s at).size ≡ Some (Ok 0) → Walks s at (suc left) (at ∷ []) at (Err ZeroEntryLength)
  -- any other step moves the cursor, and the walk goes on from there with one step less
  step : {at left cursor : ℕ} {more : List ℕ} {end : Result WalkEnd Refusal}
      → at < length s → at < (claim_at s at).next
      → Walks s (claim_at s at).next left more cursor end → Walks s at (suc left) (at ∷ more) cursor end

-- the bounded walk makes the steps that begin at the walk's places, and tells how many
pub record IsBounded (s : List ℕ) (at allowed : ℕ) : Type 0 where
  pub counts : (bounded_walk s at allowed).steps ≡ length (steps_from s at allowed)
  pub after : (bounded_walk s at allowed).cursor ≡ cursor_after s at (steps_from s at allowed)
  pub walks : Walks s at allowed (steps_from s at allowed) (bounded_walk s at allowed).cursor (bounded_walk s at allowed).end

abbrev pub BoundedMeant : Type 0
BoundedMeant = (s : List ℕ) (at allowed : ℕ) → IsBounded s at allowed
