-- docs/FORMAT.md, "Walking": the walk of a step, and where its steps begin.
use Rattle.std.specs.Prelude.{ℕ, zero, suc, ◌≡◌, Bool, List, [], ◌∷◌, ◌++◌, map, leb, eqb, length, if◌then◌else◌}
use Rattle.std.specs.Borrow.{Bor}
use Rattle.entry.specs.Entry.{claim_at}

-- a step from here does not move the cursor: before the end of the upload this is a zero claim
abbrev pub stands : List ℕ → ℕ → Bool
stands s at = eqb (claim_at s at).next at

-- the places where at most so many steps begin, from a place on: none begins at the end of the upload, and none follows a zero claim
unfoldable pub steps_from : List ℕ → ℕ → ℕ → List ℕ
steps_from s at zero = []
steps_from s at (suc left) =
    if leb (length s) at then []
    else at ∷ (if stands s at then [] else steps_from s (claim_at s at).next left)

-- the whole walk: every step but a zero claim moves at least a byte, so it has no more steps than the upload has bytes
unfoldable pub steps : List ℕ → List ℕ
steps s = steps_from s 0 (length s)

-- where the cursor is that was at a place, after steps that begin at these places
unfoldable pub cursor_after : List ℕ → ℕ → List ℕ → ℕ
cursor_after s at [] = at
cursor_after s at (first ∷ more) = cursor_after s (claim_at s first).next more

-- The walk of a step: `step s at` is what it gives at a place, `cursor` the place where that leaves the cursor
module _ {T : Type 0} (step : Bor (List ℕ) → ℕ → T) (cursor : T → ℕ) where
  -- the step iterated by its own cursor, at most so many times; nothing follows the step at the end
  unfoldable pub walk : Bor (List ℕ) → ℕ → ℕ → List T
  walk s at zero = []
  walk s at (suc left) = step s at ∷ (if leb (length s.now) at then [] else walk s (cursor (step s at)) left)

  -- one walk: its steps begin at the places above. As many steps as there are places, and one more, give what the step gives
  -- at each of them, in order, and then where the last of them left the cursor
  abbrev pub OneWalk : Type 0
  OneWalk =
      (s : Bor (List ℕ)) (at allowed : ℕ)
      → walk s at (suc (length (steps_from s.now at allowed)))
      ≡ map (step s) (steps_from s.now at allowed) ++ (step s (cursor_after s.now at (steps_from s.now at allowed)) ∷ [])
