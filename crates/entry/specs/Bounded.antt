-- docs/FORMAT.md, "Walking": the walk that may make so many steps.
use Rattle.std.specs.Prelude.{ℕ, List, Result, Ok, Err, leb, length, if◌then◌else◌}
use Rattle.std.specs.List.{list_any}
use Rattle.refusal.specs.declared.Refusal.{Refusal}
use Rattle.refusal.specs.declared.Refusal.TheVariants.{ZeroEntryLength}
use Rattle.entry.specs.declared.WalkEnd.{WalkEnd}
use Rattle.entry.specs.declared.WalkEnd.TheVariants.{Finished, OutOfSteps}
use Rattle.entry.specs.declared.Walked.{Walked}
use Rattle.entry.specs.Walk.{stands, steps_from, cursor_after}

-- how it ended that made these steps: it is finished at the end; a zero claim stops it with 10; else it is out of steps
unfoldable pub end_after : List ℕ → ℕ → List ℕ → Result WalkEnd Refusal
end_after s at made =
    if leb (length s) (cursor_after s at made) then Ok Finished
    else if list_any (stands s) made then Err ZeroEntryLength
    else Ok OutOfSteps

-- a zero claim's step is counted; finding the end is no step
unfoldable pub bounded_walk : List ℕ → ℕ → ℕ → Walked
bounded_walk s at allowed =
    let made : List ℕ = steps_from s at allowed in
    record { steps = length made; cursor = cursor_after s at made; end = end_after s at made }
