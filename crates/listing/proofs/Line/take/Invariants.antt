use Rattle.std.proofs.Common.{ℕ, ◌+◌, ◌≤◌, List, length}
use Rattle.std.specs.declared.option.Option.{Option}
use Rattle.listing.specs.Listing.{most_number, Reading}
use Rattle.listing.proofs.Line.take.Given as goal

abbrev pub decreases-loop-end : goal.decreases-loop-end
decreases-loop-end g l = length l.rest

abbrev pub invariant-loop-end : goal.invariant-loop-end
invariant-loop-end g l =
    (length l.rest ≤ length l.part)
    × (l.self.number + length l.rest ≤ most_number)
    × ((read : List ℕ) (before : Option (List ℕ)) → Reading l.mode read l.part before (g.W.Write.contents l.fn.output) l.initial.self → Reading l.mode read l.rest before (g.W.Write.contents l.output) l.self)
