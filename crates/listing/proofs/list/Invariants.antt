use Rattle.std.proofs.Common.{ℕ, ◌-◌, ◌≡◌, List, [], length}
use Rattle.std.specs.Io.KnownBytes.{Consumes}
use Rattle.listing.specs.Listing.{most, Reading}
use Rattle.listing.proofs.list.Given as goal

abbrev pub invariant-loop-taken : goal.invariant-loop-taken
invariant-loop-taken g l = (read : List ℕ) × Consumes (g.R.Read.remaining l.fn.input) (g.R.Read.remaining l.input) read × Reading l.mode read [] (g.W.Write.contents l.fn.output) (g.W.Write.contents l.output) l.line × (l.taken ≡ length read)

abbrev pub decreases-loop-taken : goal.decreases-loop-taken
decreases-loop-taken g l = most - l.taken
