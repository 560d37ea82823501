use Rattle.std.proofs.Common.{length, ◌≤◌, take}
use Rattle.std.specs.Io.KnownBytes.{Consumes}
use Rattle.input.proofs.fill.Given as goal

abbrev pub invariant-loop : goal.invariant-loop
invariant-loop R l = (l.at ≤ length l.buf) × Consumes (R.R.Read.remaining l.initial.input) (R.R.Read.remaining l.input) (take l.at l.buf)
