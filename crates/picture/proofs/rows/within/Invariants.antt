use Rattle.std.proofs.Common.{◌≡◌, ◌++◌, take, drop}
use Rattle.picture.specs.Rows.{within}
use Rattle.picture.proofs.rows.within.Given as goal

abbrev pub invariant-loop-begun : goal.invariant-loop-begun
invariant-loop-begun l = take l.begun l.sections ++ within l.end (drop l.begun l.sections) ≡ within l.end l.sections
