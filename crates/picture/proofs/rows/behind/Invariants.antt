use Rattle.std.proofs.Common.{◌≡◌, drop}
use Rattle.picture.specs.Rows.{behind}
use Rattle.picture.proofs.rows.behind.Given as goal

abbrev pub invariant-loop-ended : goal.invariant-loop-ended
invariant-loop-ended l = behind l.start (drop l.ended l.sections) ≡ behind l.start l.sections
