use Rattle.std.proofs.Common.{◌≡◌, drop}
use Rattle.std.specs.List.{list_any}
use Rattle.picture.specs.Rows.{ends_at}
use Rattle.picture.proofs.rows.some_end_at.Given as goal

abbrev pub invariant-loop-section : goal.invariant-loop-section
invariant-loop-section l = list_any (ends_at l.end) (drop l.section-index l.sections) ≡ list_any (ends_at l.end) l.sections
