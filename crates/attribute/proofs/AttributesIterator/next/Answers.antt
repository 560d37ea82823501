use Rattle.std.proofs.Common.{sym, ◌∙◌}
use Rattle.attribute.proofs.Left.{ends_there, goes_on}
use Rattle.attribute.proofs.AttributesIterator.next.Goals as goal

pub returns-in-Err-clause-steps : goal.returns-in-Err-clause-steps
returns-in-Err-clause-steps c = ends_there _ (sym c.first.ensures ∙ c.in-Err.is) c.if-self-eq0.false

pub returns-in-Ok-clause-steps : goal.returns-in-Ok-clause-steps
returns-in-Ok-clause-steps c = goes_on _ _ (sym c.first.ensures ∙ c.in-Ok.is) c.if-self-eq0.false
