use Rattle.std.proofs.Common.{sym, ◌∙◌}
use borrow.Author.Tests.{ne_eqb}
use Rattle.captures.proofs.Pairs.{tested, odd}
use Rattle.captures.proofs.digits.are_pairs.Goals as goal

pub returns-then-text-eq0 : goal.returns-then-text-eq0
returns-then-text-eq0 c = tested c.args.text.now c.if-text-eq0.true c.are_digits.result (sym c.are_digits.ensures)

pub returns-else-text-eq0 : goal.returns-else-text-eq0
returns-else-text-eq0 c = ne_eqb _ _ c.if-text-eq0.false ∙ odd c.args.text.now c.if-text-eq0.false
