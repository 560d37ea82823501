use Rattle.std.proofs.Common.{◌≡◌, ◌+◌, ◌∙◌, ap, length, decimal, arith}
use Rattle.sheet.proofs.Escapes.{digits_long, decimal_most}
use Rattle.sheet.proofs.cells.+decimal_size.Goals as goal

pub returns-clause-value : goal.returns-clause-value
returns-clause-value t c = omega (arith, digits_long c.args.n c.if-n-lt10.false (omega arith), c.decimal_size.ensures.value)

pub returns-clause-small : goal.returns-clause-small
returns-clause-small t c = omega (arith, digits_long c.args.n c.if-n-lt10.false (omega arith), c.decimal_size.ensures.value, decimal_most c.args.n (omega arith))
