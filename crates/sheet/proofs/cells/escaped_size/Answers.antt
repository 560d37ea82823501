use Rattle.std.proofs.Common.{sym, ap, ◌∙◌, length, arith}
use Rattle.sheet.proofs.Escapes.{quote_doubled, text_kept}
use Rattle.sheet.proofs.cells.escaped_size.Goals as goal

pub returns-then-byte-eq34-clause-value : goal.returns-then-byte-eq34-clause-value
returns-then-byte-eq34-clause-value c = sym (ap length (quote_doubled c.args.byte c.if-byte-eq34.true))

pub returns-clause-value : goal.returns-clause-value
returns-clause-value c = c.byte_width.ensures.0 ∙ sym (ap length (text_kept c.args.byte c.if-byte-eq34.false))
