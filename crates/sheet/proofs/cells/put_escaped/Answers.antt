use Rattle.std.proofs.Common.{sym, ap, ◌∙◌, length, arith}
use Rattle.le.proofs.Laws.{same_bytes}
use Rattle.sheet.proofs.Escapes.{quote_doubled, text_kept}
use Rattle.sheet.proofs.cells.put_escaped.Goals as goal

pub put_bytes-requires : goal.put_bytes-requires
put_bytes-requires c = omega (arith, c.requires, ap length (quote_doubled c.args.byte c.if-byte-eq34.true))

pub returns-then-byte-eq34 : goal.returns-then-byte-eq34
returns-then-byte-eq34 c = same_bytes (sym (quote_doubled c.args.byte c.if-byte-eq34.true)) c.put_bytes.ensures

pub put_text-requires : goal.put_text-requires
put_text-requires c = omega (arith, c.requires, ap length (text_kept c.args.byte c.if-byte-eq34.false))

pub returns : goal.returns
returns c = same_bytes (sym (text_kept c.args.byte c.if-byte-eq34.false)) c.put_text.ensures
