use Rattle.std.proofs.Common.{◌≡◌, ◌+◌, ◌∙◌, sym, ap, length, decimal, arith, ◌%◌, ◌∷◌, [], ℕ, List}
use Rattle.std.proofs.lemmas.Fmt.{decimal_digit}
use Rattle.le.proofs.Laws.{after, same_bytes}
use Rattle.sheet.proofs.Escapes.{one_digit, digits_long, last_digit}
use Rattle.sheet.proofs.cells.+put_decimal.Goals as goal

pub put_u8-requires : goal.put_u8-requires
put_u8-requires t c = omega (arith, c.requires, ap length (decimal_digit c.args.n c.if-n-lt10.true))

pub returns-then-n-lt10 : goal.returns-then-n-lt10
returns-then-n-lt10 t c = same_bytes (one_digit c.args.n c.if-n-lt10.true) c.put_u8.ensures

pub put_decimal-next-requires : goal.put_decimal-next-requires
put_decimal-next-requires t c = (omega arith, omega (arith, c.requires, digits_long c.args.n c.if-n-lt10.false (omega arith)))

pub put_u8-requires-2 : goal.put_u8-requires-2
put_u8-requires-2 t c = omega (arith, c.requires, digits_long c.args.n c.if-n-lt10.false (omega arith), c.put_decimal-next.ensures.end, c.put_decimal-next.ensures.long)

pub returns : goal.returns
returns t c = same_bytes (sym (last_digit c.args.n c.if-n-lt10.false (omega arith))) (after c.put_decimal-next.ensures c.put_u8-2.ensures)
