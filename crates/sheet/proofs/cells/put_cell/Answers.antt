use Rattle.std.proofs.Common.{sym, ap, ◌∙◌, ◌+◌, length, take, arith}
use Rattle.le.proofs.Laws.{after, same_bytes}
use Rattle.sheet.proofs.Escapes.{cell_plain, cell_quoted, quoted_long}
use Rattle.sheet.proofs.cells.put_cell.Goals as goal

pub put_all_escaped-requires : goal.put_all_escaped-requires
put_all_escaped-requires c = omega (arith, c.requires, ap length (cell_plain c.args.bytes.now (sym c.needs_quotes.ensures ∙ c.if-not-needs_quotes.true)))

pub returns-then-not-needs_quotes : goal.returns-then-not-needs_quotes
returns-then-not-needs_quotes c = same_bytes (sym (cell_plain c.args.bytes.now (sym c.needs_quotes.ensures ∙ c.if-not-needs_quotes.true))) c.put_all_escaped.ensures

pub put_u8-opened-requires : goal.put_u8-opened-requires
put_u8-opened-requires c = omega (arith, c.requires, quoted_long c.args.bytes.now (sym c.needs_quotes.ensures ∙ c.if-not-needs_quotes.false))

pub put_all_escaped-end-requires : goal.put_all_escaped-end-requires
put_all_escaped-end-requires c =
    omega (arith, c.requires, quoted_long c.args.bytes.now (sym c.needs_quotes.ensures ∙ c.if-not-needs_quotes.false), c.put_u8-opened.ensures.end, c.put_u8-opened.ensures.long)

pub put_u8-requires : goal.put_u8-requires
put_u8-requires c =
    omega (
      arith,
      c.requires,
      quoted_long c.args.bytes.now (sym c.needs_quotes.ensures ∙ c.if-not-needs_quotes.false),
      c.put_u8-opened.ensures.end,
      c.put_u8-opened.ensures.long,
      c.put_all_escaped-end.ensures.end,
      c.put_all_escaped-end.ensures.long,
    )

pub returns : goal.returns
returns c =
    same_bytes (sym (cell_quoted c.args.bytes.now (sym c.needs_quotes.ensures ∙ c.if-not-needs_quotes.false)))
    (after c.put_u8-opened.ensures (after c.put_all_escaped-end.ensures c.put_u8.ensures))
