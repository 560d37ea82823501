use Rattle.std.proofs.Common.{◌<◌, ◌∙◌, sym, length, get_or, arith}
use borrow.Author.Tests.{ne_eqb}
use Rattle.sheet_rows.proofs.Lengths.{quoted_goes_on}
use Rattle.sheet_rows.proofs.cells.quoted_length.Goals as goal

pub loop-at-preserved-then-bytes-at-ne34 : goal.loop-at-preserved-then-bytes-at-ne34
loop-at-preserved-then-bytes-at-ne34 c =
    let inside : c.loop-at.at < length c.args.bytes.now = omega arith in
    record {
      inside = omega arith;
      left = sym (quoted_goes_on c.args.bytes.now c.loop-at.at inside (ne_eqb (get_or c.args.bytes.now c.loop-at.at 0) 34 c.if-bytes-at-ne34.true)) ∙ c.loop-at.invariant.left;
    }
