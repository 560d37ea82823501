use Rattle.std.proofs.Common.{◌+◌, ◌≤◌, length, arith}
use Rattle.sheet_rows.proofs.Lanes.{sixteen_stops, sixteen_go_on, sixteen_most}
use Rattle.sheet_rows.proofs.cells.plain_length.Goals as goal

pub returns-then-plain-lt16-clause-value : goal.returns-then-plain-lt16-clause-value
returns-then-plain-lt16-clause-value c =
    let room : c.loop-at.at + 16 ≤ length c.args.bytes.now = omega arith in
    omega (arith, c.plain_among-plain.ensures, c.loop-at.invariant.left, sixteen_stops c.args.bytes.now c.loop-at.at room (omega (arith, c.plain_among-plain.ensures)))

pub loop-at-preserved : goal.loop-at-preserved
loop-at-preserved c =
    let room : c.loop-at.at + 16 ≤ length c.args.bytes.now = omega arith in
    let most = sixteen_most c.args.bytes.now c.loop-at.at room in
    record {
      inside = room;
      left = omega (arith, c.loop-at.invariant.left, sixteen_go_on c.args.bytes.now c.loop-at.at room (omega (arith, most, c.plain_among-plain.ensures)));
    }
