use Rattle.std.proofs.Common.{refl, arith}
use Rattle.le.proofs.Laws.{wrote_none, after, same_bytes}
use Rattle.text.proofs.Laws.{decoded_more, decoded_room}
use Rattle.text.specs.Text.{points, decoded}
use Rattle.text.proofs.decoder.put_decoded.Goals as goal

pub loop-i-init : goal.loop-i-init
unfolding decoded
loop-i-init c = record { inside = omega arith; wrote = wrote_none (omega arith) }

pub put_byte-at-requires-clause-table_value : goal.put_byte-at-requires-clause-table_value
unfolding points
put_byte-at-requires-clause-table_value c = refl

pub put_byte-at-requires-clause-b_in_bounds : goal.put_byte-at-requires-clause-b_in_bounds
put_byte-at-requires-clause-b_in_bounds c = omega (arith, decoded_room c.args.src.now c.loop-i.i c.loop-i-test.true)

pub loop-i-preserved : goal.loop-i-preserved
loop-i-preserved c = record {
  inside = omega arith;
  wrote = same_bytes (decoded_more c.args.src.now c.loop-i.i c.loop-i-test.true) (after c.loop-i.invariant.wrote c.put_byte-at.ensures);
}
