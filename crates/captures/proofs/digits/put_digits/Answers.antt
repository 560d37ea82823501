use Rattle.std.proofs.Common.{take, ap, arith}
use Rattle.std.proofs.Math.Seq.{length-take-le, take_all}
use Rattle.hex.specs.Hex.{encode_with, upper_digits, encode_upper}
use Rattle.hex.proofs.HexLemmas.{length-encode_with}
use Rattle.le.proofs.Laws.{after, same_bytes, wrote_none}
use Rattle.captures.proofs.Pairs.{digits_more}
use Rattle.captures.proofs.digits.put_digits.Goals as goal

pub loop-byte-init : goal.loop-byte-init
unfolding encode_with
loop-byte-init c = wrote_none (omega arith)

pub put_pair-next-requires : goal.put_pair-next-requires
put_pair-next-requires c =
    let i = c.loop-byte.byte-index in
    omega (arith, length-encode_with upper_digits (take i c.args.bytes.now), length-take-le i c.args.bytes.now (omega arith), c.loop-byte.invariant.end, c.loop-byte.invariant.long)

pub loop-byte-preserved : goal.loop-byte-preserved
loop-byte-preserved c = same_bytes (digits_more c.args.bytes.now c.loop-byte.byte-index (omega arith)) (after c.loop-byte.invariant c.put_pair-next.ensures)

pub returns : goal.returns
returns c = same_bytes (ap encode_upper (take_all c.loop-byte.byte-index c.args.bytes.now (omega arith))) c.loop-byte.invariant
