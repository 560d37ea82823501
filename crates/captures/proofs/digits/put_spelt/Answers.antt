use Rattle.std.proofs.Common.{◌+◌, ◌*◌, length, arith}
use Rattle.hex.specs.Hex.{decode_of}
use Rattle.le.specs.Put.{Wrote}
use Rattle.captures.proofs.Pairs.{pair_bytes, fit, none_spelt, more_spelt, all_spelt, spelt_at, if_ok, decoded}
use Rattle.captures.proofs.digits.put_spelt.Goals as goal

pub loop-i-init : goal.loop-i-init
loop-i-init c = let f = fit c.args.pairs.now c.args.at (length c.args.out.now) c.requires in none_spelt c.args.out.now c.args.at (omega (arith, f.room))

pub value-requires : goal.value-requires
value-requires c = let f = fit c.args.pairs.now c.args.at (length c.args.out.now) c.requires in f.pairs.digit (2 * c.loop-i.i) (omega arith)

pub value-requires-in-loop-i : goal.value-requires-in-loop-i
value-requires-in-loop-i c = let f = fit c.args.pairs.now c.args.at (length c.args.out.now) c.requires in f.pairs.digit (2 * c.loop-i.i + 1) (omega arith)

pub bounds-out-at : goal.bounds-out-at
bounds-out-at c = let f = fit c.args.pairs.now c.args.at (length c.args.out.now) c.requires in omega (arith, f.room, f.pairs.long, c.loop-i.invariant.long)

pub loop-i-preserved : goal.loop-i-preserved
loop-i-preserved c =
    let f = fit c.args.pairs.now c.args.at (length c.args.out.now) c.requires in
    more_spelt (pair_bytes c.args.pairs.now) _ c.loop-i.invariant (omega (arith, f.pairs.long)) f.room
    (spelt_at c.args.pairs.now c.loop-i.i c.value.result c.value-in-loop-i.result (omega arith) c.value.ensures.told c.value-in-loop-i.ensures.told)

pub returns : goal.returns
returns c =
    let f = fit c.args.pairs.now c.args.at (length c.args.out.now) c.requires in
    if_ok (decode_of c.args.pairs.now) (λ bytes. Wrote c.args.out.now c.args.at bytes c.loop-i.out _)
    (λ bytes h. all_spelt (pair_bytes c.args.pairs.now) bytes c.loop-i.invariant (omega (arith, f.pairs.long)) (omega arith) (decoded c.args.pairs.now bytes h))
