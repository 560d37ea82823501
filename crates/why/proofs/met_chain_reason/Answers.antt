use Rattle.std.proofs.Common.{sym, ◌∙◌, arith}
use Rattle.refactor.proofs.Turn.{room}
use Rattle.why.proofs.Turn.{goes_on}
use Rattle.why.proofs.met_chain_reason.Goals as goal

pub loop-why-smaller : goal.loop-why-smaller
loop-why-smaller c = let r = room c.loop-why.rest.bytes (c.in-Ok.info, c.in-Ok.next) (sym c.in-Ok.ensures) in omega (arith, r)

pub loop-why-preserved : goal.loop-why-preserved
loop-why-preserved c =
    let e = sym c.in-Ok.ensures in
    let r = room c.loop-why.rest.bytes (c.in-Ok.info, c.in-Ok.next) e in
    record {
      room = omega (arith, r);
      same = sym (goes_on c.args.whole c.saturating_sub-place.result c.loop-why.rest.bytes c.loop-why.rest.count _ (c.in-Ok.info, c.in-Ok.next) e c.if-not-info.false c.loop-why.invariant.room) ∙ c.loop-why.invariant.same;
    }
