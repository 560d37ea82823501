use Rattle.std.proofs.Common.{Ok, sym, ap, ◌∙◌, arith}
use Rattle.refactor.proofs.Turn.{goes_further}
use Rattle.refactor.proofs.ends_from.Goals as goal

pub loop-next-smaller : goal.loop-next-smaller
loop-next-smaller c =
    let g = goes_further _ _ c.loop-next.rest.count _ _ _ (sym c.check_end.ensures ∙ c.in_ok-next.was ∙ ap Ok c.in-Some.is) c.loop-next.invariant.room in
    omega (arith, g.shorter)

pub loop-next-preserved : goal.loop-next-preserved
loop-next-preserved c =
    let g = goes_further _ _ c.loop-next.rest.count _ _ _ (sym c.check_end.ensures ∙ c.in_ok-next.was ∙ ap Ok c.in-Some.is) c.loop-next.invariant.room in
    record {
      room = omega (arith, g.shorter);
      place = omega (arith, g.moved);
      same = sym g.same ∙ c.loop-next.invariant.same;
    }
