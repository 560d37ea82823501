use Rattle.std.proofs.Common.{Ok, sym, ap, ◌∙◌, arith}
use Rattle.attribute.proofs.Turn.{goes_further}
use Rattle.attribute.proofs.Attributes.ends_from.Goals as goal

pub loop-rest-preserved : goal.loop-rest-preserved
loop-rest-preserved c =
    let g = goes_further _ _ c.loop-rest.rest.count _ _ (sym c.check_two_ends.ensures ∙ c.in_ok-next.was ∙ ap Ok c.in-Some.is) c.loop-rest-test.true in
    record {
      place = omega (arith, g.moved);
      ended = sym g.same ∙ c.loop-rest.invariant.ended;
    }
