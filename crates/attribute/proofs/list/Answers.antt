use Rattle.std.proofs.Common.{◌≡◌, ◌+◌, ◌-◌, ◌<◌, length, sym, ap, ◌∙◌, arith}
use Rattle.attribute.proofs.Laws.{listed_step, after_step, stopped_step, some_left}
use Rattle.attribute.proofs.list.Goals as goal

pub loop-listed-preserved : goal.loop-listed-preserved
loop-listed-preserved c =
    let f = sym c.first.ensures ∙ c.in-Ok.is in
    let i = c.loop-listed.invariant in
    let k = c.loop-listed.listed.attributes.count in
    let some : 0 < c.args.most - k = omega (arith, c.loop-listed-test.true) in
    let more : 0 < length c.in-Ok.rest.now = some_left _ (sym c.is_empty.ensures ∙ c.if-is_empty.false) in
    let one : c.args.most - k - 1 ≡ c.args.most - (k + 1) = omega arith in
    record {
      bytes = i.bytes;
      most = omega (arith, c.loop-listed-test.true);
      none = i.none;
      listed = omega (arith, rw one at (ap length (listed_step _ _ _ f some)), i.listed);
      stopped = sym (rw one at (stopped_step _ _ _ f some more)) ∙ i.stopped;
      after = sym (rw one at (after_step _ _ _ f some)) ∙ i.after;
    }
