use Rattle.std.proofs.Common.{◌≡◌, ◌+◌, ◌-◌, sym, ◌∙◌, arith}
use Rattle.field.proofs.Items.{items_step}
use Rattle.field.proofs.skip.after_items.Goals as goal

pub loop-preserved : goal.loop-preserved
loop-preserved c =
    let e : c.args.count - (c.loop.counter + 1) ≡ c.args.count - c.loop.counter - 1 = omega arith in
    simp (e, c.ahead-left.ensures, c.u32_at.ensures) (sym (items_step c.loop.left.bytes (c.args.count - c.loop.counter) (omega arith) (omega arith)) ∙ c.loop.invariant)
