use Rattle.std.proofs.Common.{◌<◌, ◌∙◌, length, refl, arith, length-set}
use Rattle.data_type.specs.Left.{standing}
use Rattle.data_type.proofs.Stack.{standing_next}
use Rattle.data_type.proofs.members.Members.standing.Goals as goal

pub loop-level-init : goal.loop-level-init
unfolding standing
loop-level-init c = record { stands = refl; small = omega arith; long = refl }

pub loop-level-preserved : goal.loop-level-preserved
loop-level-preserved c =
    let h = c.loop-level.invariant in
    let n : c.loop-level.level < length c.args.self.now.levels = omega (arith, c.type_inv.self, c.loop-level-test.true, c.requires) in
    record {
      stands = standing_next c.args.self.now.levels c.loop-level.level _ c.loop-level.path c.loop-level.offset n (omega (arith, c.loop-level-test.true, c.requires)) h.stands;
      small = omega (arith, h.small, c.type_inv.self);
      long = length-set c.loop-level.path c.loop-level.level _ ∙ h.long;
    }
