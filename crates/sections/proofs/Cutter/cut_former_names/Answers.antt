use Rattle.std.proofs.Common.{refl, arith}
use Rattle.refactor.proofs.Left.{listed_most}
use Rattle.sections.proofs.Cutter.cut_former_names.Goals as goal

pub loop-one-init : goal.loop-one-init
loop-one-init c =
    let most = listed_most c.args.symbol.now.refactor_infos.bytes c.args.symbol.now.refactor_infos.count in
    simp c.into_iter-one-iterator.ensures.into_iter_gives (record { can = tt; ends = tt; going = refl; few = omega (arith, most) })
