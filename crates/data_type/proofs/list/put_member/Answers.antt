use Rattle.std.proofs.Common.{refl}
use Rattle.le.proofs.Laws.{put_three, wrote}
use Rattle.data_type.proofs.list.put_member.Goals as goal

pub returns : goal.returns
returns c = simp c.place.ensures (wrote (put_three _ _ _ _ _ c.requires) refl c.requires)
