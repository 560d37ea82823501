use Rattle.data_type.specs.Members.{root}
use Rattle.data_type.specs.Left.{stack_left}
use Rattle.data_type.proofs.AdsDataTypeInfo.members.Goals as goal

pub returns : goal.returns
unfolding stack_left
returns c = c.first-first.ensures 15 root
