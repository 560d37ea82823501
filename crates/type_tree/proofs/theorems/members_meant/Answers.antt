use Rattle.type_tree.proofs.SubItems.{members_meant}
use Rattle.type_tree.proofs.theorems.members_meant.Goals as goal

pub returns : goal.returns
returns c = members_meant
