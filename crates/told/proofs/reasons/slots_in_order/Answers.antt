use Rattle.told.proofs.Explained.{slots_in_order}
use Rattle.told.proofs.reasons.slots_in_order.Goals as goal

pub returns : goal.returns
returns c = slots_in_order
