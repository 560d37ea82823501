use Rattle.name_order.proofs.Letters.{order_meant}
use Rattle.name_order.proofs.order_meant.Goals as goal

pub returns : goal.returns
returns c = order_meant
