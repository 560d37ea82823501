use Rattle.std.proofs.Common.{refl}
use Rattle.name_order.proofs.Order.{name_cut}
use Rattle.name_order.proofs.name_at.Goals as goal

pub returns : goal.returns
returns c = name_cut c.args.places c.args.bytes.now _ c.args.at c.u16_at-told.result c.min.result refl c.u16_at-told.ensures c.min.ensures
