use Rattle.le.proofs.Laws.{after}
use Rattle.sheet.proofs.cells.put_number.Goals as goal

pub returns : goal.returns
returns c = after c.put_decimal-next.ensures c.put_u8.ensures
