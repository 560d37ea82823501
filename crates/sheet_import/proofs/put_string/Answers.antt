use Rattle.le.proofs.Laws.{after}
use Rattle.sheet_import.proofs.put_string.Goals as goal

pub returns : goal.returns
returns c = after c.put_string-end.ensures c.put_u8.ensures
