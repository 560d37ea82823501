use Rattle.le.proofs.Laws.{after}
use Rattle.writing.proofs.put_string.Goals as goal

pub returns : goal.returns
returns c = after c.put_bytes-a.ensures c.put_u8.ensures
