use Rattle.text.proofs.Laws.{writes_done}
use Rattle.text.proofs.put_same.Goals as goal

pub returns : goal.returns
returns c = writes_done c.put_bytes.ensures
