use Rattle.text.proofs.Theory.{bytes_come_back}
use Rattle.text.proofs.bytes_come_back.Goals as goal

pub returns : goal.returns
returns c = bytes_come_back
