use Rattle.writing.proofs.Meant.{writes_meant}
use Rattle.writing.proofs.writes_meant.Goals as goal

pub returns : goal.returns
returns c = writes_meant
