use Rattle.writing.proofs.Meant.{checks_meant}
use Rattle.writing.proofs.checks_meant.Goals as goal

pub returns : goal.returns
returns c = checks_meant
