use Rattle.plain.proofs.Checked.{plain_checked}
use Rattle.plain.proofs.plain_checked.Goals as goal

pub returns : goal.returns
returns c = plain_checked
