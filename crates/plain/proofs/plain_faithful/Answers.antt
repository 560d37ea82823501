use Rattle.plain.proofs.Faithful.{plain_faithful}
use Rattle.plain.proofs.plain_faithful.Goals as goal

pub returns : goal.returns
returns c = plain_faithful
