use Rattle.plain.proofs.Meaning.{plain_meant}
use Rattle.plain.proofs.plain_meant.Goals as goal

pub returns : goal.returns
returns c = plain_meant
