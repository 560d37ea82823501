use Rattle.plain.proofs.Meaning.{departing_meant}
use Rattle.plain.proofs.departing_meant.Goals as goal

pub returns : goal.returns
returns c = departing_meant
