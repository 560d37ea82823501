use Rattle.type_find.proofs.Meaning.{refused_is_nowhere}
use Rattle.type_find.proofs.refused_is_nowhere.Goals as goal

pub returns : goal.returns
returns c = refused_is_nowhere
