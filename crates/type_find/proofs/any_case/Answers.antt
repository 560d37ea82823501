use Rattle.type_find.proofs.Meaning.{any_case}
use Rattle.type_find.proofs.any_case.Goals as goal

pub returns : goal.returns
returns c = any_case
