use Rattle.bindings_meant.proofs.Cases.{any_case}
use Rattle.bindings_meant.proofs.any_case.Goals as goal

pub returns : goal.returns
returns c = any_case
