use Rattle.types_regrown.specs.Plain.{plain_at}
use Rattle.types_regrown.proofs.plain_entries.Goals as goal

pub returns : goal.returns
returns c = plain_at
