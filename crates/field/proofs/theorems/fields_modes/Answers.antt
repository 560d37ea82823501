use Rattle.field.proofs.Modes.{fields_modes}
use Rattle.field.proofs.theorems.fields_modes.Goals as goal

pub returns : goal.returns
returns c = fields_modes
