use Rattle.lineup.proofs.Fields.{fields}
use Rattle.lineup.proofs.fields_line_up.Goals as goal

pub returns : goal.returns
returns c = fields
