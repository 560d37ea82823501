use Rattle.type_table.proofs.Words.{around_wide}
use Rattle.type_table.proofs.cells.around_width.Goals as goal

pub returns-clause-same : goal.returns-clause-same
returns-clause-same c = cc (around_wide c.args.flags.0)
