use Rattle.type_table.proofs.Words.{own_wide}
use Rattle.type_table.proofs.cells.own_width.Goals as goal

pub returns-clause-same : goal.returns-clause-same
returns-clause-same c = cc (own_wide c.args.flags.0)
