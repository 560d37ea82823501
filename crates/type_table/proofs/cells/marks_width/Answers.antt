use Rattle.type_table.proofs.Words.{marks_wide}
use Rattle.type_table.proofs.cells.marks_width.Goals as goal

pub returns : goal.returns
returns c = cc (marks_wide c.args.marks c.own_width.result c.around_width.result c.own_width.ensures.same c.around_width.ensures.same)
