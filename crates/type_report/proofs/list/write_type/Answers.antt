use Rattle.report.proofs.Going.{two}
use Rattle.type_report.specs.Json.{type_line}
use Rattle.type_report.proofs.list.write_type.Goals as goal

pub returns : goal.returns
unfolding type_line
returns g c = two _ _ _ _ _ c.in_ok-write_node.ensures c.in_ok-write_text.ensures
