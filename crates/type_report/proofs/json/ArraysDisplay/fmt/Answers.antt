use Rattle.std.proofs.Common.{codes, sym, ap, rules}
use Rattle.std.proofs.Output.{has_written_of_eq}
use Rattle.type_tree.specs.Joined.{joined}
use Rattle.type_report.specs.Json.{array_text}
use Rattle.type_report.proofs.json.ArraysDisplay.fmt.Goals as goal

pub returns-in-None-clause-writes : goal.returns-in-None-clause-writes
unfolding joined
returns-in-None-clause-writes g c = λ plain ok. has_written_of_eq _ _ _ _ _ (ap (joined (codes ",") array_text) (sym c.in-None.ensures.steps.0)) (search rules)

pub returns-in-Some-clause-writes : goal.returns-in-Some-clause-writes
unfolding joined
returns-in-Some-clause-writes g c = λ plain ok. has_written_of_eq _ _ _ _ _ (ap (joined (codes ",") array_text) (sym c.in-Some.ensures.steps)) (c.write.ensures.writes plain ok)
