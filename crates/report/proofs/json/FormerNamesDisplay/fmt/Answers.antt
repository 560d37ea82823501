use Rattle.std.proofs.Common.{sym, ap, rules}
use Rattle.std.proofs.Output.{has_written_of_eq}
use Rattle.report.specs.Json.{formers_text}
use Rattle.report.proofs.json.FormerNamesDisplay.fmt.Goals as goal

pub returns-in-None-clause-writes : goal.returns-in-None-clause-writes
unfolding formers_text
returns-in-None-clause-writes g c = λ plain ok. has_written_of_eq _ _ _ _ _ (ap formers_text (sym c.in-None.ensures.steps.0.0)) (search rules)

pub returns-in-Some-clause-writes : goal.returns-in-Some-clause-writes
unfolding formers_text
returns-in-Some-clause-writes g c = λ plain ok. has_written_of_eq _ _ _ _ _ (ap formers_text (sym c.in-Some.ensures.steps.0)) (c.write.ensures.writes plain ok)
