use Rattle.type_report.proofs.Levels.{objects_meant}
use Rattle.type_report.proofs.theorems.objects_meant.Goals as goal

pub returns : goal.returns
returns c = objects_meant
