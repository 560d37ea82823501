use Rattle.text.proofs.Faults.{faults_meant}
use Rattle.text.proofs.faults_meant.Goals as goal

pub returns : goal.returns
returns c = faults_meant
