use Rattle.report.proofs.Texts.{texts_meant}
use Rattle.report.proofs.texts_meant.Goals as goal

pub returns : goal.returns
returns c = texts_meant
