use Rattle.writing.proofs.Meant.{layouts_meant}
use Rattle.writing.proofs.layouts_meant.Goals as goal

pub returns : goal.returns
returns c = layouts_meant
