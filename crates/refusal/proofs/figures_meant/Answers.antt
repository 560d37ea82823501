use Rattle.refusal.proofs.FiguresMeant.{figures_meant}
use Rattle.refusal.proofs.figures_meant.Goals as goal

pub returns : goal.returns
returns c = figures_meant
