use Rattle.branching.proofs.Going.{first_left}
use Rattle.branching.proofs.entry_at.Goals as goal

pub returns : goal.returns
returns c = first_left c.args.upload.now c.args.start _ _ c.new-walker.ensures.upload c.new-walker.ensures.mode_asked _ _ c.next.ensures.steps.0
