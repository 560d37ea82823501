use Rattle.le.proofs.Laws.{after}
use Rattle.writing.specs.Layout.{lengths_bytes}
use Rattle.writing.proofs.put_lengths.Goals as goal

pub returns : goal.returns
unfolding lengths_bytes
returns c = after c.put_u16-a.ensures (after c.put_u16-b.ensures c.put_u16.ensures)
