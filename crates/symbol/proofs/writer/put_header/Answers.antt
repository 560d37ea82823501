use Rattle.le.proofs.Laws.{after}
use Rattle.symbol.specs.Writing.{header_bytes}
use Rattle.symbol.proofs.writer.put_header.Goals as goal

pub returns : goal.returns
unfolding header_bytes
returns c = after c.put_numbers-a.ensures c.put_lengths.ensures
