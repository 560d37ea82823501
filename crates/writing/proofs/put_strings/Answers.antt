use Rattle.le.proofs.Laws.{after}
use Rattle.writing.specs.Layout.{strings_bytes}
use Rattle.writing.proofs.put_strings.Goals as goal

pub returns : goal.returns
unfolding strings_bytes
returns c = after c.put_string-a.ensures (after c.put_string-b.ensures c.put_string.ensures)
