use Rattle.std.proofs.Common.{arith}
use Rattle.le.proofs.Laws.{after, same_bytes, wrote_none}
use Rattle.writing.specs.Layout.{attributes_bytes}
use Rattle.writing.proofs.put_attributes.Goals as goal

pub returns-then-flagged : goal.returns-then-flagged
unfolding attributes_bytes
returns-then-flagged c = same_bytes (simp c.if-flagged.true) (after c.put_u16-a.ensures c.put_bytes.ensures)

pub returns : goal.returns
unfolding attributes_bytes
returns c = same_bytes (simp c.if-flagged.false) (wrote_none (omega arith))
