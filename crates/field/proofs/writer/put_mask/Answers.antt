use Rattle.std.proofs.Common.{arith}
use Rattle.le.proofs.Laws.{same_bytes, wrote_none}
use Rattle.field.specs.Writing.{mask_bytes}
use Rattle.field.proofs.writer.put_mask.Goals as goal

pub returns : goal.returns
unfolding mask_bytes
returns c = same_bytes (simp c.if-here.false) (wrote_none (omega arith))
