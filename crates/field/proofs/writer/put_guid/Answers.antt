use Rattle.std.proofs.Common.{arith}
use Rattle.le.proofs.Laws.{same_bytes, wrote_none}
use Rattle.field.specs.Writing.{guid_bytes}
use Rattle.field.proofs.writer.put_guid.Goals as goal

pub returns-then-not-here : goal.returns-then-not-here
unfolding guid_bytes
returns-then-not-here c = same_bytes (simp c.if-not-here.true) (wrote_none (omega arith))
