use Rattle.std.proofs.Common.{arith}
use Rattle.le.proofs.Laws.{same_bytes, wrote_none}
use Rattle.symbol.proofs.writer.put_extended.Goals as goal

pub returns : goal.returns
returns c = same_bytes (simp c.if-here.false) (wrote_none (omega arith))
