use Rattle.std.proofs.Common.{arith}
use Rattle.le.proofs.Laws.{same_bytes, wrote_none}
use Rattle.symbol.proofs.writer.put_guid.Goals as goal

pub returns-in-None : goal.returns-in-None
returns-in-None c = same_bytes (simp c.in-None.is) (wrote_none (omega arith))
