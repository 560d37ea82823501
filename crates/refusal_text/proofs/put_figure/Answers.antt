use Rattle.std.proofs.Common.{sym, ap, arith}
use Rattle.le.proofs.Laws.{wrote_none, same_bytes}
use Rattle.refusal.specs.Text.{figure}
use Rattle.refusal_text.proofs.put_figure.Goals as goal

pub returns-in_default : goal.returns-in_default
returns-in_default c = same_bytes (sym (ap figure c.in_default.is)) (wrote_none (omega (arith, c.requires)))
