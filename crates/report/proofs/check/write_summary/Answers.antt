use Rattle.report.specs.Report.{summary_text}
use Rattle.report.proofs.Going.{two}
use Rattle.report.proofs.check.write_summary.Goals as goal

pub returns : goal.returns
unfolding summary_text
returns g c = two _ _ _ _ _ c.in_ok-write_counts.ensures c.in_ok-write_unread.ensures
