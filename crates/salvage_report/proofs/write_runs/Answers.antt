use Rattle.salvage_report.specs.Runs.{run_text}
use Rattle.report.proofs.Going.{goes}
use Rattle.salvage_report.proofs.write_runs.Goals as goal

pub loop-piece-preserved : goal.loop-piece-preserved
loop-piece-preserved g c = record {
  can = tt;
  ends = tt;
  going = goes (run_text c.args.widths) c.in-Some.ensures.steps.0 c.loop-piece.invariant.going c.in_ok-write_run.ensures;
}
