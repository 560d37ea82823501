use Rattle.std.proofs.Common.{sym, ap, ◌∙◌}
use Rattle.report.specs.Report.{tallied}
use Rattle.report.specs.Table.{line_text}
use Rattle.report.proofs.Going.{goes}
use Rattle.report.proofs.Tallies.{tallied_more}
use Rattle.branching.proofs.Going.{something_here, nothing_left}
use Rattle.branching.proofs.write_rows.Goals as goal

pub loop-start-preserved : goal.loop-start-preserved
loop-start-preserved g c =
    let here = something_here c.args.upload.now c.args.starts.now c.loop-start.start-index c.loop-start-test.true _ c.in-Some.ensures in
    record {
      going = goes (line_text c.args.columns) here c.loop-start.invariant.going c.in_ok-write_line.ensures;
      counts = tallied_more c.loop-start.tally here c.count.ensures c.loop-start.invariant.counts;
    }

pub returns-clause-tally : goal.returns-clause-tally
unfolding tallied
returns-clause-tally g c = ap (tallied c.loop-start.tally) (sym (nothing_left c.args.upload.now c.args.starts.now c.loop-start.start-index c.loop-start-test.false)) ∙ c.loop-start.invariant.counts
