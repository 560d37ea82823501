use Rattle.std.proofs.Common.{◌≡◌, drop}
use Rattle.std.specs.List.{flat_map}
use Rattle.report.specs.Report.{tallied, tally_of}
use Rattle.report.specs.Table.{line_text}
use Rattle.report.proofs.Going.{Going}
use Rattle.branching.specs.Lines.{entries_at}
use Rattle.branching.proofs.write_rows.Given as goal

abbrev pub invariant-loop-start : goal.invariant-loop-start
invariant-loop-start g l = record {
  going : Going (g.W.Write.contents l.fn.out) (g.W.Write.contents l.out) (flat_map (line_text l.columns) (entries_at l.upload (drop l.start-index l.starts))) (flat_map (line_text l.columns) (entries_at l.upload l.starts));
  counts : tallied l.tally (entries_at l.upload (drop l.start-index l.starts)) ≡ tally_of (entries_at l.upload l.starts);
}
