use Rattle.std.proofs.Common.{◌≡◌, drop}
use Rattle.std.specs.List.{flat_map}
use Rattle.report.specs.Report.{json_line, tallied, tally_of}
use Rattle.report.proofs.Going.{Going}
use Rattle.branching.specs.Lines.{entries_at, lines}
use Rattle.branching.proofs.write_lines.Given as goal

abbrev pub invariant-loop-start : goal.invariant-loop-start
invariant-loop-start g l = record {
  going : Going (g.W.Write.contents l.fn.out) (g.W.Write.contents l.out) (flat_map json_line (entries_at l.upload (drop l.start-index l.starts))) (lines l.upload l.starts);
  counts : tallied l.tally (entries_at l.upload (drop l.start-index l.starts)) ≡ tally_of (entries_at l.upload l.starts);
}
