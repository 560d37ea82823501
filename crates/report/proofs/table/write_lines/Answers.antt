use Rattle.std.proofs.Common.{◌≡◌}
use Rattle.symbol.specs.Symbol.{symbol_of}
use Rattle.walk.specs.Pieces.{pieces, walker_left}
use Rattle.report.specs.Table.{line_text}
use Rattle.report.proofs.Going.{goes}
use Rattle.report.proofs.Tallies.{tallied_more, tallied_all}
use Rattle.report.proofs.table.write_lines.Goals as goal

pub loop-piece-preserved : goal.loop-piece-preserved
loop-piece-preserved g c = record {
  can = tt;
  ends = tt;
  going = goes (line_text c.args.columns) c.in-Some.ensures.steps.0 c.loop-piece.invariant.going c.in_ok-write_line.ensures;
  counts = tallied_more c.loop-piece.tally c.in-Some.ensures.steps.0 c.count.ensures c.loop-piece.invariant.counts;
}

pub returns-clause-tally : goal.returns-clause-tally
returns-clause-tally g c =
    let is : walker_left symbol_of c.into_iter-piece-iterator.result ≡ pieces (symbol_of c.args.upload.now.mode) c.args.upload.now.bytes = simp c.into_iter-piece-iterator.ensures.into_iter_gives c.new-piece-items.ensures.all in
    tallied_all c.in-None.ensures.steps.0.0 c.loop-piece.invariant.counts c.new-tally.ensures is
