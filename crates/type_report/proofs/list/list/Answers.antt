use Rattle.std.proofs.Common.{◌≡◌}
use Rattle.walk.specs.Pieces.{pieces, walker_left}
use Rattle.data_type.specs.DataType.{type_of}
use Rattle.report.proofs.Going.{goes}
use Rattle.type_report.specs.Json.{entry_line}
use Rattle.type_tree.proofs.Counting.{counted_more, counted_all}
use Rattle.type_report.proofs.list.list.Goals as goal

pub loop-piece-preserved : goal.loop-piece-preserved
loop-piece-preserved g c = record {
  can = tt;
  ends = tt;
  going = goes (entry_line c.args.upload.now.mode) c.in-Some.ensures.steps.0 c.loop-piece.invariant.going c.in_ok-write_line.ensures;
  counts = counted_more c.loop-piece.counts c.in-Some.ensures.steps.0 c.count.ensures c.loop-piece.invariant.counts;
}

pub returns-clause-counts : goal.returns-clause-counts
returns-clause-counts g c =
    let is : walker_left type_of c.into_iter-piece-iterator.result ≡ pieces (type_of c.args.upload.now.mode) c.args.upload.now.bytes = simp c.into_iter-piece-iterator.ensures.into_iter_gives c.new-piece-items.ensures.all in
    counted_all c.in-None.ensures.steps.0.0 c.loop-piece.invariant.counts c.new-counts.ensures is
