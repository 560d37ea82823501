use Rattle.std.proofs.Common.{◌≡◌}
use Rattle.walk.specs.Pieces.{pieces, walker_left}
use Rattle.data_type.specs.DataType.{type_of}
use Rattle.type_table.proofs.Rows.{piece_fits, all_fit}
use Rattle.type_table.proofs.table.columns_of.Goals as goal

pub loop-piece-preserved : goal.loop-piece-preserved
loop-piece-preserved c = record {
  can = tt;
  ends = tt;
  fits = piece_fits c.args.upload.now.mode c.loop-piece.columns c.in-Some.ensures.steps.0 c.fit.ensures c.loop-piece.invariant.fits;
}

pub returns : goal.returns
returns c =
    let is : walker_left type_of c.into_iter-piece-iterator.result ≡ pieces (type_of c.args.upload.now.mode) c.args.upload.now.bytes = simp c.into_iter-piece-iterator.ensures.into_iter_gives c.new-piece-items.ensures.all in
    all_fit c.args.upload.now.mode c.in-None.ensures.steps.0.0 c.loop-piece.invariant.fits c.new-columns.ensures is
