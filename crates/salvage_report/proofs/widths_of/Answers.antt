use Rattle.std.proofs.Common.{◌≡◌}
use Rattle.symbol.specs.Symbol.{symbol_of}
use Rattle.walk.specs.Pieces.{pieces, walker_left}
use Rattle.salvage_report.proofs.Widening.{fitted_more, fitted_all}
use Rattle.salvage_report.proofs.widths_of.Goals as goal

pub loop-piece-preserved : goal.loop-piece-preserved
loop-piece-preserved c = record {
  can = tt;
  ends = tt;
  fits = fitted_more c.loop-piece.widths c.in-Some.ensures.steps.0 c.fit.ensures c.loop-piece.invariant.fits;
}

pub returns : goal.returns
returns c =
    let is : walker_left symbol_of c.into_iter-piece-iterator.result ≡ pieces (symbol_of c.args.upload.now.mode) c.args.upload.now.bytes = simp c.into_iter-piece-iterator.ensures.into_iter_gives c.new-piece-items.ensures.all in
    fitted_all c.in-None.ensures.steps.0.0 c.loop-piece.invariant.fits c.new-widths.ensures is
