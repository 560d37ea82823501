use Rattle.std.proofs.Common.{◌≡◌, ◌∙◌, ap, map}
use Rattle.symbol.specs.Symbol.{symbol_of}
use Rattle.walk.specs.Pieces.{pieces, walker_left}
use Rattle.pairing.specs.Pieces.{piece_of, pieces_of}
use Rattle.pairing.proofs.Going.{mapped, all_mapped}
use Rattle.pairing.proofs.pieces.pieces.Goals as goal

pub loop-step-preserved : goal.loop-step-preserved
loop-step-preserved c = record {
  can = tt;
  ends = tt;
  adds = mapped (piece_of c.args.upload.now.bytes) _ c.in-Some.ensures.steps.0 c.in_ok-push.ensures.items c.piece_of.ensures c.loop-step.invariant.adds;
}

pub returns : goal.returns
unfolding pieces_of
returns c =
    let is : walker_left symbol_of c.into_iter-step-iterator.result ≡ pieces (symbol_of c.args.upload.now.mode) c.args.upload.now.bytes = simp c.into_iter-step-iterator.ensures.into_iter_gives c.new-step-items.ensures.all in
    all_mapped (piece_of c.args.upload.now.bytes) _ c.in-None.ensures.steps.0.0 c.loop-step.invariant.adds ∙ ap (map (piece_of c.args.upload.now.bytes)) is
