use Rattle.std.proofs.Common.{ℕ, ◌≡◌, List, ◌++◌, refl, ap, ◌∙◌, length}
use Rattle.std.proofs.lemmas.List.Elements.{All-rest}
use Rattle.symbol.specs.Symbol.{symbol_of}
use Rattle.walk.specs.Pieces.{pieces, walker_left}
use Rattle.salvage.specs.Salvage.{kept}
use Rattle.walk.proofs.Forward.{Forward, all_forward}
use Rattle.report.proofs.Tallies.{tallied_more, tallied_all}
use Rattle.salvage_report.proofs.Kept.{one_more, no_more}
use Rattle.salvage_report.proofs.salvage.Goals as goal

pub loop-piece-init : goal.loop-piece-init
loop-piece-init c =
    let all = c.new-piece-items.ensures.all in
    simp (c.into_iter-piece-iterator.ensures.into_iter_gives, all) (record {
      can = tt;
      ends = tt;
      so = ap (λ (x : List ℕ). x ++ kept c.args.upload.now.bytes.now (pieces (symbol_of c.args.upload.now.mode) c.args.upload.now.bytes)) c.new-kept.ensures.items;
      counts = refl;
      forward = all_forward (symbol_of c.args.upload.now.mode) c.args.upload.now.bytes (length c.args.upload.now.bytes.now) 0;
    })

pub loop-piece-preserved : goal.loop-piece-preserved
loop-piece-preserved c =
    let turn = c.in-Some.ensures.steps.0 in
    let i = c.loop-piece.invariant in
    record {
      can = tt;
      ends = tt;
      so = one_more c.args.upload.now.bytes.now _ turn c.in_ok-keep.ensures i.so;
      counts = tallied_more c.loop-piece.tally turn c.count.ensures i.counts;
      forward = All-rest (Forward c.args.upload.now.bytes.now) _ _ _ turn i.forward;
    }

pub returns-clause-kept : goal.returns-clause-kept
returns-clause-kept c =
    let is : walker_left symbol_of c.into_iter-piece-iterator.result ≡ pieces (symbol_of c.args.upload.now.mode) c.args.upload.now.bytes = simp c.into_iter-piece-iterator.ensures.into_iter_gives c.new-piece-items.ensures.all in
    no_more c.args.upload.now.bytes.now c.in-None.ensures.steps.0.0 c.loop-piece.invariant.so ∙ ap (λ ps. kept c.args.upload.now.bytes.now ps) is

pub returns-clause-tally : goal.returns-clause-tally
returns-clause-tally c =
    let is : walker_left symbol_of c.into_iter-piece-iterator.result ≡ pieces (symbol_of c.args.upload.now.mode) c.args.upload.now.bytes = simp c.into_iter-piece-iterator.ensures.into_iter_gives c.new-piece-items.ensures.all in
    tallied_all c.in-None.ensures.steps.0.0 c.loop-piece.invariant.counts c.new-tally.ensures is
