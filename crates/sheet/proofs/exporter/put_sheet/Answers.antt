use Rattle.std.proofs.Common.{ℕ, List, ◌≡◌, ◌+◌, ◌++◌, ◌≤◌, ◌∙◌, sym, ap, length, arith, length-append}
use Rattle.le.specs.Put.{put}
use Rattle.refusal.specs.declared.Mode.TheVariants.{Present}
use Rattle.symbol.specs.Symbol.{symbol_of}
use Rattle.walk.specs.Pieces.{pieces, walker_left}
use Rattle.writing.proofs.Going.{going, goes_on, gone, going_by}
use Rattle.sheet.specs.Cells.{header}
use Rattle.sheet.specs.Export.{pieces_text}
use Rattle.sheet.proofs.Pieces.{row_then, none_then, no_text}
use Rattle.sheet.proofs.exporter.put_sheet.Goals as goal

pub put_bytes-at-requires : goal.put_bytes-at-requires
unfolding header
put_bytes-at-requires c = omega (arith, c.requires, length-append header (pieces_text (pieces (symbol_of Present) c.args.upload)))

pub loop-piece-init : goal.loop-piece-init
unfolding header
loop-piece-init c =
    let all = c.new-piece-items.ensures.all in
    simp (c.into_iter-piece-iterator.ensures.into_iter_gives, all) (record {
      can = tt;
      ends = tt;
      copied = goes_on header (going c.args.out.now (header ++ pieces_text (pieces (symbol_of Present) c.args.upload)) (omega (arith, c.requires))) c.put_bytes-at.ensures;
    })

pub put_row-at-requires : goal.put_row-at-requires
put_row-at-requires c =
    let k = going_by (row_then c.in-Some.ensures.steps.0 c.in-Ok.symbol c.in-Ok.is) c.loop-piece.invariant.copied in
    omega (arith, k.room, length-append {A = ℕ})

pub loop-piece-preserved-in-Ok : goal.loop-piece-preserved-in-Ok
loop-piece-preserved-in-Ok c = record {
  can = tt;
  ends = tt;
  copied = goes_on _ (going_by (row_then c.in-Some.ensures.steps.0 c.in-Ok.symbol c.in-Ok.is) c.loop-piece.invariant.copied) c.put_row-at.ensures;
}

pub loop-piece-preserved : goal.loop-piece-preserved
loop-piece-preserved c = record {
  can = tt;
  ends = tt;
  copied = going_by (none_then c.in-Some.ensures.steps.0 c.in_default.field-0 c.in_default.is) c.loop-piece.invariant.copied;
}

pub returns : goal.returns
returns c =
    let is : walker_left symbol_of c.into_iter-piece-iterator.result ≡ pieces (symbol_of Present) c.args.upload = simp c.into_iter-piece-iterator.ensures.into_iter_gives c.new-piece-items.ensures.all in
    gone (going_by (no_text c.in-None.ensures.steps.0.0) c.loop-piece.invariant.copied)
    ∙ ap (λ ps. put c.args.out.now 0 (header ++ pieces_text ps)) is
