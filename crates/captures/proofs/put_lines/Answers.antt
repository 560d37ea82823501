use Rattle.std.proofs.Common.{ℕ, ◌≡◌, ◌∙◌, ap, length, arith, length-append}
use Rattle.std.proofs.lemmas.List.Elements.{All-rest}
use Rattle.le.specs.Put.{put}
use Rattle.refusal.specs.declared.Mode.TheVariants.{Present}
use Rattle.walk.specs.Pieces.{pieces, walker_left}
use Rattle.walk.specs.Unread.{unread_of}
use Rattle.walk.proofs.Forward.{Forward, all_forward}
use Rattle.writing.proofs.Going.{going, goes_on, gone, going_by}
use Rattle.captures.proofs.Pieces.{lines_of, lines_are, line_then, no_line}
use Rattle.captures.proofs.put_lines.Goals as goal

pub loop-piece-init : goal.loop-piece-init
loop-piece-init c =
    let all = c.new-piece-items.ensures.all in
    simp (c.into_iter-piece-iterator.ensures.into_iter_gives, all) (record {
      can = tt;
      ends = tt;
      copied = going _ _ (omega (arith, c.requires, ap length (lines_are (unread_of Present) c.args.upload)));
      forward = all_forward (unread_of Present) c.args.upload (length c.args.upload.now) 0;
    })

pub put_line-at-requires : goal.put_line-at-requires
put_line-at-requires c =
    let k = going_by (line_then c.args.upload.now c.in-Some.ensures.steps.0) c.loop-piece.invariant.copied in
    omega (arith, k.room, length-append {A = ℕ})

pub loop-piece-preserved : goal.loop-piece-preserved
loop-piece-preserved c =
    let turn = c.in-Some.ensures.steps.0 in
    record {
      can = tt;
      ends = tt;
      copied = goes_on _ (going_by (line_then c.args.upload.now turn) c.loop-piece.invariant.copied) c.put_line-at.ensures;
      forward = All-rest (Forward c.args.upload.now) _ _ _ turn c.loop-piece.invariant.forward;
    }

pub returns : goal.returns
returns c =
    let is : walker_left unread_of c.into_iter-piece-iterator.result ≡ pieces (unread_of Present) c.args.upload = simp c.into_iter-piece-iterator.ensures.into_iter_gives c.new-piece-items.ensures.all in
    gone (going_by (no_line c.args.upload.now c.in-None.ensures.steps.0.0) c.loop-piece.invariant.copied)
    ∙ ap (λ ps. put c.args.text.now 0 (lines_of c.args.upload.now ps)) is ∙ ap (put c.args.text.now 0) (lines_are (unread_of Present) c.args.upload)
