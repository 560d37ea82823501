use Rattle.std.proofs.Common.{◌≡◌, ◌≤◌, ◌++◌, refl, sym, ap, ◌∙◌, arith}
use Rattle.std.proofs.lemmas.List.Elements.{All-head, All-rest}
use Rattle.refusal.specs.Refusal.{limit}
use Rattle.symbol.specs.Symbol.{symbol_of}
use Rattle.walk.specs.Pieces.{pieces, walker_left}
use Rattle.index.proofs.Laws.{all_small}
use Rattle.branching.specs.Ordered.{refused_of}
use Rattle.branching.proofs.Going.{not_added, added, all_added}
use Rattle.branching.proofs.push_refused.Goals as goal

pub loop-piece-init : goal.loop-piece-init
loop-piece-init c =
    simp (c.into_iter-piece-iterator.ensures.into_iter_gives, c.new-piece-items.ensures.all) (record {
      can = tt;
      ends = tt;
      adds = refl;
      small = all_small (symbol_of c.args.upload.now.mode) c.args.upload.now.bytes c.requires;
    })

pub loop-piece-preserved-then-is_ok : goal.loop-piece-preserved-then-is_ok
loop-piece-preserved-then-is_ok c =
    let turn = c.in-Some.ensures.steps.0 in
    record {
      can = tt;
      ends = tt;
      adds = not_added _ turn (sym c.is_ok.ensures.value ∙ c.if-is_ok.true) c.loop-piece.invariant.adds;
      small = All-rest (λ p. p.start ≤ limit) _ _ _ turn c.loop-piece.invariant.small;
    }

pub overflow_cast-piece : goal.overflow_cast-piece
overflow_cast-piece c =
    let small : c.in-Some.piece.start ≤ limit = All-head (λ p. p.start ≤ limit) c.in-Some.piece _ (simp c.in-Some.ensures.steps.0 at c.loop-piece.invariant.small) in
    omega arith

pub loop-piece-preserved : goal.loop-piece-preserved
loop-piece-preserved c =
    let turn = c.in-Some.ensures.steps.0 in
    record {
      can = tt;
      ends = tt;
      adds = added _ turn (sym c.is_ok.ensures.value ∙ c.if-is_ok.false) c.in_ok-push.ensures.items c.loop-piece.invariant.adds;
      small = All-rest (λ p. p.start ≤ limit) _ _ _ turn c.loop-piece.invariant.small;
    }

pub returns : goal.returns
returns c =
    let is : walker_left symbol_of c.into_iter-piece-iterator.result ≡ pieces (symbol_of c.args.upload.now.mode) c.args.upload.now.bytes = simp c.into_iter-piece-iterator.ensures.into_iter_gives c.new-piece-items.ensures.all in
    all_added _ c.in-None.ensures.steps.0.0 c.loop-piece.invariant.adds ∙ ap (λ ps. c.args.starts.now.items ++ refused_of ps) is
