use Rattle.std.proofs.Common.{◌≡◌, ◌∙◌, refl, sym, ap, length, Err, rules}
use Rattle.std.proofs.lemmas.List.Elements.{All-rest}
use Rattle.le.specs.Le.{part}
use Rattle.refusal.specs.declared.Mode.TheVariants.{Present}
use Rattle.symbol.specs.Symbol.{symbol_of}
use Rattle.walk.specs.Pieces.{pieces, walker_left}
use Rattle.plain.specs.Plain.{pieces_plain, plain_of}
use Rattle.walk.proofs.Forward.{Forward, all_forward}
use Rattle.plain.proofs.Pieces.{plain_on, plain_stops, plain_departs, plain_none}
use Rattle.plain.proofs.check.Goals as goal

pub loop-piece-init : goal.loop-piece-init
loop-piece-init c =
    let all = c.new-piece-items.ensures.all in
    simp (c.into_iter-piece-iterator.ensures.into_iter_gives, all) (record {
      can = tt;
      ends = tt;
      goes = refl;
      forward = all_forward (symbol_of Present) c.args.upload (length c.args.upload.now) 0;
    })

pub returns-in_err-symbol : goal.returns-in_err-symbol
unfolding plain_of
returns-in_err-symbol c =
    let is : walker_left symbol_of c.into_iter-piece-iterator.result ≡ pieces (symbol_of Present) c.args.upload = simp c.into_iter-piece-iterator.ensures.into_iter_gives c.new-piece-items.ensures.all in
    let e = plain_stops c.args.upload.now c.in-Some.ensures.steps.0 _ c.in_err-symbol.was in
    let f : c.from_residual.result ≡ Err c.in_err-symbol.field-0.0 = search rules in
    f ∙ sym (sym c.loop-piece.invariant.goes ∙ e) ∙ ap (pieces_plain c.args.upload.now) is

pub returns-in-Err : goal.returns-in-Err
unfolding plain_of part
returns-in-Err c =
    let is : walker_left symbol_of c.into_iter-piece-iterator.result ≡ pieces (symbol_of Present) c.args.upload = simp c.into_iter-piece-iterator.ensures.into_iter_gives c.new-piece-items.ensures.all in
    let e = plain_departs c.args.upload.now c.in-Some.ensures.steps.0 _ _ c.in_ok-symbol.was (sym c.departing.ensures.value ∙ c.in-Err.is) in
    sym (sym c.loop-piece.invariant.goes ∙ e) ∙ ap (pieces_plain c.args.upload.now) is

pub loop-piece-preserved : goal.loop-piece-preserved
unfolding part
loop-piece-preserved c =
    let turn = c.in-Some.ensures.steps.0 in
    let e = plain_on c.args.upload.now turn _ c.in_ok-symbol.was (sym c.departing.ensures.value ∙ c.in_default.is) in
    record {
      can = tt;
      ends = tt;
      goes = sym e ∙ c.loop-piece.invariant.goes;
      forward = All-rest (Forward c.args.upload.now) _ _ _ turn c.loop-piece.invariant.forward;
    }

pub returns : goal.returns
unfolding plain_of
returns c =
    let is : walker_left symbol_of c.into_iter-piece-iterator.result ≡ pieces (symbol_of Present) c.args.upload = simp c.into_iter-piece-iterator.ensures.into_iter_gives c.new-piece-items.ensures.all in
    let e = plain_none c.args.upload.now c.in-None.ensures.steps.0.0 in
    sym (sym c.loop-piece.invariant.goes ∙ e) ∙ ap (pieces_plain c.args.upload.now) is
