use Rattle.std.proofs.Common.{◌≡◌, ◌+◌, ◌∙◌, Some, refl, sym, ap, length}
use Rattle.std.proofs.lemmas.List.Elements.{All-rest}
use Rattle.le.specs.Le.{part}
use Rattle.refusal.specs.declared.Mode.TheVariants.{Present}
use Rattle.refusal.specs.declared.Refusal.TheVariants.{NotPlain}
use Rattle.symbol.specs.Symbol.{symbol_of}
use Rattle.walk.specs.Pieces.{pieces, walker_left}
use Rattle.walk.proofs.Forward.{Forward, all_forward}
use Rattle.plain_report.specs.declared.Fault.{Fault}
use Rattle.plain_report.specs.Departure.{first_of, departure_of}
use Rattle.plain_report.proofs.Pieces.{first_on, first_unread, first_departs, first_none}
use Rattle.plain_report.proofs.first_departure.Goals as goal

pub loop-piece-init : goal.loop-piece-init
loop-piece-init g c =
    let all = c.new-piece-items.ensures.all in
    simp (c.into_iter-piece-iterator.ensures.into_iter_gives, all) (record {
      can = tt;
      ends = tt;
      goes = refl;
      forward = all_forward (symbol_of Present) c.args.upload (length c.args.upload.now) 0;
    })

pub returns-in-Err : goal.returns-in-Err
unfolding departure_of
returns-in-Err g c =
    let is : walker_left symbol_of c.into_iter-piece-iterator.result ≡ pieces (symbol_of Present) c.args.upload = simp c.into_iter-piece-iterator.ensures.into_iter_gives c.new-piece-items.ensures.all in
    let e = first_unread c.args.upload.now c.in-Some.ensures.steps.0 _ c.in-Err.is in
    sym (sym c.loop-piece.invariant.goes ∙ e) ∙ ap (first_of c.args.upload.now) is

pub returns-in-Err-departing : goal.returns-in-Err-departing
unfolding departure_of part
returns-in-Err-departing g c =
    let is : walker_left symbol_of c.into_iter-piece-iterator.result ≡ pieces (symbol_of Present) c.args.upload = simp c.into_iter-piece-iterator.ensures.into_iter_gives c.new-piece-items.ensures.all in
    let e = first_departs c.args.upload.now c.in-Some.ensures.steps.0 _ _ c.in-Ok.is (sym c.departing.ensures.value ∙ c.in-Err-departing.is) in
    ap (λ (f : Fault). Some (record { start = c.in-Some.piece.start; why = NotPlain (c.in-Some.piece.start + c.in-Err-departing.place); fault = f })) c.in_ok-fault.ensures
    ∙ sym (sym c.loop-piece.invariant.goes ∙ e)
    ∙ ap (first_of c.args.upload.now) is

pub loop-piece-preserved : goal.loop-piece-preserved
unfolding part
loop-piece-preserved g c =
    let turn = c.in-Some.ensures.steps.0 in
    let e = first_on c.args.upload.now turn _ c.in-Ok.is (sym c.departing.ensures.value ∙ c.in_default.is) in
    record {
      can = tt;
      ends = tt;
      goes = sym e ∙ c.loop-piece.invariant.goes;
      forward = All-rest (Forward c.args.upload.now) _ _ _ turn c.loop-piece.invariant.forward;
    }

pub returns : goal.returns
unfolding departure_of
returns g c =
    let is : walker_left symbol_of c.into_iter-piece-iterator.result ≡ pieces (symbol_of Present) c.args.upload = simp c.into_iter-piece-iterator.ensures.into_iter_gives c.new-piece-items.ensures.all in
    let e = first_none c.args.upload.now c.in-None.ensures.steps.0.0 in
    sym (sym c.loop-piece.invariant.goes ∙ e) ∙ ap (first_of c.args.upload.now) is
