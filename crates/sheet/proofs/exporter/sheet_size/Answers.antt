use Rattle.std.proofs.Common.{ℕ, ◌≡◌, ◌+◌, ◌-◌, ◌≤◌, ◌∙◌, refl, sym, ap, length, List, Err, rules, arith}
use Rattle.std.proofs.lemmas.List.Elements.{All-rest}
use Rattle.le.specs.Le.{part}
use Rattle.le.proofs.Laws.{length_part}
use Rattle.refusal.specs.declared.Mode.TheVariants.{Present}
use Rattle.symbol.specs.Symbol.{symbol_of}
use Rattle.walk.specs.Pieces.{pieces, walker_left}
use Rattle.sheet.specs.Export.{rows_of, rows_from}
use Rattle.sheet.proofs.Pieces.{Lies, first_lies, all_lie, sized, rows_on, rows_stop, rows_barred, rows_none, sized_all}
use Rattle.sheet.proofs.exporter.sheet_size.Goals as goal

pub loop-piece-init : goal.loop-piece-init
loop-piece-init c =
    let all = c.new-piece-items.ensures.all in
    simp (c.into_iter-piece-iterator.ensures.into_iter_gives, all) (record {
      can = tt;
      ends = tt;
      goes = refl;
      counted = omega arith;
      small = omega arith;
      lie = all_lie c.args.upload (length c.args.upload.now) 0;
    })

pub returns-in_err-symbol : goal.returns-in_err-symbol
unfolding rows_of
returns-in_err-symbol c =
    let is : walker_left symbol_of c.into_iter-piece-iterator.result ≡ pieces (symbol_of Present) c.args.upload = simp c.into_iter-piece-iterator.ensures.into_iter_gives c.new-piece-items.ensures.all in
    let e = rows_stop c.args.upload.now c.loop-piece.entry c.loop-piece.size c.in-Some.ensures.steps.0 _ c.in_err-symbol.was in
    let f : c.from_residual.result ≡ Err c.in_err-symbol.field-0.0 = search rules in
    f ∙ sym (sym c.loop-piece.invariant.goes ∙ e) ∙ ap (λ ps. sized 56 (rows_from c.args.upload.now 0 ps)) is ∙ sized_all c.args.upload

pub check_symbol-requires : goal.check_symbol-requires
unfolding part
check_symbol-requires c =
    let lies = first_lies c.in-Some.ensures.steps.0 c.loop-piece.invariant.lie in
    let l = length_part c.args.upload.now c.in-Some.piece.start (c.in-Some.piece.end - c.in-Some.piece.start) (omega (arith, lies.forward.0, lies.forward.1)) in
    omega (arith, lies.strings c.in_ok-symbol.symbol c.in_ok-symbol.was, l)

pub row_size-size-requires : goal.row_size-size-requires
row_size-size-requires c =
    let lies = first_lies c.in-Some.ensures.steps.0 c.loop-piece.invariant.lie in
    let strings = lies.strings c.in_ok-symbol.symbol c.in_ok-symbol.was in
    record { name = omega (arith, strings, lies.forward.1, c.requires); type_name = omega (arith, strings, lies.forward.1, c.requires); comment = omega (arith, strings, lies.forward.1, c.requires) }

pub returns-in_err-check_symbol : goal.returns-in_err-check_symbol
unfolding rows_of part
returns-in_err-check_symbol c =
    let is : walker_left symbol_of c.into_iter-piece-iterator.result ≡ pieces (symbol_of Present) c.args.upload = simp c.into_iter-piece-iterator.ensures.into_iter_gives c.new-piece-items.ensures.all in
    let e = rows_barred c.args.upload.now c.loop-piece.entry c.loop-piece.size c.in-Some.ensures.steps.0 _ _ c.in_ok-symbol.was (sym c.check_symbol.ensures ∙ c.in_err-check_symbol.was) in
    let f : c.from_residual-in_err-check_symbol.result ≡ Err c.in_err-check_symbol.field-0.0 = search rules in
    f ∙ sym (sym c.loop-piece.invariant.goes ∙ e) ∙ ap (λ ps. sized 56 (rows_from c.args.upload.now 0 ps)) is ∙ sized_all c.args.upload

pub loop-piece-preserved : goal.loop-piece-preserved
unfolding part
loop-piece-preserved c =
    let turn = c.in-Some.ensures.steps.0 in
    let e = rows_on c.args.upload.now c.loop-piece.entry c.loop-piece.size turn _ c.in_ok-symbol.was (sym c.check_symbol.ensures ∙ c.in_ok-check_symbol.was) in
    record {
      can = tt;
      ends = tt;
      goes = ap (λ n. sized (c.loop-piece.size + n) (rows_from c.args.upload.now (c.loop-piece.entry + 1) (walker_left symbol_of c.next.new.self))) c.row_size-size.ensures.value ∙ sym e ∙ c.loop-piece.invariant.goes;
      counted = omega (arith, c.loop-piece.invariant.counted, ap length turn);
      small = omega (arith, c.loop-piece.invariant.small, c.row_size-size.ensures.small);
      lie = All-rest (Lies c.args.upload.now) _ _ _ turn c.loop-piece.invariant.lie;
    }

pub overflow_add-size : goal.overflow_add-size
overflow_add-size c =
    let few : length (walker_left symbol_of c.into_iter-piece-iterator.result) ≤ length c.args.upload.now = simp c.into_iter-piece-iterator.ensures.into_iter_gives c.new-piece-items.ensures.few in
    omega (arith, few, c.requires, c.loop-piece.invariant.counted, c.loop-piece.invariant.small, c.row_size-size.ensures.small)

pub returns : goal.returns
unfolding rows_of
returns c =
    let is : walker_left symbol_of c.into_iter-piece-iterator.result ≡ pieces (symbol_of Present) c.args.upload = simp c.into_iter-piece-iterator.ensures.into_iter_gives c.new-piece-items.ensures.all in
    let e = rows_none c.args.upload.now c.loop-piece.entry c.loop-piece.size c.in-None.ensures.steps.0.0 in
    sym (sym c.loop-piece.invariant.goes ∙ e) ∙ ap (λ ps. sized 56 (rows_from c.args.upload.now 0 ps)) is ∙ sized_all c.args.upload
