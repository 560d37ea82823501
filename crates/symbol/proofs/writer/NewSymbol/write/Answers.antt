use Rattle.std.proofs.Common.{sym, ◌∙◌, ◌≡◌, arith, rules, Err}
use Rattle.writing.proofs.Laws.{refuses}
use Rattle.writing.proofs.Entry.{room_passed, no_room, written_whole}
use Rattle.symbol.specs.Writing.{symbol_written}
use Rattle.symbol.proofs.Sizes.{passes}
use Rattle.symbol.proofs.writer.NewSymbol.write.Goals as goal

pub returns-in_err-check : goal.returns-in_err-check
unfolding symbol_written
returns-in_err-check c =
    let e : c.from_residual.result ≡ Err c.in_err-check.field-0.0 = search rules in
    simp e (refuses (simp (← c.check.ensures.value, c.in_err-check.was)))

pub returns-in_err-check_room : goal.returns-in_err-check_room
returns-in_err-check_room c =
    let e : c.from_residual-in_err-check_room.result ≡ Err c.in_err-check_room.field-0.0 = search rules in
    simp e (no_room _ (passes _ (sym c.check.ensures.value ∙ c.in_ok-check.was)) (sym c.size_of-size.ensures) (sym c.check_room.ensures ∙ c.in_err-check_room.was))

pub overflow_cast-size : goal.overflow_cast-size
overflow_cast-size c = let r = room_passed _ _ (sym c.check_room.ensures ∙ c.in_ok-check_room.was) in omega arith

pub put_symbol-requires-clause-size_in_bounds : goal.put_symbol-requires-clause-size_in_bounds
put_symbol-requires-clause-size_in_bounds c = (room_passed _ _ (sym c.check_room.ensures ∙ c.in_ok-check_room.was)).1

pub returns : goal.returns
returns c =
    let r = room_passed _ _ (sym c.check_room.ensures ∙ c.in_ok-check_room.was) in
    written_whole _ (passes _ (sym c.check.ensures.value ∙ c.in_ok-check.was)) (omega (arith, c.size_of-size.ensures)) c.put_symbol.ensures
