use Rattle.std.proofs.Common.{◌≡◌, sym, ◌∙◌, Err, rules}
use Rattle.field.proofs.Written.{not_written, passes, too_large, sized}
use Rattle.field.proofs.writer.NewField.wire_size.Goals as goal

pub returns-in_err-check : goal.returns-in_err-check
returns-in_err-check c =
    let e : c.from_residual.result ≡ Err c.in_err-check.field-0.0 = search rules in
    simp (e, not_written c.args.self.now _ (sym c.check.ensures.value ∙ c.in_err-check.was))

pub returns-in_err-check_room : goal.returns-in_err-check_room
returns-in_err-check_room c =
    let e : c.from_residual-in_err-check_room.result ≡ Err c.in_err-check_room.field-0.0 = search rules in
    let p = passes c.args.self.now (sym c.check.ensures.value ∙ c.in_ok-check.was) in
    simp (e, p) (sym (too_large _ _ (simp c.size_of-size.ensures at (sym c.check_room.ensures ∙ c.in_err-check_room.was))))

pub returns : goal.returns
returns c =
    let p = passes c.args.self.now (sym c.check.ensures.value ∙ c.in_ok-check.was) in
    simp (p, c.size_of-size.ensures) (sym (sized _ (simp c.size_of-size.ensures at (sym c.check_room.ensures ∙ c.in_ok-check_room.was))))
