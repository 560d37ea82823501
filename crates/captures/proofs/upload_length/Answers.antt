use Rattle.std.proofs.Common.{◌≡◌, ◌∙◌, Err, rules, sym, ap}
use Rattle.captures.specs.Captures.{told_length}
use Rattle.captures.proofs.Lines.{join_bad, size_passed, size_refused}
use Rattle.captures.proofs.upload_length.Goals as goal

pub returns-in_err-length : goal.returns-in_err-length
returns-in_err-length c =
    let e : c.from_residual.result ≡ Err c.in_err-length.field-0.0 = search rules in
    e ∙ sym (ap told_length (join_bad c.args.text.now c.in_err-length.field-0.0 (sym c.spelt_length.ensures ∙ c.in_err-length.was)))

pub returns-in_err-check_size : goal.returns-in_err-check_size
returns-in_err-check_size c =
    let e : c.from_residual-in_err-check_size.result ≡ Err c.in_err-check_size.field-0.0 = search rules in
    e ∙ sym (size_refused c.args.text.now c.in_ok-length.length (sym c.spelt_length.ensures ∙ c.in_ok-length.was) c.in_err-check_size.field-0.0 (sym c.check_size.ensures ∙ c.in_err-check_size.was))

pub returns : goal.returns
returns c = sym (size_passed c.args.text.now c.in_ok-length.length (sym c.spelt_length.ensures ∙ c.in_ok-length.was) c.in_ok-check_size.field-0 (sym c.check_size.ensures ∙ c.in_ok-check_size.was))
