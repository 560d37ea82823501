use Rattle.std.proofs.Common.{refl, sym, ◌∙◌}
use Rattle.arguments.specs.Request.{length_of}
use Rattle.arguments.proofs.LengthLaws.{too_long}
use Rattle.arguments.proofs.request.length_of.Goals as goal

pub returns-in-Err : goal.returns-in-Err
unfolding length_of
returns-in-Err c =
    let e = sym c.is_empty.ensures ∙ c.if-is_empty.false in
    let d = sym c.is_digits.ensures ∙ c.if-not-is_digits.false in
    rw (e, d, too_long c.args.word.now e d c.in-Err.ensures.value.0) refl
