use Rattle.std.proofs.Common.{ap, arith, length, drop, length-drop, length-take}
use Rattle.std.proofs.lemmas.Str.{utf8_valid_len-IsUtf8}
use Rattle.std.specs.Str.Lossy.{utf8_valid_len}
use Rattle.text.proofs.Back.{fault_one, fault_two}
use Rattle.text.proofs.encoder.fault_at.Goals as goal

pub returns-in-Err : goal.returns-in-Err
returns-in-Err c =
    fault_one (drop c.args.at c.args.s.now) (omega (arith, ap utf8_valid_len c.first_four.ensures, c.in-Err.ensures.valid_len, c.valid_up_to.ensures, c.if-valid_up_to-eq0.true))

pub returns-in_default : goal.returns-in_default
returns-in_default c =
    let e = c.in-Err.ensures.valid_len in
    fault_two (drop c.args.at c.args.s.now) (omega (arith, ap utf8_valid_len c.first_four.ensures, e, c.valid_up_to.ensures, c.if-valid_up_to-eq0.false))

pub returns-in_default-2 : goal.returns-in_default-2
returns-in_default-2 c =
    let four = c.first_four.ensures in
    let all = utf8_valid_len-IsUtf8 c.first_four.result.now (rw c.in_default.is at c.from_utf8.ensures.cases).1 in
    fault_two (drop c.args.at c.args.s.now) (omega (arith, ap utf8_valid_len four, all, ap length four, length-take 4 (drop c.args.at c.args.s.now), length-drop c.args.at c.args.s.now))
