use Rattle.std.proofs.Common.{ℕ, ◌≡◌, ◌+◌, take, length, arith, sym, ap, ◌∙◌, length-drop, length-take-le, List, Err, rules}
use Rattle.captures.specs.Captures.{lines, joined}
use Rattle.captures.proofs.Pairs.{few_told}
use Rattle.captures.proofs.Lines.{with_length, none_before, length_more, length_bad, length_last, length_last_bad}
use Rattle.captures.proofs.spelt_length.Goals as goal

pub loop-end-init : goal.loop-end-init
loop-end-init c = record { few = omega arith; told = none_before (joined (lines c.args.text.now)) }

pub returns-in_err-length : goal.returns-in_err-length
returns-in_err-length c =
    let e : c.from_residual.result ≡ Err c.in_err-length.field-0.0 = search rules in
    e ∙ sym (length_bad c.loop-end.rest.now c.in-Some.end c.in-Some.ensures c.loop-end.length c.in_err-length.field-0.0 (sym c.line_length.ensures ∙ c.in_err-length.was)) ∙ c.loop-end.invariant.told

pub overflow_add-length : goal.overflow_add-length
overflow_add-length c =
    let few = few_told (take c.in-Some.end c.loop-end.rest.now) c.in_ok-length.field-0 (sym c.line_length.ensures ∙ c.in_ok-length.was) in
    omega (arith, few, c.loop-end.invariant.few, length-take-le c.in-Some.end c.loop-end.rest.now (omega (arith, c.in-Some.ensures.0.high)), c.in-Some.ensures.0.high)

pub loop-end-smaller : goal.loop-end-smaller
loop-end-smaller c = omega (arith, ap length c.behind-rest.ensures, length-drop (c.in-Some.end + 1) c.loop-end.rest.now, c.in-Some.ensures.0.high)

pub loop-end-preserved : goal.loop-end-preserved
loop-end-preserved c =
    let told = sym c.line_length.ensures ∙ c.in_ok-length.was in
    let few = few_told (take c.in-Some.end c.loop-end.rest.now) c.in_ok-length.field-0 told in
    record {
      few = omega (arith, few, c.loop-end.invariant.few, length-take-le c.in-Some.end c.loop-end.rest.now (omega (arith, c.in-Some.ensures.0.high)), c.in-Some.ensures.0.high, ap length c.behind-rest.ensures, length-drop (c.in-Some.end + 1) c.loop-end.rest.now);
      told = ap (λ (l : List ℕ). with_length (c.loop-end.length + c.in_ok-length.field-0) (joined (lines l))) c.behind-rest.ensures
          ∙ sym (length_more c.loop-end.rest.now c.in-Some.end c.in-Some.ensures c.loop-end.length c.in_ok-length.field-0 told) ∙ c.loop-end.invariant.told;
    }

pub returns-in_err-line_length : goal.returns-in_err-line_length
returns-in_err-line_length c =
    let e : c.from_residual-in_err-line_length.result ≡ Err c.in_err-line_length.field-0.0 = search rules in
    e ∙ sym (length_last_bad c.loop-end.rest.now c.in_default.ensures c.loop-end.length c.in_err-line_length.field-0.0 (sym c.line_length-2.ensures ∙ c.in_err-line_length.was)) ∙ c.loop-end.invariant.told

pub overflow_add-result : goal.overflow_add-result
overflow_add-result c =
    let few = few_told c.loop-end.rest.now c.in_ok-line_length.field-0 (sym c.line_length-2.ensures ∙ c.in_ok-line_length.was) in
    omega (arith, few, c.loop-end.invariant.few)

pub returns : goal.returns
returns c =
    let told = sym c.line_length-2.ensures ∙ c.in_ok-line_length.was in
    sym (length_last c.loop-end.rest.now c.in_default.ensures c.loop-end.length c.in_ok-line_length.field-0 told) ∙ c.loop-end.invariant.told
