use Rattle.std.proofs.Common.{◌≡◌, ◌∙◌, refl, sym, rules, Err}
use Rattle.sheet_import.proofs.Sizes.{first_bad, second_bad, third, count_is}
use Rattle.sheet_import.proofs.check_row.Goals as goal

pub returns-in_err-check_count : goal.returns-in_err-check_count
returns-in_err-check_count c =
    let e : c.from_residual.result ≡ Err c.in_err-check_count.field-0.0 = search rules in
    let one = count_is _ _ _ c.string_length.ensures c.check_count.ensures ∙ c.in_err-check_count.was in
    e ∙ sym (first_bad c.args.cells.now c.in_err-check_count.field-0.0 one)

pub returns-in_err-check_count-2 : goal.returns-in_err-check_count-2
returns-in_err-check_count-2 c =
    let e : c.from_residual-in_err-check_count-2.result ≡ Err c.in_err-check_count-2.field-0.0 = search rules in
    let one = count_is _ _ _ c.string_length.ensures c.check_count.ensures ∙ c.in_ok-check_count.was in
    let two = count_is _ _ _ c.string_length-2.ensures c.check_count-2.ensures ∙ c.in_err-check_count-2.was in
    e ∙ sym (second_bad c.args.cells.now c.in_err-check_count-2.field-0.0 one two)

pub returns : goal.returns
returns c =
    let one = count_is _ _ _ c.string_length.ensures c.check_count.ensures ∙ c.in_ok-check_count.was in
    let two = count_is _ _ _ c.string_length-2.ensures c.check_count-2.ensures ∙ c.in_ok-check_count-2.was in
    let three = count_is _ _ _ c.string_length-3.ensures c.check_count-3.ensures ∙ refl in
    sym (third c.args.cells.now c.check_count-3.result one two three)
