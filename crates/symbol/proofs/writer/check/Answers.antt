use Rattle.std.proofs.Common.{sym, ◌∙◌, arith, Result, Ok, Err, OnOk}
use Rattle.writing.proofs.Entry.{strings_passed, count_passed}
use Rattle.symbol.specs.Writing.{IsSized}
use Rattle.symbol.proofs.writer.check.Goals as goal

on_ok : {A E : Type 0} (r : Result A E) {P : Type 0} → P → OnOk r P
on_ok (Ok x) p = p
on_ok (Err e) p = tt

pub returns-clause-sized : goal.returns-clause-sized
returns-clause-sized c =
    let n = count_passed _ (sym c.check_count.ensures ∙ c.in_ok-check_count.was) in
    let s : IsSized c.args.symbol.now = record { short = strings_passed _ _ _ (sym c.check_strings.ensures ∙ c.in_ok-check_strings.was); count = n; block = omega (arith, n, c.in_ok-check_block.ensures.small) } in
    on_ok _ s
