use Rattle.std.proofs.Common.{◌+◌, ◌-◌, ◌<◌, ◌≤◌, ⊎_elim, length, arith}
use Rattle.std.proofs.lemmas.Grind.{common_steps}
use borrow.Author.Tests.{leb-true}
use Rattle.sheet_rows.proofs.RowsRead.{row_longer}
use Rattle.sheet_rows.proofs.Bare.{bare_or_long}
use Rattle.sheet_rows.proofs.extent.are_bare.Goals as goal

pub overflow_add-texts-2 : goal.overflow_add-texts-2
overflow_add-texts-2 c = omega (arith, row_longer c.requires)

pub overflow_sub-result : goal.overflow_sub-result
overflow_sub-result c = omega (arith, row_longer c.requires)

pub overflow_add-result : goal.overflow_add-result
overflow_add-result c = omega (arith, row_longer c.requires)

pub returns-then-not-is_empty : goal.returns-then-not-is_empty
returns-then-not-is_empty c = λ e.
    let some : 0 < length c.args.cells.now.rest.now = grind (arith, common_steps) in
    let few : length c.args.line.now - length c.args.cells.now.rest.now ≤ length c.args.cells.now.first.now + length c.args.cells.now.second.now + length c.args.cells.now.third.now + 4 = leb-true _ _ e in
    ⊎_elim
    (λ q. omega (arith, q))
    (λ l. absurd (omega (arith, few, l, row_longer c.requires))) (bare_or_long c.requires some)
