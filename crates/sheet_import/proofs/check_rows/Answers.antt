use Rattle.std.proofs.Common.{◌≡◌, ◌∙◌, sym, rules, Err}
use Rattle.sheet_rows.proofs.RowsRead.{cells_shorter}
use Rattle.sheet_import.proofs.Sizes.{all_checking, checking_strings, checking_bad, checking_on, checking_done}
use Rattle.sheet_import.proofs.check_rows.Goals as goal

pub loop-cells-init : goal.loop-cells-init
loop-cells-init c = all_checking c.requires

pub check_row-requires : goal.check_row-requires
check_row-requires c = checking_strings c.in-Some.cells c.loop-cells.invariant (sym c.in-Some.ensures)

pub returns-in_err-check_row : goal.returns-in_err-check_row
returns-in_err-check_row c =
    let e : c.from_residual.result ≡ Err c.in_err-check_row.field-0.0 = search rules in
    e ∙ sym (checking_bad c.in-Some.cells c.in_err-check_row.field-0.0 c.loop-cells.invariant (sym c.in-Some.ensures) (sym c.check_row.ensures ∙ c.in_err-check_row.was))

pub loop-cells-preserved : goal.loop-cells-preserved
loop-cells-preserved c = checking_on c.in-Some.cells c.loop-cells.invariant (sym c.in-Some.ensures) (sym c.check_row.ensures ∙ c.in_ok-check_row.was)

pub loop-cells-smaller : goal.loop-cells-smaller
loop-cells-smaller c = cells_shorter c.loop-cells.left.bytes c.in-Some.cells (sym c.in-Some.ensures)

pub returns : goal.returns
returns c = sym (checking_done c.loop-cells.invariant (sym c.in_default.ensures))
