use Rattle.std.proofs.Common.{arith}
use Rattle.sheet_import.proofs.Bulk.{cell_long, cell_counted}
use Rattle.sheet_import.proofs.StringsRead.{never_refused}
use Rattle.sheet_import.proofs.strings.string_length.Goals as goal

pub overflow_sub-result-in-Ok : goal.overflow_sub-result-in-Ok
overflow_sub-result-in-Ok c =
    omega (arith, c.text_length.ensures, cell_long c.args.text.now c.requires, cell_counted c.args.text.now c.requires c.in-Ok.length c.in-Ok.ensures)

pub overflow_sub-result : goal.overflow_sub-result
overflow_sub-result c =
    omega (arith, c.text_length.ensures, cell_long c.args.text.now c.requires, cell_counted c.args.text.now c.requires c.in-Ok.length c.in-Ok.ensures)

pub unreachable-requires : goal.unreachable-requires
unreachable-requires c = never_refused c.args.text.now c.requires c.in-Err.field-0 c.in-Err.ensures

pub returns : goal.returns
returns c =
    omega (arith, c.text_length.ensures, cell_long c.args.text.now c.requires, cell_counted c.args.text.now c.requires c.in-Ok.length c.in-Ok.ensures)
