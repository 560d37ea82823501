use Rattle.std.proofs.Common.{sym, ap, length, arith, Ok, Err}
use Rattle.le.proofs.Laws.{same_bytes, wrote_none}
use Rattle.sheet_import.proofs.Putting.{row_is}
use Rattle.sheet_import.proofs.put_row.Goals as goal

pub put_entry-requires-clause-room : goal.put_entry-requires-clause-room
put_entry-requires-clause-room c = omega (arith, ap length (row_is c.args.cells.now (Ok c.in-Ok.numbers) (sym c.in-Ok.ensures)), c.requires.room)

pub returns-in-Ok : goal.returns-in-Ok
returns-in-Ok c = same_bytes (sym (row_is c.args.cells.now (Ok c.in-Ok.numbers) (sym c.in-Ok.ensures))) c.put_entry.ensures

pub returns-in-Err : goal.returns-in-Err
returns-in-Err c = same_bytes (sym (row_is c.args.cells.now (Err c.in-Err.field-0) (sym c.in-Err.ensures))) (wrote_none (omega (arith, c.requires.room)))
