use Rattle.std.proofs.Common.{sym}
use Rattle.sheet_rows.proofs.RowsRead.{cells_shorter}
use Rattle.sheet_import.proofs.Putting.{all_putting, next_row, put_all}
use Rattle.sheet_import.proofs.put_upload.Goals as goal

pub loop-cells-init : goal.loop-cells-init
loop-cells-init c = all_putting c.requires.rows c.requires.short c.requires.room

pub put_row-at-requires : goal.put_row-at-requires
put_row-at-requires c =
    let n = next_row c.in-Some.cells c.loop-cells.invariant (sym c.in-Some.ensures) in
    record { cells = n.strings; short = n.short; room = n.room }

pub loop-cells-preserved : goal.loop-cells-preserved
loop-cells-preserved c =
    let n = next_row c.in-Some.cells c.loop-cells.invariant (sym c.in-Some.ensures) in
    n.on c.put_row-at.new.out c.put_row-at.result c.put_row-at.ensures

pub loop-cells-smaller : goal.loop-cells-smaller
loop-cells-smaller c = cells_shorter c.loop-cells.left.bytes c.in-Some.cells (sym c.in-Some.ensures)

pub returns : goal.returns
returns c = put_all c.loop-cells.invariant (sym c.in_default.ensures)
