use Rattle.std.proofs.Common.{◌+◌, ◌<◌, ◌≡◌, sym, ap, subst, length, arith, [], ◌∷◌}
use Rattle.std.proofs.lemmas.Grind.{common_steps}
use Rattle.sheet_rows.specs.declared.cells.Cells.{Cells}
use Rattle.sheet_rows.specs.Rows.{line_of}
use Rattle.sheet_rows.specs.Meant.{IsRow}
use Rattle.sheet_rows.proofs.RowsRead.{cells_shorter, strings_row}
use Rattle.sheet_rows.specs.Extent.{row_extent, joined}
use Rattle.sheet_rows.proofs.Lines.{Left, all_left, none_left, bad_left, next_fits, next_left, line_parts, row_told, row_bad}
use Rattle.sheet_rows.proofs.check_rows.Goals as goal

pub loop-left-init : goal.loop-left-init
loop-left-init c = all_left c.args.rows.bytes

pub returns : goal.returns
returns c =
    let none : length c.loop-left.left.bytes.now ≡ 0 = grind (arith, common_steps) in
    sym (none_left c.loop-left.invariant none)

pub returns-in-Err : goal.returns-in-Err
returns-in-Err c =
    let some : 0 < length c.loop-left.left.bytes.now = grind (arith, common_steps) in
    sym (bad_left c.in-Err.column c.loop-left.invariant some (row_bad (line_of c.loop-left.left.bytes) c.in-Err.column (sym c.in-Err.ensures)))

pub with_row-extent-requires : goal.with_row-extent-requires
with_row-extent-requires c =
    let told = row_told (line_of c.loop-left.left.bytes) c.in-Ok.cells (sym c.in-Ok.ensures) in
    let fits = next_fits told.0.cells c.loop-left.invariant (line_parts c.loop-left.left.bytes told.0 told.1).cells in
    let own : (row_extent told.0.cells.strings).bytes ≡ (row_extent c.in-Ok.cells.strings).bytes = ap (λ (x : Cells). (row_extent x.strings).bytes) told.2 in
    let row = strings_row c.loop-left.left.bytes told.0.cells (line_parts c.loop-left.left.bytes told.0 told.1).cells in
    record {
      row = subst (λ (x : Cells). IsRow (x.strings.first.now ∷ x.strings.second.now ∷ x.strings.third.now ∷ []) x.kinds.rest.now x.strings.rest.now) told.2 row;
      rows = omega (arith, fits.rows);
      bytes = omega (arith, fits.bytes, own);
    }

pub loop-left-preserved : goal.loop-left-preserved
loop-left-preserved c =
    let some : 0 < length c.loop-left.left.bytes.now = grind (arith, common_steps) in
    let told = row_told (line_of c.loop-left.left.bytes) c.in-Ok.cells (sym c.in-Ok.ensures) in
    let own : c.with_row-extent.result ≡ joined c.loop-left.extent (row_extent c.in-Ok.cells.strings) = c.with_row-extent.ensures in
    subst (Left c.args.rows.bytes c.in-Ok.cells.strings.rest (c.loop-left.row + 1)) (sym own)
    (subst (λ (x : Cells). Left c.args.rows.bytes x.strings.rest (c.loop-left.row + 1) (joined c.loop-left.extent (row_extent x.strings))) told.2 (next_left told.0 c.loop-left.invariant some told.1))

pub loop-left-smaller : goal.loop-left-smaller
loop-left-smaller c =
    let told = row_told (line_of c.loop-left.left.bytes) c.in-Ok.cells (sym c.in-Ok.ensures) in
    let short = cells_shorter c.loop-left.left.bytes told.0.cells (line_parts c.loop-left.left.bytes told.0 told.1).cells in
    omega (arith, short, ap (λ (x : Cells). length x.strings.rest.now) told.2)
