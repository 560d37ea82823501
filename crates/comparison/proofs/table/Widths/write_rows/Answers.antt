use Rattle.std.proofs.Common.{◌≡◌, ◌+◌, List, ◌∷◌, ap, map, drop, sym, subst, ◌∙◌, arith}
use Rattle.std.specs.Prelude.{None}
use Rattle.pairing.specs.Rows.{row_of, rows_in}
use Rattle.pairing.specs.declared.pairs.Pair.{Pair}
use Rattle.pairing.specs.declared.pieces.Shift.{Shift}
use Rattle.pairing.specs.declared.rows.Row.{Row}
use Rattle.report.proofs.Going.{Going}
use Rattle.comparison.specs.Entries.{together}
use Rattle.comparison.specs.Table.{table_lines}
use Rattle.comparison.proofs.Lines.{goes_on, is_done, table_more, no_table, left_at, none_left}
use Rattle.comparison.proofs.table.Widths.write_rows.Goals as goal

pub loop-pair-preserved : goal.loop-pair-preserved
loop-pair-preserved g c =
    let pairs : List Pair = c.args.rows.now.pairs.now in
    let row : Pair → Row = row_of c.args.rows.now.a.now c.args.rows.now.b.now in
    let rest : List Row = map row (drop (c.loop-pair.pair-index + 1) pairs) in
    let left : map row (drop c.loop-pair.pair-index pairs) ≡ c.row-row.result ∷ rest =
    ap (map row) (left_at pairs c.loop-pair.pair-index (record { a = None; b = None }) (omega arith)) ∙ ap (λ (r : Row). r ∷ rest) (sym c.row-row.ensures) in
    subst
    (λ (s : Shift). Going (g.W.Write.contents c.args.out.now) (g.W.Write.contents c.write_row.new.out) (table_lines c.args.self c.args.rows.now.mode s rest) (table_lines c.args.self c.args.rows.now.mode together (rows_in c.args.rows.now)))
    (sym c.shift_behind-before.ensures)
    (goes_on _ c.loop-pair.invariant (table_more c.args.self c.args.rows.now.mode c.loop-pair.before _ rest c.row-row.result left) c.in_ok-write_row.ensures)

pub returns : goal.returns
returns g c =
    is_done c.loop-pair.invariant (no_table c.args.self c.args.rows.now.mode c.loop-pair.before _ (ap (map (row_of c.args.rows.now.a.now c.args.rows.now.b.now)) (none_left c.args.rows.now.pairs.now c.loop-pair.pair-index (omega arith))))
