use Rattle.std.proofs.Common.{◌≡◌, ◌+◌, List, ◌∷◌, ap, map, drop, sym, ◌∙◌, arith}
use Rattle.std.specs.Prelude.{None}
use Rattle.pairing.specs.Rows.{row_of}
use Rattle.pairing.specs.declared.pairs.Pair.{Pair}
use Rattle.pairing.specs.declared.rows.Row.{Row}
use Rattle.comparison.proofs.Lines.{width_turn, no_widths, left_at, none_left}
use Rattle.comparison.proofs.table.widths_of.Goals as goal

pub loop-pair-preserved : goal.loop-pair-preserved
loop-pair-preserved c =
    let pairs : List Pair = c.args.rows.now.pairs.now in
    let row : Pair → Row = row_of c.args.rows.now.a.now c.args.rows.now.b.now in
    let rest : List Row = map row (drop (c.loop-pair.pair-index + 1) pairs) in
    let left : map row (drop c.loop-pair.pair-index pairs) ≡ c.row-row.result ∷ rest =
    ap (map row) (left_at pairs c.loop-pair.pair-index (record { a = None; b = None }) (omega arith)) ∙ ap (λ (r : Row). r ∷ rest) (sym c.row-row.ensures) in
    width_turn c.args.rows.now.mode c.loop-pair.before c.shift_behind-before.result c.loop-pair.widths c.in_ok-widths.widths _ _ rest c.row-row.result c.as_slice.result.now
    left c.shift_behind-before.ensures c.in_ok-widths.ensures (c.as_slice.ensures.value ∙ c.in_ok-lines.ensures) c.loop-pair.invariant

pub returns : goal.returns
returns c =
    sym (no_widths c.args.rows.now.mode c.loop-pair.before c.loop-pair.widths _ (ap (map (row_of c.args.rows.now.a.now c.args.rows.now.b.now)) (none_left c.args.rows.now.pairs.now c.loop-pair.pair-index (omega arith))))
    ∙ c.loop-pair.invariant
