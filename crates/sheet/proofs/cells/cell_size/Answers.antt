use Rattle.std.proofs.Common.{ℕ, List, sym, ap, ◌∙◌, ◌+◌, length, take, arith}
use Rattle.std.specs.Prelude.{if◌then◌else◌}
use Rattle.std.proofs.Math.Seq.{take_all}
use Rattle.std.specs.List.{list_any}
use Rattle.sheet.specs.Cells.{is_special, escaped_all, cell}
use Rattle.sheet.proofs.Escapes.{escaped_none, escaped_long, cell_long}
use Rattle.sheet.proofs.cells.cell_size.Goals as goal

pub loop-byte-init : goal.loop-byte-init
unfolding escaped_all
loop-byte-init c = record {
  counted = omega (arith, c.size_if-size.ensures.value, ap {B = ℕ} (λ b. if b then 2 else 0) c.needs_quotes.ensures);
  small = omega (arith, c.size_if-size.ensures.small);
}

pub loop-byte-preserved : goal.loop-byte-preserved
loop-byte-preserved c = record {
  counted = omega (arith, c.loop-byte.invariant.counted, escaped_long c.args.bytes.now c.loop-byte.byte-index (omega arith), c.escaped_size-size.ensures.value);
  small = omega (arith, c.loop-byte.invariant.small, c.escaped_size-size.ensures.small);
}

pub returns-clause-value : goal.returns-clause-value
returns-clause-value c =
    let all = ap (λ (s : List ℕ). length (escaped_all s)) (take_all c.loop-byte.byte-index c.args.bytes.now (omega arith)) in
    omega (arith, c.loop-byte.invariant.counted, all, cell_long c.args.bytes.now)
