use Rattle.std.proofs.Common.{List, ℕ, ◌≡◌, ◌++◌, codes}
use Rattle.std.specs.List.{flat_map}
use Rattle.std.specs.Fmt.{HasWritten, IsPlainFormatter}
use Rattle.data_type.specs.Array.{left}
use Rattle.type_table.specs.Cells.{array_cell}
use Rattle.type_table.proofs.cells.MoreBoundsDisplay.fmt.Given as goal

abbrev pub invariant-loop-one : goal.invariant-loop-one
invariant-loop-one g l = record {
  can : (goal.iterator-loop-one g).can_next l.one-iterator;
  ends : (goal.iterator-loop-one g).is_finite l.one-iterator;
  going : IsPlainFormatter l.fn.f → (done : List ℕ) × (done ++ flat_map (λ x. codes ", " ++ array_cell x) (left l.one-iterator.0) ≡ flat_map (λ x. codes ", " ++ array_cell x) (left l.self.0.0)) × HasWritten g.W.Write.write_str_gives l.fn.f done l.f;
}
