use Rattle.std.proofs.Common.{◌+◌, ◌≤◌, ◌≡◌, length}
use Rattle.refactor.specs.Refactor.{left}
use Rattle.sections.specs.Sections.{former_parts, cut_all, seen}
use Rattle.sections.proofs.Cutter.cut_former_names.Given as goal

abbrev pub invariant-loop-one : goal.invariant-loop-one
invariant-loop-one l = record {
  can : (goal.iterator-loop-one).can_next l.one-iterator;
  ends : (goal.iterator-loop-one).is_finite l.one-iterator;
  going : cut_all (former_parts l.number (left l.one-iterator)) (seen l.self) ≡ cut_all (former_parts 0 (left l.symbol.refactor_infos)) (seen l.initial.self);
  few : l.number + length (left l.one-iterator) ≤ l.symbol.refactor_infos.count;
}
