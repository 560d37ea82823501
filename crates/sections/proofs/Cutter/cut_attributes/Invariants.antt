use Rattle.std.proofs.Common.{◌+◌, ◌≤◌, ◌≡◌, length}
use Rattle.attribute.specs.Attribute.{left}
use Rattle.sections.specs.Sections.{attribute_parts, cut_all, seen}
use Rattle.sections.proofs.Cutter.cut_attributes.Given as goal

abbrev pub invariant-loop-one : goal.invariant-loop-one
invariant-loop-one l = record {
  can : (goal.iterator-loop-one).can_next l.one-iterator;
  ends : (goal.iterator-loop-one).is_finite l.one-iterator;
  going : cut_all (attribute_parts l.number (left l.one-iterator)) (seen l.self) ≡ cut_all (attribute_parts 0 (left l.symbol.attributes)) (seen l.initial.self);
  few : l.number + length (left l.one-iterator) ≤ l.symbol.attributes.count;
}
