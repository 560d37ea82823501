use Rattle.std.proofs.Common.{List, ℕ, ◌≡◌, ◌++◌}
use Rattle.std.specs.List.{flat_map}
use Rattle.std.specs.Fmt.{HasWritten, IsPlainFormatter}
use Rattle.refactor.specs.Refactor.{left}
use Rattle.values.specs.Names.{former_text}
use Rattle.facts.specs.Facts.{below}
use Rattle.facts.proofs.MoreNamesDisplay.fmt.Given as goal

abbrev pub invariant-loop-one : goal.invariant-loop-one
invariant-loop-one g l = record {
  can : (goal.iterator-loop-one g).can_next l.one-iterator;
  ends : (goal.iterator-loop-one g).is_finite l.one-iterator;
  going : IsPlainFormatter l.fn.f → (done : List ℕ) × (done ++ flat_map (λ x. below (former_text x.name.now)) (left l.one-iterator) ≡ flat_map (λ x. below (former_text x.name.now)) (left l.self.0)) × HasWritten g.W.Write.write_str_gives l.fn.f done l.f;
}
