use Rattle.std.proofs.Common.{◌≡◌, ◌-◌}
use Rattle.field.specs.Skip.{after_items}
use Rattle.field.proofs.skip.after_items.Given as goal

abbrev pub invariant-loop : goal.invariant-loop
invariant-loop l = after_items l.left.bytes (l.count - l.counter) ≡ after_items l.initial.left.bytes l.count
