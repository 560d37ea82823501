use Rattle.std.proofs.Common.{◌≡◌, ◌+◌, ◌≤◌, drop, length, filter}
use Rattle.name_index.specs.Branching.{in_branch}
use Rattle.name_index.proofs.Asked.count.Given as goal

abbrev pub invariant-loop-slot : goal.invariant-loop-slot
invariant-loop-slot g l = record {
  counted : l.count + length (filter (in_branch g.E.Named.places (g.E.Entry.read l.self.mode) l.self.bytes l.self.text.now) (drop l.slot-index l.slots)) ≡ length (filter (in_branch g.E.Named.places (g.E.Entry.read l.self.mode) l.self.bytes l.self.text.now) l.slots);
  few : l.count ≤ l.slot-index;
}
