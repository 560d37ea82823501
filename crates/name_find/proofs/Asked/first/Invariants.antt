use Rattle.std.proofs.Common.{◌≡◌, drop}
use Rattle.std.specs.List.{find as first_of}
use Rattle.name_find.specs.Find.{is_named}
use Rattle.name_find.proofs.Asked.first.Given as goal

abbrev pub invariant-loop-slot : goal.invariant-loop-slot
invariant-loop-slot g l = first_of (is_named g.E.Named.name_of (g.E.Entry.read l.self.mode) l.self.bytes l.self.name.now) (drop l.slot-index l.slots) ≡ first_of (is_named g.E.Named.name_of (g.E.Entry.read l.self.mode) l.self.bytes l.self.name.now) l.slots
