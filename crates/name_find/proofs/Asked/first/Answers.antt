use Rattle.std.proofs.Common.{arith, sym, ◌∙◌, ◌<◌, length}
use Rattle.name_find.specs.Find.{is_named}
use Rattle.name_find.proofs.Search.{looked_on}
use Rattle.name_find.proofs.Asked.first.Goals as goal

pub loop-slot-preserved : goal.loop-slot-preserved
loop-slot-preserved g c =
    let h : c.loop-slot.slot-index < length c.args.slots.now = omega (arith, c.loop-slot-test.true) in
    looked_on (is_named g.E.Named.name_of (g.E.Entry.read c.args.self.mode) c.args.self.bytes c.args.self.name.now) c.args.slots.now c.loop-slot.slot-index h (sym c.is_named.ensures ∙ c.if-is_named.false) ∙ c.loop-slot.invariant
