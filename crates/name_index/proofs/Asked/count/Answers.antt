use Rattle.std.proofs.Common.{arith, sym, ◌∙◌, ◌<◌, length}
use Rattle.name_index.specs.Branching.{in_branch}
use Rattle.name_index.proofs.Branching.{counted_on, counted_past, counted_end}
use Rattle.name_index.proofs.Asked.count.Goals as goal
use Rattle.name_index.proofs.Asked.count.Goals.{then-has, else-has}

pub loop-slot-preserved : goal.loop-slot-preserved
loop-slot-preserved g c =
    let h : c.loop-slot.slot-index < length c.args.slots.now = omega (arith, c.loop-slot-test.true) in
    elim c.if-has.branch [
      | then-has w ↦ rw w.count-is (record { counted = counted_on (in_branch g.E.Named.places (g.E.Entry.read c.args.self.mode) c.args.self.bytes c.args.self.text.now) c.args.slots.now c.loop-slot.slot-index h c.loop-slot.count (sym c.has.ensures ∙ w.if-has.true) c.loop-slot.invariant.counted; few = omega (arith, c.loop-slot.invariant.few) })
      | else-has w ↦ rw w.count-is (record { counted = counted_past (in_branch g.E.Named.places (g.E.Entry.read c.args.self.mode) c.args.self.bytes c.args.self.text.now) c.args.slots.now c.loop-slot.slot-index h c.loop-slot.count (sym c.has.ensures ∙ w.if-has.false) c.loop-slot.invariant.counted; few = omega (arith, c.loop-slot.invariant.few) })
    ]

pub returns : goal.returns
returns g c = counted_end (in_branch g.E.Named.places (g.E.Entry.read c.args.self.mode) c.args.self.bytes c.args.self.text.now) c.args.slots.now c.loop-slot.count c.loop-slot.slot-index (omega (arith, c.loop-slot-test.false)) c.loop-slot.invariant.counted
