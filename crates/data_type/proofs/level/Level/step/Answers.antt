use Rattle.std.proofs.Common.{◌≡◌, ◌-◌, length, min, sym, ap, ◌∙◌, arith}
use Rattle.std.specs.Prelude.{Ok}
use Rattle.part.specs.Slice.{part}
use Rattle.data_type.specs.Members.{item_in}
use Rattle.data_type.proofs.Steps.{lies, step_gives}
use Rattle.data_type.proofs.level.Level.step.Goals as goal

pub overflow_sub-held : goal.overflow_sub-held
overflow_sub-held c =
    let l = lies c.part_of-rest.result c.in-Ok.item (sym c.item_in.ensures ∙ c.in-Ok.is) in
    omega (arith, l.short)

pub overflow_add-held : goal.overflow_add-held
overflow_add-held c =
    let l = lies c.part_of-rest.result c.in-Ok.item (sym c.item_in.ensures ∙ c.in-Ok.is) in
    omega (arith, l.long, c.saturating_sub-place.ensures)

pub returns : goal.returns
returns c levels above =
    let s : c.min-stop.result ≡ min c.args.self.now.stop (length c.args.bytes.now) = c.min-stop.ensures in
    let a : c.min-at.result ≡ min c.args.self.now.at c.min-stop.result = c.min-at.ensures in
    let r : c.part_of-rest.result ≡ part c.args.bytes c.min-at.result (c.min-stop.result - c.min-at.result) = c.part_of-rest.ensures in
    let i : item_in (part c.args.bytes c.min-at.result (c.min-stop.result - c.min-at.result)) ≡ Ok c.in-Ok.item = ap item_in (sym r) ∙ sym c.item_in.ensures ∙ c.in-Ok.is in
    let g = step_gives c.args.bytes above c.args.self.now.end c.min-at.result c.min-stop.result (omega arith) (omega arith) levels c.args.self.now.count c.in-Ok.item c.if-self-eq0.false i in
    simp (← s, ← a, c.saturating_sub-place.ensures, r) g
