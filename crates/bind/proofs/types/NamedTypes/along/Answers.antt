use Rattle.std.proofs.Common.{◌≡◌, ◌∙◌, sym, length, eqb-true}
use Rattle.bind.specs.Found.{type_found}
use Rattle.bind.proofs.Along.{at_end}
use Rattle.bind.proofs.types.NamedTypes.along.Goals as goal

pub returns : goal.returns
returns c =
    let left = length c.loop-at.way.rest.now in
    let none : left ≡ 0 = eqb-true left 0 (sym c.is_empty.ensures ∙ c.loop-at-test.false) in
    sym (at_end (type_found c.args.self.mode c.args.self.upload) c.args.self.upload.bytes c.args.long left c.loop-at.way.here c.loop-at.way.rest none) ∙ c.loop-at.invariant
