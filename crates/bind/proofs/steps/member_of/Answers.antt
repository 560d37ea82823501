use Rattle.std.proofs.Common.{ℕ, ◌≡◌, ◌∙◌, sym, ap, arith}
use Rattle.bind.specs.Binding.{member_of}
use Rattle.bind.proofs.Members.{none_more}
use Rattle.bind.proofs.steps.member_of.Goals as goal

pub returns : goal.returns
returns c =
    let zero : c.loop-left.left ≡ 0 = omega arith in
    sym (none_more c.args.name.now c.loop-left.rest.bytes c.args.end) ∙ ap (λ (n : ℕ). member_of c.args.name.now n c.loop-left.rest.bytes c.args.end) (sym zero) ∙ c.loop-left.invariant
