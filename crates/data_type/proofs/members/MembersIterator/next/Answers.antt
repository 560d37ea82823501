use Rattle.std.proofs.Common.{◌≡◌, ◌-◌, ◌<◌, ◌∷◌, List, ℕ, length, take, refl, sym, ap, ap₂, ◌∙◌, arith, rules}
use Rattle.std.proofs.lemmas.List.{take-set}
use Rattle.data_type.specs.declared.members.Member.{Member}
use Rattle.data_type.specs.declared.members.Position.{Position}
use Rattle.data_type.specs.Members.{root}
use Rattle.data_type.specs.Left.{stack_left, members_left}
use Rattle.data_type.proofs.Stack.{step_none, step_some}
use Rattle.data_type.proofs.members.MembersIterator.next.Goals as goal

pub returns-in-Some-clause-steps : goal.returns-in-Some-clause-steps
returns-in-Some-clause-steps c =
    sym c.loop-used.invariant.left
    ∙ step_some c.loop-used.self.bytes c.loop-used.self.levels c.loop-used.used _ c.step.new.self c.loop-used-test.true (omega arith) c.loop-used.invariant.room c.in-Some.own c.in-Some.held c.in-Some.ensures
    ∙ ap₂ (λ (p : Position) (ms : List Member). record { position = p; own = c.in-Some.own } ∷ ms) (sym c.standing-position.ensures) (sym c.push.ensures)

pub returns-in-Some-clause-goes : goal.returns-in-Some-clause-goes
returns-in-Some-clause-goes c =
    let e : members_left c.args.self.now ≡ record { position = c.standing-position.result; own = c.in-Some.own } ∷ members_left c.push.new.self = returns-in-Some-clause-steps c in
    let l : length (members_left c.push.new.self) < length (members_left c.args.self.now) = simp e (omega arith) in
    search (rules, l)

pub loop-used-preserved : goal.loop-used-preserved
loop-used-preserved c = record {
  left = ap (stack_left 15 root c.loop-used.self.bytes) (take-set c.loop-used.self.levels (c.loop-used.used - 1) _) ∙ step_none c.loop-used.self.bytes c.loop-used.self.levels c.loop-used.used _ c.step.new.self c.loop-used-test.true (omega arith) c.loop-used.invariant.room c.in_default.ensures ∙ c.loop-used.invariant.left;
  room = omega (arith, c.loop-used.invariant.room);
}

pub returns-clause-steps : goal.returns-clause-steps
unfolding stack_left
returns-clause-steps c =
    let z : c.loop-used.used ≡ 0 = omega (arith, c.loop-used-test.false) in
    (sym c.loop-used.invariant.left ∙ ap (λ (n : ℕ). stack_left 15 root c.loop-used.self.bytes (take n c.loop-used.self.levels)) z, refl)
