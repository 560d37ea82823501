use Rattle.std.proofs.Common.{◌≡◌, length, sym, ap, ◌∙◌, arith, Ok}
use Rattle.writing.proofs.Laws.{too_small, done}
use Rattle.walk.specs.Step.{parse_of}
use Rattle.data_type.specs.DataType.{type_of}
use Rattle.data_type.specs.Members.{members_of}
use Rattle.data_type.specs.Left.{members_left}
use Rattle.data_type.specs.List.{member_slots, slots_of, members_written}
use Rattle.data_type.proofs.Filling.{going, goes_on, gone, room_for}
use Rattle.data_type.proofs.Listed.{three_each, few_members}
use Rattle.data_type.proofs.list.list.Goals as goal

pub overflow_mul-needed : goal.overflow_mul-needed
overflow_mul-needed c =
    let h : parse_of 42 (type_of c.args.mode) c.args.bytes ≡ Ok c.in_ok-info.info = sym c.parse.ensures ∙ c.in_ok-info.was in
    omega (arith, few_members c.args.mode c.args.bytes c.in_ok-info.info h)

pub returns-then-lent-needed : goal.returns-then-lent-needed
returns-then-lent-needed c =
    let h : parse_of 42 (type_of c.args.mode) c.args.bytes ≡ Ok c.in_ok-info.info = sym c.parse.ensures ∙ c.in_ok-info.was in
    let w : members_written c.args.mode c.args.bytes ≡ Ok (slots_of (members_of c.in_ok-info.info)) = simp h in
    too_small w (three_each c.args.mode c.args.bytes c.in_ok-info.info h) c.if-lent-needed.true

pub loop-member-init : goal.loop-member-init
loop-member-init c =
    let h : parse_of 42 (type_of c.args.mode) c.args.bytes ≡ Ok c.in_ok-info.info = sym c.parse.ensures ∙ c.in_ok-info.was in
    let all = ap (λ ms. length (slots_of ms)) (ap members_left c.into_iter-member-iterator.ensures.into_iter_gives ∙ c.members-member-items.ensures) in
    record { can = tt; finite = tt; going = going c.args.slots.now 0 _ (omega (arith, all, three_each c.args.mode c.args.bytes c.in_ok-info.info h, c.if-lent-needed.false)) }

pub put_member-at-requires : goal.put_member-at-requires
unfolding slots_of
put_member-at-requires c = room_for (member_slots c.in-Some.member.position) _ (ap slots_of c.in-Some.ensures.steps) c.loop-member.invariant.going

pub loop-member-preserved : goal.loop-member-preserved
unfolding slots_of
loop-member-preserved c = record { can = tt; finite = tt; going = goes_on (ap slots_of c.in-Some.ensures.steps) c.loop-member.invariant.going c.put_member-at.ensures }

pub returns : goal.returns
unfolding slots_of
returns c =
    let h : parse_of 42 (type_of c.args.mode) c.args.bytes ≡ Ok c.in_ok-info.info = sym c.parse.ensures ∙ c.in_ok-info.was in
    let all = ap slots_of (ap members_left c.into_iter-member-iterator.ensures.into_iter_gives ∙ c.members-member-items.ensures) in
    let w : members_written c.args.mode c.args.bytes ≡ Ok (slots_of (members_left c.into_iter-member-iterator.result)) = simp h (ap Ok (sym all)) in
    done w (gone (ap slots_of c.in-None.ensures.steps.0) c.loop-member.invariant.going)
