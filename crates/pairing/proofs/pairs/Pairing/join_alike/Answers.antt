use Rattle.std.proofs.Common.{◌≡◌, ◌+◌, ◌-◌, ℕ, Bool, get_or, length, sym, ap, ◌∙◌, arith}
use Rattle.pairing.specs.Pairs.{seen, matched, behind_first, joined_if}
use Rattle.pairing.proofs.Turns.{matched_more, matched_done, ours_ended, theirs_ended}
use Rattle.pairing.proofs.pairs.Pairing.join_alike.Goals as goal
use Rattle.pairing.proofs.pairs.Pairing.join_alike.Goals.{then-is_empty-via-then-is_empty, then-is_empty-via-else-is_empty+then-is_empty-2}

pub returns-then-is_empty : goal.returns-then-is_empty
returns-then-is_empty c =
    elim c.then-is_empty.branch [
      | then-is_empty-via-then-is_empty w ↦ sym (ours_ended c.args.rule _ _ _ _ _ _ (sym c.is_empty.ensures ∙ w.if-is_empty.true)) ∙ c.loop-turn.invariant
      | then-is_empty-via-else-is_empty+then-is_empty-2 w ↦ sym (theirs_ended c.args.rule _ _ _ _ _ _ (sym w.is_empty-else-is_empty.ensures ∙ w.if-is_empty-2.true)) ∙ c.loop-turn.invariant
    ]

pub loop-turn-preserved : goal.loop-turn-preserved
loop-turn-preserved c =
    let turns : ℕ = length c.args.ours.now + length c.args.theirs.now in
    let one : (turns - (c.loop-turn._turn + 1)) + 1 ≡ turns - c.loop-turn._turn = omega (arith, c.loop-turn-test.true) in
    matched_more c.args.rule c.args.a.now c.args.b.now (turns - (c.loop-turn._turn + 1)) c.loop-turn.ours.now c.loop-turn.theirs.now (seen c.loop-turn.self)
    (sym c.is_empty.ensures ∙ c.if-is_empty.false) (sym c.is_empty-else-is_empty.ensures ∙ c.if-is_empty-2.false)
    c.compare-order.ensures
    (c.behind_first-ours.ensures ∙ ap (λ (done : Bool). behind_first done c.loop-turn.ours.now) c.is_le.ensures)
    (c.behind_first-theirs.ensures ∙ ap (λ (done : Bool). behind_first done c.loop-turn.theirs.now) c.is_ge.ensures)
    (c.join_if.ensures ∙ ap (λ (same : Bool). joined_if same (get_or c.loop-turn.ours.now 0 0) (get_or c.loop-turn.theirs.now 0 0) (seen c.loop-turn.self)) c.are_same.ensures)
    ∙ ap (λ (k : ℕ). matched c.args.rule c.args.a.now c.args.b.now k c.loop-turn.ours.now c.loop-turn.theirs.now (seen c.loop-turn.self)) one ∙ c.loop-turn.invariant

pub returns : goal.returns
returns c = sym (matched_done c.args.rule _ _ _ _ _ _ (omega (arith, c.loop-turn-test.false))) ∙ c.loop-turn.invariant
