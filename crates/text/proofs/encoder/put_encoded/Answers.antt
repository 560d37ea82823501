use Rattle.std.proofs.Common.{refl, sym, ◌∙◌, arith}
use Rattle.text.proofs.Back.{going_none, going_end, going_leads, going_turn, leads_low, width_at, width_low}
use Rattle.text.proofs.encoder.put_encoded.Goals.{then-first-lt128, else-first-lt128}
use Rattle.text.proofs.encoder.put_encoded.Goals as goal

pub loop-at-init : goal.loop-at-init
loop-at-init c = going_none

pub bounds-out-n : goal.bounds-out-n
bounds-out-n c =
    let k = c.if-first-lt128.true in
    omega (arith, (going_turn c.loop-at.invariant c.requires 1 (leads_low c.args.src.now c.loop-at.at c.loop-at-test.true k) (width_low k) c.if-out-needed.false).room)

pub bounds-out-n-else-first-lt128 : goal.bounds-out-n-else-first-lt128
bounds-out-n-else-first-lt128 c =
    omega (arith, (going_turn c.loop-at.invariant c.requires _ (going_leads c.loop-at.invariant c.requires c.loop-at-test.true c.byte_at.ensures) refl c.if-out-needed.false).room)

pub loop-at-preserved : goal.loop-at-preserved
loop-at-preserved c =
    let s = c.args.src.now in
    let at = c.loop-at.at in
    let g = c.loop-at.invariant in
    elim c.if-first-lt128.branch [
      | then-first-lt128 w ↦
          let k = w.if-first-lt128.true in
          rw (w.out-is, w.at-is) (going_turn g c.requires 1 (leads_low s at c.loop-at-test.true k) (width_low k) c.if-out-needed.false).more
      | else-first-lt128 w ↦
          let led = going_leads g c.requires c.loop-at-test.true w.byte_at.ensures in
          let wide = w.width_of-at.ensures ∙ sym (width_at s at c.loop-at-test.true w.if-first-lt128.false led) in
          rw (w.out-is, w.at-is) (going_turn g c.requires w.width_of-at.result led wide c.if-out-needed.false).more
    ]

pub returns : goal.returns
returns c = going_end c.loop-at.invariant c.loop-at-test.false
