use Rattle.std.proofs.Common.{◌≡◌, ◌+◌, ℕ, Ok, Err, sym, ap, subst, ◌∙◌, arith, add-zero, drop, length-drop}
use Rattle.refusal.specs.declared.Refusal.TheVariants.{BadText}
use Rattle.text.proofs.Back.{Counting, counting_turn, encoded_none, encoded_end, leads_low, width_at, width_low}
use Rattle.text.specs.Text.{counted}
use Rattle.text.proofs.encoder.encoded_length.Goals.{then-first-lt128, else-first-lt128+else-byte_at-eq0}
use Rattle.text.proofs.encoder.encoded_length.Goals as goal

pub returns-then-byte_at-eq0 : goal.returns-then-byte_at-eq0
returns-then-byte_at-eq0 c =
    let s = c.args.src.now in
    let at = c.loop-at.at in
    let e = encoded_none at (drop at s) (omega (arith, length-drop at s)) (c.byte_at.ensures.none c.if-byte_at-eq0.true) in
    ap (λ (kind : ℕ). Err (BadText at kind)) c.fault_at.ensures ∙ sym (ap (counted c.loop-at.n) e) ∙ c.loop-at.invariant.left

pub loop-at-preserved : goal.loop-at-preserved
loop-at-preserved c =
    let s = c.args.src.now in
    let n = c.loop-at.n in
    let at = c.loop-at.at in
    elim c.if-first-lt128.branch [
      | then-first-lt128 w ↦
          let k = w.if-first-lt128.true in
          let e : at + 1 ≡ c.if-first-lt128.at = omega (arith, w.at-is) in
          subst (Counting s (n + 1)) e (counting_turn 1 c.loop-at.invariant (leads_low s at c.loop-at-test.true k) (width_low k)).more
      | else-first-lt128+else-byte_at-eq0 w ↦
          let led = w.byte_at.ensures.some w.if-byte_at-eq0.false in
          let wide = w.width_of-at.ensures ∙ sym (width_at s at c.loop-at-test.true w.if-first-lt128.false led) in
          let e : at + w.width_of-at.result ≡ c.if-first-lt128.at = omega (arith, w.at-is) in
          subst (Counting s (n + 1)) e (counting_turn w.width_of-at.result c.loop-at.invariant led wide).more
    ]

pub returns : goal.returns
returns c =
    sym (ap (counted c.loop-at.n) (encoded_end c.args.src.now c.loop-at.at c.loop-at-test.false) ∙ ap Ok (add-zero c.loop-at.n)) ∙ c.loop-at.invariant.left
