use Rattle.std.proofs.Common.{◌≡◌, ℕ, ◌+◌, Option, unwrap_or, inl, inr, refl, sym, ap, ◌∙◌, arith, get_or, eqb, if◌then◌else◌}
use Rattle.text.proofs.Byte.{sum_to, sum_step, sum_is, byte_high}
use Rattle.text.specs.Text.{points}
use Rattle.text.proofs.encoder.byte_of.Goals.{then-p-ge160+else-p-lt256, else-p-ge160}
use Rattle.text.proofs.encoder.byte_of.Goals as goal

pub returns-then-p-lt256 : goal.returns-then-p-lt256
returns-then-p-lt256 c = ap (λ (f : Option ℕ). unwrap_or f 0) (sym (byte_high c.args.p c.if-p-ge160.true c.if-p-lt256.true))

pub loop-i-init : goal.loop-i-init
unfolding sum_to
loop-i-init c = record { inside = omega arith; byte = refl; sum = refl; few = omega arith }

pub loop-i-preserved : goal.loop-i-preserved
unfolding points
loop-i-preserved c =
    let i : ℕ = c.loop-i.i in
    let p : ℕ = c.args.p in
    let e : c.if_here-sum.result ≡ (if eqb (get_or points i 0) p then 128 + i else 0) = simp (← c.loop-i.invariant.byte) c.if_here-sum.ensures.0 in
    record { inside = omega arith; byte = omega arith; sum = simp (sum_step i p, ← c.loop-i.invariant.sum, e); few = omega (arith, c.if_here-sum.ensures.1) }

pub returns : goal.returns
returns c =
    let i : c.loop-i.i ≡ 32 = omega arith in
    c.loop-i.invariant.sum
    ∙ ap (λ (n : ℕ). sum_to n c.args.p) i
    ∙ sum_is c.args.p c.requires (elim c.if-p-ge160.branch [ then-p-ge160+else-p-lt256 w ↦ inr w.if-p-lt256.false | else-p-ge160 w ↦ inl w.if-p-ge160.false ])
