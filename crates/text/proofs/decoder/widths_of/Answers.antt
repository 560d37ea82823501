use Rattle.std.proofs.Common.{◌≡◌, ℕ, ◌+◌, List, ap, arith, length, take}
use Rattle.text.proofs.Laws.{length_more}
use Rattle.text.specs.Text.{decoded}
use Rattle.text.proofs.decoder.widths_of.Goals as goal

pub loop-i-preserved : goal.loop-i-preserved
loop-i-preserved c =
    let s : List ℕ = c.args.s.now in
    let at : ℕ = c.args.from + c.loop-i.i in
    let e : at + 1 ≡ c.args.from + (c.loop-i.i + 1) = omega arith in
    record { inside = omega arith; sum = omega (arith, length_more s at (omega arith), ap (λ (k : ℕ). length (decoded (take k s))) e); few = omega arith }
