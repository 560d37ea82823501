use Rattle.std.proofs.Common.{◌<◌, ◌≡◌, ⊎_elim, get_or, arith}
use Rattle.text.proofs.Byte.{points_ruled, below_surrogates}
use Rattle.text.specs.Text.{points}
use Rattle.text.proofs.code_point.Goals as goal

pub unreachable-requires : goal.unreachable-requires
unfolding points
unreachable-requires c =
    let low : get_or points c.from-i.result 0 < 0xD800 = below_surrogates (points_ruled c.from-i.result (omega arith)).width in
    let same : c.from.result ≡ get_or points c.from-i.result 0 = c.from.ensures in
    ⊎_elim (λ h. omega (arith, h.0)) (λ h. omega (arith, h)) c.in-None.ensures.cases
