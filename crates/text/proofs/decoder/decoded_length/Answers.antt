use Rattle.std.proofs.Common.{refl, arith}
use Rattle.text.specs.Text.{decoded}
use Rattle.text.proofs.decoder.decoded_length.Goals as goal

pub loop-at-init : goal.loop-at-init
unfolding decoded
loop-at-init c = record { inside = omega arith; sum = refl; few = omega arith }
