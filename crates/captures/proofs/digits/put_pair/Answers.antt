use Rattle.std.proofs.Common.{ℕ, [], ◌∷◌, ap₂, arith}
use Rattle.hex.specs.Hex.{encode_with}
use Rattle.le.proofs.Laws.{put_two, wrote, same_bytes}
use Rattle.captures.proofs.digits.put_pair.Goals as goal

pub returns : goal.returns
unfolding encode_with
returns c =
    same_bytes (ap₂ (λ (x y : ℕ). x ∷ y ∷ []) c.digit.ensures c.digit-2.ensures)
    (wrote (put_two c.args.text.now c.args.at c.digit.result c.digit-2.result c.requires) (omega arith) (omega arith))
