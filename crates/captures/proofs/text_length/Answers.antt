use Rattle.std.proofs.Common.{ℕ, ap, sym, ◌∙◌, arith, Ok}
use Rattle.captures.specs.Captures.{told_length}
use Rattle.captures.proofs.Pieces.{splits_long, few_steps, split_large, split_within}
use Rattle.captures.proofs.text_length.Goals as goal

pub returns-then-length-gt-LIMIT : goal.returns-then-length-gt-LIMIT
returns-then-length-gt-LIMIT c = sym (ap told_length (split_large c.args.upload.now c.if-length-gt-LIMIT.true))

pub overflow_add-result : goal.overflow_add-result
overflow_add-result c = omega (arith, c.count_pieces.ensures, few_steps c.args.upload.now, c.if-length-gt-LIMIT.false)

pub returns : goal.returns
returns c = ap (λ (k : ℕ). Ok k) (omega (arith, c.count_pieces.ensures, splits_long c.args.upload.now)) ∙ sym (ap told_length (split_within c.args.upload.now c.if-length-gt-LIMIT.false))
