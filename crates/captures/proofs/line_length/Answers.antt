use Rattle.std.proofs.Common.{sym, ◌∙◌}
use Rattle.hex.specs.Hex.{decode_of}
use Rattle.captures.proofs.Pairs.{told_bad, told_good}
use Rattle.captures.proofs.line_length.Goals as goal

pub returns-then-not-are_pairs : goal.returns-then-not-are_pairs
returns-then-not-are_pairs c = sym (told_bad (decode_of c.args.digits.now) (sym c.are_pairs.ensures ∙ c.if-not-are_pairs.true))

pub returns : goal.returns
returns c = sym (told_good c.args.digits.now (sym c.are_pairs.ensures ∙ c.if-not-are_pairs.false))
