use Rattle.std.proofs.Common.{ap, arith, ◌∙◌}
use Rattle.std.proofs.Math.Seq.{take_all}
use Rattle.std.proofs.Output.{has_written_of_eq}
use Rattle.values.specs.Names.{extended_bits_text}
use Rattle.values.proofs.Bits.{extended_flags, extended_named}
use Rattle.values.proofs.names.ExtendedBitsDisplay.fmt.Goals as goal

pub returns-clause-writes : goal.returns-clause-writes
unfolding extended_bits_text
returns-clause-writes g c = λ plain ok.
    has_written_of_eq _ _ _ _ _
    (ap (extended_flags c.args.self.now.0) (take_all c.loop-flag.flag-index _ (omega arith)) ∙ extended_named c.args.self.now.0 _ (c.flags-flag-items.ensures tt))
    (c.loop-flag.invariant plain)
