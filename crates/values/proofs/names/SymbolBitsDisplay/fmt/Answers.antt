use Rattle.std.proofs.Common.{ap, arith, ◌∙◌}
use Rattle.std.proofs.Math.Seq.{take_all}
use Rattle.std.proofs.Output.{has_written_of_eq}
use Rattle.values.specs.Names.{symbol_bits_text}
use Rattle.values.proofs.Bits.{symbol_flags, symbol_named}
use Rattle.values.proofs.names.SymbolBitsDisplay.fmt.Goals as goal

pub returns-clause-writes : goal.returns-clause-writes
unfolding symbol_bits_text
returns-clause-writes g c = λ plain ok.
    has_written_of_eq _ _ _ _ _
    (ap (symbol_flags c.args.self.now.0) (take_all c.loop-flag.flag-index _ (omega arith)) ∙ symbol_named c.args.self.now.0 _ (c.flags-flag-items.ensures tt))
    (c.loop-flag.invariant plain)
