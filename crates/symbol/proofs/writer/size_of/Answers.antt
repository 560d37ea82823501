use Rattle.std.proofs.Common.{arith}
use Rattle.symbol.proofs.Sizes.{length_parts, length_sections}
use Rattle.symbol.proofs.writer.size_of.Goals as goal

pub returns : goal.returns
returns c = simp (length_parts, length_sections, ← c.has_attributes.ensures, ← c.has_extended_flags.ensures) (omega arith)
