use Rattle.std.proofs.Common.{arith}
use Rattle.field.proofs.Sizes.{length_parts, length_sections}
use Rattle.field.proofs.writer.size_of.Goals as goal

pub returns : goal.returns
returns c = simp (length_parts, length_sections, ← c.has_type_guid.ensures, ← c.has_copy_mask.ensures, ← c.has_attributes.ensures) (omega arith)
