use Rattle.std.proofs.Common.{arith}
use Rattle.le.proofs.Laws.{after, same_bytes}
use Rattle.writing.proofs.Entry.{length_strings, claimed}
use Rattle.field.proofs.Sizes.{length_header, length_parts}
use Rattle.field.specs.Writing.{field_bytes}
use Rattle.field.proofs.writer.put_field.Goals as goal

pub put_u32-a-requires : goal.put_u32-a-requires
put_u32-a-requires c = omega (arith, length_parts)

pub put_header-b-requires-clause-at_in_bounds : goal.put_header-b-requires-clause-at_in_bounds
put_header-b-requires-clause-at_in_bounds c = omega (arith, length_parts)

pub put_strings-c-requires : goal.put_strings-c-requires
put_strings-c-requires c = omega (arith, length_header, length_parts)

pub put_sections-requires-clause-block_in_bounds : goal.put_sections-requires-clause-block_in_bounds
put_sections-requires-clause-block_in_bounds c = omega (arith, length_header, length_strings, length_parts)

pub returns : goal.returns
unfolding field_bytes
returns c =
    same_bytes (claimed _ c.requires.size_is)
    (after c.put_u32-a.ensures (after c.put_header-b.ensures (after c.put_strings-c.ensures c.put_sections.ensures)))
