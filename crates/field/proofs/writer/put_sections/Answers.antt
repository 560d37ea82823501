use Rattle.le.proofs.Laws.{after, same_bytes}
use Rattle.field.specs.Writing.{sections_bytes}
use Rattle.field.proofs.writer.put_sections.Goals as goal

pub returns : goal.returns
unfolding sections_bytes
returns c =
    same_bytes (simp (← c.has_type_guid.ensures, ← c.has_copy_mask.ensures, ← c.has_attributes.ensures))
    (after c.put_guid-a.ensures (after c.put_mask-b.ensures c.put_attributes.ensures))
