use Rattle.le.proofs.Laws.{after, same_bytes}
use Rattle.symbol.specs.Writing.{sections_bytes}
use Rattle.symbol.proofs.writer.put_sections.Goals as goal

pub returns : goal.returns
unfolding sections_bytes
returns c =
    same_bytes (simp (← c.has_attributes.ensures, ← c.has_extended_flags.ensures))
    (after c.put_guid-a.ensures (after c.put_attributes-b.ensures (after c.put_extended-c.ensures c.put_bytes.ensures)))
