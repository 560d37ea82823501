use Rattle.std.proofs.Common.{sym, ◌∙◌}
use Rattle.places.proofs.of_entry.entry_attribute.Goals as goal

pub attribute_numbered-requires : goal.attribute_numbered-requires
attribute_numbered-requires g c = rw c.shown.ensures ((g.met.E.Attributed c.lifetimes (assumption c)).at_end c.args.mode _ c.in_ok-found.found (sym c.read.ensures ∙ c.in_ok-found.was))
