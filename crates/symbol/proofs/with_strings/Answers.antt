use Rattle.symbol.specs.Symbol.{with_strings}
use Rattle.symbol.proofs.with_strings.Goals as goal

pub returns : goal.returns
unfolding with_strings
returns c = simp (
  c.u16_at.ensures,
  c.u16_at-2.ensures,
  c.u32_at.ensures,
  c.u32_at-2.ensures,
  c.u32_at-3.ensures,
  c.u32_at-4.ensures,
  c.has_type_guid.ensures,
  c.has_attributes.ensures,
  c.has_extended_flags.ensures,
  c.has_refactor_infos.ensures,
  c.read_guid-guid.ensures,
  c.read_attributes.ensures,
  c.read_extended-extended_flags.ensures,
  c.read_refactor_infos.ensures,
  c.rest_of-sections.ensures,
  c.part_of.ensures,
  c.part_of-2.ensures,
  c.part_of-3.ensures,
)
