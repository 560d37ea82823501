-- The names of parts: computed.
use Rattle.std.proofs.Common.{refl}
use Rattle.sections.specs.Parts.{part_text}
use Rattle.sections.specs.Named.{PartsNamed}

pub parts_named : PartsNamed
unfolding part_text
parts_named = record {
  length = refl;
  group = refl;
  offset = refl;
  size = refl;
  type_id = refl;
  flags = refl;
  high = refl;
  string_lengths = refl;
  name = refl;
  type = refl;
  comment = refl;
  guid = refl;
  attribute_count = refl;
  attribute = λ k. refl;
  extended_flags = refl;
  former_name = λ k. refl;
  unread = refl;
}
