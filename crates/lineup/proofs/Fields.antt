-- The field in which every number is another: antt computes what the definitions say of its bytes.
use Rattle.std.proofs.Common.{refl}
use Rattle.le.specs.Le.{le2, le4}
use Rattle.refusal.specs.EndBytes.{ended}
use Rattle.refusal.specs.declared.Mode.TheVariants.{Present, Checked}
use Rattle.entry.specs.Entry.{claim_of}
use Rattle.attribute.specs.Attribute as attribute
use Rattle.attribute.specs.Block as attribute-block
use Rattle.writing.specs.Layout.{lengths_bytes, strings_bytes, attributes_bytes, entry_bytes}
use Rattle.writing.specs.Checks.{strings_checked, entry_checked}
use Rattle.field.specs.Skip.{after_items}
use Rattle.field.specs.Front.{with_strings, front_of}
use Rattle.layout.specs.Layout.{guid_of}
use Rattle.field.specs.Tail.{after_mask, after_methods, attributes_of, tail_of}
use Rattle.field.specs.Field.{field_of}
use Rattle.field.specs.Writing.{numbers_bytes, header_bytes, guid_bytes, mask_bytes, sections_bytes, field_bytes, attributes_checked, field_checked, field_written}
use Rattle.lineup.specs.Fields.{FieldsLineUp}

pub fields : FieldsLineUp
unfolding le2 le4 ended claim_of attribute.first_of attribute.listed attribute.stopped attribute.ends attribute-block.good_of attribute-block.exact lengths_bytes strings_bytes attributes_bytes entry_bytes strings_checked entry_checked after_items with_strings front_of guid_of after_mask after_methods attributes_of tail_of field_of numbers_bytes header_bytes guid_bytes mask_bytes sections_bytes field_bytes attributes_checked field_checked field_written
fields m Present =
    record {
      written = refl;
      written_read = refl;
      sections = refl;
      guid_flagged = refl;
      mask_flagged = refl;
      methods_flagged = refl;
      attributes_flagged = refl;
      others_flagged = refl;
    }
fields m Checked =
    record {
      written = refl;
      written_read = refl;
      sections = refl;
      guid_flagged = refl;
      mask_flagged = refl;
      methods_flagged = refl;
      attributes_flagged = refl;
      others_flagged = refl;
    }
