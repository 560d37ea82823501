-- The data type in which every number is another: antt computes what the definitions say of its bytes.
use Rattle.std.proofs.Common.{refl}
use Rattle.le.specs.Le.{le2, le4}
use Rattle.refusal.specs.EndBytes.{ended}
use Rattle.refusal.specs.declared.Mode.TheVariants.{Present, Checked}
use Rattle.entry.specs.Entry.{claim_of}
use Rattle.attribute.specs.Attribute as attribute
use Rattle.field.specs.Skip.{after_items}
use Rattle.field.specs.Front.{with_strings, front_of}
use Rattle.layout.specs.Layout.{guid_of}
use Rattle.field.specs.Tail.{after_mask, after_methods, attributes_of, tail_of}
use Rattle.data_type.specs.Array as array
use Rattle.data_type.specs.DataType.{taken, items_from, arrays_of, type_with, type_at}
use Rattle.data_type.specs.Members.{below, item_in, each, members_below}
use Rattle.lineup.specs.Types.{TypesLineUp}

pub types : TypesLineUp
unfolding le2 le4 ended claim_of attribute.first_of attribute.listed attribute.stopped attribute.ends after_items with_strings front_of guid_of after_mask after_methods attributes_of tail_of array.listed taken items_from arrays_of type_with type_at below item_in each members_below
types m Present =
    record {
      whole = refl;
      first = refl;
      second = refl;
      child = refl;
      grandchild = refl;
    }
types m Checked =
    record {
      whole = refl;
      first = refl;
      second = refl;
      child = refl;
      grandchild = refl;
    }
