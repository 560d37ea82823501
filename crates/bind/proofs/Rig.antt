-- A small controller's paths: antt computes what the definitions say of its bytes.
use Rattle.std.proofs.Common.{refl}
use Rattle.le.specs.Le.{le2, le4}
use Rattle.names.specs.Names.{same_name}
use Rattle.path.specs.Path.{value, closing, closed, numbered, bracketed, member, first_part}
use Rattle.bind.specs.Reading.{symbol_entry, type_entry}
use Rattle.bind.specs.Binding.{moved, member_of, at_member, to_member, index_of, at_element, to_element, to_part, says_again, at_type, to_type, settled, along, longest, below, told, from_symbol, binding}
use Rattle.bind.specs.Rig.{RigBound}

pub rig_bound : RigBound
unfolding le2 le4 same_name value closing closed numbered bracketed member first_part symbol_entry type_entry moved member_of at_member to_member index_of at_element to_element to_part says_again at_type to_type settled along longest below told from_symbol binding
rig_bound =
    record {
      alone = refl;
      longest_name = refl;
      through_shorter = refl;
      bit_alone = refl;
      end_alone = refl;
      first_member = refl;
      in_bits = refl;
      element = refl;
      one_by_one = refl;
      below_element = refl;
      said_again = refl;
      element_in_bits = refl;
      own_items = refl;
      whole_array = refl;
      no_symbol = refl;
      no_name = refl;
      not_closed = refl;
      no_number = refl;
      no_sign = refl;
      more_behind = refl;
      no_member = refl;
      no_type = refl;
      below_first = refl;
      above_first = refl;
      below_second = refl;
      above_second = refl;
      far_above = refl;
      far_below = refl;
      one_missing = refl;
      member_of_row = refl;
      member_of_array = refl;
      no_array = refl;
      static_member = refl;
      property_member = refl;
      reference_member = refl;
      below_bit = refl;
      below_bit_first = refl;
      below_reference = refl;
      reference_type = refl;
      too_large = refl;
      in_circles = refl;
      no_part_first = refl;
      reference_first = refl;
    }
