-- A second small controller's paths: antt computes what the definitions say of its bytes.
use Rattle.std.proofs.Common.{refl}
use Rattle.le.specs.Le.{le2, le4}
use Rattle.names.specs.Names.{same_name}
use Rattle.path.specs.Path.{value, closing, closed, numbered, bracketed, member, first_part}
use Rattle.bind.specs.Reading.{symbol_entry, type_entry}
use Rattle.bind.specs.Binding.{moved, member_of, at_member, to_member, index_of, at_element, to_element, to_part, says_again, at_type, to_type, settled, along, longest, below, told, from_symbol, binding}
use Rattle.bind.specs.Edges.{EdgesBound}

pub edges_bound : EdgesBound
unfolding le2 le4 same_name value closing closed numbered bracketed member first_part symbol_entry type_entry moved member_of at_member to_member index_of at_element to_element to_part says_again at_type to_type settled along longest below told from_symbol binding
edges_bound =
    record {
      seven_parts = refl;
      last_of_seven = refl;
      sixteen_types = refl;
      seventeen_types = refl;
      far_element = refl;
      far_element_below = refl;
      past_last = refl;
      least = refl;
      last_offset = refl;
      past_last_offset = refl;
      below_least = refl;
      over_largest = refl;
      arrays_alike = refl;
      sizes_alike = refl;
      inner_left = refl;
      reference_first = refl;
      property_before_static = refl;
      bit_before_reference = refl;
      pointer_alone = refl;
      below_pointer = refl;
      number_of_pointer = refl;
      pointer_member = refl;
      below_pointer_member = refl;
      below_interface = refl;
      pointer_element = refl;
      below_pointer_element = refl;
    }
