-- Flag words and strings word for word: computed.
use Rattle.std.proofs.Common.{refl}
use Rattle.std.specs.Fmt.{digits}
use Rattle.values.specs.Names.{context_text, extended_bits_text, extended_text, flags_text, former_text, four_digits, nameless_text, or_none, symbol_bits_text}
use Rattle.values.specs.Words.{WordsMeant}

pub words_meant : WordsMeant
unfolding digits context_text extended_bits_text extended_text flags_text former_text four_digits nameless_text or_none symbol_bits_text
words_meant = record {
  persistent = refl;
  bit_value = refl;
  reference_to = refl;
  type_guid = refl;
  interface_ptr = refl;
  read_only = refl;
  method_access = refl;
  method_deref = refl;
  context_one = refl;
  context_fifteen = refl;
  attributes = refl;
  static = refl;
  init_on_reset = refl;
  extended_flags = refl;
  many = refl;
  all = refl;
  no_flags = refl;
  pointer_type = refl;
  redundancy_ignore = refl;
  refactor_info = refl;
  online_change = refl;
  variant_type = refl;
  all_extended = refl;
  nameless = refl;
  no_extended = refl;
  empty = refl;
  some = λ b s. refl;
  no_former = refl;
  some_former = λ b s. refl;
}
