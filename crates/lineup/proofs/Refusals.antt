-- The least cases of refusals: antt computes what the definitions say of them.
use Rattle.std.proofs.Common.{ap, refl}
use Rattle.std.specs.Char.{encode_utf8}
use Rattle.std.specs.Str.{chars, is_utf8}
use Rattle.std.specs.Str.Lossy.{utf8_valid_len}
use Rattle.le.specs.Le.{le2, le4}
use Rattle.refusal.specs.EndBytes.{ended}
use Rattle.refusal.specs.declared.Mode.TheVariants.{Present, Checked}
use Rattle.entry.specs.Entry.{claim_at, claim_of}
use Rattle.entry.specs.Walk as entry-walk
use Rattle.attribute.specs.Attribute as attribute
use Rattle.attribute.specs.Block as attribute-block
use Rattle.attribute.specs.Writing.{lengths_checked, attribute_writing}
use Rattle.refactor.specs.Block as refactor-block
use Rattle.refactor.specs.Refactor as refactor
use Rattle.writing.specs.Checks.{strings_checked}
use Rattle.walk.specs.Step.{step_at}
use Rattle.symbol.specs.Symbol.{symbol_of}
use Rattle.symbol.specs.Writing.{sections_checked, symbol_checked, symbol_written}
use Rattle.name_find.specs.Find as any
use Rattle.field.specs.Front.{with_strings, front_of}
use Rattle.data_type.specs.DataType.{taken, items_from, arrays_of, type_with, type_at}
use Rattle.text.specs.Text as text
use Rattle.lineup.specs.LineUp.{figured}
use Rattle.lineup.specs.Refusals.{RefusalsLineUp}

pub refusals : RefusalsLineUp
unfolding le2 le4 ended claim_at claim_of entry-walk.steps_from entry-walk.steps attribute.first_of attribute.ends attribute-block.good_of attribute-block.exact lengths_checked attribute_writing refactor-block.good_of refactor-block.exact refactor.first_of strings_checked step_at symbol_of sections_checked symbol_checked symbol_written any.is_named any.find with_strings front_of taken items_from arrays_of type_with type_at text.points text.code_point text.decoded text.decoding text.byte_of text.bytes_of text.encoded_from text.encoding encode_utf8 chars is_utf8 utf8_valid_len
refusals m Present =
    record {
      largest = refl;
      too_large = refl;
      no_room = λ new r w. ap figured w.said;
      long_name = refl;
      many_attributes = refl;
      no_guid = refl;
      no_attributes = refl;
      no_records = refl;
      zero_claim = refl;
      no_text = refl;
      no_byte = refl;
      bad_digits = refl;
      nothing_named = refl;
      no_first = refl;
      no_seventh = refl;
      deep = refl;
      end_byte = refl;
    }
refusals m Checked =
    record {
      largest = refl;
      too_large = refl;
      no_room = λ new r w. ap figured w.said;
      long_name = refl;
      many_attributes = refl;
      no_guid = refl;
      no_attributes = refl;
      no_records = refl;
      zero_claim = refl;
      no_text = refl;
      no_byte = refl;
      bad_digits = refl;
      nothing_named = refl;
      no_first = refl;
      no_seventh = refl;
      deep = refl;
      end_byte = refl;
    }
