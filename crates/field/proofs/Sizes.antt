-- How long zeros and a written entry are.
use Rattle.std.proofs.Common.{ℕ, ◌+◌, ◌≡◌, refl, Bool, true, false, length, arith, length-append}
use Rattle.std.specs.Prelude.{if◌then◌else◌}
use lib.ListN.{length-replicate}
use Rattle.writing.specs.Layout.{lengths_bytes}
use Rattle.writing.proofs.Entry.{length_strings, length_attributes, length_entry}
use Rattle.field.specs.declared.writer.NewField.{NewField}
use Rattle.field.specs.Tail.{type_guid_flag, copy_mask_flag, attributes_flag}
use Rattle.field.specs.Writing.{flagged, numbers_bytes, header_bytes, zeros, guid_bytes, mask_bytes, sections_bytes, field_bytes}

pub length_zeros : (n : ℕ) → length (zeros n) ≡ n
length_zeros n = length-replicate n 0

pub length_header : (n : NewField) → length (header_bytes n) ≡ 38
unfolding header_bytes numbers_bytes lengths_bytes
length_header n = refl

pub length_mask : (here : Bool) (size : ℕ) → length (mask_bytes here size) ≡ (if here then size else 0)
unfolding mask_bytes
length_mask true size = length_zeros size
length_mask false size = refl

module _ (n : NewField) where
  pub length_parts : length (field_bytes n) ≡ 45 + (length n.name.now + length n.type_name.now + length n.comment.now) + length (sections_bytes n)
  unfolding field_bytes
  length_parts = simp (length_entry, length-append, length_header, length_strings) (omega arith)

  pub length_sections : length (sections_bytes n) ≡ length (guid_bytes (flagged n type_guid_flag) n.guid) + (if flagged n copy_mask_flag then n.size else 0) + (if flagged n attributes_flag then length n.attributes.bytes.now + 2 else 0)
  unfolding sections_bytes
  length_sections = simp (length-append, length_mask, length_attributes) (omega arith)
