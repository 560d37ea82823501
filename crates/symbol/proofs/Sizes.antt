-- The length of a written entry.
use Rattle.std.proofs.Common.{ℕ, ◌+◌, ◌≡◌, refl, Bool, true, false, length, Ok, arith, length-append}
use Rattle.std.specs.Prelude.{if◌then◌else◌}
use Rattle.writing.specs.Layout.{lengths_bytes}
use Rattle.writing.proofs.Entry.{length_strings, length_attributes, length_entry}
use Rattle.symbol.specs.declared.writer.NewSymbol.{NewSymbol}
use Rattle.symbol.specs.Symbol.{attributes_flag, extended_flags_flag}
use Rattle.writing.specs.Checks.{entry_checked}
use Rattle.symbol.specs.Writing.{flagged, numbers_bytes, header_bytes, guid_bytes, extended_bytes, sections_bytes, symbol_bytes, symbol_checked, symbol_written}

pub length_header : (n : NewSymbol) → length (header_bytes n) ≡ 26
unfolding header_bytes numbers_bytes lengths_bytes
length_header n = refl

pub length_extended : (here : Bool) (word : ℕ) → length (extended_bytes here word) ≡ (if here then 4 else 0)
length_extended true word = refl
length_extended false word = refl

module _ (n : NewSymbol) where
  pub length_parts : length (symbol_bytes n) ≡ 33 + (length n.name.now + length n.type_name.now + length n.comment.now) + length (sections_bytes n)
  unfolding symbol_bytes
  length_parts = simp (length_entry, length-append, length_header, length_strings) (omega arith)

  pub length_sections : length (sections_bytes n) ≡ length (guid_bytes n.guid) + (if flagged n attributes_flag then length n.attributes.bytes.now + 2 else 0) + (if flagged n extended_flags_flag then 4 else 0) + length n.refactor_infos.bytes.now
  unfolding sections_bytes
  length_sections = simp (length-append, length_attributes, length_extended) (omega arith)

  pub passes : symbol_checked n ≡ Ok tt → symbol_written n ≡ entry_checked (symbol_bytes n)
  unfolding symbol_written
  passes h = simp h
