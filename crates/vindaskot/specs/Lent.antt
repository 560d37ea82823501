-- docs/FORMAT.md, "Writing": what the writers' calls make of what is lent: a GUID from bytes, and what is to be written from numbers and bytes.
use Rattle.std.specs.Prelude.{ℕ, List, Option, Some, None, Result, Ok, Err, eqb, length, take, if◌then◌else◌}
use Rattle.std.specs.Borrow.{Bor}
use Rattle.refusal.specs.declared.Refusal.{Refusal}
use Rattle.refusal.specs.declared.Refusal.TheVariants.{UnexpectedLength}
use Rattle.symbol.specs.declared.writer.NewSymbol.{NewSymbol}
use Rattle.field.specs.declared.writer.NewField.{NewField}

-- no bytes are no GUID, 16 are one, and other lengths are refused with 1
unfoldable pub lent_guid : List ℕ → Result (Option (List ℕ)) Refusal
lent_guid bytes =
    if eqb (length bytes) 0 then Ok None
    else if eqb (length bytes) 16 then Ok (Some (take 16 bytes))
    else Err (UnexpectedLength 16 (length bytes))

abbrev pub new_symbol : ℕ → ℕ → ℕ → ℕ → ℕ → ℕ → ℕ → Option (List ℕ) → Bor (List ℕ) → Bor (List ℕ) → Bor (List ℕ) → ℕ → Bor (List ℕ) → ℕ → Bor (List ℕ) → NewSymbol
new_symbol group offset size type flags high extended guid name type_name comment count block links chain =
    record {
      index_group = record { 0 = group };
      index_offset = record { 0 = offset };
      size = size;
      data_type_id = type;
      flags = record { 0 = flags };
      high = high;
      name = name;
      type_name = type_name;
      comment = comment;
      guid = guid;
      attributes = record { count = count; bytes = block };
      extended_flags = record { 0 = extended };
      refactor_infos = record { count = links; bytes = chain };
    }

abbrev pub new_field : ℕ → ℕ → ℕ → ℕ → ℕ → ℕ → ℕ → Option (List ℕ) → Bor (List ℕ) → Bor (List ℕ) → Bor (List ℕ) → ℕ → Bor (List ℕ) → NewField
new_field version hash type_hash size offset type flags guid name type_name comment count block =
    record {
      version = version;
      hash_value = hash;
      type_hash_value = type_hash;
      size = size;
      offset = offset;
      type_id = type;
      flags = record { 0 = flags };
      name = name;
      type_name = type_name;
      comment = comment;
      guid = guid;
      attributes = record { count = count; bytes = block };
    }
