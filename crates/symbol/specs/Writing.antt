-- docs/FORMAT.md, "Writing": the symbol writer.
use Rattle.std.specs.Prelude.{ℕ, ◌≤◌, Bool, true, false, List, [], ◌++◌, Option, Some, None, is_some, Result, Ok, Err, ltb, eqb, length, if◌then◌else◌}
use Rattle.std.specs.Bool.{beq}
use Rattle.le.specs.Le.{bytes2, bytes4, has}
use Rattle.part.specs.Outcome.{and_then}
use Rattle.refusal.specs.declared.Refusal.{Refusal}
use Rattle.refusal.specs.declared.Refusal.TheVariants.{SectionsDisagree}
use Rattle.attribute.specs.Block as attribute
use Rattle.refactor.specs.Block as refactor
use Rattle.writing.specs.Layout.{lengths_bytes, strings_bytes, attributes_bytes, entry_bytes}
use Rattle.writing.specs.Checks.{count_checked, strings_checked, entry_checked, IsShort}
use Rattle.symbol.specs.Symbol.{type_guid_flag, attributes_flag, extended_flags_flag, refactor_info_flag}
use Rattle.symbol.specs.declared.writer.NewSymbol.{NewSymbol}

abbrev pub flagged : NewSymbol → ℕ → Bool
flagged n bit = has n.flags.0 bit

-- the two bytes after the flags are those given
unfoldable pub numbers_bytes : NewSymbol → List ℕ
numbers_bytes n =
    bytes4 n.index_group.0
    ++ (bytes4 n.index_offset.0 ++ (bytes4 n.size ++ (bytes4 n.data_type_id ++ (bytes2 n.flags.0 ++ bytes2 n.high))))

-- the header after the entry length
unfoldable pub header_bytes : NewSymbol → List ℕ
header_bytes n = numbers_bytes n ++ lengths_bytes n.name.now n.type_name.now n.comment.now

abbrev pub guid_bytes : Option (List ℕ) → List ℕ
guid_bytes (Some guid) = guid
guid_bytes None = []

abbrev pub extended_bytes : Bool → ℕ → List ℕ
extended_bytes here word = if here then bytes4 word else []

-- the sections in layout order; a chain has no count in front
unfoldable pub sections_bytes : NewSymbol → List ℕ
sections_bytes n =
    guid_bytes n.guid
    ++ (attributes_bytes (flagged n attributes_flag) n.attributes.count n.attributes.bytes.now
    ++ (extended_bytes (flagged n extended_flags_flag) n.extended_flags.0 ++ n.refactor_infos.bytes.now))

unfoldable pub symbol_bytes : NewSymbol → List ℕ
symbol_bytes n = entry_bytes (header_bytes n ++ (strings_bytes n.name.now n.type_name.now n.comment.now ++ sections_bytes n))

abbrev pub agree : Bool → ℕ → Result Unit Refusal
agree true section = Ok tt
agree false section = Err (SectionsDisagree section)

-- refusal 8 unless each holds: (1) the GUID is present exactly if flagged; (2) the attribute block is empty unless flagged;
-- (3) the extended flags are 0 unless flagged; (4) refactor records are present exactly if the extended flag says so
unfoldable pub sections_checked : NewSymbol → Result Unit Refusal
sections_checked n =
    and_then (agree (beq (is_some n.guid) (flagged n type_guid_flag)) 1)
    (λ _. and_then (agree (if flagged n attributes_flag then true else eqb (length n.attributes.bytes.now) 0) 2)
    (λ _. and_then (agree (if flagged n extended_flags_flag then true else eqb n.extended_flags.0 0) 3)
    (λ _. agree (beq (ltb 0 n.refactor_infos.count) (has n.extended_flags.0 refactor_info_flag)) 4)))

-- refusal 7 for the strings, then for the 2-byte count; 9 for attributes, then refactor records; 8
unfoldable pub symbol_checked : NewSymbol → Result Unit Refusal
symbol_checked n =
    and_then (strings_checked n.name.now n.type_name.now n.comment.now)
    (λ _. and_then (count_checked n.attributes.count)
    (λ _. and_then (attribute.block_checked n.attributes.count n.attributes.bytes)
    (λ _. and_then (refactor.block_checked n.refactor_infos.count n.refactor_infos.bytes)
    (λ _. sections_checked n))))

-- then refusal 5
unfoldable pub symbol_written : NewSymbol → Result (List ℕ) Refusal
symbol_written n = and_then (symbol_checked n) (λ _. entry_checked (symbol_bytes n))

-- strings, a count and a block of attributes that passed
pub record IsSized (n : NewSymbol) : Type 0 where
  pub short : IsShort n.name.now n.type_name.now n.comment.now
  pub count : n.attributes.count ≤ 65535
  pub block : length n.attributes.bytes.now ≤ 33684990
