-- docs/FORMAT.md, "Symbol entries": a header of 30 bytes; name, type and comment, each with one end byte; then the sections that its flags name.
use Rattle.std.specs.Prelude.{ℕ, ◌+◌, ◌≤◌, Bool, List, [], Option, Some, None, Result, Ok, Err, ltb, leb, length, if◌then◌else◌}
use Rattle.std.specs.Borrow.{Bor}
use Rattle.le.specs.Le.{le2, le4, has}
use Rattle.part.specs.Slice.{part, after}
use Rattle.part.specs.End.{rest_at}
use Rattle.part.specs.Outcome.{outcome, and_then}
use Rattle.refusal.specs.EndBytes.{ended, in_mode}
use Rattle.refusal.specs.declared.Mode.{Mode}
use Rattle.refusal.specs.declared.Refusal.{Refusal}
use Rattle.refusal.specs.declared.Refusal.TheVariants.{TooShort}
use Rattle.layout.specs.Layout.{strings_there, string_ends, guid_of}
use Rattle.attribute.specs.declared.Attributes.{Attributes}
use Rattle.attribute.specs.Attribute as attribute
use Rattle.refactor.specs.declared.RefactorInfos.{RefactorInfos}
use Rattle.refactor.specs.Refactor as refactor
use Rattle.flags.specs.declared.symbol_flags.AdsSymbol2Flags.{AdsSymbol2Flags}
use Rattle.symbol.specs.declared.AdsSymbolInfo.{AdsSymbolInfo}

-- the flags that name sections, and the extended flag of a chain
abbrev pub type_guid_flag : ℕ
type_guid_flag = 0x0008

abbrev pub attributes_flag : ℕ
attributes_flag = 0x1000

abbrev pub extended_flags_flag : ℕ
extended_flags_flag = 0x8000

abbrev pub refactor_info_flag : ℕ
refactor_info_flag = 0x0004

-- each section, and the bytes after it. One that is not flagged, or has no room, moves nothing: behind the GUID a 2-byte count, then so many attributes, up to one that is refused
unfoldable pub attributes_of : Bor (List ℕ) → Bool → Attributes × Bor (List ℕ)
attributes_of s flagged =
    if flagged then
    if leb 2 (length s.now) then
    (record { bytes = after s 2; count = length (attribute.listed (after s 2) (le2 s.now 0)) }, attribute.after_listed (after s 2) (le2 s.now 0))
    else (record { bytes = s; count = 0 }, s)
    else (record { bytes = s; count = 0 }, s)

-- 4 bytes of further flags
unfoldable pub extended_of : Bor (List ℕ) → Bool → Option AdsSymbol2Flags × Bor (List ℕ)
extended_of s flagged =
    if flagged then if leb 4 (length s.now) then (Some (record { 0 = le4 s.now 0 }), after s 4) else (None, s)
    else (None, s)

abbrev pub extended_word : Option AdsSymbol2Flags → ℕ
extended_word (Some flags) = flags.0
extended_word None = 0

-- a chain. One that is refused is dropped whole and moves nothing
unfoldable pub refactor_infos_of : Bor (List ℕ) → Bool → RefactorInfos × Bor (List ℕ)
refactor_infos_of s flagged =
    if flagged then
    outcome (refactor.chain_of s) (λ p. (record { bytes = s; count = p.0 }, p.1)) (λ why. (record { bytes = s; count = 0 }, s))
    else (record { bytes = s; count = 0 }, s)

-- the symbol of an entry's own bytes whose strings have these lengths
unfoldable pub with_strings : Bor (List ℕ) → ℕ → ℕ → ℕ → AdsSymbolInfo
with_strings e n t k =
    let g : Option (List ℕ) × Bor (List ℕ) = guid_of (after e (33 + n + t + k)) (has (le2 e.now 20) type_guid_flag) in
    let a : Attributes × Bor (List ℕ) = attributes_of g.1 (has (le2 e.now 20) attributes_flag) in
    let x : Option AdsSymbol2Flags × Bor (List ℕ) = extended_of a.1 (has (le2 e.now 20) extended_flags_flag) in
    let f : RefactorInfos × Bor (List ℕ) = refactor_infos_of x.1 (has (extended_word x.0) refactor_info_flag) in
    record {
      length = length e.now;
      index_group = record { 0 = le4 e.now 4 };
      index_offset = record { 0 = le4 e.now 8 };
      size = le4 e.now 12;
      data_type_id = le4 e.now 16;
      flags = record { 0 = le2 e.now 20 };
      high = le2 e.now 22;
      name = part e 30 n;
      type_name = part e (31 + n) t;
      comment = part e (32 + n + t) k;
      guid = g.0;
      attributes = a.0;
      extended_flags = x.0;
      refactor_infos = f.0;
      unread = f.1;
    }

-- a symbol that was read from these bytes has its strings, with their end bytes, and the bytes of its lists in them
pub record IsWithin (e : Bor (List ℕ)) (r : AdsSymbolInfo) : Type 0 where
  pub strings : 33 + length r.name.now + length r.type_name.now + length r.comment.now ≤ length e.now
  pub attributes : length r.attributes.bytes.now ≤ length e.now
  pub refactor_infos : length r.refactor_infos.bytes.now ≤ length e.now

-- its end bytes, with their places, in the order in which they are met: the strings', the attributes', the chain's, also of a chain that is dropped
abbrev pub string_ends_of : Bor (List ℕ) → AdsSymbolInfo → List (ℕ × ℕ)
string_ends_of e r = string_ends e.now 30 (length r.name.now) (length r.type_name.now) (length r.comment.now)

abbrev pub attribute_ends : Bor (List ℕ) → AdsSymbolInfo → List (ℕ × ℕ)
attribute_ends e r = attribute.ends r.attributes.bytes (rest_at e r.attributes.bytes) r.attributes.count

abbrev pub refactor_ends : Bor (List ℕ) → AdsSymbolInfo → List (ℕ × ℕ)
refactor_ends e r =
    if has (extended_word r.extended_flags) refactor_info_flag then refactor.ends r.refactor_infos.bytes (rest_at e r.refactor_infos.bytes) else []

-- the first of them that is not 0 is refused
unfoldable pub symbol_ended : Bor (List ℕ) → AdsSymbolInfo → Result Unit Refusal
symbol_ended e r = and_then (ended (string_ends_of e r)) (λ _. and_then (ended (attribute_ends e r)) (λ _. ended (refactor_ends e r)))

unfoldable pub ended_symbol : Mode → Bor (List ℕ) → AdsSymbolInfo → Result AdsSymbolInfo Refusal
ended_symbol mode e r = and_then (in_mode mode (symbol_ended e r)) (λ _. Ok r)

-- of an entry's own bytes, in a mode: 2 for a header that is not there, 3 for strings that are not, then 16
unfoldable pub symbol_of : Mode → Bor (List ℕ) → Result AdsSymbolInfo Refusal
symbol_of mode e =
    let n : ℕ = le2 e.now 24 in
    let t : ℕ = le2 e.now 26 in
    let k : ℕ = le2 e.now 28 in
    if ltb (length e.now) 30 then Err (TooShort 30 (length e.now))
    else and_then (strings_there (33 + n + t + k) (length e.now)) (λ _. ended_symbol mode e (with_strings e n t k))
