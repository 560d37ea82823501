-- docs/FORMAT.md, "Why": the reason of each section, from what the symbol's reader gave.
use Rattle.std.specs.Prelude.{ℕ, zero, suc, ◌+◌, ◌-◌, Bool, List, Option, Some, None, is_some, Result, Ok, ltb, eqb, length, if◌then◌else◌}
use Rattle.std.specs.Borrow.{Bor}
use Rattle.le.specs.Le.{le2, has}
use Rattle.part.specs.Outcome.{outcome, and_then}
use Rattle.part.specs.End.{rest_at}
use Rattle.refusal.specs.declared.Mode.TheVariants.{Present}
use Rattle.refusal.specs.declared.Refusal.{Refusal}
use Rattle.refusal.specs.declared.Refusal.TheVariants.{TooShort}
use Rattle.flags.specs.declared.symbol_flags.AdsSymbol2Flags.{AdsSymbol2Flags}
use Rattle.attribute.specs.Attribute as attribute
use Rattle.refactor.specs.Refactor as refactor
use Rattle.walk.specs.Step.{parse_of}
use Rattle.symbol.specs.declared.AdsSymbolInfo.{AdsSymbolInfo}
use Rattle.symbol.specs.Symbol.{type_guid_flag, attributes_flag, extended_flags_flag, refactor_info_flag, symbol_of}
use Rattle.symbol.specs.Inside.{behind_strings, behind_guid}
use Rattle.why.specs.declared.Reason.{Reason}
use Rattle.why.specs.declared.Reason.TheVariants.{NotFlagged, NoExtendedFlags, NoRoom, Whole, Refused, Owed}
use Rattle.why.specs.declared.Reasons.{Reasons}

-- of a section of one size: whether it is there, whether it is flagged, where it begins and how many bytes are left there
abbrev pub fixed_reason : Bool → Bool → ℕ → ℕ → Reason
fixed_reason there flagged at left = if there then Whole at 1 else if flagged then NoRoom at left else NotFlagged

-- of a list of attributes, of which so many are announced at a place and so many shown: by the refusal that stopped it, if one did, and the bytes after those shown
abbrev pub listed_reason : Bor (List ℕ) → ℕ → ℕ → ℕ → Bor (List ℕ) → Option Refusal → Reason
listed_reason e at announced shown rest (Some why) = Refused shown (rest_at e rest) why
listed_reason e at announced shown rest None = if ltb shown announced then Owed announced (announced - shown) else Whole at announced

abbrev pub list_reason : Bor (List ℕ) → ℕ → Bor (List ℕ) → ℕ → Reason
list_reason e at s announced = listed_reason e at announced (length (attribute.listed s announced)) (attribute.after_listed s announced) (attribute.stopped s announced)

unfoldable pub attributes_reason : Bor (List ℕ) → AdsSymbolInfo → ℕ → Reason
attributes_reason e r at =
    if has r.flags.0 attributes_flag then
    if ltb (length e.now - at) 2 then NoRoom at (length e.now - at) else list_reason e at r.attributes.bytes (le2 e.now at)
    else NotFlagged

-- of a chain that begins at a place, after so many of its records, where the entry has so many bytes: each record takes at least a byte of those that are left
unfoldable pub chain_from : ℕ → ℕ → Bor (List ℕ) → ℕ → ℕ → Reason
chain_from whole at s count zero = Refused count (whole - length s.now) (TooShort 7 0)
chain_from whole at s count (suc left) =
    outcome (refactor.first_of s) (λ p. if p.0.next_refactor_info then chain_from whole at p.1 (count + 1) left else Whole at (count + 1)) (Refused count (whole - length s.now))

abbrev pub met_chain_reason : ℕ → Bor (List ℕ) → Reason
met_chain_reason whole s = chain_from whole (whole - length s.now) s 0 (length s.now)

abbrev pub flagged_chain_reason : Bor (List ℕ) → Bor (List ℕ) → Reason
flagged_chain_reason e s = if eqb (length s.now) 0 then NoRoom (length e.now) 0 else met_chain_reason (length e.now) s

abbrev pub chain_reason_by : Bor (List ℕ) → Bor (List ℕ) → Option AdsSymbol2Flags → Reason
chain_reason_by e s None = NoExtendedFlags
chain_reason_by e s (Some flags) = if has flags.0 refactor_info_flag then flagged_chain_reason e s else NotFlagged

abbrev pub chain_reason : Bor (List ℕ) → AdsSymbolInfo → Reason
chain_reason e r = chain_reason_by e r.refactor_infos.bytes r.extended_flags

-- where the extended flags begin: right before the chain, if they are there
abbrev pub extended_at : Bor (List ℕ) → AdsSymbolInfo → ℕ
extended_at e r = rest_at e r.refactor_infos.bytes - (if is_some r.extended_flags then 4 else 0)

unfoldable pub reasons_of : Bor (List ℕ) → AdsSymbolInfo → Reasons
reasons_of e r = record {
  guid = fixed_reason (is_some r.guid) (has r.flags.0 type_guid_flag) (behind_strings r) (length e.now - behind_strings r);
  attributes = attributes_reason e r (behind_guid r);
  extended_flags = fixed_reason (is_some r.extended_flags) (has r.flags.0 extended_flags_flag) (extended_at e r) (length e.now - extended_at e r);
  refactor_infos = chain_reason e r;
}

-- of an entry's own bytes, and of the entry at the start of some bytes: what its reader refuses is refused
abbrev pub explained_own : Bor (List ℕ) → Result Reasons Refusal
explained_own e = and_then (symbol_of Present e) (λ r. Ok (reasons_of e r))

abbrev pub explained : Bor (List ℕ) → Result Reasons Refusal
explained = parse_of 30 explained_own
