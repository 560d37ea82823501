-- docs/FORMAT.md, "Why" and "Symbol entries": what the reasons of a symbol say of what it shows, and where its sections stand.
use Rattle.std.specs.Prelude.{ℕ, ◌-◌, ◌≡◌, List, is_some, Ok, if◌then◌else◌}
use Rattle.std.specs.Borrow.{Bor}
use Rattle.part.specs.End.{rest_at}
use Rattle.refusal.specs.declared.Mode.{Mode}
use Rattle.walk.specs.Step.{parse_of}
use Rattle.walk.specs.Theorems.{entry_of}
use Rattle.symbol.specs.declared.AdsSymbolInfo.{AdsSymbolInfo}
use Rattle.symbol.specs.Symbol.{symbol_of}
use Rattle.symbol.specs.Inside.{behind_strings, behind_guid, behind_attributes}
use Rattle.why.specs.declared.Reason.{Reason}
use Rattle.why.specs.declared.Reason.TheVariants.{NotFlagged, NoExtendedFlags, NoRoom, Whole, Refused, Owed}
use Rattle.why.specs.declared.Reasons.{Reasons}
use Rattle.why.specs.Reasons.{explained}

-- how many are shown of a list that a refused record ends, and of one that it drops
abbrev pub shown_of : Reason → ℕ
shown_of NotFlagged = 0
shown_of NoExtendedFlags = 0
shown_of (NoRoom at left) = 0
shown_of (Whole at count) = count
shown_of (Refused before at why) = before
shown_of (Owed announced owed) = announced - owed

abbrev pub kept_of : Reason → ℕ
kept_of (Whole at count) = count
kept_of _ = 0

-- the place of its section that a reason tells, and that of a refused record
abbrev pub Begins : Reason → ℕ → Type 0
Begins (NoRoom at left) place = at ≡ place
Begins (Whole at count) place = at ≡ place
Begins _ place = Unit

abbrev pub RefusedAt : Reason → ℕ → Type 0
RefusedAt (Refused before at why) place = at ≡ place
RefusedAt _ place = Unit

-- as many are shown as the symbol has, and each section stands where its reader has it: a refused attribute where what follows the attributes begins
pub record AreShown (e : Bor (List ℕ)) (r : AdsSymbolInfo) (x : Reasons) : Type 0 where
  pub guid : kept_of x.guid ≡ (if is_some r.guid then 1 else 0)
  pub attributes : shown_of x.attributes ≡ r.attributes.count
  pub extended_flags : kept_of x.extended_flags ≡ (if is_some r.extended_flags then 1 else 0)
  pub chain : kept_of x.refactor_infos ≡ r.refactor_infos.count
  pub guid_at : Begins x.guid (behind_strings r)
  pub attributes_at : Begins x.attributes (behind_guid r)
  pub refused_at : RefusedAt x.attributes (behind_attributes e r)
  pub extended_at : Begins x.extended_flags (behind_attributes e r)
  pub chain_at : Begins x.refactor_infos (rest_at e r.refactor_infos.bytes)

-- of the symbol at the start of some bytes that is accepted, in whatever mode, what is answered, by the entry alone
abbrev pub ReasonsShown : Type 0
ReasonsShown = (mode : Mode) (s : Bor (List ℕ)) (r : AdsSymbolInfo) (x : Reasons) → parse_of 30 (symbol_of mode) s ≡ Ok r → explained s ≡ Ok x → AreShown (entry_of s) r x
