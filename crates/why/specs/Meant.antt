-- docs/FORMAT.md, "Why": what each reason says of an entry's own bytes, and of a place in them; that the reasons of a symbol are true; and that no others are.
use Rattle.std.specs.Prelude.{ℕ, suc, ◌+◌, ◌<◌, ◌≤◌, ◌≡◌, ◌⊎◌, true, false, List, Ok, Err, length, take, drop}
use Rattle.std.specs.Borrow.{Bor}
use Rattle.le.specs.Le.{le2, le4, has}
use Rattle.refusal.specs.declared.Mode.{Mode}
use Rattle.refusal.specs.declared.Mode.TheVariants.{Present}
use Rattle.refusal.specs.declared.Refusal.{Refusal}
use Rattle.refusal.specs.declared.Refusal.TheVariants.{UnexpectedLength, TooShort}
use Rattle.attribute.specs.Laid as attribute
use Rattle.refactor.specs.Laid as refactor
use Rattle.walk.specs.Step.{parse_of}
use Rattle.symbol.specs.declared.AdsSymbolInfo.{AdsSymbolInfo}
use Rattle.symbol.specs.Symbol.{symbol_of}
use Rattle.why.specs.declared.Reason.{Reason}
use Rattle.why.specs.declared.Reason.TheVariants.{NotFlagged, NoExtendedFlags, NoRoom, Whole, Refused, Owed}
use Rattle.why.specs.declared.Reasons.{Reasons}
use Rattle.why.specs.Reasons.{explained}

-- an attribute that is refused at the start of some bytes, and a refactor record: less than its least, or than the whole
pub data IsCutAttribute (s : List ℕ) : Refusal → Type 0 where
  least : length s < 4 → IsCutAttribute s (TooShort 4 (length s))
  cut : 4 ≤ length s → length s < attribute.size s → IsCutAttribute s (UnexpectedLength (attribute.size s) (length s))

pub data IsCutRecord (s : List ℕ) : Refusal → Type 0 where
  least_record : length s < 7 → IsCutRecord s (TooShort 7 (length s))
  cut_record : 7 ≤ length s → length s < refactor.size s → IsCutRecord s (TooShort (refactor.size s) (length s))

module _ (e : List ℕ) where
  abbrev pub IsFlagged : ℕ → Type 0
  IsFlagged bit = has (le2 e 20) bit ≡ true

  abbrev pub IsUnflagged : ℕ → Type 0
  IsUnflagged bit = has (le2 e 20) bit ≡ false

  -- where what follows the strings begins
  abbrev pub strings_end : ℕ
  strings_end = 33 + le2 e 24 + le2 e 26 + le2 e 28

  -- a section of so many bytes, by its bit of the flags and the place where it would begin
  pub data IsFixed (bit size at : ℕ) : Reason → Type 0 where
    fixed_unflagged : IsUnflagged bit → IsFixed bit size at NotFlagged
    fixed_short : {left : ℕ} → IsFlagged bit → at + left ≡ length e → left < size → IsFixed bit size at (NoRoom at left)
    fixed_there : IsFlagged bit → at + size ≤ length e → IsFixed bit size at (Whole at 1)

  -- where what follows it begins
  pub data Behind (bit size at : ℕ) : ℕ → Type 0 where
    behind_unflagged : IsUnflagged bit → Behind bit size at at
    behind_short : length e < at + size → Behind bit size at at
    behind_there : IsFlagged bit → at + size ≤ length e → Behind bit size at (at + size)

  -- the attributes, by the place where their count would stand
  pub data IsAttributes (at : ℕ) : Reason → Type 0 where
    attributes_unflagged : IsUnflagged 0x1000 → IsAttributes at NotFlagged
    attributes_short : {left : ℕ} → IsFlagged 0x1000 → at + left ≡ length e → left < 2 → IsAttributes at (NoRoom at left)
    -- so many whole ones stand behind the count as it says
    attributes_whole : {to : ℕ} → IsFlagged 0x1000 → at + 2 ≤ length e → attribute.Stands e (at + 2) to (le2 e at) → IsAttributes at (Whole at (le2 e at))
    -- before that, bytes are left that are no whole one; behind the count itself none need be left
    attributes_refused : {before to : ℕ} {why : Refusal} → IsFlagged 0x1000 → at + 2 ≤ length e → attribute.Stands e (at + 2) to before → before < le2 e at
        → (before ≡ 0) ⊎ (to < length e) → IsCutAttribute (drop to e) why → IsAttributes at (Refused before to why)
    -- before that, but behind one, no byte is left
    attributes_owed : {shown owed : ℕ} → IsFlagged 0x1000 → at + 2 ≤ length e → attribute.Stands e (at + 2) (length e) shown → 0 < shown → 0 < owed
        → shown + owed ≡ le2 e at → IsAttributes at (Owed (le2 e at) owed)

  -- where what follows them begins: behind as many whole ones as there are of those announced
  pub data BehindAttributes (at : ℕ) : ℕ → Type 0 where
    list_unflagged : IsUnflagged 0x1000 → BehindAttributes at at
    list_short : length e < at + 2 → BehindAttributes at at
    list_there : {before to : ℕ} → IsFlagged 0x1000 → at + 2 ≤ length e → attribute.Stands e (at + 2) to before → before ≤ le2 e at
        → (before ≡ le2 e at) ⊎ (length (drop to e) < attribute.size (drop to e)) → BehindAttributes at to

  -- the chain, by the place where the extended flags would stand
  pub data IsChain (at : ℕ) : Reason → Type 0 where
    chain_no_flags : IsUnflagged 0x8000 → IsChain at NoExtendedFlags
    chain_short_flags : length e < at + 4 → IsChain at NoExtendedFlags
    chain_unflagged : IsFlagged 0x8000 → at + 4 ≤ length e → has (le4 e at) 0x0004 ≡ false → IsChain at NotFlagged
    chain_no_byte : IsFlagged 0x8000 → at + 4 ≡ length e → has (le4 e at) 0x0004 ≡ true → IsChain at (NoRoom (at + 4) 0)
    chain_refused : {before to : ℕ} {why : Refusal} → IsFlagged 0x8000 → at + 4 < length e → has (le4 e at) 0x0004 ≡ true
        → refactor.Stands e (at + 4) to before → IsCutRecord (drop to e) why → IsChain at (Refused before to why)
    chain_whole : {before to : ℕ} → IsFlagged 0x8000 → at + 4 < length e → has (le4 e at) 0x0004 ≡ true
        → refactor.Stands e (at + 4) to before → refactor.size (drop to e) ≤ length (drop to e) → refactor.followed (drop to e) ≡ false → IsChain at (Whole (at + 4) (suc before))

  -- all four, each where the one before it ends
  pub record AreTrue (x : Reasons) : Type 0 where
    pub guid : IsFixed 0x0008 16 strings_end x.guid
    pub count_at : ℕ
    pub behind_guid : Behind 0x0008 16 strings_end count_at
    pub attributes : IsAttributes count_at x.attributes
    pub flags_at : ℕ
    pub behind_attributes : BehindAttributes count_at flags_at
    pub extended_flags : IsFixed 0x8000 4 flags_at x.extended_flags
    pub chain : IsChain flags_at x.refactor_infos

-- the symbol at the start of some bytes that is accepted, in whatever mode, is explained, alike in both, and its reasons are true of the bytes of its claim, whatever stands behind them
pub record IsExplained (s : Bor (List ℕ)) : Type 0 where
  pub reasons : Reasons
  pub answered : explained s ≡ Ok reasons
  pub are_true : AreTrue (take (le4 s.now 0) s.now) reasons

abbrev pub ReasonsTrue : Type 0
ReasonsTrue = (mode : Mode) (s : Bor (List ℕ)) (r : AdsSymbolInfo) → parse_of 30 (symbol_of mode) s ≡ Ok r → IsExplained s

-- of one entry the reasons that are true are the same, figures included
abbrev pub ReasonsOne : Type 0
ReasonsOne = (e : List ℕ) (x y : Reasons) → AreTrue e x → AreTrue e y → x ≡ y

-- what is refused is what the reader refuses, alike
pub record RefusedAlike (s : Bor (List ℕ)) (why : Refusal) : Type 0 where
  pub reader_first : parse_of 30 (symbol_of Present) s ≡ Err why → explained s ≡ Err why
  pub only : explained s ≡ Err why → parse_of 30 (symbol_of Present) s ≡ Err why

abbrev pub ReasonsRefused : Type 0
ReasonsRefused = (s : Bor (List ℕ)) (why : Refusal) → RefusedAlike s why
