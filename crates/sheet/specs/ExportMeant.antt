-- docs/FORMAT.md, "Sheet": which entries a sheet holds, by their bytes, and what is written of an upload, entry by entry.
use Rattle.std.specs.Prelude.{ℕ, ◌+◌, ◌-◌, ◌<◌, ◌≤◌, ◌≡◌, true, false, List, [], ◌∷◌, ◌++◌, Option, Some, Result, Ok, Err, codes, length, get_or}
use Rattle.std.specs.Borrow.{Bor}
use Rattle.le.specs.Le.{le2, le4, has}
use Rattle.le.specs.Le as le
use Rattle.refusal.specs.declared.Mode.TheVariants.{Present}
use Rattle.refusal.specs.declared.Refusal.{Refusal}
use Rattle.refusal.specs.declared.Refusal.TheVariants.{TooLarge, NotInSheet, ZeroEntryLength}
use Rattle.walk.specs.Steps.{IsStep}
use Rattle.symbol.specs.declared.AdsSymbolInfo.{AdsSymbolInfo}
use Rattle.symbol.specs.Symbol.{symbol_of}
use Rattle.sheet.specs.Export.{admitted, exporting}
use Rattle.sheet.specs.CellsMeant.{IsRow}

module _ (e : List ℕ) where
  -- nothing stands behind the comment's end byte, and each string's end byte is 0
  pub record IsWhole : Type 0 where
    pub long : length e ≡ 33 + le2 e 24 + le2 e 26 + le2 e 28
    pub name_ended : get_or e (30 + le2 e 24) 0 ≡ 0
    pub type_ended : get_or e (31 + le2 e 24 + le2 e 26) 0 ≡ 0
    pub comment_ended : get_or e (32 + le2 e 24 + le2 e 26 + le2 e 28) 0 ≡ 0

  -- whether a sheet holds an entry, the k-th: of these cases exactly one is met
  pub data IsAdmitted (k : ℕ) : Result Unit Refusal → Type 0 where
    guid : has (le2 e 20) 0x0008 ≡ true → IsAdmitted k (Err (NotInSheet k 1))
    attributes : has (le2 e 20) 0x0008 ≡ false → has (le2 e 20) 0x1000 ≡ true → IsAdmitted k (Err (NotInSheet k 2))
    extended_flags : has (le2 e 20) 0x0008 ≡ false → has (le2 e 20) 0x1000 ≡ false → has (le2 e 20) 0x8000 ≡ true → IsAdmitted k (Err (NotInSheet k 3))
    held : has (le2 e 20) 0x0008 ≡ false → has (le2 e 20) 0x1000 ≡ false → has (le2 e 20) 0x8000 ≡ false → IsWhole → IsAdmitted k (Ok tt)
    not_whole : has (le2 e 20) 0x0008 ≡ false → has (le2 e 20) 0x1000 ≡ false → has (le2 e 20) 0x8000 ≡ false → (IsWhole → ⊥) → IsAdmitted k (Err (NotInSheet k 5))

-- what stands from a place on up to the next
abbrev pub own : List ℕ → ℕ → ℕ → List ℕ
own s at next = le.part s at (next - at)

-- The rows of an upload from a place on, whose entry is the k-th, step by step; or the first refusal
pub data Rows (s : Bor (List ℕ)) : ℕ → ℕ → Result (List ℕ) Refusal → Type 0 where
  done : {k at : ℕ} → length s.now ≤ at → Rows s k at (Ok [])
  -- the step stays, at a zero claim
  zero : {k at : ℕ} {answer : Option (Result AdsSymbolInfo Refusal)} → at < length s.now → IsStep 30 (symbol_of Present) s at answer at → Rows s k at (Err ZeroEntryLength)
  refused : {k at next : ℕ} {why : Refusal} → at < next → IsStep 30 (symbol_of Present) s at (Some (Err why)) next → Rows s k at (Err why)
  barred : {k at next : ℕ} {r : AdsSymbolInfo} {why : Refusal} → at < next → IsStep 30 (symbol_of Present) s at (Some (Ok r)) next → IsAdmitted (own s.now at next) k (Err why)
      → Rows s k at (Err why)
  -- a row, and those of the entries behind it or their refusal
  row : {k at next : ℕ} {r : AdsSymbolInfo} {text more : List ℕ} → at < next → IsStep 30 (symbol_of Present) s at (Some (Ok r)) next → IsAdmitted (own s.now at next) k (Ok tt)
      → IsRow (own s.now at next) text → Rows s (k + 1) next (Ok more) → Rows s k at (Ok (text ++ more))
  later : {k at next : ℕ} {r : AdsSymbolInfo} {why : Refusal} → at < next → IsStep 30 (symbol_of Present) s at (Some (Ok r)) next → IsAdmitted (own s.now at next) k (Ok tt)
      → Rows s (k + 1) next (Err why) → Rows s k at (Err why)

abbrev pub AdmittedMeant : Type 0
AdmittedMeant = (k : ℕ) (e : Bor (List ℕ)) (r : AdsSymbolInfo) → symbol_of Present e ≡ Ok r → IsAdmitted e.now k (admitted k e.now r)

-- above the limit 5; within it the header and the rows are written, or the first refusal is told
pub record ExportMeant (s : Bor (List ℕ)) : Type 0 where
  pub large : 16777216 < length s.now → exporting s ≡ Err (TooLarge (length s.now))
  pub written : (text : List ℕ) → exporting s ≡ Ok text
      → (rows : List ℕ) × (text ≡ codes "group,offset,size,type id,flags,high,name,type,comment\r\n" ++ rows) × Rows s 0 0 (Ok rows)
  pub refusal : (why : Refusal) → length s.now ≤ 16777216 → exporting s ≡ Err why → Rows s 0 0 (Err why)

abbrev pub ExportsMeant : Type 0
ExportsMeant = (s : Bor (List ℕ)) → ExportMeant s
