-- docs/FORMAT.md, "The command's text", of `compare`: in which parts two entries differ, and what is told of each.
use Rattle.std.specs.Prelude.{ℕ, ◌+◌, ◌<◌, ◌≤◌, ◌≡◌, ◌≢◌, List, [], ◌∷◌, ◌++◌, ◌||◌, true, Some, None, Result, Ok, Err, is_ok, is_err, length}
use Rattle.std.specs.List.{AllByRecursion}
use Rattle.std.specs.declared.cmp.Ordering.TheVariants.{Less}
use Rattle.refusal.specs.Refusal.{limit}
use Rattle.refusal.specs.declared.Mode.{Mode}
use Rattle.refusal.specs.declared.Refusal.{Refusal}
use Rattle.symbol.specs.Symbol.{symbol_of}
use Rattle.symbol.specs.declared.AdsSymbolInfo.{AdsSymbolInfo}
use Rattle.sections.specs.Parts.{part_order}
use Rattle.sections.specs.Sections.{sections_of}
use Rattle.sections.specs.declared.Part.{Part}
use Rattle.sections.specs.declared.Part.TheVariants.{StringLengths}
use Rattle.sections.specs.declared.Section.{Section}
use Rattle.values.specs.Meant.{TellTheSame}
use Rattle.values.specs.Values.{value_of}
use Rattle.values.specs.declared.Value.{Value}
use Rattle.values.specs.declared.Value.TheVariants.{Absent, Byte, Bytes, Refused}
use Rattle.differences.specs.declared.Difference.{Difference}
use Rattle.differences.specs.declared.Entry.{Entry}
use Rattle.differences.specs.Differences.{differences_of}

-- of two runs that begin at these places of their entries: the first byte in which they differ, with its place in each; or where one of them only goes on, how many bytes they are
pub data FirstApart (at to : ℕ) (one other : List ℕ) : Value → Value → Type 0 where
  byte : (same : List ℕ) (x y : ℕ) (more others : List ℕ) → one ≡ same ++ (x ∷ more) → other ≡ same ++ (y ∷ others) → x ≢ y
      → FirstApart at to one other (Byte (at + length same) x) (Byte (to + length same) y)
  goes_on : (more : List ℕ) → other ≡ one ++ more → FirstApart at to one other (Bytes (length one)) (Bytes (length other))
  goes_on_in_a : (more : List ℕ) → one ≡ other ++ more → FirstApart at to one other (Bytes (length one)) (Bytes (length other))

-- what is told of a part whose bytes differ: what both tell, or where that is the same, the first byte
pub data AreTold (x y : Section) (v w : Value) : Value → Value → Type 0 where
  values : (TellTheSame v w → ⊥) → AreTold x y v w v w
  first : {p q : Value} → TellTheSame v w → FirstApart x.at y.at x.bytes.now y.bytes.now p q → AreTold x y v w p q

-- a part that the other has not, and that stands before all that are left of it
abbrev pub IsBefore : Part → List Section → Type 0
IsBefore p ys = AllByRecursion (λ (y : Section). part_order p y.part ≡ Less) ys

-- the sections of two symbols, in their order, and what is told of them: nothing of a part with the same bytes in both, nor of the lengths of the strings in both
pub data Differ (r s : AdsSymbolInfo) : List Section → List Section → List Difference → Type 0 where
  done : Differ r s [] [] []
  alike : {x y : Section} {xs ys : List Section} {ds : List Difference} → x.part ≡ y.part → x.bytes.now ≡ y.bytes.now
      → Differ r s xs ys ds → Differ r s (x ∷ xs) (y ∷ ys) ds
  lengths : {x y : Section} {xs ys : List Section} {ds : List Difference} → x.part ≡ StringLengths → y.part ≡ StringLengths
      → Differ r s xs ys ds → Differ r s (x ∷ xs) (y ∷ ys) ds
  apart : {x y : Section} {xs ys : List Section} {ds : List Difference} {v w : Value} → x.part ≡ y.part → x.part ≢ StringLengths → x.bytes.now ≢ y.bytes.now
      → AreTold x y (value_of r x.part x.bytes) (value_of s y.part y.bytes) v w
      → Differ r s xs ys ds → Differ r s (x ∷ xs) (y ∷ ys) (record { part = Some x.part; in_a = v; in_b = w } ∷ ds)
  only_in_a : {x : Section} {xs ys : List Section} {ds : List Difference} → IsBefore x.part ys
      → Differ r s xs ys ds → Differ r s (x ∷ xs) ys (record { part = Some x.part; in_a = value_of r x.part x.bytes; in_b = Absent } ∷ ds)
  only_in_b : {y : Section} {xs ys : List Section} {ds : List Difference} → IsBefore y.part xs
      → Differ r s xs ys ds → Differ r s xs (y ∷ ys) (record { part = Some y.part; in_a = Absent; in_b = value_of s y.part y.bytes } ∷ ds)

abbrev pub IsWithin : Entry → Type 0
IsWithin e = length e.bytes.now ≤ limit

-- an entry within the limit, whose symbol is what a mode reads of its bytes; where it is refused, by whatever refusal, those of the walk too
pub record IsRead (mode : Mode) (e : Entry) : Type 0 where
  pub symbol : (r : AdsSymbolInfo) → e.answer ≡ Ok r → symbol_of mode e.bytes ≡ Ok r
  pub within : IsWithin e

-- where one of the two is refused, or both
pub data AreRefused (e f : List ℕ) : Result AdsSymbolInfo Refusal → Result AdsSymbolInfo Refusal → Value → Value → Type 0 where
  only_a : {why : Refusal} {s : AdsSymbolInfo} → AreRefused e f (Err why) (Ok s) (Refused why) Absent
  only_b : {r : AdsSymbolInfo} {why : Refusal} → AreRefused e f (Ok r) (Err why) Absent (Refused why)
  apart : {why other : Refusal} → why ≢ other → AreRefused e f (Err why) (Err other) (Refused why) (Refused other)
  alike : {why : Refusal} {v w : Value} → FirstApart 0 0 e f v w → AreRefused e f (Err why) (Err why) v w

-- one difference, of no part
pub record IsRefusalTold (e f : Entry) : Type 0 where
  pub in_a : Value
  pub in_b : Value
  pub is : differences_of e f ≡ record { part = None; in_a = in_a; in_b = in_b } ∷ []
  pub told : AreRefused e.bytes.now f.bytes.now e.answer f.answer in_a in_b

abbrev pub AreBytes : List ℕ → Type 0
AreBytes s = AllByRecursion (λ (b : ℕ). b < 256) s

abbrev pub AreAccepted : Entry → Entry → Type 0
AreAccepted e f = (is_ok e.answer ≡ true) × (is_ok f.answer ≡ true)

pub record DifferencesMeant : Type 0 where
  pub accepted : (e f : Entry) (r s : AdsSymbolInfo) → IsWithin e → IsWithin f → e.answer ≡ Ok r → f.answer ≡ Ok s
      → Differ r s (sections_of e.bytes r) (sections_of f.bytes s) (differences_of e f)
  pub refused : (e f : Entry) → IsWithin e → IsWithin f → (is_err e.answer || is_err f.answer) ≡ true → IsRefusalTold e f
  -- of entries that are read in one mode, whichever, nothing is told exactly where both are accepted and their bytes are the same
  pub nothing : (mode : Mode) (e f : Entry) → IsRead mode e → IsRead mode f → AreBytes e.bytes.now → AreBytes f.bytes.now → differences_of e f ≡ []
      → AreAccepted e f × (e.bytes.now ≡ f.bytes.now)
  pub same : (mode : Mode) (e f : Entry) → IsRead mode e → IsRead mode f → AreAccepted e f → e.bytes.now ≡ f.bytes.now → differences_of e f ≡ []
