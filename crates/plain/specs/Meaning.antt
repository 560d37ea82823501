-- docs/FORMAT.md, "Plain form": which uploads are plain, by which refusal the others are refused, and that plain entries are as many as what they tell.
use Rattle.std.specs.Prelude.{ℕ, ◌+◌, ◌-◌, ◌<◌, ◌≤◌, ◌≡◌, ◌↔◌, List, ◌∷◌, ◌++◌, Result, Ok, Err, length, take, slice_get}
use Rattle.std.specs.List.{All}
use Rattle.std.specs.Borrow.{Bor}
use Rattle.le.specs.Le.{le4}
use Rattle.part.specs.Slice.{part}
use Rattle.entry.specs.declared.WalkEnd.TheVariants.{Finished}
use Rattle.entry.specs.Bounded.{bounded_walk}
use Rattle.refusal.specs.declared.Mode.TheVariants.{Present, Checked}
use Rattle.refusal.specs.declared.Refusal.{Refusal}
use Rattle.refusal.specs.declared.Refusal.TheVariants.{NotPlain}
use Rattle.walk.specs.declared.Piece.{Piece}
use Rattle.walk.specs.Pieces.{pieces}
use Rattle.symbol.specs.declared.AdsSymbolInfo.{AdsSymbolInfo}
use Rattle.symbol.specs.Symbol.{symbol_of}
use Rattle.symbol.specs.Told.{told_of}
use Rattle.symbol.specs.Writing.{symbol_written}
use Rattle.symbol.specs.Again.{new_of}
use Rattle.plain.specs.Plain.{departing, plain_of}
use Rattle.plain.specs.Form.{HoldsBytes, IsWrittenSo}

-- the first place at which two lists are not the same
pub record Departs (e bytes : List ℕ) (at : ℕ) : Type 0 where
  pub before : take at e ≡ take at bytes
  pub there : slice_get e at ≡ slice_get bytes at → ⊥

-- where an entry departs from what is written of its record: nowhere where it is that, at its start where the record is refused, else at the first such place
pub data Departing (e : List ℕ) (r : AdsSymbolInfo) : Result Unit ℕ → Type 0 where
  nowhere : symbol_written (new_of r) ≡ Ok e → Departing e r (Ok tt)
  at_start : (why : Refusal) → symbol_written (new_of r) ≡ Err why → Departing e r (Err 0)
  at_place : (bytes : List ℕ) (at : ℕ) → symbol_written (new_of r) ≡ Ok bytes → Departs e bytes at → Departing e r (Err at)

abbrev pub DepartingMeant : Type 0
DepartingMeant = (e : List ℕ) (r : AdsSymbolInfo) → Departing e r (departing e r)

module _ (s : Bor (List ℕ)) where
  abbrev pub own : Piece AdsSymbolInfo → Bor (List ℕ)
  own p = part s p.start (p.end - p.start)

  -- a piece that is a plain entry
  pub record IsPlain (p : Piece AdsSymbolInfo) : Type 0 where
    pub read : AdsSymbolInfo
    pub is : p.answer ≡ Ok read
    pub written : IsWrittenSo (own p) read

  -- why a piece is not one, and the refusal
  pub data NotSo (p : Piece AdsSymbolInfo) : Refusal → Type 0 where
    refused : {why : Refusal} → p.answer ≡ Err why → NotSo p why
    unwritten : (r : AdsSymbolInfo) (why : Refusal) → p.answer ≡ Ok r → symbol_written (new_of r) ≡ Err why → NotSo p (NotPlain p.start)
    departs : (r : AdsSymbolInfo) (bytes : List ℕ) (at : ℕ) → p.answer ≡ Ok r → symbol_written (new_of r) ≡ Ok bytes → Departs (own p).now bytes at → NotSo p (NotPlain (p.start + at))

  -- the walk ends finished and all its pieces are plain entries, or the first that is not is refused
  pub data Told : Result Unit Refusal → Type 0 where
    plain : (bounded_walk s.now 0 (length s.now)).end ≡ Ok Finished → All IsPlain (pieces (symbol_of Present) s) → Told (Ok tt)
    first : (before behind : List (Piece AdsSymbolInfo)) (p : Piece AdsSymbolInfo) {why : Refusal} → pieces (symbol_of Present) s ≡ before ++ (p ∷ behind) → All IsPlain before → NotSo p why → Told (Err why)

  -- a place inside the first entry that is not plain, which claims so many bytes
  pub record IsInEntry (place : ℕ) : Type 0 where
    pub before : List (Piece AdsSymbolInfo)
    pub entry : Piece AdsSymbolInfo
    pub behind : List (Piece AdsSymbolInfo)
    pub among : pieces (symbol_of Present) s ≡ before ++ (entry ∷ behind)
    pub plain_before : All IsPlain before
    pub from : entry.start ≤ place
    pub inside : place < entry.start + le4 s.now entry.start

abbrev pub PlainMeant : Type 0
PlainMeant = (s : Bor (List ℕ)) → Told s (plain_of s)

-- 19 tells such a place
abbrev pub PlainPlaced : Type 0
PlainPlaced = (s : Bor (List ℕ)) (place : ℕ) → plain_of s ≡ Err (NotPlain place) → IsInEntry s place

-- two plain entries tell the same exactly where they are the same bytes
abbrev pub PlainFaithful : Type 0
PlainFaithful =
    (e f : Bor (List ℕ)) (r q : AdsSymbolInfo) → HoldsBytes e → HoldsBytes f → symbol_of Present e ≡ Ok r → symbol_of Present f ≡ Ok q → IsWrittenSo e r → IsWrittenSo f q
    → ((told_of r ≡ told_of q) ↔ (e.now ≡ f.now))

-- a plain entry is accepted in the checked mode too, and read alike
abbrev pub PlainChecked : Type 0
PlainChecked = (e : Bor (List ℕ)) (r : AdsSymbolInfo) → HoldsBytes e → symbol_of Present e ≡ Ok r → IsWrittenSo e r → symbol_of Checked e ≡ Ok r
