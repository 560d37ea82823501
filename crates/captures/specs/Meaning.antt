-- docs/FORMAT.md, "Captures": by the bytes of an upload and the characters of a text.
use Rattle.std.specs.Prelude.{ℕ, ◌+◌, ◌*◌, ◌/◌, ◌%◌, ◌<◌, ◌≤◌, ◌≡◌, ◌⊎◌, List, [], ◌∷◌, ◌++◌, length, drop, codes, slice_index, Ok, Err}
use Rattle.std.specs.List.{slice_range}
use Rattle.le.specs.Le.{le4}
use Rattle.hex.specs.Hex.{IsBytes}
use Rattle.refusal.specs.declared.Refusal.TheVariants.{TooLarge, BadHexadecimal}
use Rattle.captures.specs.Captures.{splitting, joining}

-- bytes in capitals: two digits for each, the one of its high four bits first
pub record Capitals (bytes digits : List ℕ) : Type 0 where
  pub long : length digits ≡ 2 * length bytes
  pub high : (k : ℕ) → k < length bytes → slice_index digits (2 * k) ≡ slice_index (codes "0123456789ABCDEF") (slice_index bytes k / 16)
  pub low : (k : ℕ) → k < length bytes → slice_index digits (2 * k + 1) ≡ slice_index (codes "0123456789ABCDEF") (slice_index bytes k % 16)

-- no whole entry begins at a place: it has no four bytes for a claim, the claim is 0, or the upload ends before the claimed bytes do
abbrev pub IsCut : List ℕ → ℕ → Type 0
IsCut s at = (length s < at + 4) ⊎ ((le4 s at ≡ 0) ⊎ (length s < at + le4 s at))

-- An upload from a place on, and its lines
pub data Lines (s : List ℕ) : ℕ → List ℕ → Type 0 where
  -- where nothing is left there are none
  done : Lines s (length s) []
  -- a whole entry is a line
  entry : {at : ℕ} {digits more : List ℕ} → at + 4 ≤ length s → 0 < le4 s at → at + le4 s at ≤ length s
      → Capitals (slice_range s at (at + le4 s at)) digits → Lines s (at + le4 s at) more → Lines s at (digits ++ (10 ∷ more))
  -- where none begins, all that is left is the last
  last : {at : ℕ} {digits : List ℕ} → at < length s → IsCut s at → Capitals (drop at s) digits → Lines s at (digits ++ (10 ∷ []))

-- above the limit 5; within it the lines of the upload are written, and no others
pub record SplitMeant : Type 0 where
  pub too_large : (s : List ℕ) → 16777216 < length s → splitting s ≡ Err (TooLarge (length s))
  pub within : (s : List ℕ) → length s ≤ 16777216 → (text : List ℕ) × (splitting s ≡ Ok text)
  pub written : (s text : List ℕ) → splitting s ≡ Ok text → Lines s 0 text
  pub only : (s text : List ℕ) → length s ≤ 16777216 → Lines s 0 text → splitting s ≡ Ok text

-- a character is a digit of a value: 0 to 9, A to F, a to f
pub data IsDigit (c value : ℕ) : Type 0 where
  number : value < 10 → c ≡ 48 + value → IsDigit c value
  capital : 10 ≤ value → value < 16 → c ≡ 55 + value → IsDigit c value
  small : 10 ≤ value → value < 16 → c ≡ 87 + value → IsDigit c value

-- The bytes that a text spells, character by character: it is LFs and pairs of digits
pub data Spells : List ℕ → List ℕ → Type 0 where
  end : Spells [] []
  line : {text bytes : List ℕ} → Spells text bytes → Spells (10 ∷ text) bytes
  byte : {a b high low : ℕ} {text bytes : List ℕ} → IsDigit a high → IsDigit b low → Spells text bytes → Spells (a ∷ b ∷ text) ((high * 16 + low) ∷ bytes)

-- 12 for a text that spells nothing; else 5 above the limit; else the bytes that it spells, and no others
pub record JoinMeant : Type 0 where
  pub bad : (text : List ℕ) → ((bytes : List ℕ) → Spells text bytes → ⊥) → joining text ≡ Err BadHexadecimal
  pub too_large : (text bytes : List ℕ) → Spells text bytes → 16777216 < length bytes → joining text ≡ Err (TooLarge (length bytes))
  pub within : (text bytes : List ℕ) → Spells text bytes → length bytes ≤ 16777216 → joining text ≡ Ok bytes
  pub joined : (text bytes : List ℕ) → joining text ≡ Ok bytes → Spells text bytes × (length bytes ≤ 16777216)

-- Lines each of which is a whole entry in capitals that claims just its own bytes; their bytes; and the same lines, each ended by LF
pub data EntryLines : List ℕ → List ℕ → List ℕ → Type 0 where
  none : EntryLines [] [] []
  line : {own digits text bytes ended : List ℕ} → Capitals own digits → 4 ≤ length own → le4 own 0 ≡ length own
      → EntryLines text bytes ended → EntryLines (digits ++ (10 ∷ text)) (own ++ bytes) (digits ++ (10 ∷ ended))
  last : {own digits : List ℕ} → Capitals own digits → 4 ≤ length own → le4 own 0 ≡ length own → EntryLines digits own (digits ++ (10 ∷ []))

-- an upload that is split and joined, and lines that are joined and split
pub record RoundTrips : Type 0 where
  pub upload : (s text : List ℕ) → IsBytes s → splitting s ≡ Ok text → joining text ≡ Ok s
  pub lines : (text bytes ended : List ℕ) → IsBytes bytes → length bytes ≤ 16777216 → EntryLines text bytes ended → (joining text ≡ Ok bytes) × (splitting bytes ≡ Ok ended)
