-- docs/FORMAT.md, "Text": bytes as text and back, and text as bytes and back.
use Rattle.std.specs.Prelude.{ℕ, List, Ok, ◌≡◌, ◌<◌, ◌≤◌, ◌⊎◌, All, Contains, encode_utf8_all, get_or, length}
use Rattle.refusal.specs.Refusal.{limit}
use Rattle.text.specs.Text.{points, decoding, encoding}

abbrev pub AreBytes : List ℕ → Type 0
AreBytes s = (k : ℕ) → get_or s k 0 < 256

-- the code points of Windows-1252: those below 80, those of the table, and A0 to FF
abbrev pub IsWindows1252 : ℕ → Type 0
IsWindows1252 p = (p < 0x80) ⊎ (Contains points p ⊎ ((0xA0 ≤ p) × (p < 0x100)))

-- a text within Windows-1252: such code points alone, one after another, in UTF-8
abbrev pub IsWithin : List ℕ → Type 0
IsWithin t = (ps : List ℕ) × All IsWindows1252 ps × (t ≡ encode_utf8_all ps)

-- bytes and the text that they are told as, which is written as these bytes, unless it is above the limit
pub record Pair (s t : List ℕ) : Type 0 where
  pub bytes : AreBytes s
  pub text : IsWithin t
  pub told : decoding s ≡ Ok t
  pub written : length t ≤ limit → encoding t ≡ Ok s

-- bytes within the limit have a text, and no others are told
abbrev pub BytesComeBack : Type 0
BytesComeBack = (s : List ℕ) → AreBytes s → (length s ≤ limit → (t : List ℕ) × Pair s t) × ((t : List ℕ) → decoding s ≡ Ok t → (length s ≤ limit) × Pair s t)

-- a text within Windows-1252 and the limit is of some bytes, and no other is accepted
abbrev pub TextComesBack : Type 0
TextComesBack = (t : List ℕ) → (IsWithin t → length t ≤ limit → (s : List ℕ) × Pair s t) × ((s : List ℕ) → encoding t ≡ Ok s → (length t ≤ limit) × Pair s t)
