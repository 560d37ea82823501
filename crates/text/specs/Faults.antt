-- docs/FORMAT.md, "Text": which characters a text begins with, by std's UTF-8, why bytes or a text are refused, and which byte has which code point.
use Rattle.std.specs.Prelude.{ℕ, List, [], ◌∷◌, ◌++◌, Ok, Err, ◌≡◌, ◌<◌, ◌≤◌, ◌-◌, ◌⊎◌, ◌↔◌, length, take, drop, get_or, encode_utf8}
use Rattle.std.specs.Char.{IsScalar}
use Rattle.refusal.specs.declared.Refusal.{Refusal}
use Rattle.refusal.specs.declared.Refusal.TheVariants.{TooLarge, BadText}
use Rattle.text.specs.Text.{decoding, encoding}
use Rattle.text.specs.RoundTrip.{IsWindows1252, IsWithin}

-- a list starts with the bytes of a scalar value, and these are so many
pub record StartsWith (l : List ℕ) (p w : ℕ) : Type 0 where
  pub scalar : IsScalar p
  pub wide : w ≡ length (encode_utf8 p)
  pub here : l ≡ encode_utf8 p ++ drop w l

-- what is no character of Windows-1252: the bytes of no scalar value, or of one that has no byte
abbrev pub IsNoUtf8 : List ℕ → Type 0
IsNoUtf8 l = (p w : ℕ) → StartsWith l p w → ⊥

abbrev pub HasNoByte : List ℕ → Type 0
HasNoByte l = (p : ℕ) × (w : ℕ) × StartsWith l p w × (IsWindows1252 p → ⊥)

-- the first fault of a text: all before it is within Windows-1252. Its kind is 1 or 2
pub record IsFirstFault (t : List ℕ) (place kind : ℕ) : Type 0 where
  pub inside : place < length t
  pub before : IsWithin (take place t)
  pub here : ((kind ≡ 1) × IsNoUtf8 (drop place t)) ⊎ ((kind ≡ 2) × HasNoByte (drop place t))

-- bytes are refused above the limit alone; a text above the limit, before all else, and within it at its first fault alone
pub record FaultsMeant : Type 0 where
  pub bytes : (s : List ℕ) (why : Refusal) → (decoding s ≡ Err why) ↔ ((16777216 < length s) × (why ≡ TooLarge (length s)))
  pub large : (t : List ℕ) → 16777216 < length t → encoding t ≡ Err (TooLarge (length t))
  pub faults : (t : List ℕ) (why : Refusal) → length t ≤ 16777216
      → (encoding t ≡ Err why) ↔ ((place : ℕ) × (kind : ℕ) × (why ≡ BadText place kind) × IsFirstFault t place kind)

-- the empty byte string becomes the empty text; a byte 80 to 9F becomes the code point of its place here, and every other itself, before the text of those behind it
pub record TableMeant : Type 0 where
  pub none : decoding [] ≡ Ok []
  pub inside : (b : ℕ) (s t : List ℕ) → 0x80 ≤ b → b < 0xA0 → length (b ∷ s) ≤ 16777216 → decoding s ≡ Ok t
      → decoding (b ∷ s) ≡ Ok (encode_utf8 (get_or (
      0x20AC ∷ 0x0081 ∷ 0x201A ∷ 0x0192 ∷ 0x201E ∷ 0x2026 ∷ 0x2020 ∷ 0x2021 ∷ 0x02C6 ∷ 0x2030 ∷ 0x0160 ∷ 0x2039 ∷ 0x0152 ∷ 0x008D ∷ 0x017D ∷ 0x008F
      ∷ 0x0090 ∷ 0x2018 ∷ 0x2019 ∷ 0x201C ∷ 0x201D ∷ 0x2022 ∷ 0x2013 ∷ 0x2014 ∷ 0x02DC ∷ 0x2122 ∷ 0x0161 ∷ 0x203A ∷ 0x0153 ∷ 0x009D ∷ 0x017E ∷ 0x0178 ∷ []
      ) (b - 0x80) 0) ++ t)
  pub others : (b : ℕ) (s t : List ℕ) → (b < 0x80) ⊎ (0xA0 ≤ b) → length (b ∷ s) ≤ 16777216 → decoding s ≡ Ok t → decoding (b ∷ s) ≡ Ok (encode_utf8 b ++ t)
