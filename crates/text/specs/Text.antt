-- docs/FORMAT.md, "Text": Windows-1252 bytes to UTF-8 text and back, with their refusals. UTF-8 is std's.
use Rattle.std.specs.Prelude.{ℕ, ◌+◌, ◌-◌, ◌<◌, ◌≡◌, Option, None, Some, Result, Ok, Err, List, [], ◌∷◌, ◌++◌, ltb, length, take, drop, map, find, get_or, ◌==◌, chars, encode_utf8, encode_utf8_all, if◌then◌else◌}
use Rattle.std.specs.List.{range_with_len}
use Rattle.std.specs.Str.Lossy.{utf8_valid_len}
use Rattle.refusal.specs.Refusal.{limit}
use Rattle.refusal.specs.declared.Refusal.{Refusal}
use Rattle.refusal.specs.declared.Refusal.TheVariants.{TooLarge, BadText}

-- the code points of the bytes 80 to 9F
unfoldable pub points : List ℕ
points =
    0x20AC ∷ 0x0081 ∷ 0x201A ∷ 0x0192 ∷ 0x201E ∷ 0x2026 ∷ 0x2020 ∷ 0x2021 ∷ 0x02C6 ∷ 0x2030 ∷ 0x0160 ∷ 0x2039 ∷ 0x0152 ∷ 0x008D ∷ 0x017D ∷ 0x008F
    ∷ 0x0090 ∷ 0x2018 ∷ 0x2019 ∷ 0x201C ∷ 0x201D ∷ 0x2022 ∷ 0x2013 ∷ 0x2014 ∷ 0x02DC ∷ 0x2122 ∷ 0x0161 ∷ 0x203A ∷ 0x0153 ∷ 0x009D ∷ 0x017E ∷ 0x0178 ∷ []

-- the code point of a byte
unfoldable pub code_point : ℕ → ℕ
code_point b = if ltb b 0x80 then b else if ltb b 0xA0 then get_or points (b - 0x80) 0 else b

-- a byte as text, and a byte string
abbrev pub text_of : ℕ → List ℕ
text_of b = encode_utf8 (code_point b)

unfoldable pub decoded : List ℕ → List ℕ
decoded s = encode_utf8_all (map code_point s)

-- refusal 5 comes before all else
abbrev pub limited : List ℕ → Result (List ℕ) Refusal → Result (List ℕ) Refusal
limited s w = if ltb limit (length s) then Err (TooLarge (length s)) else w

unfoldable pub decoding : List ℕ → Result (List ℕ) Refusal
decoding s = limited s (Ok (decoded s))

-- the byte that has a code point
unfoldable pub byte_of : ℕ → Option ℕ
byte_of p = find (λ (b : ℕ). code_point b == p) (range_with_len 0 256)

abbrev pub before : ℕ → Result (List ℕ) Refusal → Result (List ℕ) Refusal
before b (Ok bs) = Ok (b ∷ bs)
before b (Err why) = Err why

-- a character's byte before those that come after it, or the fault of kind 2 at its place
abbrev pub and_on : Option ℕ → ℕ → Result (List ℕ) Refusal → Result (List ℕ) Refusal
and_on (Some b) place rest = before b rest
and_on None place rest = Err (BadText place 2)

-- the bytes of characters that stand from a place of the text on, with what comes after the last
unfoldable pub bytes_of : ℕ → List ℕ → Result (List ℕ) Refusal → Result (List ℕ) Refusal
bytes_of place [] rest = rest
bytes_of place (c ∷ cs) rest = and_on (byte_of c) place (bytes_of (place + length (encode_utf8 c)) cs rest)

-- what is left where no more characters stand: nothing, or the fault of kind 1
abbrev pub ended : ℕ → List ℕ → Result (List ℕ) Refusal
ended place [] = Ok []
ended place (b ∷ l) = Err (BadText place 1)

-- a text from a place on: the characters of its longest front that is UTF-8, and what is left
unfoldable pub encoded_from : ℕ → List ℕ → Result (List ℕ) Refusal
encoded_from place t = let n = utf8_valid_len t in bytes_of place (chars (take n t)) (ended (place + n) (drop n t))

unfoldable pub encoding : List ℕ → Result (List ℕ) Refusal
encoding t = limited t (encoded_from 0 t)

-- the answer where enough is lent, after so many bytes
abbrev pub counted : ℕ → Result (List ℕ) Refusal → Result ℕ Refusal
counted n (Ok bs) = Ok (n + length bs)
counted n (Err why) = Err why

-- a text begins with the character of a byte; a number is that byte, or 0 where there is none
pub record Begins (t : List ℕ) (b : ℕ) : Type 0 where
  pub byte : b < 256
  pub here : t ≡ text_of b ++ drop (length (text_of b)) t

pub record Leads (t : List ℕ) (b : ℕ) : Type 0 where
  pub some : (b ≡ 0 → ⊥) → Begins t b
  pub none : b ≡ 0 → (other : ℕ) → Begins t other → ⊥

-- why no byte leads a text
abbrev pub fault_kind : List ℕ → ℕ
fault_kind t = if utf8_valid_len t == 0 then 1 else 2
