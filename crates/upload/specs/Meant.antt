-- docs/FORMAT.md, "The command's text": which upload a FILE is, and what of it is refused.
use Rattle.std.specs.Prelude.{ℕ, ◌+◌, ◌*◌, ◌/◌, ◌%◌, ◌^◌, ◌<◌, ◌≤◌, ◌≡◌, ◌≢◌, ◌⊎◌, ◌↔◌, ◌==◌, All, List, [], ◌∷◌, ◌++◌, codes, filter, length, slice_index, None, Some, Result, Ok, Err}
use Rattle.std.specs.List.{flat_map}
use Rattle.upload.specs.declared.Form.TheVariants.{Binary, Hexadecimal}
use Rattle.upload.specs.declared.Fault.{Fault}
use Rattle.upload.specs.declared.Fault.TheVariants.{TooLarge, NoDigit, OddDigits}
use Rattle.upload.specs.Upload.{form_by, upload_of}

-- a character is the digit of this value, of either case
abbrev pub IsDigit : ℕ → ℕ → Type 0
IsDigit c d = (d < 16) × ((slice_index (codes "0123456789ABCDEF") d ≡ c) ⊎ (slice_index (codes "0123456789abcdef") d ≡ c))

-- white space and line ends
abbrev pub IsSpace : ℕ → Type 0
IsSpace c = (c ≡ 32) ⊎ ((9 ≤ c) × (c ≤ 13))

-- a text of digits and white space, and the digits' values in order
pub data Reads : List ℕ → List ℕ → Type 0 where
  nothing : Reads [] []
  space : (c : ℕ) (t ds : List ℕ) → IsSpace c → Reads t ds → Reads (c ∷ t) ds
  digit : (c d : ℕ) (t ds : List ℕ) → IsDigit c d → Reads t ds → Reads (c ∷ t) (d ∷ ds)

-- the digits of bytes: of each the high one and the low one
abbrev pub digits_of : List ℕ → List ℕ
digits_of bytes = flat_map (λ b. b / 16 ∷ b % 16 ∷ []) bytes

-- where the character behind a text stands, from line 1 and column 1: the line ends before it, and the characters behind the last of them
pub record IsAt (before : List ℕ) (line column : ℕ) : Type 0 where
  pub lines : List ℕ
  pub own : List ℕ
  pub parts : before ≡ lines ++ own
  pub ended : (lines ≡ []) ⊎ ((t : List ℕ) × (lines ≡ t ++ 10 ∷ []))
  pub unended : All (λ c. c ≢ 10) own
  pub lines_ended : line ≡ length (filter (λ c. c == 10) before) + 1
  pub behind : column ≡ length own + 1

-- the first character that is no digit and no white space, where the digits before it are within the limit
pub record IsFirstOther (t : List ℕ) (c line column : ℕ) : Type 0 where
  pub before : List ℕ
  pub rest : List ℕ
  pub digits : List ℕ
  pub parts : t ≡ before ++ c ∷ rest
  pub reads : Reads before digits
  pub few : length digits < 2 * 16777217
  pub no_space : IsSpace c → ⊥
  pub no_digit : (d : ℕ) → IsDigit c d → ⊥
  pub at : IsAt before line column

-- digits of a byte more than the limit, with nothing else before the last of them
pub record IsAbove (t : List ℕ) : Type 0 where
  pub before : List ℕ
  pub rest : List ℕ
  pub digits : List ℕ
  pub parts : t ≡ before ++ rest
  pub reads : Reads before digits
  pub many : length digits ≡ 2 * 16777217

-- what an answer says of a text, and each says something else
abbrev pub TextIs : List ℕ → Result (List ℕ) Fault → Type 0
TextIs t (Ok bytes) = Reads t (digits_of bytes) × (length bytes ≤ 16777216)
TextIs t (Err TooLarge) = IsAbove t
TextIs t (Err (NoDigit c line column)) = IsFirstOther t c line column
TextIs t (Err (OddDigits n)) = (digits : List ℕ) × Reads t digits × (length digits ≡ 2 * n + 1)

abbrev pub HasMark : List ℕ → Type 0
HasMark s = (t : List ℕ) × (s ≡ 0xEF ∷ 0xBB ∷ 0xBF ∷ t)

-- hexadecimal text, behind the mark if it has one, and binary uploads
pub record UploadsMeant : Type 0 where
  pub text : (s : List ℕ) → length s + 2 < 2 ^ 64 → (HasMark s → ⊥) → TextIs s (upload_of (Some Hexadecimal) s)
  pub marked : (s : List ℕ) → length s + 2 < 2 ^ 64 → TextIs s (upload_of (Some Hexadecimal) (0xEF ∷ 0xBB ∷ 0xBF ∷ s))
  pub binary : (s : List ℕ) → length s ≤ 16777216 → upload_of (Some Binary) s ≡ Ok s
  pub large : (s : List ℕ) → 16777216 < length s → upload_of (Some Binary) s ≡ Err TooLarge

-- a character that is printable or white space
abbrev pub IsPrintable : ℕ → Type 0
IsPrintable c = IsSpace c ⊎ ((33 ≤ c) × (c ≤ 126))

abbrev pub IsPlain : ℕ → Type 0
IsPlain c = IsSpace c ⊎ ((d : ℕ) × IsDigit c d)

-- the form that the first bytes tell
pub record FormsMeant : Type 0 where
  pub told : (s : List ℕ) → upload_of None s ≡ upload_of (Some (form_by None s)) s
  pub four : (a b c d : ℕ) (s : List ℕ) → (form_by None (a ∷ b ∷ c ∷ d ∷ s) ≡ Hexadecimal)
      ↔ (All IsPrintable (a ∷ b ∷ c ∷ d ∷ []) ⊎ ((a ≡ 0xEF) × (b ≡ 0xBB) × (c ≡ 0xBF) × IsPrintable d))
  pub three : (a b c : ℕ) → (form_by None (a ∷ b ∷ c ∷ []) ≡ Hexadecimal) ↔ (All IsPlain (a ∷ b ∷ c ∷ []) ⊎ ((a ≡ 0xEF) × (b ≡ 0xBB) × (c ≡ 0xBF)))
  pub two : (a b : ℕ) → (form_by None (a ∷ b ∷ []) ≡ Hexadecimal) ↔ All IsPlain (a ∷ b ∷ [])
  pub one : (a : ℕ) → (form_by None (a ∷ []) ≡ Hexadecimal) ↔ IsPlain a
  pub none : form_by None [] ≡ Binary
  pub length : (a b c d : ℕ) (s : List ℕ) → form_by None (a ∷ b ∷ c ∷ d ∷ s) ≡ Hexadecimal → 16777216 < a + 256 * b + 65536 * c + 16777216 * d
