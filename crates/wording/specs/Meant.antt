-- docs/FORMAT.md, "The command's text" and "Refusals": what numbers, refusals and strings in words mean.
use Rattle.std.specs.Prelude.{ℕ, ◌+◌, ◌*◌, ◌^◌, ◌<◌, ◌≤◌, ◌≡◌, ◌⊎◌, List, [], ◌∷◌, ◌++◌, codes, decimal, encode_utf8_all, length, map, slice_index}
use Rattle.refusal.specs.Refusal.{figures_of}
use Rattle.refusal.specs.declared.Refusal.{Refusal}
use Rattle.refusal.specs.declared.Refusal.TheVariants.{UnexpectedLength, TooShort, EntryLengthMismatch, ClaimBelowHeader, TooLarge, OutputTooSmall, TooLong, SectionsDisagree, BadBlock, ZeroEntryLength, BadText, BadHexadecimal, NameNotFound, NoSuchNumber, TooDeep, EndByte, NotInSheet, BadSheet, NotPlain, BadPath, NoSuchMember, NoSuchType, WrongDimensions, NoOffset, OffsetTooLarge, TooManyAliases}
use Rattle.text.specs.Text.{code_point}
use Rattle.wording.specs.Wording.{grouped, refusal_text}
use Rattle.wording.specs.Text.{quoted, shown, shown_width}

-- a text tells a number: below 1,000 its digits, else those of its thousands, a comma, and three digits
pub data TellsNumber : List ℕ → ℕ → Type 0 where
  low : (n : ℕ) → n < 1000 → TellsNumber (decimal n) n
  high : (front : List ℕ) (n h t o : ℕ) → TellsNumber front n → 0 < n → h < 10 → t < 10 → o < 10
      → TellsNumber (front ++ (codes "," ++ (48 + h) ∷ (48 + t) ∷ (48 + o) ∷ [])) (1000 * n + 100 * h + 10 * t + o)

abbrev pub NumbersTold : Type 0
NumbersTold = (n : ℕ) → n < 2 ^ 64 → TellsNumber (grouped n) n

-- each refusal with its number; the texts of all, with other figures each
pub record RefusalsTold : Type 0 where
  pub number : (why : Refusal) → (rest : List ℕ) × (refusal_text why ≡ codes "refusal " ++ (decimal (figures_of why).number ++ (codes ", " ++ rest)))
  pub unexpected : refusal_text (UnexpectedLength 1234 56) ≡ codes "refusal 1, unexpected length: 1,234 bytes needed, 56 there"
  pub short : refusal_text (TooShort 1 1000) ≡ codes "refusal 2, too short: 1 byte needed, 1,000 there"
  pub mismatch : refusal_text (EntryLengthMismatch 178 33) ≡ codes "refusal 3, entry length mismatch: 178 bytes claimed or needed, 33 there"
  pub below : refusal_text (ClaimBelowHeader 30 29) ≡ codes "refusal 4, claim below the header: 30 bytes in the header, 29 claimed by the entry"
  pub large : refusal_text (TooLarge 16777217) ≡ codes "refusal 5, too large: 16,777,216 bytes at most, 16,777,217 given"
  pub output : refusal_text (OutputTooSmall 50 49) ≡ codes "refusal 6, output too small: 50 needed, 49 lent"
  pub long : refusal_text (TooLong 65535 65536) ≡ codes "refusal 7, string or count too long: 65,535 at most, 65,536 given"
  pub guid : refusal_text (SectionsDisagree 1) ≡ codes "refusal 8, flags and sections disagree: section 1, the GUID"
  pub attributes : refusal_text (SectionsDisagree 2) ≡ codes "refusal 8, flags and sections disagree: section 2, the attributes"
  pub extended : refusal_text (SectionsDisagree 3) ≡ codes "refusal 8, flags and sections disagree: section 3, the extended flags"
  pub refactor : refusal_text (SectionsDisagree 4) ≡ codes "refusal 8, flags and sections disagree: section 4, the refactor records"
  pub block : refusal_text (BadBlock 7 5) ≡ codes "refusal 9, bad block: 7 records counted, 5 good ones at its start"
  pub zero : refusal_text ZeroEntryLength ≡ codes "refusal 10, zero entry length: 1 byte at least, 0 claimed, so no later entry is reached"
  pub utf8 : refusal_text (BadText 2048 1) ≡ codes "refusal 11, text: at byte 2,048, bytes that are not UTF-8"
  pub lacks : refusal_text (BadText 3 2) ≡ codes "refusal 11, text: at byte 3, a character that Windows-1252 lacks"
  pub hexadecimal : refusal_text BadHexadecimal ≡ codes "refusal 12, bad hexadecimal text"
  pub name : refusal_text NameNotFound ≡ codes "refusal 13, name not found"
  pub numbered : refusal_text (NoSuchNumber 4 9) ≡ codes "refusal 14, no such number: 4 there, number 9 asked for"
  pub deep : refusal_text TooDeep ≡ codes "refusal 15, data type entries nest too deep: 16 deep at most, 17 deep here"
  pub end : refusal_text (EndByte 41 0xA7) ≡ codes "refusal 16, end byte: byte 41 of the entry is 0xA7 and not 0"
  pub flagged_guid : refusal_text (NotInSheet 1047 1) ≡ codes "refusal 17, not for a sheet: entry 1,047, whose GUID is flagged"
  pub flagged_attributes : refusal_text (NotInSheet 0 2) ≡ codes "refusal 17, not for a sheet: entry 0, whose attributes are flagged"
  pub flagged_extended : refusal_text (NotInSheet 3 3) ≡ codes "refusal 17, not for a sheet: entry 3, whose extended flags are flagged"
  pub unread : refusal_text (NotInSheet 4 5) ≡ codes "refusal 17, not for a sheet: entry 4, which has unread bytes, or an end byte that is not 0"
  pub shape : refusal_text (BadSheet 1 0) ≡ codes "refusal 18, bad sheet: row 1, of the wrong shape"
  pub group : refusal_text (BadSheet 2 1) ≡ codes "refusal 18, bad sheet: row 2, column 1, group"
  pub index_offset : refusal_text (BadSheet 3 2) ≡ codes "refusal 18, bad sheet: row 3, column 2, offset"
  pub size : refusal_text (BadSheet 4 3) ≡ codes "refusal 18, bad sheet: row 4, column 3, size"
  pub type_id : refusal_text (BadSheet 5 4) ≡ codes "refusal 18, bad sheet: row 5, column 4, type id"
  pub flags : refusal_text (BadSheet 2300 5) ≡ codes "refusal 18, bad sheet: row 2,300, column 5, flags"
  pub high : refusal_text (BadSheet 6 6) ≡ codes "refusal 18, bad sheet: row 6, column 6, high"
  pub plain : refusal_text (NotPlain 16777215) ≡ codes "refusal 19, not in plain form: byte 16,777,215 departs"
  pub no_path : refusal_text (BadPath 7) ≡ codes "refusal 20, no path of a variable: fault at byte 7 of the path"
  pub no_member : refusal_text (NoSuchMember 12) ≡ codes "refusal 13, name not found: no member has the name at byte 12 of the path"
  pub no_type : refusal_text (NoSuchType 1200) ≡ codes "refusal 13, name not found: no data type has the name of the type at byte 1,200 of the path"
  pub dimension : refusal_text (WrongDimensions 14 1) ≡ codes "refusal 21, wrong dimensions: subscripts at byte 14 of the path, 1 dimension there"
  pub dimensions : refusal_text (WrongDimensions 16 3) ≡ codes "refusal 21, wrong dimensions: subscripts at byte 16 of the path, 3 dimensions there"
  pub below_bit : refusal_text (NoOffset 5 0x2) ≡ codes "refusal 22, no offset: at byte 5 of the path, below a symbol of a bit"
  pub reference : refusal_text (NoOffset 6 0x4) ≡ codes "refusal 22, no offset: at byte 6 of the path, a reference"
  pub property : refusal_text (NoOffset 7 0x40) ≡ codes "refusal 22, no offset: at byte 7 of the path, a property"
  pub interface : refusal_text (NoOffset 1234 0x400) ≡ codes "refusal 22, no offset: at byte 1,234 of the path, below a pointer"
  pub pointer : refusal_text (NoOffset 5678 0x800000) ≡ codes "refusal 22, no offset: at byte 5,678 of the path, below a pointer"
  pub static_member : refusal_text (NoOffset 8 0x20000) ≡ codes "refusal 22, no offset: at byte 8 of the path, a static member"
  pub offset : refusal_text (OffsetTooLarge 4294967296) ≡ codes "refusal 23, index offset too large: 4,294,967,295 at most, 4,294,967,296 here"
  pub aliases : refusal_text (TooManyAliases 9) ≡ codes "refusal 24, too many aliases: at byte 9 of the path, more than 16 in a row"

-- control characters, those that a byte can be
abbrev pub IsControl : ℕ → Type 0
IsControl c = (c < 32) ⊎ ((127 ≤ c) × (c < 160))

-- the character of a byte's two hexadecimal digits
abbrev pub digit : ℕ → ℕ
digit d = slice_index (codes "0123456789ABCDEF") d

-- the characters inside a string of JSON, and those that it means: a backslash before a quotation mark and a backslash, a control character by its
-- number, and everything else as it is
pub data IsEscaped : List ℕ → List ℕ → Type 0 where
  nothing : IsEscaped [] []
  marked : (c : ℕ) (t s : List ℕ) → (c ≡ 34) ⊎ (c ≡ 92) → IsEscaped t s → IsEscaped (92 ∷ c ∷ t) (c ∷ s)
  numbered : (c h l : ℕ) (t s : List ℕ) → IsControl c → c ≡ 16 * h + l → h < 16 → l < 16 → IsEscaped t s
      → IsEscaped (codes "\\u00" ++ digit h ∷ digit l ∷ t) (c ∷ s)
  itself : (c : ℕ) (t s : List ℕ) → (IsControl c → ⊥) → (c ≡ 34 → ⊥) → (c ≡ 92 → ⊥) → IsEscaped t s → IsEscaped (c ∷ t) (c ∷ s)

-- a string of JSON stands between quotation marks in UTF-8, and means the characters of the bytes
abbrev pub StringsQuoted : Type 0
StringsQuoted = (s : List ℕ) → (t : List ℕ) × (quoted s ≡ codes "\"" ++ (encode_utf8_all t ++ codes "\"")) × IsEscaped t (map code_point s)

-- characters for a terminal: none that is a control character
pub data IsVisible : List ℕ → List ℕ → Type 0 where
  nothing : IsVisible [] []
  numbered : (c h l : ℕ) (t s : List ℕ) → IsControl c → c ≡ 16 * h + l → h < 16 → l < 16 → IsVisible t s
      → IsVisible (codes "\\x" ++ digit h ∷ digit l ∷ t) (c ∷ s)
  itself : (c : ℕ) (t s : List ℕ) → (IsControl c → ⊥) → IsVisible t s → IsVisible (c ∷ t) (c ∷ s)

-- what a terminal is shown, and how many characters these are, each a column wide
abbrev pub StringsShown : Type 0
StringsShown = (s : List ℕ) → (t : List ℕ) × (shown s ≡ encode_utf8_all t) × IsVisible t (map code_point s) × (length t < 2 ^ 64 → shown_width s ≡ length t)
