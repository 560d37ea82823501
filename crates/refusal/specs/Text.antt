-- docs/FORMAT.md, "Refusals": how a refusal is told in words, and where its figures stand among them.
use Rattle.std.specs.Prelude.{ℕ, List, [], ◌++◌, Option, Some, None, codes, decimal}
use Rattle.refusal.specs.declared.Refusal.{Refusal}
use Rattle.refusal.specs.declared.Refusal.TheVariants.{
  UnexpectedLength,
  TooShort,
  EntryLengthMismatch,
  ClaimBelowHeader,
  TooLarge,
  OutputTooSmall,
  TooLong,
  SectionsDisagree,
  BadBlock,
  ZeroEntryLength,
  BadText,
  BadHexadecimal,
  NameNotFound,
  NoSuchNumber,
  TooDeep,
  EndByte,
  NotInSheet,
  BadSheet,
  NotPlain,
  BadPath,
  NoSuchMember,
  NoSuchType,
  WrongDimensions,
  NoOffset,
  OffsetTooLarge,
  TooManyAliases,
}

pub record Phrases : Type 0 where
  pub before : List ℕ
  pub first : Option ℕ
  pub between : List ℕ
  pub second : Option ℕ
  pub after : List ℕ

-- words alone, about one figure, about two
abbrev pub alone : List ℕ → Phrases
alone before = record { before = before; first = None; between = []; second = None; after = [] }

abbrev pub one : List ℕ → ℕ → List ℕ → Phrases
one before n between = record { before = before; first = Some n; between = between; second = None; after = [] }

abbrev pub two : List ℕ → ℕ → List ℕ → ℕ → List ℕ → Phrases
two before n between m after = record { before = before; first = Some n; between = between; second = Some m; after = after }

abbrev pub phrases_of : Refusal → Phrases
phrases_of (UnexpectedLength needed present) = two (codes "unexpected length: ") needed (codes " needed, ") present (codes " present")
phrases_of (TooShort needed present) = two (codes "too short: ") needed (codes " needed, ") present (codes " present")
phrases_of (EntryLengthMismatch needed available) = two (codes "entry length mismatch: ") needed (codes " claimed or needed, ") available (codes " available")
phrases_of (ClaimBelowHeader header claim) = two (codes "claim below the header: ") header (codes " in the header, ") claim (codes " claimed")
phrases_of (TooLarge length) = one (codes "too large: 16777216 at most, ") length (codes " given")
phrases_of (OutputTooSmall needed lent) = two (codes "output too small: ") needed (codes " needed, ") lent (codes " lent")
phrases_of (TooLong most actual) = two (codes "string or count too long: ") most (codes " at most, ") actual (codes " given")
phrases_of (SectionsDisagree section) = one (codes "symbol flags and sections disagree: section ") section []
phrases_of (BadBlock count good) = two (codes "block is not its count of good records: ") count (codes " counted, ") good (codes " good at its start")
phrases_of ZeroEntryLength = alone (codes "zero entry length: 1 at least, 0 claimed")
phrases_of (BadText place kind) = two (codes "text: fault ") kind (codes " at byte ") place []
phrases_of BadHexadecimal = alone (codes "bad hexadecimal line")
phrases_of NameNotFound = alone (codes "name not found")
phrases_of (NoSuchNumber count asked) = two (codes "no such number: ") count (codes " there, ") asked (codes " asked")
phrases_of TooDeep = alone (codes "data type entries nest too deep: 16 deep at most, 17 deep met")
phrases_of (EndByte place byte) = two (codes "end byte is not 0: ") byte (codes " at byte ") place []
phrases_of (NotInSheet entry reason) = two (codes "not for a sheet: entry ") entry (codes ", reason ") reason []
phrases_of (BadSheet row column) = two (codes "bad sheet: row ") row (codes ", column ") column []
phrases_of (NotPlain place) = one (codes "not in plain form: byte ") place (codes " departs")
phrases_of (BadPath place) = one (codes "no path of a variable: fault at byte ") place []
phrases_of (NoSuchMember place) = one (codes "name not found: no member at byte ") place (codes " of the path")
phrases_of (NoSuchType place) = one (codes "name not found: no data type at byte ") place (codes " of the path")
phrases_of (WrongDimensions place dimensions) =
    two (codes "wrong dimensions: subscripts at byte ") place (codes " of the path, ") dimensions (codes " dimensions there")
phrases_of (NoOffset place flag) = two (codes "no offset: flag ") flag (codes " at byte ") place (codes " of the path")
phrases_of (OffsetTooLarge offset) = one (codes "index offset too large: 4294967295 at most, ") offset (codes " here")
phrases_of (TooManyAliases place) = one (codes "too many aliases: more than 16 at byte ") place (codes " of the path")

-- a figure in decimal, where one is told
abbrev pub figure : Option ℕ → List ℕ
figure None = []
figure (Some n) = decimal n

-- words and figures by turns
abbrev pub spoken : Phrases → List ℕ
spoken p = p.before ++ (figure p.first ++ (p.between ++ (figure p.second ++ p.after)))

abbrev pub text_of : Refusal → List ℕ
text_of why = spoken (phrases_of why)
