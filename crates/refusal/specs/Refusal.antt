-- docs/FORMAT.md, "Refusals": the number and the two figures of every refusal.
use Rattle.std.specs.Prelude.{ℕ, ◌+◌}
use Rattle.refusal.specs.declared.Figures.{Figures}
use Rattle.refusal.specs.declared.Refusal.{Refusal}
use Rattle.refusal.specs.declared.Refusal.TheVariants.{
  UnexpectedLength,
  TooShort,
  EntryLengthMismatch,
  ClaimBelowHeader,
  TooLarge,
  OutputTooSmall,
  TooLong,
  SectionsDisagree,
  BadBlock,
  ZeroEntryLength,
  BadText,
  BadHexadecimal,
  NameNotFound,
  NoSuchNumber,
  TooDeep,
  EndByte,
  NotInSheet,
  BadSheet,
  NotPlain,
  BadPath,
  NoSuchMember,
  NoSuchType,
  WrongDimensions,
  NoOffset,
  OffsetTooLarge,
  TooManyAliases,
}

-- the largest input, and the largest entry that is written, in bytes
abbrev pub limit : ℕ
limit = 16777216

-- the levels of a data type entry, the root's among them
abbrev pub deepest : ℕ
deepest = 16

-- the largest index offset, of 32 bits
abbrev pub largest_offset : ℕ
largest_offset = 4294967295

-- the most data types, one behind another, of which each only names the next
abbrev pub most_aliases : ℕ
most_aliases = 16

abbrev pub numbered : ℕ → ℕ → ℕ → Figures
numbered number e g = record { number = number; expected = e; got = g }

abbrev pub figures_of : Refusal → Figures
figures_of (UnexpectedLength needed present) = numbered 1 needed present
figures_of (TooShort needed present) = numbered 2 needed present
figures_of (EntryLengthMismatch needed available) = numbered 3 needed available
figures_of (ClaimBelowHeader header claim) = numbered 4 header claim
figures_of (TooLarge length) = numbered 5 limit length
figures_of (OutputTooSmall needed lent) = numbered 6 needed lent
figures_of (TooLong most actual) = numbered 7 most actual
figures_of (SectionsDisagree section) = numbered 8 section 0
figures_of (BadBlock count good) = numbered 9 count good
figures_of ZeroEntryLength = numbered 10 1 0
figures_of (BadText place kind) = numbered 11 place kind
figures_of BadHexadecimal = numbered 12 0 0
figures_of NameNotFound = numbered 13 0 0
figures_of (NoSuchNumber count asked) = numbered 14 count asked
figures_of TooDeep = numbered 15 deepest (deepest + 1)
figures_of (EndByte place byte) = numbered 16 place byte
figures_of (NotInSheet entry reason) = numbered 17 entry reason
figures_of (BadSheet row column) = numbered 18 row column
figures_of (NotPlain place) = numbered 19 place 0
figures_of (BadPath place) = numbered 20 place 0
figures_of (NoSuchMember place) = numbered 13 place 1
figures_of (NoSuchType place) = numbered 13 place 2
figures_of (WrongDimensions place dimensions) = numbered 21 place dimensions
figures_of (NoOffset place flag) = numbered 22 place flag
figures_of (OffsetTooLarge offset) = numbered 23 largest_offset offset
figures_of (TooManyAliases place) = numbered 24 place most_aliases
