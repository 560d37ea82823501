-- The words of a refusal are few.
use Rattle.std.proofs.Common.{◌+◌, ◌≤◌, length, arith}
use Rattle.refusal.specs.declared.Refusal.{Refusal}
use Rattle.refusal.specs.declared.Refusal.TheVariants.{
  UnexpectedLength,
  TooShort,
  EntryLengthMismatch,
  ClaimBelowHeader,
  TooLarge,
  OutputTooSmall,
  TooLong,
  SectionsDisagree,
  BadBlock,
  ZeroEntryLength,
  BadText,
  BadHexadecimal,
  NameNotFound,
  NoSuchNumber,
  TooDeep,
  EndByte,
  NotInSheet,
  BadSheet,
  NotPlain,
  BadPath,
  NoSuchMember,
  NoSuchType,
  WrongDimensions,
  NoOffset,
  OffsetTooLarge,
  TooManyAliases,
}
use Rattle.refusal.specs.Text.{phrases_of}

pub words_short : (why : Refusal) → length (phrases_of why).before + length (phrases_of why).between + length (phrases_of why).after ≤ 88
words_short (UnexpectedLength needed present) = omega arith
words_short (TooShort needed present) = omega arith
words_short (EntryLengthMismatch needed available) = omega arith
words_short (ClaimBelowHeader header claim) = omega arith
words_short (TooLarge length) = omega arith
words_short (OutputTooSmall needed lent) = omega arith
words_short (TooLong most actual) = omega arith
words_short (SectionsDisagree section) = omega arith
words_short (BadBlock count good) = omega arith
words_short ZeroEntryLength = omega arith
words_short (BadText place kind) = omega arith
words_short BadHexadecimal = omega arith
words_short NameNotFound = omega arith
words_short (NoSuchNumber count asked) = omega arith
words_short TooDeep = omega arith
words_short (EndByte place byte) = omega arith
words_short (NotInSheet entry reason) = omega arith
words_short (BadSheet row column) = omega arith
words_short (NotPlain place) = omega arith
words_short (BadPath place) = omega arith
words_short (NoSuchMember place) = omega arith
words_short (NoSuchType place) = omega arith
words_short (WrongDimensions place dimensions) = omega arith
words_short (NoOffset place flag) = omega arith
words_short (OffsetTooLarge offset) = omega arith
words_short (TooManyAliases place) = omega arith
