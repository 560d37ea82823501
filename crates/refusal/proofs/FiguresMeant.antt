-- What numbers and figures tell: proved.
use Rattle.std.proofs.Common.{◌≡◌, ◌≤◌, refl, sym, ap, ◌∙◌, arith}
use Rattle.std.specs.Prelude.{eqb, if◌then◌else◌}
use Rattle.refusal.specs.declared.Figures.{Figures}
use Rattle.refusal.specs.declared.Refusal.{Refusal}
use Rattle.refusal.specs.declared.Refusal.TheVariants.{
  UnexpectedLength,
  TooShort,
  EntryLengthMismatch,
  ClaimBelowHeader,
  TooLarge,
  OutputTooSmall,
  TooLong,
  SectionsDisagree,
  BadBlock,
  ZeroEntryLength,
  BadText,
  BadHexadecimal,
  NameNotFound,
  NoSuchNumber,
  TooDeep,
  EndByte,
  NotInSheet,
  BadSheet,
  NotPlain,
  BadPath,
  NoSuchMember,
  NoSuchType,
  WrongDimensions,
  NoOffset,
  OffsetTooLarge,
  TooManyAliases,
}
use Rattle.refusal.specs.Refusal.{figures_of}
use Rattle.refusal.specs.FiguresMeant.{FiguresMeant}

-- the refusal with these figures
abbrev told : Figures → Refusal
told f =
    if eqb f.number 1 then UnexpectedLength f.expected f.got
    else if eqb f.number 2 then TooShort f.expected f.got
    else if eqb f.number 3 then EntryLengthMismatch f.expected f.got
    else if eqb f.number 4 then ClaimBelowHeader f.expected f.got
    else if eqb f.number 5 then TooLarge f.got
    else if eqb f.number 6 then OutputTooSmall f.expected f.got
    else if eqb f.number 7 then TooLong f.expected f.got
    else if eqb f.number 8 then SectionsDisagree f.expected
    else if eqb f.number 9 then BadBlock f.expected f.got
    else if eqb f.number 10 then ZeroEntryLength
    else if eqb f.number 11 then BadText f.expected f.got
    else if eqb f.number 12 then BadHexadecimal
    else if eqb f.number 13 then
    (if eqb f.got 0 then NameNotFound else if eqb f.got 1 then NoSuchMember f.expected else NoSuchType f.expected)
    else if eqb f.number 14 then NoSuchNumber f.expected f.got
    else if eqb f.number 15 then TooDeep
    else if eqb f.number 16 then EndByte f.expected f.got
    else if eqb f.number 17 then NotInSheet f.expected f.got
    else if eqb f.number 18 then BadSheet f.expected f.got
    else if eqb f.number 19 then NotPlain f.expected
    else if eqb f.number 20 then BadPath f.expected
    else if eqb f.number 21 then WrongDimensions f.expected f.got
    else if eqb f.number 22 then NoOffset f.expected f.got
    else if eqb f.number 23 then OffsetTooLarge f.got
    else TooManyAliases f.expected

told_back : (r : Refusal) → told (figures_of r) ≡ r
told_back (UnexpectedLength needed present) = refl
told_back (TooShort needed present) = refl
told_back (EntryLengthMismatch needed available) = refl
told_back (ClaimBelowHeader header claim) = refl
told_back (TooLarge length) = refl
told_back (OutputTooSmall needed lent) = refl
told_back (TooLong most actual) = refl
told_back (SectionsDisagree section) = refl
told_back (BadBlock count good) = refl
told_back ZeroEntryLength = refl
told_back (BadText place kind) = refl
told_back BadHexadecimal = refl
told_back NameNotFound = refl
told_back (NoSuchNumber count asked) = refl
told_back TooDeep = refl
told_back (EndByte place byte) = refl
told_back (NotInSheet entry reason) = refl
told_back (BadSheet row column) = refl
told_back (NotPlain place) = refl
told_back (BadPath place) = refl
told_back (NoSuchMember place) = refl
told_back (NoSuchType place) = refl
told_back (WrongDimensions place dimensions) = refl
told_back (NoOffset place flag) = refl
told_back (OffsetTooLarge offset) = refl
told_back (TooManyAliases place) = refl

from_1 : (r : Refusal) → 1 ≤ (figures_of r).number
from_1 (UnexpectedLength needed present) = omega arith
from_1 (TooShort needed present) = omega arith
from_1 (EntryLengthMismatch needed available) = omega arith
from_1 (ClaimBelowHeader header claim) = omega arith
from_1 (TooLarge length) = omega arith
from_1 (OutputTooSmall needed lent) = omega arith
from_1 (TooLong most actual) = omega arith
from_1 (SectionsDisagree section) = omega arith
from_1 (BadBlock count good) = omega arith
from_1 ZeroEntryLength = omega arith
from_1 (BadText place kind) = omega arith
from_1 BadHexadecimal = omega arith
from_1 NameNotFound = omega arith
from_1 (NoSuchNumber count asked) = omega arith
from_1 TooDeep = omega arith
from_1 (EndByte place byte) = omega arith
from_1 (NotInSheet entry reason) = omega arith
from_1 (BadSheet row column) = omega arith
from_1 (NotPlain place) = omega arith
from_1 (BadPath place) = omega arith
from_1 (NoSuchMember place) = omega arith
from_1 (NoSuchType place) = omega arith
from_1 (WrongDimensions place dimensions) = omega arith
from_1 (NoOffset place flag) = omega arith
from_1 (OffsetTooLarge offset) = omega arith
from_1 (TooManyAliases place) = omega arith

to_24 : (r : Refusal) → (figures_of r).number ≤ 24
to_24 (UnexpectedLength needed present) = omega arith
to_24 (TooShort needed present) = omega arith
to_24 (EntryLengthMismatch needed available) = omega arith
to_24 (ClaimBelowHeader header claim) = omega arith
to_24 (TooLarge length) = omega arith
to_24 (OutputTooSmall needed lent) = omega arith
to_24 (TooLong most actual) = omega arith
to_24 (SectionsDisagree section) = omega arith
to_24 (BadBlock count good) = omega arith
to_24 ZeroEntryLength = omega arith
to_24 (BadText place kind) = omega arith
to_24 BadHexadecimal = omega arith
to_24 NameNotFound = omega arith
to_24 (NoSuchNumber count asked) = omega arith
to_24 TooDeep = omega arith
to_24 (EndByte place byte) = omega arith
to_24 (NotInSheet entry reason) = omega arith
to_24 (BadSheet row column) = omega arith
to_24 (NotPlain place) = omega arith
to_24 (BadPath place) = omega arith
to_24 (NoSuchMember place) = omega arith
to_24 (NoSuchType place) = omega arith
to_24 (WrongDimensions place dimensions) = omega arith
to_24 (NoOffset place flag) = omega arith
to_24 (OffsetTooLarge offset) = omega arith
to_24 (TooManyAliases place) = omega arith

pub figures_meant : FiguresMeant
figures_meant = record {
  from = from_1;
  to = to_24;
  apart = λ r q e. sym (told_back r) ∙ ap told e ∙ told_back q;
  largest = refl;
  large = λ length. refl;
  deep = refl;
  offset = λ offset. refl;
  aliases = λ place. refl;
}
