-- docs/FORMAT.md, "Refusals": the refusal of a number and two figures, and what is written of it.
use Rattle.std.specs.Prelude.{ℕ, ◌%◌, List, Option, Some, None, Result, Ok, Err, eqb, if◌then◌else◌}
use Rattle.refusal.specs.declared.Refusal.{Refusal}
use Rattle.refusal.specs.declared.Refusal.TheVariants.{
  UnexpectedLength,
  TooShort,
  EntryLengthMismatch,
  ClaimBelowHeader,
  TooLarge,
  OutputTooSmall,
  TooLong,
  SectionsDisagree,
  BadBlock,
  ZeroEntryLength,
  BadText,
  BadHexadecimal,
  NameNotFound,
  NoSuchNumber,
  TooDeep,
  EndByte,
  NotInSheet,
  BadSheet,
  NotPlain,
  BadPath,
  NoSuchMember,
  NoSuchType,
  WrongDimensions,
  NoOffset,
  OffsetTooLarge,
  TooManyAliases,
}
use Rattle.refusal.specs.Text.{text_of}

-- nothing that has a name, of a path a member or a data type
unfoldable pub unfound : ℕ → ℕ → Refusal
unfound e g = if eqb g 1 then NoSuchMember e else if eqb g 2 then NoSuchType e else NameNotFound

-- from number 10 on; figures that the number fixes are not looked at, and of an end byte the low 8 bits count
unfoldable pub refusal_from_10 : ℕ → ℕ → ℕ → Option Refusal
refusal_from_10 number e g =
    if eqb number 10 then Some ZeroEntryLength
    else if eqb number 11 then Some (BadText e g)
    else if eqb number 12 then Some BadHexadecimal
    else if eqb number 13 then Some (unfound e g)
    else if eqb number 14 then Some (NoSuchNumber e g)
    else if eqb number 15 then Some TooDeep
    else if eqb number 16 then Some (EndByte e (g % 256))
    else if eqb number 17 then Some (NotInSheet e g)
    else if eqb number 18 then Some (BadSheet e g)
    else if eqb number 19 then Some (NotPlain e)
    else if eqb number 20 then Some (BadPath e)
    else if eqb number 21 then Some (WrongDimensions e g)
    else if eqb number 22 then Some (NoOffset e g)
    else if eqb number 23 then Some (OffsetTooLarge g)
    else if eqb number 24 then Some (TooManyAliases e)
    else None

unfoldable pub refusal_of : ℕ → ℕ → ℕ → Option Refusal
refusal_of number e g =
    if eqb number 1 then Some (UnexpectedLength e g)
    else if eqb number 2 then Some (TooShort e g)
    else if eqb number 3 then Some (EntryLengthMismatch e g)
    else if eqb number 4 then Some (ClaimBelowHeader e g)
    else if eqb number 5 then Some (TooLarge g)
    else if eqb number 6 then Some (OutputTooSmall e g)
    else if eqb number 7 then Some (TooLong e g)
    else if eqb number 8 then Some (SectionsDisagree e)
    else if eqb number 9 then Some (BadBlock e g)
    else refusal_from_10 number e g

-- what is written of a refusal; a number that none has is 14
abbrev pub text_if : ℕ → Option Refusal → Result (List ℕ) Refusal
text_if number (Some why) = Ok (text_of why)
text_if number None = Err (NoSuchNumber 24 number)

unfoldable pub writing_text : ℕ → ℕ → ℕ → Result (List ℕ) Refusal
writing_text number e g = text_if number (refusal_of number e g)
