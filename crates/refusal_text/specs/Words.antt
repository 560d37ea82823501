-- docs/FORMAT.md, "Refusals": the text of every refusal, with every figure another number, and the figures of a sheet's.
use Rattle.std.specs.Prelude.{◌≡◌, codes, Ok}
use Rattle.refusal.specs.Refusal.{figures_of}
use Rattle.refusal.specs.Text.{text_of}
use Rattle.refusal.specs.declared.Refusal.TheVariants.{
  UnexpectedLength,
  TooShort,
  EntryLengthMismatch,
  ClaimBelowHeader,
  TooLarge,
  OutputTooSmall,
  TooLong,
  SectionsDisagree,
  BadBlock,
  ZeroEntryLength,
  BadText,
  BadHexadecimal,
  NameNotFound,
  NoSuchNumber,
  TooDeep,
  EndByte,
  NotInSheet,
  BadSheet,
  NotPlain,
  BadPath,
  NoSuchMember,
  NoSuchType,
  WrongDimensions,
  NoOffset,
  OffsetTooLarge,
  TooManyAliases,
}
use Rattle.refusal_text.specs.Told.{writing_text}

-- so a refusal is displayed
pub record RefusalsWorded : Type 0 where
  pub unexpected : text_of (UnexpectedLength 32 31) ≡ codes "unexpected length: 32 needed, 31 present"
  pub short : text_of (TooShort 4 3) ≡ codes "too short: 4 needed, 3 present"
  pub mismatch : text_of (EntryLengthMismatch 178 33) ≡ codes "entry length mismatch: 178 claimed or needed, 33 available"
  pub below : text_of (ClaimBelowHeader 30 29) ≡ codes "claim below the header: 30 in the header, 29 claimed"
  pub large : text_of (TooLarge 16777217) ≡ codes "too large: 16777216 at most, 16777217 given"
  pub output : text_of (OutputTooSmall 50 49) ≡ codes "output too small: 50 needed, 49 lent"
  pub long : text_of (TooLong 65535 65536) ≡ codes "string or count too long: 65535 at most, 65536 given"
  pub sections : text_of (SectionsDisagree 2) ≡ codes "symbol flags and sections disagree: section 2"
  pub block : text_of (BadBlock 7 5) ≡ codes "block is not its count of good records: 7 counted, 5 good at its start"
  pub zero : text_of ZeroEntryLength ≡ codes "zero entry length: 1 at least, 0 claimed"
  pub text : text_of (BadText 2048 1) ≡ codes "text: fault 1 at byte 2048"
  pub hexadecimal : text_of BadHexadecimal ≡ codes "bad hexadecimal line"
  pub name : text_of NameNotFound ≡ codes "name not found"
  pub numbered : text_of (NoSuchNumber 4 9) ≡ codes "no such number: 4 there, 9 asked"
  pub deep : text_of TooDeep ≡ codes "data type entries nest too deep: 16 deep at most, 17 deep met"
  pub end : text_of (EndByte 41 167) ≡ codes "end byte is not 0: 167 at byte 41"
  pub entry : text_of (NotInSheet 12 5) ≡ codes "not for a sheet: entry 12, reason 5"
  pub row : text_of (BadSheet 9 4) ≡ codes "bad sheet: row 9, column 4"
  pub plain : text_of (NotPlain 77) ≡ codes "not in plain form: byte 77 departs"
  pub path : text_of (BadPath 6) ≡ codes "no path of a variable: fault at byte 6"
  pub member : text_of (NoSuchMember 11) ≡ codes "name not found: no member at byte 11 of the path"
  pub data_type : text_of (NoSuchType 13) ≡ codes "name not found: no data type at byte 13 of the path"
  pub dimensions : text_of (WrongDimensions 14 3) ≡ codes "wrong dimensions: subscripts at byte 14 of the path, 3 dimensions there"
  pub no_offset : text_of (NoOffset 15 64) ≡ codes "no offset: flag 64 at byte 15 of the path"
  pub offset : text_of (OffsetTooLarge 4294967296) ≡ codes "index offset too large: 4294967295 at most, 4294967296 here"
  pub aliases : text_of (TooManyAliases 10) ≡ codes "too many aliases: more than 16 at byte 10 of the path"

-- so a number and two figures are told
pub record NumbersWorded : Type 0 where
  pub unexpected : writing_text 1 32 31 ≡ Ok (codes "unexpected length: 32 needed, 31 present")
  pub short : writing_text 2 4 3 ≡ Ok (codes "too short: 4 needed, 3 present")
  pub mismatch : writing_text 3 178 33 ≡ Ok (codes "entry length mismatch: 178 claimed or needed, 33 available")
  pub below : writing_text 4 30 29 ≡ Ok (codes "claim below the header: 30 in the header, 29 claimed")
  pub large : writing_text 5 7 16777217 ≡ Ok (codes "too large: 16777216 at most, 16777217 given")
  pub output : writing_text 6 50 49 ≡ Ok (codes "output too small: 50 needed, 49 lent")
  pub long : writing_text 7 65535 65536 ≡ Ok (codes "string or count too long: 65535 at most, 65536 given")
  pub sections : writing_text 8 2 7 ≡ Ok (codes "symbol flags and sections disagree: section 2")
  pub block : writing_text 9 7 5 ≡ Ok (codes "block is not its count of good records: 7 counted, 5 good at its start")
  pub zero : writing_text 10 7 8 ≡ Ok (codes "zero entry length: 1 at least, 0 claimed")
  pub text : writing_text 11 2048 1 ≡ Ok (codes "text: fault 1 at byte 2048")
  pub hexadecimal : writing_text 12 7 8 ≡ Ok (codes "bad hexadecimal line")
  pub name : writing_text 13 7 0 ≡ Ok (codes "name not found")
  pub numbered : writing_text 14 4 9 ≡ Ok (codes "no such number: 4 there, 9 asked")
  pub deep : writing_text 15 7 8 ≡ Ok (codes "data type entries nest too deep: 16 deep at most, 17 deep met")
  pub end : writing_text 16 41 167 ≡ Ok (codes "end byte is not 0: 167 at byte 41")
  pub entry : writing_text 17 12 5 ≡ Ok (codes "not for a sheet: entry 12, reason 5")
  pub row : writing_text 18 9 4 ≡ Ok (codes "bad sheet: row 9, column 4")
  pub plain : writing_text 19 77 8 ≡ Ok (codes "not in plain form: byte 77 departs")
  pub path : writing_text 20 6 8 ≡ Ok (codes "no path of a variable: fault at byte 6")
  pub member : writing_text 13 11 1 ≡ Ok (codes "name not found: no member at byte 11 of the path")
  pub data_type : writing_text 13 13 2 ≡ Ok (codes "name not found: no data type at byte 13 of the path")
  pub dimensions : writing_text 21 14 3 ≡ Ok (codes "wrong dimensions: subscripts at byte 14 of the path, 3 dimensions there")
  pub no_offset : writing_text 22 15 64 ≡ Ok (codes "no offset: flag 64 at byte 15 of the path")
  pub offset : writing_text 23 7 4294967296 ≡ Ok (codes "index offset too large: 4294967295 at most, 4294967296 here")
  pub aliases : writing_text 24 10 8 ≡ Ok (codes "too many aliases: more than 16 at byte 10 of the path")

-- a sheet's refusals: an entry and why it has no row, a row and its column
pub record TextsTold : Type 0 where
  pub refusals : RefusalsWorded
  pub numbers : NumbersWorded
  pub entry : figures_of (NotInSheet 12 5) ≡ record { number = 17; expected = 12; got = 5 }
  pub row : figures_of (BadSheet 9 4) ≡ record { number = 18; expected = 9; got = 4 }
