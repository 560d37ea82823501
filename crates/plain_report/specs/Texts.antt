-- docs/FORMAT.md, "The command's text" and "Plain form": departures character for character, and of the smallest uploads that depart.
use Rattle.std.specs.Prelude.{ℕ, ◌≡◌, List, codes}
use Rattle.std.specs.Borrow.{Bor}
use Rattle.refusal.specs.declared.Refusal.TheVariants.{TooShort, ZeroEntryLength, SectionsDisagree, BadBlock, NotPlain}
use Rattle.plain_report.specs.declared.Fault.TheVariants.{Unread, Unwritten, Byte}
use Rattle.plain_report.specs.declared.Part.TheVariants.{Length, NameEnd, TypeEnd, CommentEnd, Count}
use Rattle.plain_report.specs.Told.{departure_text}

-- a name that lies somewhere
abbrev pub name : Bor (List ℕ)
name = record { ref_ptr = (0, 0); now = codes "MAIN.n" }

pub record DeparturesMeant : Type 0 where
  pub short : departure_text (record { start = 7; why = TooShort 30 5; fault = Unread }) ≡ codes "at 7: refusal 2, too short: 30 bytes needed, 5 there"
  pub zero : departure_text (record { start = 1034; why = ZeroEntryLength; fault = Unread }) ≡ codes "at 1034: refusal 10, zero entry length: 1 byte at least, 0 claimed, so no later entry is reached"
  pub sections : departure_text (record { start = 9; why = NotPlain 9; fault = Unwritten name (SectionsDisagree 1) })
      ≡ codes "at 9: refusal 19, not in plain form: byte 9 departs\nMAIN.n: what was read of the entry is not written again, refusal 8, flags and sections disagree: section 1, the GUID"
  pub block : departure_text (record { start = 0; why = NotPlain 0; fault = Unwritten name (BadBlock 4 2) })
      ≡ codes "at 0: refusal 19, not in plain form: byte 0 departs\nMAIN.n: what was read of the entry is not written again, refusal 9, bad block: 4 records counted, 2 good ones at its start"
  pub length : departure_text (record { start = 12; why = NotPlain 13; fault = Byte name 1 Length 31 240 })
      ≡ codes "at 12: refusal 19, not in plain form: byte 13 departs\nMAIN.n: byte 1 of the entry, its length, is 0x1F, and 0xF0 would be written"
  pub name_end : departure_text (record { start = 0; why = NotPlain 36; fault = Byte name 36 NameEnd 65 0 })
      ≡ codes "at 0: refusal 19, not in plain form: byte 36 departs\nMAIN.n: byte 36 of the entry, the end byte of the name, is 0x41, and 0x00 would be written"
  pub type_end : departure_text (record { start = 0; why = NotPlain 41; fault = Byte name 41 TypeEnd 10 0 })
      ≡ codes "at 0: refusal 19, not in plain form: byte 41 departs\nMAIN.n: byte 41 of the entry, the end byte of the type, is 0x0A, and 0x00 would be written"
  pub comment_end : departure_text (record { start = 0; why = NotPlain 1042; fault = Byte name 1042 CommentEnd 255 0 })
      ≡ codes "at 0: refusal 19, not in plain form: byte 1,042 departs\nMAIN.n: byte 1,042 of the entry, the end byte of the comment, is 0xFF, and 0x00 would be written"
  pub count : departure_text (record { start = 0; why = NotPlain 43; fault = Byte name 43 Count 3 2 })
      ≡ codes "at 0: refusal 19, not in plain form: byte 43 departs\nMAIN.n: byte 43 of the entry, the count of its attributes, is 0x03, and 0x02 would be written"
