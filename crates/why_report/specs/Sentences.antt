-- docs/FORMAT.md, "The command's text" and "Why": sentences word for word, and the bytes below one.
use Rattle.std.specs.Prelude.{◌≡◌, [], ◌∷◌, codes}
use Rattle.refusal.specs.declared.Refusal.TheVariants.{UnexpectedLength, TooShort}
use Rattle.why.specs.declared.Reason.TheVariants.{NotFlagged, NoExtendedFlags, NoRoom, Whole, Refused, Owed}
use Rattle.why_report.specs.declared.Section.TheVariants.{Guid, Attributes, ExtendedFlags, FormerNames}
use Rattle.why_report.specs.Text.{sentence_text, section_text}

pub record SentencesMeant : Type 0 where
  pub guid_unflagged : sentence_text Guid NotFlagged ≡ codes "GUID: not flagged, flag 0x0008 is not set."
  pub attributes_unflagged : sentence_text Attributes NotFlagged ≡ codes "attributes: not flagged, flag 0x1000 is not set."
  pub extended_unflagged : sentence_text ExtendedFlags NotFlagged ≡ codes "extended flags: not flagged, flag 0x8000 is not set."
  pub chain_unflagged : sentence_text FormerNames NotFlagged ≡ codes "former names: not flagged, extended flag 0x0004 is not set."
  pub no_flags : sentence_text FormerNames NoExtendedFlags ≡ codes "former names: not flagged, there are no extended flags that would flag them."
  pub guid_short : sentence_text Guid (NoRoom 41 15) ≡ codes "GUID: flagged, with 15 bytes left at place 41 and 16 needed."
  pub attributes_short : sentence_text Attributes (NoRoom 42 1) ≡ codes "attributes: flagged, with 1 byte left at place 42 and 2 needed."
  pub extended_short : sentence_text ExtendedFlags (NoRoom 43 3) ≡ codes "extended flags: flagged, with 3 bytes left at place 43 and 4 needed."
  pub chain_short : sentence_text FormerNames (NoRoom 44 0) ≡ codes "former names: flagged, with 0 bytes left at place 44 and 1 needed."
  pub guid_whole : sentence_text Guid (Whole 77 1) ≡ codes "GUID: there, at place 77."
  pub attributes_whole : sentence_text Attributes (Whole 93 3) ≡ codes "attributes: 3 announced at place 93, all there."
  pub extended_whole : sentence_text ExtendedFlags (Whole 160 1) ≡ codes "extended flags: there, at place 160."
  pub chain_whole : sentence_text FormerNames (Whole 164 2) ≡ codes "former names: 2 in the chain at place 164, all there."
  pub attribute_refused : sentence_text Attributes (Refused 5 41 (UnexpectedLength 7 6))
      ≡ codes "attributes: number 5, from 0, at place 41 is refused and ends the list: refusal 1, unexpected length: 7 bytes needed, 6 there."
  pub record_refused : sentence_text FormerNames (Refused 8 44 (TooShort 9 3))
      ≡ codes "former names: number 8, from 0, at place 44 is refused and drops the chain: refusal 2, too short: 9 bytes needed, 3 there."
  pub owed : sentence_text Attributes (Owed 12 7) ≡ codes "attributes: 12 announced, and the entry ends before 7 of them."
  pub bytes : section_text (7 ∷ 255 ∷ 16 ∷ []) Guid (Whole 1 1) ≡ codes "GUID: there, at place 1.\n  1: FF 10\n"
  pub sixteen : section_text (0 ∷ 1 ∷ 2 ∷ 3 ∷ 4 ∷ 5 ∷ 6 ∷ 7 ∷ 8 ∷ 9 ∷ 10 ∷ 11 ∷ 12 ∷ 13 ∷ 14 ∷ 15 ∷ 16 ∷ 17 ∷ 18 ∷ []) Attributes (Whole 2 1)
      ≡ codes "attributes: 1 announced at place 2, all there.\n  2: 02 03 04 05 06 07 08 09 0A 0B 0C 0D 0E 0F 10 11\n"
  pub none : section_text (7 ∷ 255 ∷ 16 ∷ []) Guid NotFlagged ≡ codes "GUID: not flagged, flag 0x0008 is not set.\n"
