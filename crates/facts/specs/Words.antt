-- docs/FORMAT.md, "The command's text" and "Why": reasons, word for word.
use Rattle.std.specs.Prelude.{ℕ, ◌≡◌, [], ◌++◌, codes}
use Rattle.refusal.specs.declared.Refusal.{Refusal}
use Rattle.refusal.specs.declared.Refusal.TheVariants.{UnexpectedLength}
use Rattle.why.specs.declared.Reason.TheVariants.{NotFlagged, NoExtendedFlags, NoRoom, Whole, Refused, Owed}
use Rattle.facts.specs.Facts.{because, no_more}

-- each reason; and the line behind the attributes that are shown, which a refused record and owed ones have, and no other reason
pub record ReasonsMeant : Type 0 where
  pub unflagged : because NotFlagged ≡ codes "not flagged"
  pub no_flags : because NoExtendedFlags ≡ codes "there are no extended flags"
  pub short : because (NoRoom 41 15) ≡ codes "flagged, but 15 bytes are left at place 41"
  pub short_by_one : because (NoRoom 42 1) ≡ codes "flagged, but 1 byte is left at place 42"
  pub whole : because (Whole 93 0) ≡ codes "their count is 0"
  pub refused : because (Refused 5 41 (UnexpectedLength 7 6)) ≡ codes "record 5 is refused at place 41, refusal 1, unexpected length: 7 bytes needed, 6 there"
  pub owed : because (Owed 12 7) ≡ codes "12 announced, and the entry ends before 7 of them"
  pub more_unflagged : no_more NotFlagged ≡ []
  pub more_no_flags : no_more NoExtendedFlags ≡ []
  pub more_short : (at left : ℕ) → no_more (NoRoom at left) ≡ []
  pub more_whole : (at count : ℕ) → no_more (Whole at count) ≡ []
  pub more_refused : (before at : ℕ) (why : Refusal) → no_more (Refused before at why) ≡ codes "              no more: " ++ (because (Refused before at why) ++ codes "\n")
  pub more_owed : (announced owed : ℕ) → no_more (Owed announced owed) ≡ codes "              no more: " ++ (because (Owed announced owed) ++ codes "\n")
