-- The four sections, and the last line: by cases on each reason.
use Rattle.std.proofs.Common.{ℕ, ◌≡◌, ◌⊎◌, inl, inr, refl, Bool, true, false, List, [], ◌++◌}
use Rattle.std.specs.Prelude.{codes, not, if◌then◌else◌}
use Rattle.std.specs.Fmt.{digits}
use Rattle.std.proofs.lemmas.List.{append_assoc}
use Rattle.why.specs.declared.Reason.{Reason}
use Rattle.why.specs.declared.Reason.TheVariants.{NotFlagged, NoExtendedFlags, NoRoom, Whole, Refused, Owed}
use Rattle.why.specs.declared.Reasons.{Reasons}
use Rattle.wording.specs.Wording.{grouped, grouped_by, many, bytes, figure, refusal_text}
use Rattle.why_report.specs.declared.Section.TheVariants.{Guid, Attributes, ExtendedFlags, FormerNames}
use Rattle.why_report.specs.Text.{sentence_text, section_text, row_text, is_missing, nothing_missing, sections_text, ending_text, reasons_text}
use Rattle.why_report.specs.Written.{IsComplete, IsLacking, AreComplete, IsOneLacking, followed_by, ReasonsWritten}

is_shown : (r : Reason) → IsComplete r → is_missing r ≡ false
is_shown r IsComplete.not_flagged = refl
is_shown r IsComplete.no_flags = refl
is_shown r IsComplete.whole = refl

is_lacking : (r : Reason) → IsLacking r → is_missing r ≡ true
is_lacking NotFlagged none = absurd (none IsComplete.not_flagged)
is_lacking NoExtendedFlags none = absurd (none IsComplete.no_flags)
is_lacking (NoRoom at left) none = refl
is_lacking (Whole at count) none = absurd (none IsComplete.whole)
is_lacking (Refused before at why) none = refl
is_lacking (Owed announced owed) none = refl

-- what stands behind the sections
ended : (own : List ℕ) (x : Reasons) (b : Bool) → nothing_missing x ≡ b → reasons_text own x ≡ followed_by (ending_text b) own x
unfolding reasons_text sections_text
ended own x b e =
    rw e simp (
      append_assoc (section_text own Guid x.guid) (section_text own Attributes x.attributes ++ (section_text own ExtendedFlags x.extended_flags ++ section_text own FormerNames x.refactor_infos)) (ending_text b),
      append_assoc (section_text own Attributes x.attributes) (section_text own ExtendedFlags x.extended_flags ++ section_text own FormerNames x.refactor_infos) (ending_text b),
      append_assoc (section_text own ExtendedFlags x.extended_flags) (section_text own FormerNames x.refactor_infos) (ending_text b),
    )

complete : (own : List ℕ) (x : Reasons) → AreComplete x → reasons_text own x ≡ followed_by (codes "Nothing that is flagged or announced is missing.\n") own x
complete own x (g, (a, (f, c))) = ended own x true (simp (is_shown x.guid g, is_shown x.attributes a, is_shown x.extended_flags f, is_shown x.refactor_infos c))

-- of four, one is
one : (g a f c : Bool) → (g ≡ true) ⊎ ((a ≡ true) ⊎ ((f ≡ true) ⊎ (c ≡ true))) → (if g then false else if a then false else if f then false else not c) ≡ false
one true a f c h = refl
one false true f c h = refl
one false false true c h = refl
one false false false true h = refl
one false false false false h = absurd (elim h [ inl e ↦ cc | inr h ↦ elim h [ inl e ↦ cc | inr h ↦ elim h [ inl e ↦ cc | inr e ↦ cc ] ] ])

lacks : (x : Reasons) → IsOneLacking x → (is_missing x.guid ≡ true) ⊎ ((is_missing x.attributes ≡ true) ⊎ ((is_missing x.extended_flags ≡ true) ⊎ (is_missing x.refactor_infos ≡ true)))
lacks x (inl h) = inl (is_lacking x.guid h)
lacks x (inr (inl h)) = inr (inl (is_lacking x.attributes h))
lacks x (inr (inr (inl h))) = inr (inr (inl (is_lacking x.extended_flags h)))
lacks x (inr (inr (inr h))) = inr (inr (inr (is_lacking x.refactor_infos h)))

lacking : (own : List ℕ) (x : Reasons) → IsOneLacking x → reasons_text own x ≡ followed_by [] own x
lacking own x h = ended own x false (one (is_missing x.guid) (is_missing x.attributes) (is_missing x.extended_flags) (is_missing x.refactor_infos) (lacks x h))

pub reasons_written : ReasonsWritten
unfolding digits sentence_text section_text sections_text reasons_text row_text grouped grouped_by many bytes figure refusal_text
reasons_written = record { complete = complete; lacking = lacking; words = refl }
