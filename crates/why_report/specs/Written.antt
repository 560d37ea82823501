-- docs/FORMAT.md, "The command's text" and "Why": which sections are told in which order, and where the last line says that nothing is missing.
use Rattle.std.specs.Prelude.{ℕ, ◌≡◌, ◌⊎◌, List, [], ◌∷◌, ◌++◌, codes}
use Rattle.why.specs.declared.Reason.{Reason}
use Rattle.why.specs.declared.Reason.TheVariants.{NotFlagged, NoExtendedFlags, NoRoom, Whole, Owed}
use Rattle.why.specs.declared.Reasons.{Reasons}
use Rattle.why_report.specs.declared.Section.TheVariants.{Guid, Attributes, ExtendedFlags, FormerNames}
use Rattle.why_report.specs.Text.{section_text, reasons_text}

-- a section that is not flagged, or shown whole
pub data IsComplete : Reason → Type 0 where
  not_flagged : IsComplete NotFlagged
  no_flags : IsComplete NoExtendedFlags
  whole : {at count : ℕ} → IsComplete (Whole at count)

-- the entry ends before it, a record in it is refused, or attributes are owed
abbrev pub IsLacking : Reason → Type 0
IsLacking r = IsComplete r → ⊥

-- the four sections, and what stands behind them
abbrev pub followed_by : List ℕ → List ℕ → Reasons → List ℕ
followed_by ending own x =
    section_text own Guid x.guid ++ (section_text own Attributes x.attributes ++ (section_text own ExtendedFlags x.extended_flags ++ (section_text own FormerNames x.refactor_infos ++ ending)))

abbrev pub AreComplete : Reasons → Type 0
AreComplete x = IsComplete x.guid × (IsComplete x.attributes × (IsComplete x.extended_flags × IsComplete x.refactor_infos))

abbrev pub IsOneLacking : Reasons → Type 0
IsOneLacking x = IsLacking x.guid ⊎ (IsLacking x.attributes ⊎ (IsLacking x.extended_flags ⊎ IsLacking x.refactor_infos))

-- and an entry that has one section whole, one cut, one owed and one not flagged
pub record ReasonsWritten : Type 0 where
  pub complete : (own : List ℕ) (x : Reasons) → AreComplete x → reasons_text own x ≡ followed_by (codes "Nothing that is flagged or announced is missing.\n") own x
  pub lacking : (own : List ℕ) (x : Reasons) → IsOneLacking x → reasons_text own x ≡ followed_by [] own x
  pub words : reasons_text (7 ∷ 255 ∷ 16 ∷ []) (record { guid = Whole 1 1; attributes = Owed 3 1; extended_flags = NoRoom 2 1; refactor_infos = NoExtendedFlags })
      ≡ codes "GUID: there, at place 1.\n  1: FF 10\nattributes: 3 announced, and the entry ends before 1 of them.\nextended flags: flagged, with 1 byte left at place 2 and 4 needed.\n  2: 10\nformer names: not flagged, there are no extended flags that would flag them.\n"
