-- docs/FORMAT.md, "The command's text" and "Why": what `why` prints of a symbol's sections.
use Rattle.std.specs.Prelude.{ℕ, min, Bool, true, false, not, List, [], ◌++◌, length, take, drop, codes, decimal, Option, Some, None, if◌then◌else◌}
use Rattle.std.specs.List.{flat_map}
use Rattle.wording.specs.Wording.{bytes, refusal_text}
use Rattle.wording.specs.Text.{pair}
use Rattle.why.specs.declared.Reason.{Reason}
use Rattle.why.specs.declared.Reason.TheVariants.{NotFlagged, NoExtendedFlags, NoRoom, Whole, Refused, Owed}
use Rattle.why.specs.declared.Reasons.{Reasons}
use Rattle.why_report.specs.declared.Section.{Section}
use Rattle.why_report.specs.declared.Section.TheVariants.{Guid, Attributes, ExtendedFlags, FormerNames}

abbrev pub heading : Section → List ℕ
heading Guid = codes "GUID"
heading Attributes = codes "attributes"
heading ExtendedFlags = codes "extended flags"
heading FormerNames = codes "former names"

abbrev pub flag : Section → List ℕ
flag Guid = codes "flag 0x0008"
flag Attributes = codes "flag 0x1000"
flag ExtendedFlags = codes "flag 0x8000"
flag FormerNames = codes "extended flag 0x0004"

-- how many bytes it has at least
abbrev pub least : Section → List ℕ
least Guid = codes "16"
least Attributes = codes "2"
least ExtendedFlags = codes "4"
least FormerNames = codes "1"

-- one that is shown whole
abbrev pub counted : Section → ℕ → ℕ → List ℕ
counted Guid at count = codes "there, at place " ++ decimal at
counted Attributes at count = decimal count ++ (codes " announced at place " ++ (decimal at ++ codes ", all there"))
counted ExtendedFlags at count = codes "there, at place " ++ decimal at
counted FormerNames at count = decimal count ++ (codes " in the chain at place " ++ (decimal at ++ codes ", all there"))

-- attributes of which some are owed
abbrev pub missing : ℕ → ℕ → List ℕ
missing announced owed = decimal announced ++ (codes " announced, and the entry ends before " ++ (decimal owed ++ codes " of them"))

abbrev pub refused : Section → List ℕ
refused Guid = codes "is refused and ends the list"
refused Attributes = codes "is refused and ends the list"
refused ExtendedFlags = codes "is refused and ends the list"
refused FormerNames = codes "is refused and drops the chain"

-- behind the heading
unfoldable pub sentence_text : Section → Reason → List ℕ
sentence_text s NotFlagged = heading s ++ (codes ": not flagged, " ++ (flag s ++ codes " is not set."))
sentence_text s NoExtendedFlags = heading s ++ codes ": not flagged, there are no extended flags that would flag them."
sentence_text s (NoRoom at left) = heading s ++ (codes ": flagged, with " ++ (bytes left ++ (codes " left at place " ++ (decimal at ++ (codes " and " ++ (least s ++ codes " needed."))))))
sentence_text s (Whole at count) = heading s ++ (codes ": " ++ (counted s at count ++ codes "."))
sentence_text s (Refused before at why) =
    heading s ++ (codes ": number " ++ (decimal before ++ (codes ", from 0, at place " ++ (decimal at ++ (codes " " ++ (refused s ++ (codes ": " ++ (refusal_text why ++ codes "."))))))))
sentence_text s (Owed announced owed) = heading s ++ (codes ": " ++ (missing announced owed ++ codes "."))

-- the bytes at a place, 16 at most
abbrev pub bytes_at : List ℕ → ℕ → List ℕ
bytes_at own at = let rest : List ℕ = drop (min at (length own)) own in take (min (length rest) 16) rest

abbrev pub place_of : Reason → Option ℕ
place_of (NoRoom at left) = Some at
place_of (Whole at count) = Some at
place_of (Refused before at why) = Some at
place_of _ = None

unfoldable pub row_text : ℕ → List ℕ → List ℕ
row_text at own = codes "  " ++ (decimal at ++ (codes ":" ++ (flat_map (λ b. codes " " ++ pair b) own ++ codes "\n")))

abbrev pub row_at : List ℕ → Option ℕ → List ℕ
row_at own None = []
row_at own (Some at) = row_text at (bytes_at own at)

unfoldable pub section_text : List ℕ → Section → Reason → List ℕ
section_text own s r = sentence_text s r ++ (codes "\n" ++ row_at own (place_of r))

-- something that is flagged or announced is not shown
abbrev pub is_missing : Reason → Bool
is_missing (NoRoom at left) = true
is_missing (Refused before at why) = true
is_missing (Owed announced owed) = true
is_missing _ = false

abbrev pub nothing_missing : Reasons → Bool
nothing_missing x =
    if is_missing x.guid then false
    else if is_missing x.attributes then false
    else if is_missing x.extended_flags then false
    else not (is_missing x.refactor_infos)

unfoldable pub sections_text : List ℕ → Reasons → List ℕ
sections_text own x =
    section_text own Guid x.guid
    ++ (section_text own Attributes x.attributes
    ++ (section_text own ExtendedFlags x.extended_flags
    ++ section_text own FormerNames x.refactor_infos))

abbrev pub ending_text : Bool → List ℕ
ending_text nothing_missing = if nothing_missing then codes "Nothing that is flagged or announced is missing.\n" else []

unfoldable pub reasons_text : List ℕ → Reasons → List ℕ
reasons_text own x = sections_text own x ++ ending_text (nothing_missing x)
