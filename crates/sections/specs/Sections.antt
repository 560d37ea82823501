-- docs/FORMAT.md, "Symbol entries": the sections of an entry, cut off its own bytes one after another.
use Rattle.std.specs.Prelude.{ℕ, ◌+◌, ◌-◌, List, [], ◌∷◌, ◌++◌, leb, eqb, length, min, Bool, is_some, if◌then◌else◌}
use Rattle.std.specs.Borrow.{Bor}
use Rattle.le.specs.Le.{has}
use Rattle.part.specs.Slice.{part}
use Rattle.attribute.specs.Attribute as attribute
use Rattle.attribute.specs.declared.AdsAttribute.{AdsAttribute}
use Rattle.refactor.specs.Refactor as refactor
use Rattle.refactor.specs.declared.AdsRefactorInfo.{AdsRefactorInfo}
use Rattle.symbol.specs.Symbol.{attributes_flag}
use Rattle.symbol.specs.declared.AdsSymbolInfo.{AdsSymbolInfo}
use Rattle.sections.specs.declared.Cutter.{Cutter}
use Rattle.sections.specs.declared.Part.{Part}
use Rattle.sections.specs.declared.Part.TheVariants.{Length, Group, Offset, Size, TypeId, Flags, High, StringLengths, Name, «Type», Comment, Guid, AttributeCount, Attribute, ExtendedFlags, FormerName, Unread}
use Rattle.sections.specs.declared.Section.{Section}

abbrev pub own_bytes : Section → List ℕ
own_bytes s = s.bytes.now

-- an entry's own bytes, the sections that were cut off them, and where the next one begins
pub record Cut : Type 0 where
  pub own : Bor (List ℕ)
  pub all : List Section
  pub at : ℕ

abbrev pub seen : Cutter → Cut
seen c = record { own = c.own; all = c.sections.items; at = c.at }

-- cut off as a part, so many bytes, or as many as there are
abbrev pub cut_off : Part → ℕ → Cut → Cut
cut_off p n c =
    if eqb n 0 then c
    else record { own = c.own; all = c.all ++ (record { part = p; at = c.at; bytes = part c.own c.at n } ∷ []); at = c.at + n }

unfoldable pub cut : Part → ℕ → Cut → Cut
cut p n c = cut_off p (min n (length c.own.now - c.at)) c

-- one after another
abbrev pub cut_all : List (Part × ℕ) → Cut → Cut
cut_all [] c = c
cut_all (p ∷ more) c = cut_all more (cut p.0 p.1 c)

abbrev pub header_parts : List (Part × ℕ)
header_parts = (Length, 4) ∷ (Group, 4) ∷ (Offset, 4) ∷ (Size, 4) ∷ (TypeId, 4) ∷ (Flags, 2) ∷ (High, 2) ∷ (StringLengths, 6) ∷ []

-- each with its end byte
abbrev pub string_parts : AdsSymbolInfo → List (Part × ℕ)
string_parts s = (Name, length s.name.now + 1) ∷ («Type», length s.type_name.now + 1) ∷ (Comment, length s.comment.now + 1) ∷ []

-- two lengths, two strings, two end bytes
abbrev pub attribute_size : AdsAttribute → ℕ
attribute_size a = length a.name.now + length a.value.now + 4

-- the records that are shown, by number
abbrev pub attribute_parts : ℕ → List AdsAttribute → List (Part × ℕ)
attribute_parts k [] = []
attribute_parts k (a ∷ more) = (Attribute k, attribute_size a) ∷ attribute_parts (k + 1) more

abbrev pub former_parts : ℕ → List AdsRefactorInfo → List (Part × ℕ)
former_parts k [] = []
former_parts k (r ∷ more) = (FormerName k, length r.name.now + 7) ∷ former_parts (k + 1) more

-- the count of attributes that are flagged and have room for it
abbrev pub with_count : AdsSymbolInfo → Cut → Cut
with_count s c =
    if has s.flags.0 attributes_flag then if leb 2 (length c.own.now - c.at) then cut AttributeCount 2 c else c
    else c

abbrev pub with_attributes : AdsSymbolInfo → Cut → Cut
with_attributes s c = cut_all (attribute_parts 0 (attribute.left s.attributes)) c

abbrev pub with_former_names : AdsSymbolInfo → Cut → Cut
with_former_names s c = cut_all (former_parts 0 (refactor.left s.refactor_infos)) c

-- a part that is there, or not
abbrev pub with_optional : Part → ℕ → Bool → Cut → Cut
with_optional p n there c = if there then cut p n c else c

-- all that a symbol has, and as the last what is left
unfoldable pub cut_entry : AdsSymbolInfo → Cut → Cut
cut_entry s c =
    let strings : Cut = cut_all (string_parts s) (cut_all header_parts c) in
    let attributes : Cut = with_attributes s (with_count s (with_optional Guid 16 (is_some s.guid) strings)) in
    let names : Cut = with_former_names s (with_optional ExtendedFlags 4 (is_some s.extended_flags) attributes) in
    cut Unread (length names.own.now) names

unfoldable pub sections_of : Bor (List ℕ) → AdsSymbolInfo → List Section
sections_of e s = (cut_entry s (record { own = e; all = []; at = 0 })).all
