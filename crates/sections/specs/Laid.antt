-- docs/FORMAT.md, "Symbol entries": where the sections lie, and what each of them is, by the bytes of the entry.
use Rattle.std.specs.Prelude.{ℕ, ◌+◌, ◌<◌, ◌≡◌, List, [], ◌∷◌, Some, Ok, slice_get, length}
use Rattle.std.specs.List.{flat_map}
use Rattle.std.specs.Borrow.{Bor}
use Rattle.le.specs.Le.{le2, le4}
use Rattle.part.specs.End.{IsString, rest_at}
use Rattle.part.specs.Slice.{part}
use Rattle.refusal.specs.declared.Mode.{Mode}
use Rattle.attribute.specs.Attribute as attribute
use Rattle.attribute.specs.declared.AdsAttribute.{AdsAttribute}
use Rattle.refactor.specs.Refactor as refactor
use Rattle.refactor.specs.declared.AdsRefactorInfo.{AdsRefactorInfo}
use Rattle.symbol.specs.Symbol.{symbol_of}
use Rattle.symbol.specs.declared.AdsSymbolInfo.{AdsSymbolInfo}
use Rattle.sections.specs.declared.Part.{Part}
use Rattle.sections.specs.declared.Part.TheVariants.{Length, Group, Offset, Size, TypeId, Flags, High, StringLengths, Name, «Type», Comment, Guid, AttributeCount, Attribute, ExtendedFlags, FormerName, Unread}
use Rattle.sections.specs.declared.Section.{Section}
use Rattle.sections.specs.Sections.{own_bytes, sections_of}

-- from a place of an entry on to its end, one after another: each has a byte at least, and is the entry's bytes from its place on
abbrev pub LaidOut : Bor (List ℕ) → ℕ → List Section → Type 0
LaidOut e at [] = at ≡ length e.now
LaidOut e at (x ∷ more) =
    (x.at ≡ at) × (0 < length x.bytes.now) × (x.bytes ≡ part e at (length x.bytes.now)) × LaidOut e (at + length x.bytes.now) more

-- whatever symbol is told of an entry; so no byte is lost, and none stands in two
pub record AreLaid (e : Bor (List ℕ)) (all : List Section) : Type 0 where
  pub laid : LaidOut e 0 all
  pub whole : flat_map own_bytes all ≡ e.now

abbrev pub SectionsLaid : Type 0
SectionsLaid = (e : Bor (List ℕ)) (r : AdsSymbolInfo) → AreLaid e (sections_of e r)

-- at this place, so many bytes
abbrev pub Spans : ℕ → Bor (List ℕ) → ℕ → ℕ → Type 0
Spans at bytes from n = (at ≡ from) × (length bytes.now ≡ n)

-- where what follows the strings begins, by the header
abbrev pub behind_strings : Bor (List ℕ) → ℕ
behind_strings e = 33 + le2 e.now 24 + le2 e.now 26 + le2 e.now 28

-- the record at a place: two lengths, and the name and the value of this attribute with their end bytes; a count, a length, and a former name with its end byte
pub record IsAttribute (e : Bor (List ℕ)) (at n : ℕ) (a : AdsAttribute) : Type 0 where
  pub name : IsString e (at + 2) a.name
  pub value : IsString e (at + 2 + length a.name.now + 1) a.value
  pub long : n ≡ 2 + length a.name.now + 1 + length a.value.now + 1

pub record IsFormerName (e : Bor (List ℕ)) (at n : ℕ) (f : AdsRefactorInfo) : Type 0 where
  pub name : IsString e (at + 6) f.name
  pub long : n ≡ 6 + length f.name.now + 1

-- the bytes of a part
abbrev pub IsPart : Bor (List ℕ) → AdsSymbolInfo → Part → ℕ → Bor (List ℕ) → Type 0
IsPart e r Length at bytes = Spans at bytes 0 4
IsPart e r Group at bytes = Spans at bytes 4 4
IsPart e r Offset at bytes = Spans at bytes 8 4
IsPart e r Size at bytes = Spans at bytes 12 4
IsPart e r TypeId at bytes = Spans at bytes 16 4
IsPart e r Flags at bytes = Spans at bytes 20 2
IsPart e r High at bytes = Spans at bytes 22 2
IsPart e r StringLengths at bytes = Spans at bytes 24 6
IsPart e r Name at bytes = Spans at bytes 30 (le2 e.now 24 + 1)
IsPart e r «Type» at bytes = Spans at bytes (31 + le2 e.now 24) (le2 e.now 26 + 1)
IsPart e r Comment at bytes = Spans at bytes (32 + le2 e.now 24 + le2 e.now 26) (le2 e.now 28 + 1)
IsPart e r Guid at bytes = (r.guid ≡ Some bytes.now) × Spans at bytes (behind_strings e) 16
IsPart e r AttributeCount at bytes = (length bytes.now ≡ 2) × (rest_at e r.attributes.bytes ≡ at + 2)
IsPart e r (Attribute k) at bytes = (a : AdsAttribute) × (slice_get (attribute.left r.attributes) k ≡ Some a) × IsAttribute e at (length bytes.now) a
IsPart e r ExtendedFlags at bytes = (length bytes.now ≡ 4) × (r.extended_flags ≡ Some (record { 0 = le4 bytes.now 0 }))
IsPart e r (FormerName k) at bytes = (f : AdsRefactorInfo) × (slice_get (refactor.left r.refactor_infos) k ≡ Some f) × IsFormerName e at (length bytes.now) f
IsPart e r Unread at bytes = bytes ≡ r.unread

abbrev pub AreParts : Bor (List ℕ) → AdsSymbolInfo → List Section → Type 0
AreParts e r [] = Unit {0}
AreParts e r (x ∷ more) = IsPart e r x.part x.at x.bytes × AreParts e r more

-- whatever the mode
abbrev pub SectionsTold : Type 0
SectionsTold = (mode : Mode) (e : Bor (List ℕ)) (r : AdsSymbolInfo) → symbol_of mode e ≡ Ok r → AreParts e r (sections_of e r)
