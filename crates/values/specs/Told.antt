-- docs/FORMAT.md, "The command's text": what is told of a part, by the part's own bytes.
use Rattle.std.specs.Prelude.{ℕ, ◌-◌, ◌≤◌, ◌≡◌, List, [], ◌∷◌, Ok, length, min}
use Rattle.std.specs.Borrow.{Bor}
use Rattle.le.specs.Le.{le2, le4}
use Rattle.part.specs.Slice.{part}
use Rattle.refusal.specs.declared.Mode.{Mode}
use Rattle.attribute.specs.Attribute as attribute
use Rattle.attribute.specs.Laid as attributes
use Rattle.refactor.specs.Laid as refactors
use Rattle.symbol.specs.declared.AdsSymbolInfo.{AdsSymbolInfo}
use Rattle.symbol.specs.Symbol.{symbol_of}
use Rattle.sections.specs.Sections.{sections_of}
use Rattle.sections.specs.declared.Section.{Section}
use Rattle.sections.specs.declared.Part.{Part}
use Rattle.sections.specs.declared.Part.TheVariants.{Length, Group, Offset, Size, TypeId, Flags, High, StringLengths, Name, «Type», Comment, Guid, AttributeCount, Attribute, ExtendedFlags, FormerName, Unread}
use Rattle.values.specs.declared.Value.{Value}
use Rattle.values.specs.declared.Value.TheVariants as told
use Rattle.values.specs.Values.{value_of}

-- a string is all but its end byte
abbrev pub IsText : Bor (List ℕ) → Value → Type 0
IsText bytes v = v ≡ told.Text (part bytes 0 (length bytes.now - 1))

-- what stands in a part of an entry of so many bytes, of which so many attributes are shown; of records RecordsTold says it
abbrev pub Tells : ℕ → ℕ → Part → Bor (List ℕ) → Value → Type 0
Tells whole shown Length bytes v = v ≡ told.Bytes whole
Tells whole shown Group bytes v = v ≡ told.Hexadecimal (le4 bytes.now 0)
Tells whole shown Offset bytes v = v ≡ told.Hexadecimal (le4 bytes.now 0)
Tells whole shown Size bytes v = v ≡ told.Bytes (le4 bytes.now 0)
Tells whole shown TypeId bytes v = v ≡ told.Number (le4 bytes.now 0)
Tells whole shown Flags bytes v = v ≡ told.Flags (record { 0 = le2 bytes.now 0 })
Tells whole shown High bytes v = v ≡ told.High (le2 bytes.now 0)
Tells whole shown StringLengths bytes v = v ≡ told.Bytes 6
Tells whole shown Name bytes v = IsText bytes v
Tells whole shown «Type» bytes v = IsText bytes v
Tells whole shown Comment bytes v = IsText bytes v
Tells whole shown Guid bytes v = v ≡ told.Guid bytes.now
Tells whole shown AttributeCount bytes v = v ≡ told.Number (min shown 4294967295)
Tells whole shown (Attribute k) bytes v = Unit {0}
Tells whole shown ExtendedFlags bytes v = v ≡ told.ExtendedFlags (record { 0 = le4 bytes.now 0 })
Tells whole shown (FormerName k) bytes v = Unit {0}
Tells whole shown Unread bytes v = v ≡ told.Bytes (length bytes.now)

abbrev pub AllTell : ℕ → AdsSymbolInfo → List Section → Type 0
AllTell whole r [] = Unit {0}
AllTell whole r (x ∷ more) = Tells whole (length (attribute.left r.attributes)) x.part x.bytes (value_of r x.part x.bytes) × AllTell whole r more

-- whatever the mode
abbrev pub ValuesTold : Type 0
ValuesTold = (mode : Mode) (e : Bor (List ℕ)) (r : AdsSymbolInfo) → symbol_of mode e ≡ Ok r → AllTell (length e.now) r (sections_of e r)

-- of whichever symbol and number
pub record RecordsTold : Type 0 where
  pub attribute : (r : AdsSymbolInfo) (k : ℕ) (bytes : Bor (List ℕ)) → attributes.size bytes.now ≤ length bytes.now
      → value_of r (Attribute k) bytes ≡ told.Attribute (attributes.parts bytes)
  pub former_name : (r : AdsSymbolInfo) (k : ℕ) (bytes : Bor (List ℕ)) → refactors.size bytes.now ≤ length bytes.now
      → value_of r (FormerName k) bytes ≡ told.FormerName (part bytes 6 (le2 bytes.now 4))
