-- docs/FORMAT.md, "Field entries": where each part of an entry begins that has a header and strings. A place may pass the entry's end.
use Rattle.std.specs.Prelude.{ℕ, zero, suc, min, ◌+◌, ◌-◌, ◌*◌, ◌≡◌, Bool, true, false, List, Option, Some, None, Ok, Err, leb, length, take, drop, if◌then◌else◌}
use Rattle.std.specs.Borrow.{Bor}
use Rattle.le.specs.Le.{le2, le4, has}
use Rattle.part.specs.Slice.{after}
use Rattle.refusal.specs.declared.Mode.{Mode}
use Rattle.refusal.specs.declared.Mode.TheVariants.{Present}
use Rattle.refusal.specs.declared.Refusal.{Refusal}
use Rattle.attribute.specs.Attribute.{listed}
use Rattle.field.specs.declared.AdsFieldInfo.{AdsFieldInfo}
use Rattle.field.specs.Field.{joined, field_of}
use Rattle.field.specs.Front.{front_by_header, HasStrings}
use Rattle.field.specs.Laid.{Shows}

-- a section is there where the header flags it and so many bytes are left from a place on
abbrev pub is_there : List ℕ → ℕ → ℕ → ℕ → Bool
is_there e flag at size = if has (le4 e 28) flag then leb size (length e - at) else false

-- the place behind so many items: while 4 bytes are left, each moves it by the length that stands there, whatever that is
unfoldable pub behind : List ℕ → ℕ → ℕ → ℕ
behind e at zero = at
behind e at (suc items) = if leb 4 (length e - at) then behind e (at + le4 e at) items else at

abbrev pub arrays_at : List ℕ → ℕ
arrays_at e = 45 + le2 e 32 + le2 e 34 + le2 e 36

abbrev pub items_at : List ℕ → ℕ
items_at e = arrays_at e + 8 * le2 e 38

unfoldable pub guid_at : List ℕ → ℕ
guid_at e = behind e (items_at e) (le2 e 40)

unfoldable pub mask_at : List ℕ → ℕ
mask_at e = guid_at e + (if is_there e 0x0080 (guid_at e) 16 then 16 else 0)

-- a mask has a byte for each byte of the value, and leads to the entry's end at most, also back to it
unfoldable pub methods_at : List ℕ → ℕ
methods_at e = if has (le4 e 28) 0x0200 then min (mask_at e + le4 e 16) (length e) else mask_at e

unfoldable pub attributes_at : List ℕ → ℕ
attributes_at e =
    if is_there e 0x0800 (methods_at e) 2 then behind e (methods_at e + 2) (le2 e (methods_at e))
    else methods_at e

abbrev pub guid_there : List ℕ → Option (List ℕ)
guid_there e = if is_there e 0x0080 (guid_at e) 16 then Some (take 16 (drop (guid_at e) e)) else None

-- there is room for their count
abbrev pub attributes_there : List ℕ → Bool
attributes_there e = is_there e 0x1000 (attributes_at e) 2

-- where the attributes begin: behind their count, where that is there
abbrev pub attributes_from : List ℕ → ℕ
attributes_from e = attributes_at e + (if attributes_there e then 2 else 0)

-- the GUID is read, and the attributes behind their count, where they are there; else there are none
pub record IsPlaced (e : Bor (List ℕ)) (r : AdsFieldInfo) : Type 0 where
  pub guid : r.guid ≡ guid_there e.now
  pub attributes : r.attributes.bytes ≡ after e (min (attributes_from e.now) (length e.now))
  pub count : r.attributes.count ≡ (if attributes_there e.now then length (listed r.attributes.bytes (le2 e.now (attributes_at e.now))) else 0)

-- whatever the mode
abbrev pub FieldsPlaced : Type 0
FieldsPlaced = (mode : Mode) (e : Bor (List ℕ)) (r : AdsFieldInfo) → field_of mode e ≡ Ok r → IsPlaced e r

-- with the bytes of its attributes and how many are shown
abbrev pub field_there : Bor (List ℕ) → Bor (List ℕ) → ℕ → AdsFieldInfo
field_there e bytes count = joined (front_by_header e) (record { guid = guid_there e.now; attributes = record { bytes = bytes; count = count } })

-- some are shown of a count of attributes, and there is a refusal or none
pub record ShowsSome (s : Bor (List ℕ)) (count : ℕ) : Type 0 where
  pub n : ℕ
  pub why : Option Refusal
  pub shows : Shows s count n why

-- in the present mode an entry is read however few bytes its sections have, and nothing refuses it but an attribute that is refused
pub record IsReadThere (e : Bor (List ℕ)) : Type 0 where
  pub some : attributes_there e.now ≡ true → ShowsSome (after e (attributes_at e.now + 2)) (le2 e.now (attributes_at e.now))
  pub without : attributes_there e.now ≡ false → field_of Present e ≡ Ok (field_there e (after e (min (attributes_at e.now) (length e.now))) 0)
  pub read : attributes_there e.now ≡ true → (n : ℕ) → Shows (after e (attributes_at e.now + 2)) (le2 e.now (attributes_at e.now)) n None
      → field_of Present e ≡ Ok (field_there e (after e (attributes_at e.now + 2)) n)
  pub refused : attributes_there e.now ≡ true → (n : ℕ) (why : Refusal) → Shows (after e (attributes_at e.now + 2)) (le2 e.now (attributes_at e.now)) n (Some why)
      → field_of Present e ≡ Err why

abbrev pub FieldsRead : Type 0
FieldsRead = (e : Bor (List ℕ)) → HasStrings e → IsReadThere e
