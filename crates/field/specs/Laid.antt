-- docs/FORMAT.md, "Field entries": a field laid out, part behind part, and what is read of it: what is skipped is passed over as it lies there, and a refused
-- attribute refuses the field.
use Rattle.std.specs.Prelude.{ℕ, ◌+◌, ◌-◌, ◌*◌, ◌<◌, ◌≤◌, ◌≡◌, Bool, true, false, List, [], ◌++◌, Option, Some, None, Ok, Err, length, drop, if◌then◌else◌}
use Rattle.std.specs.List.{All, concat}
use Rattle.std.specs.Borrow.{Bor}
use Rattle.le.specs.Le.{le2, le4, bytes2, has}
use Rattle.part.specs.Slice.{after}
use Rattle.refusal.specs.declared.Mode.TheVariants.{Present}
use Rattle.refusal.specs.declared.Refusal.{Refusal}
use Rattle.attribute.specs.Attribute.{first_of, listed, after_listed}
use Rattle.field.specs.declared.AdsFieldInfo.{AdsFieldInfo}
use Rattle.field.specs.Field.{joined, field_of}
use Rattle.field.specs.Front.{front_by_header, HasStrings}

-- a sub-item, and a method: its own length in 4 bytes, and whatever follows within it
pub record IsItem (item : List ℕ) : Type 0 where
  pub least : 4 ≤ length item
  pub claims : le4 item 0 ≡ length item

-- what stands behind the strings, up to the attributes
pub record Parts : Type 0 where
  pub arrays : List ℕ
  pub items : List (List ℕ)
  pub guid : List ℕ
  pub mask : List ℕ
  pub methods : List (List ℕ)

-- a section is there where it is flagged
abbrev pub section : Bool → List ℕ → List ℕ
section flagged bytes = if flagged then bytes else []

abbrev pub guid_told : Bool → List ℕ → Option (List ℕ)
guid_told flagged guid = if flagged then Some guid else None

-- one behind another, and what follows
abbrev pub laid : ℕ → Parts → List ℕ → List ℕ
laid flags p more =
    p.arrays
    ++ (concat p.items
    ++ (section (has flags 0x0080) p.guid
    ++ (section (has flags 0x0200) p.mask ++ (section (has flags 0x0800) (bytes2 (length p.methods) ++ concat p.methods) ++ more))))

abbrev pub flags_of : Bor (List ℕ) → ℕ
flags_of e = le4 e.now 28

-- the parts of an entry are as its header says
pub record IsLaid (e : Bor (List ℕ)) (p : Parts) (more : List ℕ) : Type 0 where
  pub strings : HasStrings e
  pub arrays : length p.arrays ≡ 8 * le2 e.now 38
  pub count : length p.items ≡ le2 e.now 40
  pub items : All IsItem p.items
  pub guid : length p.guid ≡ 16
  pub mask : length p.mask ≡ le4 e.now 16
  pub few : length p.methods ≤ 65535
  pub methods : All IsItem p.methods
  pub bytes : drop (45 + le2 e.now 32 + le2 e.now 34 + le2 e.now 36) e.now ≡ laid (flags_of e) p more

-- of a count of attributes, how many are shown, and which refusal there is: all are read, or the bytes end behind one; or one is refused, though bytes are left
pub data Shows (s : Bor (List ℕ)) (count : ℕ) : ℕ → Option Refusal → Type 0 where
  all : length (listed s count) ≡ count → Shows s count count None
  ended : (n : ℕ) → 1 ≤ n → n ≤ count → length (listed s n) ≡ n → length (after_listed s n).now ≡ 0 → Shows s count n None
  refused : (n : ℕ) (why : Refusal) → n < count → length (listed s n) ≡ n → (1 ≤ n → 1 ≤ length (after_listed s n).now) → first_of (after_listed s n) ≡ Err why
      → Shows s count n (Some why)

-- with the bytes of its attributes and how many are shown
abbrev pub field_with : Bor (List ℕ) → Parts → Bor (List ℕ) → ℕ → AdsFieldInfo
field_with e p bytes count =
    joined (front_by_header e) (record { guid = guid_told (has (flags_of e) 0x0080) p.guid; attributes = record { bytes = bytes; count = count } })

-- so laid, it is read with the attributes that stand behind the parts, and refused by one of them that is; without them where they are not flagged, or there is no room for their count
pub record IsReadSo (e : Bor (List ℕ)) (p : Parts) (more : List ℕ) : Type 0 where
  pub without : has (flags_of e) 0x1000 ≡ false → field_of Present e ≡ Ok (field_with e p (after e (length e.now - length more)) 0)
  pub short : length more < 2 → field_of Present e ≡ Ok (field_with e p (after e (length e.now - length more)) 0)
  pub read : has (flags_of e) 0x1000 ≡ true → 2 ≤ length more → (n : ℕ) → Shows (after e (length e.now - length more + 2)) (le2 more 0) n None
      → field_of Present e ≡ Ok (field_with e p (after e (length e.now - length more + 2)) n)
  pub refused : has (flags_of e) 0x1000 ≡ true → 2 ≤ length more → (n : ℕ) (why : Refusal)
      → Shows (after e (length e.now - length more + 2)) (le2 more 0) n (Some why) → field_of Present e ≡ Err why

abbrev pub FieldsLaid : Type 0
FieldsLaid = (e : Bor (List ℕ)) (p : Parts) (more : List ℕ) → IsLaid e p more → IsReadSo e p more
