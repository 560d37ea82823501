-- docs/FORMAT.md, "Modes": a field in the two modes, by the bytes behind its strings.
use Rattle.std.specs.Prelude.{ℕ, ◌+◌, ◌<◌, ◌≡◌, List, [], ◌∷◌, ◌++◌, Ok, leb, length, get_or, if◌then◌else◌}
use Rattle.std.specs.List.{All}
use Rattle.std.specs.Borrow.{Bor}
use Rattle.le.specs.Le.{le2}
use Rattle.part.specs.Slice.{after}
use Rattle.refusal.specs.declared.Mode.{Mode}
use Rattle.refusal.specs.declared.Mode.TheVariants.{Present, Checked}
use Rattle.attribute.specs.declared.AdsAttribute.{AdsAttribute}
use Rattle.attribute.specs.Attribute.{listed}
use Rattle.attribute.specs.Behind.{bytes_behind}
use Rattle.attribute.specs.Modes.{TestedFirst}
use Rattle.field.specs.declared.AdsFieldInfo.{AdsFieldInfo}
use Rattle.field.specs.Field.{field_of}
use Rattle.field.specs.Within.{shown}
use Rattle.field.specs.Placed.{attributes_at, attributes_there}

-- where the strings end, each with one end byte
abbrev pub strings_end : List ℕ → ℕ
strings_end s = 45 + le2 s 32 + le2 s 34 + le2 s 36

-- the end bytes of name, type and comment, each with its place
abbrev pub string_bytes : List ℕ → List (ℕ × ℕ)
string_bytes s =
    let name : ℕ = 42 + le2 s 32 in
    let type : ℕ = name + 1 + le2 s 34 in
    let comment : ℕ = type + 1 + le2 s 36 in
    (name, get_or s name 0) ∷ (type, get_or s type 0) ∷ (comment, get_or s comment 0) ∷ []

-- the attributes that are met: up to one that is refused
abbrev pub attributes_met : Bor (List ℕ) → List AdsAttribute
attributes_met e = if attributes_there e.now then listed (after e (attributes_at e.now + 2)) (le2 e.now (attributes_at e.now)) else []

-- the end bytes that are met in an entry, in the order in which they are met: none where its strings are not there
abbrev pub end_bytes : Bor (List ℕ) → List (ℕ × ℕ)
end_bytes e = if leb (strings_end e.now) (length e.now) then string_bytes e.now ++ bytes_behind e (attributes_met e) else []

-- each is a byte of the entry; and of an entry that is accepted, the attributes that are met are those of the record
pub record IsOfModes (e : Bor (List ℕ)) : Type 0 where
  pub there : All (λ (b : ℕ × ℕ). b.0 < length e.now) (end_bytes e)
  pub tested : TestedFirst (end_bytes e) (field_of Checked e) (field_of Present e)
  pub told : (mode : Mode) (r : AdsFieldInfo) → field_of mode e ≡ Ok r → attributes_met e ≡ shown r

abbrev pub FieldsModes : Type 0
FieldsModes = (e : Bor (List ℕ)) → IsOfModes e
