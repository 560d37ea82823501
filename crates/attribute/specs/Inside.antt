-- docs/FORMAT.md, "Attributes": where attributes lie in an entry that are read of its last bytes.
use Rattle.std.specs.Prelude.{ℕ, ◌+◌, ◌≡◌, List, [], ◌∷◌, length}
use Rattle.std.specs.Borrow.{Bor}
use Rattle.part.specs.End.{IsEnd, IsString, rest_at}
use Rattle.attribute.specs.declared.AdsAttribute.{AdsAttribute}
use Rattle.attribute.specs.Attribute.{listed, after_listed}

-- attributes one after another from a place of an entry on up to another: two lengths, the name with its end byte, the value with its own
abbrev pub AttributesLie : Bor (List ℕ) → ℕ → List AdsAttribute → ℕ → Type 0
AttributesLie e at [] to = at ≡ to
AttributesLie e at (a ∷ more) to =
    IsString e (at + 2) a.name
    × IsString e (at + 2 + length a.name.now + 1) a.value
    × AttributesLie e (at + 2 + length a.name.now + 1 + length a.value.now + 1) more to

-- those that are listed lie so from where these bytes begin on, and the bytes after them are the entry's last, from where they end on
pub record AreInside (e s : Bor (List ℕ)) (count : ℕ) : Type 0 where
  pub lie : AttributesLie e (rest_at e s) (listed s count) (rest_at e (after_listed s count))
  pub rest : IsEnd e (after_listed s count)

abbrev pub AttributesInside : Type 0
AttributesInside = (e s : Bor (List ℕ)) (count : ℕ) → IsEnd e s → AreInside e s count
