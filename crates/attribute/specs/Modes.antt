-- docs/FORMAT.md, "Modes": what is read in the two modes, by its end bytes; and an attribute, by its bytes.
use Rattle.std.specs.Prelude.{ℕ, ◌+◌, ◌≡◌, List, [], ◌∷◌, Result, Ok, Err, length, get_or}
use Rattle.std.specs.Borrow.{Bor}
use Rattle.refusal.specs.EndsMeant.{AllZero, FirstNot}
use Rattle.refusal.specs.declared.Mode.TheVariants.{Present, Checked}
use Rattle.refusal.specs.declared.Refusal.{Refusal}
use Rattle.refusal.specs.declared.Refusal.TheVariants.{EndByte}
use Rattle.attribute.specs.declared.AdsAttribute.{AdsAttribute}
use Rattle.attribute.specs.Attribute.{alone}

-- the checked mode accepts exactly what the present mode accepts and is ended by 0, and reads it alike; what the present mode refuses it refuses alike;
-- anything else it refuses by the first end byte that is not 0
pub record Modes {A : Type 0} (ends : A → List (ℕ × ℕ)) (checked present : Result A Refusal) : Type 0 where
  pub ended : (a : A) → checked ≡ Ok a → (present ≡ Ok a) × AllZero (ends a)
  pub agree : (a : A) → present ≡ Ok a → AllZero (ends a) → checked ≡ Ok a
  pub refused_alike : (why : Refusal) → present ≡ Err why → checked ≡ Err why
  pub first : (a : A) (b : ℕ × ℕ) → present ≡ Ok a → FirstNot (ends a) b → checked ≡ Err (EndByte b.0 b.1)

-- where all of these end bytes are 0 both modes answer alike; else the checked mode tells the first that is not, with its place. So what it reads has
-- 0 in each of them, and is what the present mode reads
pub record TestedFirst {A : Type 0} (ends : List (ℕ × ℕ)) (checked present : Result A Refusal) : Type 0 where
  pub alike : AllZero ends → checked ≡ present
  pub first : (b : ℕ × ℕ) → FirstNot ends b → checked ≡ Err (EndByte b.0 b.1)
  pub read : (a : A) → checked ≡ Ok a → AllZero ends × (present ≡ Ok a)

-- the end bytes of an attribute of these bytes, with their places: behind its name, then behind its value
abbrev pub end_bytes : List ℕ → AdsAttribute → List (ℕ × ℕ)
end_bytes s a =
    let name_end : ℕ = 2 + length a.name.now in
    let value_end : ℕ = length a.name.now + 3 + length a.value.now in
    (name_end, get_or s name_end 0) ∷ (value_end, get_or s value_end 0) ∷ []

abbrev pub AttributesModes : Type 0
AttributesModes = (s : Bor (List ℕ)) → Modes (end_bytes s.now) (alone Checked s) (alone Present s)
