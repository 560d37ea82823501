-- Names of other lengths.
use Rattle.std.proofs.Common.{suc, ◌≡◌, refl, ap, Bool, true, false, List, ℕ, length}
use Rattle.names.specs.Names.{same_name}
use Rattle.names.specs.Meaning.{SameLetters, end, letter}
use Rattle.names.proofs.Meaning.{same_by_letters}

letters_long : {a b : List ℕ} → SameLetters a b → length a ≡ length b
letters_long end = refl
letters_long (letter h l) = ap suc (letters_long l)

-- of another length, a name is another
pub other_long : (own name : List ℕ) → (length own ≡ length name → ⊥) → same_name own name ≡ false
other_long own name n = by (same_name own name) refl
  where
    by : (t : Bool) → same_name own name ≡ t → t ≡ false
    by true e = absurd (n (letters_long ((same_by_letters own name).0 e)))
    by false e = refl
