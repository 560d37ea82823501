-- docs/FORMAT.md, "Modes": the bytes behind strings, by the strings' places in the entry that has them.
use Rattle.std.specs.Prelude.{ℕ, ◌+◌, ◌-◌, List, [], ◌∷◌, length, get_or}
use Rattle.std.specs.Borrow.{Bor}
use Rattle.attribute.specs.declared.AdsAttribute.{AdsAttribute}

-- the byte of an entry behind a string that lies in it, with its place
abbrev pub byte_behind : Bor (List ℕ) → Bor (List ℕ) → ℕ × ℕ
byte_behind e s = let at : ℕ = s.ref_ptr.1 - e.ref_ptr.1 + length s.now in (at, get_or e.now at 0)

-- of attributes that lie in it: of each that behind its name, then that behind its value
unfoldable pub bytes_behind : Bor (List ℕ) → List AdsAttribute → List (ℕ × ℕ)
bytes_behind e [] = []
bytes_behind e (a ∷ more) = byte_behind e a.name ∷ byte_behind e a.value ∷ bytes_behind e more
