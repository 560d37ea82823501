-- docs/FORMAT.md, "Numbers", "Symbol entries" and "Field entries": which strings are there, which bytes end them, and what a GUID is.
use Rattle.std.specs.Prelude.{ℕ, ◌+◌, ◌<◌, ◌≤◌, ◌≡◌, true, false, List, [], ◌∷◌, ◌++◌, Some, None, Ok, Err, length, take}
use Rattle.std.specs.Borrow.{Bor}
use Rattle.part.specs.Slice.{after}
use Rattle.refusal.specs.declared.Refusal.TheVariants.{EntryLengthMismatch}
use Rattle.layout.specs.Layout.{strings_there, string_ends, guid_of}

-- bytes, then three strings with a byte behind each, then more
abbrev pub strings_in : List ℕ → List ℕ → ℕ → List ℕ → ℕ → List ℕ → ℕ → List ℕ → List ℕ
strings_in before name x type y comment z more = before ++ (name ++ (x ∷ (type ++ (y ∷ (comment ++ (z ∷ more))))))

pub record LayoutMeant : Type 0 where
  pub there : (needed available : ℕ) → needed ≤ available → strings_there needed available ≡ Ok tt
  pub not_there : (needed available : ℕ) → available < needed → strings_there needed available ≡ Err (EntryLengthMismatch needed available)
  pub ends : (before name type comment more : List ℕ) (x y z : ℕ)
      → string_ends (strings_in before name x type y comment z more) (length before) (length name) (length type) (length comment)
      ≡ (length before + length name, x)
      ∷ (length before + length name + 1 + length type, y)
      ∷ (length before + length name + 1 + length type + 1 + length comment, z)
      ∷ []
  pub guid : (s : Bor (List ℕ)) → 16 ≤ length s.now → guid_of s true ≡ (Some (take 16 s.now), after s 16)
  pub no_room : (s : Bor (List ℕ)) → length s.now < 16 → guid_of s true ≡ (None, s)
  pub not_flagged : (s : Bor (List ℕ)) → guid_of s false ≡ (None, s)
