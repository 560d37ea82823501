-- docs/FORMAT.md, "Writing": what entries of every kind have: a length, three strings and their lengths, and attributes.
use Rattle.std.specs.Prelude.{ℕ, ◌+◌, Bool, List, [], ◌∷◌, ◌++◌, length, if◌then◌else◌}
use Rattle.le.specs.Le.{bytes2, bytes4}

-- three lengths of 2 bytes each
unfoldable pub lengths_bytes : List ℕ → List ℕ → List ℕ → List ℕ
lengths_bytes name type comment = bytes2 (length name) ++ (bytes2 (length type) ++ bytes2 (length comment))

-- a string and its end byte
abbrev pub string_bytes : List ℕ → List ℕ
string_bytes s = s ++ (0 ∷ [])

unfoldable pub strings_bytes : List ℕ → List ℕ → List ℕ → List ℕ
strings_bytes name type comment = string_bytes name ++ (string_bytes type ++ string_bytes comment)

-- the attributes where they are flagged: a 2-byte count, then the block of records
unfoldable pub attributes_bytes : Bool → ℕ → List ℕ → List ℕ
attributes_bytes flagged count block = if flagged then bytes2 count ++ block else []

-- an entry is its length and the rest of it
unfoldable pub entry_bytes : List ℕ → List ℕ
entry_bytes rest = bytes4 (length rest + 4) ++ rest
