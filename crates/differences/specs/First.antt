-- docs/FORMAT.md, "The command's text", of `compare`: the first byte in which two runs of bytes differ.
use Rattle.std.specs.Prelude.{ℕ, ◌+◌, ◌-◌, ◌^◌, ◌==◌, min, List, [], ◌∷◌, Option, Some, None, length, slice_get, if◌then◌else◌}
use Rattle.values.specs.declared.Value.{Value}
use Rattle.values.specs.declared.Value.TheVariants.{Byte, Bytes}

-- how many bytes two runs have alike at their front
unfoldable pub common : List ℕ → List ℕ → ℕ
common [] ys = 0
common (x ∷ xs) [] = 0
common (x ∷ xs) (y ∷ ys) = if x == y then common xs ys + 1 else 0

-- the place of a byte of a run that begins at a place; no number is larger
abbrev pub placed : ℕ → ℕ → ℕ
placed at number = min (at + number) (2 ^ 64 - 1)

-- the bytes at these places, where both are there; else how many bytes there are
abbrev pub first_by : ℕ → ℕ → ℕ → ℕ → Option ℕ → Option ℕ → Value × Value
first_by at to m n (Some b) (Some c) = (Byte at b, Byte to c)
first_by at to m n (Some b) None = (Bytes m, Bytes n)
first_by at to m n None q = (Bytes m, Bytes n)

unfoldable pub first_byte : ℕ → List ℕ → ℕ → List ℕ → Value × Value
first_byte at one to other =
    let k : ℕ = common one other in
    first_by (placed at k) (placed to k) (length one) (length other) (slice_get one k) (slice_get other k)
