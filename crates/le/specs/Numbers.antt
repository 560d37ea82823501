-- docs/FORMAT.md, "Numbers": what a number in bytes is, and which bytes a part has.
use Rattle.std.specs.Prelude.{ℕ, ◌+◌, ◌*◌, ◌^◌, ◌<◌, ◌≤◌, ◌≡◌, List, [], ◌∷◌, length, get_or, take, drop}
use Rattle.std.specs.List.{All}
use Rattle.le.specs.Le.{le2, le4, bytes2, bytes4, part}

-- the number that some bytes are: the low byte first
unfoldable pub low_first : List ℕ → ℕ
low_first [] = 0
low_first (b ∷ more) = b + 256 * low_first more

-- a number as so many bytes
pub record IsBytes (width n : ℕ) (bytes : List ℕ) : Type 0 where
  pub long : length bytes ≡ width
  pub each : All (λ b. b < 256) bytes
  pub is : low_first bytes ≡ n

-- a number that is read at a place is the two, or four, bytes from there on; a number that is written is these bytes
pub record NumbersMeant : Type 0 where
  pub two : (s : List ℕ) (at : ℕ) → at + 2 ≤ length s → le2 s at ≡ low_first (take 2 (drop at s))
  pub four : (s : List ℕ) (at : ℕ) → at + 4 ≤ length s → le4 s at ≡ low_first (take 4 (drop at s))
  pub in_two : (n : ℕ) → n < 2 ^ 16 → IsBytes 2 n (bytes2 n)
  pub in_four : (n : ℕ) → n < 2 ^ 32 → IsBytes 4 n (bytes4 n)

-- a part that is there has its length, and its bytes are those from its place on
pub record PartsMeant : Type 0 where
  pub long : (s : List ℕ) (at n : ℕ) → at + n ≤ length s → length (part s at n) ≡ n
  pub byte : (s : List ℕ) (at n k : ℕ) → k < n → get_or (part s at n) k 0 ≡ get_or s (at + k) 0
