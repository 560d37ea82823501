-- docs/FORMAT.md, "Numbers": a part of a slice by its bytes, and where it lies.
use Rattle.std.specs.Prelude.{ℕ, ◌+◌, ◌≤◌, ◌<◌, ◌≡◌, List, length, get_or}
use Rattle.std.specs.Borrow.{Bor}
use Rattle.part.specs.Slice.{part, after}

-- a piece of some bytes, in memory where they are: it begins at a place of them and has so many bytes, each of them theirs
pub record IsPiece (s piece : Bor (List ℕ)) (at n : ℕ) : Type 0 where
  pub block : piece.ref_ptr.0 ≡ s.ref_ptr.0
  pub offset : piece.ref_ptr.1 ≡ s.ref_ptr.1 + at
  pub long : length piece.now ≡ n
  pub byte : (k : ℕ) → k < n → get_or piece.now k 0 ≡ get_or s.now (at + k) 0

-- so many bytes from a place on, and all from a place on
pub record PiecesMeant : Type 0 where
  pub inside : (s : Bor (List ℕ)) (at n : ℕ) → at + n ≤ length s.now → IsPiece s (part s at n) at n
  pub behind : (s : Bor (List ℕ)) (at n : ℕ) → at + n ≡ length s.now → IsPiece s (after s at) at n
