-- A part of a slice by its bytes, and where it lies: proved.
use Rattle.std.proofs.Common.{ℕ, ◌+◌, ◌≤◌, ◌≡◌, List, length, drop, refl, ◌∙◌, arith, length-drop, Bor}
use lib.Seq.{length-take-le, get_or-take, get_or-drop}
use Rattle.part.specs.Slice.{part, after}
use Rattle.part.specs.Meant.{IsPiece, PiecesMeant}

inside : (s : Bor (List ℕ)) (at n : ℕ) → at + n ≤ length s.now → IsPiece s (part s at n) at n
inside s at n h = record {
  block = refl;
  offset = refl;
  long = length-take-le n (drop at s.now) (simp length-drop (omega arith));
  byte = λ k l. get_or-take n (drop at s.now) k 0 l ∙ get_or-drop at s.now k 0;
}

behind : (s : Bor (List ℕ)) (at n : ℕ) → at + n ≡ length s.now → IsPiece s (after s at) at n
behind s at n h = record { block = refl; offset = refl; long = simp length-drop (omega arith); byte = λ k l. get_or-drop at s.now k 0 }

pub pieces_meant : PiecesMeant
pieces_meant = record { inside = inside; behind = behind }
