-- docs/FORMAT.md, "The command's text", of `compare`: every piece is told once, and what is told together is one entry.
use Rattle.std.specs.Prelude.{ℕ, ◌+◌, ◌≡◌, ◌⊎◌, true, List, [], ◌∷◌, Option, Some, None, Ok, Err, length, slice_get, is_err}
use Rattle.std.specs.Borrow.{Bor}
use Rattle.std.specs.List.{filter_map}
use Rattle.std.specs.List.Sorted.{IsPermutation}
use Rattle.names.specs.Meaning.{SameLetters}
use Rattle.refusal.specs.declared.Refusal.{Refusal}
use Rattle.pairing.specs.declared.pieces.Piece.{Piece}
use Rattle.pairing.specs.declared.rows.Row.{Row}
use Rattle.pairing.specs.Rows.{rows_of}

-- of one name letter by letter, in any case; or refused, in the same bytes
pub data IsNamedAlike (p q : Piece) : Type 0 where
  named : {own other : Bor (List ℕ)} → p.name ≡ Ok own → q.name ≡ Ok other → SameLetters own.now other.now → IsNamedAlike p q
  refused : {why other : Refusal} → p.name ≡ Err why → q.name ≡ Err other → p.bytes.now ≡ q.bytes.now → IsNamedAlike p q

abbrev pub AreAsLong : Piece → Piece → Type 0
AreAsLong p q = length p.bytes.now ≡ length q.bytes.now

-- at one place, and as long or one of them refused
abbrev pub IsPlacedAlike : Piece → Piece → Type 0
IsPlacedAlike p q = (p.place ≡ q.place) × (AreAsLong p q ⊎ ((is_err p.name ≡ true) ⊎ (is_err q.name ≡ true)))

-- a piece of A and one of B are the same entry: named alike; at one place, and as long or one of them refused; or as long
pub data IsOneEntry (p q : Piece) : Type 0 where
  alike : IsNamedAlike p q → IsOneEntry p q
  placed : IsPlacedAlike p q → IsOneEntry p q
  as_long : AreAsLong p q → IsOneEntry p q

-- something stands in a row, and where both have it, it is one entry
abbrev pub IsRow : Option Piece → Option Piece → Type 0
IsRow None None = ⊥
IsRow None (Some q) = Unit {0}
IsRow (Some p) None = Unit {0}
IsRow (Some p) (Some q) = IsOneEntry p q

abbrev pub AreRows : List Row → Type 0
AreRows [] = Unit {0}
AreRows (r ∷ rows) = IsRow r.a r.b × AreRows rows

-- a row whose two are named alike
abbrev pub AreNamed : Option Piece → Option Piece → Type 0
AreNamed None q = ⊥
AreNamed (Some p) None = ⊥
AreNamed (Some p) (Some q) = IsNamedAlike p q

-- names go before places: of an entry of A and one of B that are named alike, one at least is told with one named like it
abbrev pub AreApart : List Row → Type 0
AreApart rows = (m n : ℕ) (r s : Row) (p q : Piece) → slice_get rows m ≡ Some r → slice_get rows n ≡ Some s
    → r.a ≡ Some p → s.b ≡ Some q → IsNamedAlike p q → AreNamed r.a r.b ⊎ AreNamed s.a s.b

-- right behind another
pub record IsRightBehind (qs : List Piece) (before q : Piece) : Type 0 where
  pub number : ℕ
  pub is : slice_get qs number ≡ Some before
  pub next : slice_get qs (number + 1) ≡ Some q

abbrev pub IsBehindIn : List Piece → Option Piece → Piece → Type 0
IsBehindIn qs None q = ⊥
IsBehindIn qs (Some before) q = IsRightBehind qs before q

-- what B has alone is its first where no row stands before, else the next behind what the row before has of B
abbrev pub IsInPlace : List Piece → Option Row → Option Piece → Option Piece → Type 0
IsInPlace qs before (Some p) q = Unit {0}
IsInPlace qs before None None = Unit {0}
IsInPlace qs None None (Some q) = slice_get qs 0 ≡ Some q
IsInPlace qs (Some r) None (Some q) = IsBehindIn qs r.b q

abbrev pub AreInPlace : List Piece → Option Row → List Row → Type 0
AreInPlace qs before [] = Unit {0}
AreInPlace qs before (r ∷ rows) = IsInPlace qs before r.a r.b × AreInPlace qs (Some r) rows

-- A's pieces in their order, each once; B's, each once, what it has alone behind what stands before it in B; and nothing else
pub record RowsMeant : Type 0 where
  pub ours : (ps qs : List Piece) → filter_map (λ r. r.a) (rows_of ps qs) ≡ ps
  pub theirs : (ps qs : List Piece) → IsPermutation qs (filter_map (λ r. r.b) (rows_of ps qs))
  pub each : (ps qs : List Piece) → AreRows (rows_of ps qs)
  pub apart : (ps qs : List Piece) → AreApart (rows_of ps qs)
  pub in_place : (ps qs : List Piece) → AreInPlace qs None (rows_of ps qs)
