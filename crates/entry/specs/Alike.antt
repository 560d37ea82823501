-- docs/FORMAT.md, "One bad entry": two uploads that differ inside some entries, and what a walk meets in both.
use Rattle.std.specs.Prelude.{ℕ, ◌+◌, ◌<◌, ◌≤◌, ◌≡◌, ◌⊎◌, Bool, true, false, List, Some, Ok, eqb, length, get_or}
use Rattle.std.specs.List.{list_any}
use Rattle.le.specs.Le.{le4, part}
use Rattle.entry.specs.Entry.{claim_at}
use Rattle.entry.specs.Walk.{steps}
use Rattle.entry.specs.Bounded.{bounded_walk}

-- a place is one of these
abbrev pub among : List ℕ → ℕ → Bool
among places at = list_any (λ p. eqb p at) places

-- a step of the walk begins at a place, and what is claimed there is some bytes, which the upload has
pub record IsWhole (s : List ℕ) (at : ℕ) : Type 0 where
  pub reached : among (steps s) at ≡ true
  pub four : at + 4 ≤ length s
  pub some : 0 < le4 s at
  pub there : at + le4 s at ≤ length s

-- Two uploads of one length. At some places of the first a whole entry begins, and each byte that stands inside none of these, behind its first four, is alike in both
pub record DiffersInside (s t places : List ℕ) : Type 0 where
  pub long : length s ≡ length t
  pub whole : (p : ℕ) → among places p ≡ true → IsWhole s p
  pub alike : (k : ℕ) → k < length s → ((p : ℕ) → among places p ≡ true → p + 4 ≤ k → k < p + le4 s p → ⊥) → get_or s k 0 ≡ get_or t k 0

-- where a walk may stand: where a step begins, and at the end or past it
abbrev pub Reached : List ℕ → ℕ → Type 0
Reached s at = (among (steps s) at ≡ true) ⊎ (length s ≤ at)

-- the steps of both begin at the same places, claim the same and go to the same places; a walk in so many steps, from wherever one may stand, is the same;
-- where no entry begins that differs, the entry's own bytes are the same; and what is said of the two may be said the other way round
pub record IsWalkedAlike (s t places : List ℕ) : Type 0 where
  pub begin : steps s ≡ steps t
  pub claim : (at : ℕ) → Reached s at → claim_at s at ≡ claim_at t at
  pub bounded : (at allowed : ℕ) → Reached s at → bounded_walk s at allowed ≡ bounded_walk t at allowed
  pub own : (at size : ℕ) → among (steps s) at ≡ true → among places at ≡ false → (claim_at s at).size ≡ Some (Ok size) → part s at size ≡ part t at size
  pub turned : DiffersInside t s places

abbrev pub WalkedAlike : Type 0
WalkedAlike = (s t places : List ℕ) → DiffersInside s t places → IsWalkedAlike s t places
