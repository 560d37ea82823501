-- docs/FORMAT.md, "One bad entry". What stays as it is of an upload s where t differs from it inside the entries at some places: the steps, the direct parses, the pieces and the index.
use Rattle.std.specs.Prelude.{ℕ, ◌≡◌, true, false, List, map, Some, Result, Ok, Err}
use Rattle.std.specs.Borrow.{Bor}
use Rattle.part.specs.Slice.{part}
use Rattle.refusal.specs.declared.Refusal.{Refusal}
use Rattle.entry.specs.Entry.{claim_at}
use Rattle.entry.specs.Walk.{steps}
use Rattle.entry.specs.Alike.{among, Reached}
use Rattle.walk.specs.declared.Piece.{Piece}
use Rattle.damage.specs.Others.{others}

-- The steps: `step s at` is what a step gives at a place, `cursor` where it leaves the cursor, `told` what is told of it. Steps begin at the same places, each goes
-- to the same place, and each but those at the entries that differ tells the same; so does one at the end or past it
pub record StepsStay {T S : Type 0} (step : Bor (List ℕ) → ℕ → T) (cursor : T → ℕ) (told : T → S) (s t : Bor (List ℕ)) (places : List ℕ) : Type 0 where
  pub begin : steps s.now ≡ steps t.now
  pub goes : (at : ℕ) → Reached s.now at → cursor (step s at) ≡ cursor (step t at)
  pub other : (at : ℕ) → Reached s.now at → among places at ≡ false → told (step s at) ≡ told (step t at)

-- where a step finds an entry's own bytes, but at those places, a direct parse of however many bytes from there on tells the same: of the entry's own alone, of fewer, and
-- of these with what stands behind them, be it damaged or not
abbrev pub ParsesStay : {T S : Type 0} → (Bor (List ℕ) → T) → (T → S) → Bor (List ℕ) → Bor (List ℕ) → List ℕ → Type 0
ParsesStay parse told s t places =
    (at size n : ℕ) → among (steps s.now) at ≡ true → among places at ≡ false → (claim_at s.now at).size ≡ Some (Ok size) → told (parse (part s at n)) ≡ told (parse (part t at n))

-- the pieces: each begins and ends where it did, and all but those at the entries that differ tell the same, in order
pub record PiecesStay {R S : Type 0} (pieces : Bor (List ℕ) → List (Piece R)) (told : Piece R → S) (s t : Bor (List ℕ)) (places : List ℕ) : Type 0 where
  pub starts : map (λ p. p.start) (pieces s) ≡ map (λ p. p.start) (pieces t)
  pub ends : map (λ p. p.end) (pieces s) ≡ map (λ p. p.end) (pieces t)
  pub other : map told (others (λ p. p.start) places (pieces s)) ≡ map told (others (λ p. p.start) places (pieces t))

-- the index, as it is to be written: refused alike, and else all starts but those places are the same, in order
pub record IndexStays (index : Bor (List ℕ) → Result (List ℕ) Refusal) (s t : Bor (List ℕ)) (places : List ℕ) : Type 0 where
  pub refused : (why : Refusal) → index s ≡ Err why → index t ≡ Err why
  pub built : (xs : List ℕ) → index s ≡ Ok xs → (ys : List ℕ) × (index t ≡ Ok ys) × (others (λ x. x) places xs ≡ others (λ x. x) places ys)
