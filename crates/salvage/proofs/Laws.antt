-- What the loops of a salvage keep.
use Rattle.std.proofs.Common.{ℕ, zero, suc, ◌+◌, ◌-◌, ◌*◌, ◌≤◌, ◌≡◌, refl, ap, Bool, true, false, List, [], ◌∷◌, ◌++◌, length, arith, length-append}
use Rattle.std.specs.Prelude.{leb, All, Ok, Err, if◌then◌else◌}
use Rattle.std.specs.Prelude.{Result}
use Rattle.std.specs.Borrow.{Bor}
use Rattle.std.proofs.lemmas.List.Elements.{All-head}
use borrow.Author.Tests.{leb-false}
use Rattle.le.specs.Le.{part}
use Rattle.le.specs.Put.{Wrote}
use Rattle.le.proofs.Laws.{length_part, same_bytes}
use Rattle.refusal.specs.Refusal.{figures_of}
use Rattle.refusal.specs.declared.Refusal.{Refusal}
use Rattle.walk.specs.declared.Piece.{Piece}
use Rattle.walk.specs.Pieces.{piece_at, pieces_from, pieces}
use Rattle.walk.proofs.Left.{piece_starts, piece_ends, few_pieces}
use Rattle.walk.proofs.Forward.{Forward, forward_at}
use Rattle.salvage.specs.Salvage.{bytes_of, run_of, kept, dropped}

module _ {R : Type 0} (read : Bor (List ℕ) → Result R Refusal) (s : Bor (List ℕ)) where
  long_of : (start end : ℕ) (t : Result R Refusal) → start ≤ end → end ≤ length s.now → length (bytes_of s.now start end t) ≤ end - start
  long_of start end (Ok r) a b = let l = length_part s.now start (end - start) (omega arith) in omega (arith, l)
  long_of start end (Err why) a b = omega arith

  -- what is kept is no longer than what is left
  kept_few : (n at : ℕ) → length (kept s.now (pieces_from read s at n)) ≤ length s.now - at
  unfolding pieces_from kept
  kept_few zero at = omega arith
  kept_few (suc n) at = by (leb (length s.now) at) refl (kept_few n (piece_at read s at).end)
    where
      by : (b : Bool) → leb (length s.now) at ≡ b → length (kept s.now (pieces_from read s (piece_at read s at).end n)) ≤ length s.now - (piece_at read s at).end → length (kept s.now (if b then [] else piece_at read s at ∷ pieces_from read s (piece_at read s at).end n)) ≤ length s.now - at
      by true e h = omega arith
      by false e h =
          let b = leb-false (length s.now) at e in
          let p = piece_ends read s at b in
          let f = forward_at read s at b in
          let l = long_of (piece_at read s at).start (piece_at read s at).end (piece_at read s at).answer f.0 f.1 in
          let a = length-append (bytes_of s.now (piece_at read s at).start (piece_at read s at).end (piece_at read s at).answer) (kept s.now (pieces_from read s (piece_at read s at).end n)) in
          omega (arith, h, p.0, p.1, l, a, piece_starts read s at)

  pub kept_fits : length (kept s.now (pieces read s)) ≤ length s.now
  kept_fits = omega (arith, kept_few (length s.now) 0)

run_few : {R : Type 0} (start end : ℕ) (t : Result R Refusal) → length (run_of start end t) ≤ 3
run_few start end (Ok r) = omega arith
run_few start end (Err why) = omega arith

-- no more slots than three for each piece
pub dropped_few : {R : Type 0} (ps : List (Piece R)) → length (dropped ps) ≤ 3 * length ps
unfolding dropped
dropped_few [] = omega arith
dropped_few (p ∷ ps) = omega (arith, dropped_few ps, run_few p.start p.end p.answer, length-append (run_of p.start p.end p.answer) (dropped ps))

pub dropped_fits : {R : Type 0} (read : Bor (List ℕ) → Result R Refusal) (s : Bor (List ℕ)) → length (dropped (pieces read s)) ≤ 3 * length s.now
dropped_fits read s = omega (arith, dropped_few (pieces read s), few_pieces read s (length s.now) 0)

-- what is left, behind a piece
module _ {R : Type 0} (s : List ℕ) {left rest : List (Piece R)} {p : Piece R} (turn : left ≡ p ∷ rest) where
  pub kept_ok : (r : R) → p.answer ≡ Ok r → kept s left ≡ part s p.start (p.end - p.start) ++ kept s rest
  unfolding kept
  kept_ok r e = simp turn (simp e)

  pub kept_err : (why : Refusal) → p.answer ≡ Err why → kept s left ≡ kept s rest
  unfolding kept
  kept_err why e = simp turn (simp e)

  pub dropped_ok : (r : R) → p.answer ≡ Ok r → dropped left ≡ dropped rest
  unfolding dropped
  dropped_ok r e = simp turn (simp e)

  pub dropped_err : (why : Refusal) → p.answer ≡ Err why → dropped left ≡ (p.start ∷ (p.end - p.start) ∷ (figures_of why).number ∷ []) ++ dropped rest
  unfolding dropped
  dropped_err why e = simp turn (simp e)

-- a run is written under the number of its refusal
pub run_numbered : {old new : List ℕ} {at start long number told next : ℕ} → told ≡ number → Wrote old at (start ∷ long ∷ told ∷ []) new next → Wrote old at (start ∷ long ∷ number ∷ []) new next
run_numbered {start = start} {long = long} e w = same_bytes (ap (λ (n : ℕ). start ∷ long ∷ n ∷ []) e) w

pub kept_none : {R : Type 0} (s : List ℕ) {left : List (Piece R)} → left ≡ [] → kept s left ≡ []
unfolding kept
kept_none s e = simp e

pub dropped_none : {R : Type 0} {left : List (Piece R)} → left ≡ [] → dropped left ≡ []
unfolding dropped
dropped_none e = simp e

-- the same by lengths
module _ {R : Type 0} (s : List ℕ) {left rest : List (Piece R)} {p : Piece R} (turn : left ≡ p ∷ rest) (n total : ℕ) where
  pub bytes_ok : n + length (kept s left) ≡ total → All (Forward s) left → (r : R) → p.answer ≡ Ok r → n + (p.end - p.start) + length (kept s rest) ≡ total
  bytes_ok h f r e =
      let w : Forward s p = All-head (Forward s) p rest (simp turn at f) in
      let l : length (part s p.start (p.end - p.start)) ≡ p.end - p.start = length_part s p.start (p.end - p.start) (omega (arith, w.0, w.1)) in
      omega (arith, h, ap length (kept_ok s turn r e), length-append (part s p.start (p.end - p.start)) (kept s rest), l)

  pub bytes_err : n + length (kept s left) ≡ total → (why : Refusal) → p.answer ≡ Err why → n + length (kept s rest) ≡ total
  bytes_err h why e = omega (arith, h, ap length (kept_err s turn why e))

  pub slots_ok : n + length (dropped left) ≡ total → (r : R) → p.answer ≡ Ok r → n + length (dropped rest) ≡ total
  slots_ok h r e = omega (arith, h, ap length (dropped_ok s turn r e))

  pub slots_err : n + length (dropped left) ≡ total → (why : Refusal) → p.answer ≡ Err why → n + 3 + length (dropped rest) ≡ total
  slots_err h why e = omega (arith, h, ap length (dropped_err s turn why e))
