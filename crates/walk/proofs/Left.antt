-- What a walker has left: nothing at the end, and else the piece here and what is left behind it.
use Rattle.std.proofs.Common.{ℕ, zero, suc, ◌-◌, ◌<◌, ◌≤◌, ◌≡◌, refl, ap, Bool, true, false, List, [], ◌∷◌, length, arith, Bor, if◌then◌else◌}
use Rattle.std.specs.Prelude.{leb, All, None}
use Rattle.std.proofs.lemmas.List.Elements.{All-nil, All-cons}
use Rattle.std.specs.declared.result.Result.{Result}
use borrow.Author.Tests.{le-leb, lt-leb, leb-false, eqb-false}
use Rattle.refusal.specs.declared.Refusal.{Refusal}
use Rattle.entry.specs.Entry.{claim_at}
use Rattle.entry.specs.Walk.{stands}
use Rattle.entry.proofs.Claims.{moves_on, moves_within}
use Rattle.refusal.specs.declared.Mode.{Mode}
use Rattle.walk.specs.declared.Walker.{Walker}
use Rattle.walk.specs.Pieces.{piece_at, pieces_from, NextGives}

module _ {R : Type 0} (read : Bor (List ℕ) → Result R Refusal) (s : Bor (List ℕ)) where
  -- a piece is at least a byte long and ends inside the upload
  ends : (at : ℕ) → at < length s.now → (b : Bool) → stands s.now at ≡ b → (at < (piece_at read s at).end) × ((piece_at read s at).end ≤ length s.now)
  unfolding piece_at
  ends at h true e = simp e (h, omega arith)
  ends at h false e = simp e (omega (arith, moves_on s.now at h, eqb-false (claim_at s.now at).next at e), moves_within s.now at h)

  pub piece_ends : (at : ℕ) → at < length s.now → (at < (piece_at read s at).end) × ((piece_at read s at).end ≤ length s.now)
  piece_ends at h = ends at h (stands s.now at) refl

  -- as many as are left are enough
  turn : (n m at : ℕ) → ((at : ℕ) → length s.now - at ≤ n → length s.now - at ≤ m → pieces_from read s at n ≡ pieces_from read s at m) → length s.now - at ≤ suc n → length s.now - at ≤ suc m
      → (b : Bool) → leb (length s.now) at ≡ b → (if b then [] else piece_at read s at ∷ pieces_from read s (piece_at read s at).end n) ≡ (if b then [] else piece_at read s at ∷ pieces_from read s (piece_at read s at).end m)
  turn n m at on p q true e = refl
  turn n m at on p q false e =
      let w = piece_ends at (leb-false (length s.now) at e) in
      ap (λ l. piece_at read s at ∷ l) (on (piece_at read s at).end (omega (arith, w.0)) (omega (arith, w.0)))

  enough : (n m at : ℕ) → length s.now - at ≤ n → length s.now - at ≤ m → pieces_from read s at n ≡ pieces_from read s at m
  unfolding pieces_from
  enough zero zero at p q = refl
  enough zero (suc m) at p q = simp (le-leb (length s.now) at (omega arith))
  enough (suc n) zero at p q = simp (le-leb (length s.now) at (omega arith))
  enough (suc n) (suc m) at p q = turn n m at (enough n m) p q (leb (length s.now) at) refl

  pub none_left : (at n : ℕ) → length s.now ≤ at → pieces_from read s at n ≡ []
  unfolding pieces_from
  none_left at zero h = refl
  none_left at (suc n) h = simp (le-leb (length s.now) at h)

  first : (n at : ℕ) → at < length s.now → length s.now - at ≤ n → pieces_from read s at n ≡ piece_at read s at ∷ pieces_from read s (piece_at read s at).end (length s.now - (piece_at read s at).end)
  unfolding pieces_from
  first zero at h p = absurd (omega arith)
  first (suc n) at h p =
      let w = piece_ends at h in
      simp (lt-leb (length s.now) at h) (ap (λ l. piece_at read s at ∷ l) (enough n (length s.now - (piece_at read s at).end) (piece_at read s at).end (omega (arith, w.0)) (omega arith)))

  pub one_left : (at : ℕ) → at < length s.now → pieces_from read s at (length s.now - at) ≡ piece_at read s at ∷ pieces_from read s (piece_at read s at).end (length s.now - (piece_at read s at).end)
  one_left at h = first (length s.now - at) at h (omega arith)

  pub fewer_left : (at : ℕ) → at < length s.now → length (pieces_from read s (piece_at read s at).end (length s.now - (piece_at read s at).end)) < length (pieces_from read s at (length s.now - at))
  fewer_left at h = simp (one_left at h) (omega arith)

  -- there are no more pieces than bytes, and each begins inside the upload
  pub few_pieces : (n at : ℕ) → length (pieces_from read s at n) ≤ n
  unfolding pieces_from
  few_pieces zero at = omega arith
  few_pieces (suc n) at = by (leb (length s.now) at) (few_pieces n (piece_at read s at).end)
    where
      by : (b : Bool) → length (pieces_from read s (piece_at read s at).end n) ≤ n → length (if b then [] else piece_at read s at ∷ pieces_from read s (piece_at read s at).end n) ≤ suc n
      by true h = omega arith
      by false h = omega arith

  starts : (at : ℕ) (b : Bool) → stands s.now at ≡ b → (piece_at read s at).start ≡ at
  unfolding piece_at
  starts at true e = simp e
  starts at false e = simp e

  pub piece_starts : (at : ℕ) → (piece_at read s at).start ≡ at
  piece_starts at = starts at (stands s.now at) refl

  pub all_inside : (n at : ℕ) → All (λ p. p.start < length s.now) (pieces_from read s at n)
  unfolding pieces_from
  all_inside zero at = All-nil _
  all_inside (suc n) at = by (leb (length s.now) at) refl (all_inside n (piece_at read s at).end)
    where
      by : (b : Bool) → leb (length s.now) at ≡ b → All (λ p. p.start < length s.now) (pieces_from read s (piece_at read s at).end n) → All (λ p. p.start < length s.now) (if b then [] else piece_at read s at ∷ pieces_from read s (piece_at read s at).end n)
      by true e h = All-nil _
      by false e h = let l : (piece_at read s at).start < length s.now = omega (arith, piece_starts at, leb-false (length s.now) at e) in All-cons (λ p. p.start < length s.now) _ _ l h

-- at the end nothing is given, and the walker is as it was
pub ends_there : {E : Type 0} (read : Mode → Bor (List ℕ) → Result E Refusal) (w : Walker E) → length w.bytes.now ≤ w.cursor.at → NextGives read w None w
ends_there read w h = let l = none_left (read w.mode) w.bytes w.cursor.at (length w.bytes.now - w.cursor.at) h in ((l, l), simp (le-leb (length w.bytes.now) w.cursor.at h))
