-- The pieces cover the upload: proved.
use Rattle.std.proofs.Common.{ℕ, zero, suc, ◌+◌, ◌-◌, ◌<◌, ◌≤◌, ◌≡◌, refl, sym, ap, ◌∙◌, Bool, true, false, List, [], ◌∷◌, ◌++◌, length, drop, take, arith}
use Rattle.std.specs.Prelude.{leb, if◌then◌else◌}
use Rattle.std.specs.Prelude.{Result}
use Rattle.std.specs.Borrow.{Bor}
use Rattle.std.proofs.lemmas.List.{drop-drop, drop_all, take-append-drop}
use borrow.Author.Tests.{leb-true, leb-false}
use Rattle.le.specs.Le.{part}
use Rattle.refusal.specs.declared.Refusal.{Refusal}
use Rattle.walk.specs.Pieces.{piece_at, pieces_from}
use Rattle.walk.proofs.Left.{piece_starts, piece_ends}
use Rattle.salvage.specs.Cover.{joined, Covers}

-- a part, and what stands behind it
behind : (s : List ℕ) (at end : ℕ) → at ≤ end → part s at (end - at) ++ drop end s ≡ drop at s
unfolding part
behind s at end h =
    let n : at + (end - at) ≡ end = omega arith in
    ap (λ (k : ℕ). take (end - at) (drop at s) ++ drop k s) (sym n)
    ∙ ap (λ (l : List ℕ). take (end - at) (drop at s) ++ l) (sym (drop-drop (end - at) at s))
    ∙ take-append-drop (end - at) (drop at s)

module _ {R : Type 0} (read : Bor (List ℕ) → Result R Refusal) (s : Bor (List ℕ)) where
  joined_by : (at n : ℕ) → at < length s.now → joined s.now (pieces_from read s (piece_at read s at).end n) ≡ drop (piece_at read s at).end s.now
      → joined s.now (piece_at read s at ∷ pieces_from read s (piece_at read s at).end n) ≡ drop at s.now
  unfolding joined
  joined_by at n h ih =
      let e = piece_ends read s at h in
      simp (piece_starts read s at, ih) (behind s.now at (piece_at read s at).end (omega (arith, e.0)))

  ended : (at : ℕ) → length s.now ≤ at → joined {R = R} s.now [] ≡ drop at s.now
  unfolding joined
  ended at h = sym (drop_all at s.now h)

  turn : (at n : ℕ) → length s.now - at ≤ suc n → ((at : ℕ) → length s.now - at ≤ n → joined s.now (pieces_from read s at n) ≡ drop at s.now)
      → (b : Bool) → leb (length s.now) at ≡ b → joined s.now (if b then [] else piece_at read s at ∷ pieces_from read s (piece_at read s at).end n) ≡ drop at s.now
  turn at n p on true e = ended at (leb-true (length s.now) at e)
  turn at n p on false e =
      let h = leb-false (length s.now) at e in
      let w = piece_ends read s at h in
      joined_by at n h (on (piece_at read s at).end (omega (arith, w.0)))

  from : (n at : ℕ) → length s.now - at ≤ n → joined s.now (pieces_from read s at n) ≡ drop at s.now
  unfolding pieces_from joined
  from zero at p = sym (drop_all at s.now (omega arith))
  from (suc n) at p = turn at n p (from n) (leb (length s.now) at) refl

pub covers : {R : Type 0} (read : Bor (List ℕ) → Result R Refusal) → Covers read
covers read s = from read s (length s.now) 0 (omega arith)
