-- What the bounded walk means: proved.
use Rattle.std.proofs.Common.{ℕ, zero, suc, ◌<◌, ◌≡◌, refl, Bool, true, false, List, [], ◌∷◌, length, arith, if◌then◌else◌}
use Rattle.std.specs.Prelude.{leb}
use borrow.Author.Tests.{leb-true, leb-false, eqb-true, eqb-false}
use Rattle.entry.specs.Entry.{claim_at}
use Rattle.entry.specs.Walk.{stands, steps_from, cursor_after}
use Rattle.entry.specs.Bounded.{end_after, bounded_walk}
use Rattle.entry.specs.BoundedMeant.{Walks, finished, used_up, zero_claim, step, BoundedMeant}
use Rattle.entry.proofs.Claims.{moves_on}
use Rattle.entry.proofs.Theorems.{zero_claims}

module _ (s : List ℕ) where
  Walked : ℕ → ℕ → List ℕ → Type 0
  Walked at left made = Walks s at left made (cursor_after s at made) (end_after s at made)

  walks_turn : (at left : ℕ) → ((at : ℕ) → Walked at left (steps_from s at left))
      → (end stand : Bool) → leb (length s) at ≡ end → stands s at ≡ stand
      → Walked at (suc left) (if end then [] else at ∷ (if stand then [] else steps_from s (claim_at s at).next left))
  unfolding cursor_after end_after Walked
  walks_turn at left on true stand e f = simp e (finished (leb-true (length s) at e))
  walks_turn at left on false true e f =
      let stays : (claim_at s at).next ≡ at = eqb-true (claim_at s at).next at f in
      let before : at < length s = leb-false (length s) at e in
      simp f (simp (stays, e) (zero_claim before (zero_claims s at before f)))
  walks_turn at left on false false e f =
      let before : at < length s = leb-false (length s) at e in
      let moves : at < (claim_at s at).next = omega (arith, moves_on s at before, eqb-false (claim_at s at).next at f) in
      simp f (step before moves (on (claim_at s at).next))

  walks : (at left : ℕ) → Walked at left (steps_from s at left)
  unfolding steps_from cursor_after end_after Walked
  walks at zero = by (leb (length s) at) refl
    where
      by : (end : Bool) → leb (length s) at ≡ end → Walks s at 0 [] at (end_after s at [])
      by true e = simp e (finished (leb-true (length s) at e))
      by false e = simp e (used_up (leb-false (length s) at e))
  walks at (suc left) = walks_turn at left (λ at. walks at left) (leb (length s) at) (stands s at) refl refl

pub bounded_meant : BoundedMeant
unfolding bounded_walk Walked
bounded_meant s at allowed = record { counts = refl; after = refl; walks = walks s at allowed }
