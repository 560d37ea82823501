-- One turn of the bounded walk, and its end.
use Rattle.std.proofs.Common.{ℕ, zero, suc, ◌+◌, ◌-◌, ◌<◌, ◌≤◌, ◌≡◌, refl, List, length, arith, Result}
use Rattle.std.specs.Prelude.{Ok, Err}
use native.Mathlib.Nat.{add-zero, zero-add}
use borrow.Author.Tests.{le-leb, lt-leb, eq-eqb, ne_eqb}
use Rattle.refusal.specs.declared.Refusal.{Refusal}
use Rattle.refusal.specs.declared.Refusal.TheVariants.{ZeroEntryLength}
use Rattle.entry.specs.declared.WalkEnd.{WalkEnd}
use Rattle.entry.specs.declared.WalkEnd.TheVariants.{Finished, OutOfSteps}
use Rattle.entry.specs.declared.Walked.{Walked}
use Rattle.entry.specs.Entry.{claim_at}
use Rattle.entry.specs.Walk.{steps_from, cursor_after}
use Rattle.entry.specs.Bounded.{end_after, bounded_walk}

abbrev walked : ℕ → ℕ → Result WalkEnd Refusal → Walked
walked steps at end = record { steps = steps; cursor = at; end = end }

-- the walk as its loop makes it: so many more steps from a place on, after so many made
unfoldable pub bounded_from : List ℕ → ℕ → ℕ → ℕ → Walked
bounded_from s at made left =
    let more : List ℕ = steps_from s at left in
    walked (made + length more) (cursor_after s at more) (end_after s at more)

module _ (s : List ℕ) (at made : ℕ) where
  pub bounded_end : (left : ℕ) → length s ≤ at → bounded_from s at made left ≡ walked made at (Ok Finished)
  unfolding bounded_from steps_from cursor_after end_after
  bounded_end zero h = simp (le-leb (length s) at h, add-zero)
  bounded_end (suc left) h = simp (le-leb (length s) at h, add-zero)

  pub bounded_out : (left : ℕ) → left ≡ 0 → at < length s → bounded_from s at made left ≡ walked made at (Ok OutOfSteps)
  unfolding bounded_from steps_from cursor_after end_after
  bounded_out zero e h = simp (lt-leb (length s) at h, add-zero)
  bounded_out (suc left) e h = absurd (omega (arith, e))

  pub bounded_zero : (left : ℕ) → 0 < left → at < length s → (claim_at s at).next ≡ at → bounded_from s at made left ≡ walked (made + 1) at (Err ZeroEntryLength)
  unfolding bounded_from steps_from cursor_after end_after
  bounded_zero zero z h e = absurd (omega arith)
  bounded_zero (suc left) z h e = simp (lt-leb (length s) at h, eq-eqb (claim_at s at).next at e) (simp (e, lt-leb (length s) at h) refl)

  pub bounded_turn : (left : ℕ) → 0 < left → at < length s → ((claim_at s at).next ≡ at → ⊥) → bounded_from s at made left ≡ bounded_from s (claim_at s at).next (made + 1) (left - 1)
  unfolding bounded_from steps_from cursor_after end_after
  bounded_turn zero z h e = absurd (omega arith)
  bounded_turn (suc left) z h e =
      let k : suc left - 1 ≡ left = omega arith in
      let more : List ℕ = steps_from s (claim_at s at).next left in
      let n : made + suc (length more) ≡ made + 1 + length more = omega arith in
      simp (k, lt-leb (length s) at h, ne_eqb (claim_at s at).next at e, n)

pub bounded_whole : (s : List ℕ) (at allowed : ℕ) → bounded_from s at 0 allowed ≡ bounded_walk s at allowed
unfolding bounded_from bounded_walk
bounded_whole s at allowed = simp zero-add
