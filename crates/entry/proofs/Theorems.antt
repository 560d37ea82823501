-- The walk leaves out no step; more steps than bytes change nothing; where it would stay, an entry claims 0.
use Rattle.std.proofs.Common.{ℕ, zero, suc, ◌+◌, ◌-◌, ◌<◌, ◌≤◌, ◌≡◌, refl, ap, Bool, true, false, List, [], ◌∷◌, length, arith, if◌then◌else◌}
use Rattle.std.specs.Prelude.{leb, Some, Ok, Err}
use Rattle.std.specs.List.{list_any}
use borrow.Author.Tests.{le-leb, leb-true, leb-false, eqb-true, eqb-false}
use Rattle.refusal.specs.declared.Refusal.TheVariants.{ZeroEntryLength}
use Rattle.entry.specs.declared.Claimed.{Claimed}
use Rattle.entry.specs.declared.WalkEnd.TheVariants.{Finished, OutOfSteps}
use Rattle.entry.specs.Entry.{claim_at}
use Rattle.entry.specs.Walk.{stands, steps_from, steps, cursor_after}
use Rattle.entry.specs.Bounded.{end_after}
use Rattle.entry.specs.Theorems.{AllSteps, StepsEnough, ZeroClaims}
use Rattle.entry.specs.Claims.{Claims, ended, large, short, beyond, entry}
use Rattle.entry.proofs.Claims.{claims, moves_on}

-- it is out of steps before the end, where no step stood
out : (end stood : Bool) → (if end then Ok Finished else if stood then Err ZeroEntryLength else Ok OutOfSteps) ≡ Ok OutOfSteps → (end ≡ false) × (stood ≡ false)
out true stood h = absurd (let z : ◌≡◌ {A = ℕ} 0 1 = cc in omega arith)
out false true h = absurd (let z : ◌≡◌ {A = ℕ} 0 1 = cc in omega arith)
out false false h = (refl, refl)

record Out (s : List ℕ) (at : ℕ) (made : List ℕ) : Type 0 where
  before : cursor_after s at made < length s
  none_stood : list_any (stands s) made ≡ false

out_of : (s : List ℕ) (at : ℕ) (made : List ℕ) → end_after s at made ≡ Ok OutOfSteps → Out s at made
unfolding end_after
out_of s at made h =
    let o = out (leb (length s) (cursor_after s at made)) (list_any (stands s) made) h in
    record { before = leb-false (length s) (cursor_after s at made) o.0; none_stood = o.1 }

-- all that were allowed were made, and each moved at least a byte
module _ (s : List ℕ) where
  Made : ℕ → ℕ → List ℕ → Type 0
  Made at left made = (length made ≡ left) × (at + left ≤ cursor_after s at made)

  made_turn : (at left : ℕ) → ((at : ℕ) → Out s at (steps_from s at left) → Made at left (steps_from s at left))
      → (end stand : Bool) → leb (length s) at ≡ end → stands s at ≡ stand
      → Out s at (if end then [] else at ∷ (if stand then [] else steps_from s (claim_at s at).next left))
      → Made at (suc left) (if end then [] else at ∷ (if stand then [] else steps_from s (claim_at s at).next left))
  unfolding cursor_after Made
  made_turn at left on true stand e f o = absurd (omega (arith, o.before, leb-true (length s) at e))
  made_turn at left on false true e f o = absurd (let z : true ≡ false = simp f at o.none_stood in let y : ◌≡◌ {A = ℕ} 0 1 = cc in omega arith)
  made_turn at left on false false e f o =
      let r = on (claim_at s at).next (record { before = o.before; none_stood = simp f at o.none_stood }) in
      let m : at < (claim_at s at).next = omega (arith, moves_on s at (leb-false (length s) at e), eqb-false (claim_at s at).next at f) in
      (ap suc r.0, omega (arith, r.1))

  made_all : (at left : ℕ) → Out s at (steps_from s at left) → Made at left (steps_from s at left)
  unfolding steps_from cursor_after Made
  made_all at zero o = (refl, omega arith)
  made_all at (suc left) o = made_turn at left (λ at. made_all at left) (leb (length s) at) (stands s at) refl refl o

pub all_steps : AllSteps
unfolding steps Made
all_steps =
    record {
      allowed = λ s at allowed h. (made_all s at allowed (out_of s at (steps_from s at allowed) h)).0;
      whole = λ s h. let o = out_of s 0 (steps_from s 0 (length s)) h in omega (arith, o.before, (made_all s 0 (length s) o).1);
    }

-- steps allowed beyond the bytes that are left change nothing
module _ (s : List ℕ) where
  same_turn : (m n at : ℕ) → ((at : ℕ) → length s - at ≤ m → length s - at ≤ n → steps_from s at m ≡ steps_from s at n) → length s - at ≤ suc m → length s - at ≤ suc n
      → (end stand : Bool) → leb (length s) at ≡ end → stands s at ≡ stand
      → (if end then [] else at ∷ (if stand then [] else steps_from s (claim_at s at).next m)) ≡ (if end then [] else at ∷ (if stand then [] else steps_from s (claim_at s at).next n))
  same_turn m n at on h k true stand e f = refl
  same_turn m n at on h k false true e f = refl
  same_turn m n at on h k false false e f =
      let b : at < (claim_at s at).next = omega (arith, moves_on s at (leb-false (length s) at e), eqb-false (claim_at s at).next at f) in
      ap (λ (l : List ℕ). at ∷ l) (on (claim_at s at).next (omega arith) (omega arith))

  pub same_steps : (m n at : ℕ) → length s - at ≤ m → length s - at ≤ n → steps_from s at m ≡ steps_from s at n
  unfolding steps_from
  same_steps zero zero at h k = refl
  same_steps zero (suc n) at h k = simp (le-leb (length s) at (omega arith))
  same_steps (suc m) zero at h k = simp (le-leb (length s) at (omega arith))
  same_steps (suc m) (suc n) at h k = same_turn m n at (same_steps m n) h k (leb (length s) at) (stands s at) refl refl

pub steps_enough : StepsEnough
unfolding steps
steps_enough s n h = same_steps s n (length s) 0 (omega arith) (omega arith)

pub zero_claims : ZeroClaims
zero_claims s at h e = by (claim_at s at) (claims s at) (eqb-true (claim_at s at).next at e)
  where
    by : (c : Claimed) → Claims s at c → c.next ≡ at → c.size ≡ Some (Ok 0)
    by c (ended a) f = absurd (omega arith)
    by c (large a b) f = absurd (omega arith)
    by c (short a b d) f = absurd (omega arith)
    by c (beyond a b d g) f = absurd (omega arith)
    by c (entry a b d g) f = ap (λ (n : ℕ). Some (Ok n)) (omega arith)
