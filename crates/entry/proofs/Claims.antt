-- The five answers of a step's own checks; where it meets an entry; and that no step goes back.
use Prim.Native.Nat.{ℕ, ◌+◌, ◌-◌, ◌<◌, ◌≤◌}
use native.Mathlib.Omega.{arith}
use mathlib.Core.Path.{◌≡◌, refl, ap, ◌∙◌}
use mathlib.Core.Bool.{Bool, true, false}
use mathlib.Core.List.{List}
use lib.Dec.{ltb, leb}
use lib.ListN.{length}
use borrow.Author.Tests.{leb-true, leb-false, ltb-true, ltb-false}
use Rattle.le.specs.Le.{le4}
use Rattle.refusal.specs.Refusal.{limit}
use Rattle.std.specs.Prelude.{is_some, Some, Ok}
use Rattle.entry.specs.declared.Claimed.{Claimed}
use Rattle.entry.specs.Entry.{claim_at}
use Rattle.entry.specs.Claims.{Claims, ended, large, short, beyond, entry, StepClaims}

pub claims : StepClaims
unfolding claim_at
claims s at = by (leb (length s) at) (ltb limit (length s)) (ltb (length s - at) 4) (ltb (length s - at) (le4 s at)) refl refl refl refl
  where
    by : (p q r t : Bool) → leb (length s) at ≡ p → ltb limit (length s) ≡ q → ltb (length s - at) 4 ≡ r → ltb (length s - at) (le4 s at) ≡ t → Claims s at (claim_at s at)
    by true q r t a b c d = simp a (ended (leb-true (length s) at a))
    by false true r t a b c d = simp (a, b) (large (leb-false (length s) at a) (ltb-true limit (length s) b))
    by false false true t a b c d = simp (a, b, c) (short (leb-false (length s) at a) (ltb-false limit (length s) b) (ltb-true (length s - at) 4 c))
    by false false false true a b c d = simp (a, b, c, d) (beyond (leb-false (length s) at a) (ltb-false limit (length s) b) (ltb-false (length s - at) 4 c) (ltb-true (length s - at) (le4 s at) d))
    by false false false false a b c d = simp (a, b, c, d) (entry (leb-false (length s) at a) (ltb-false limit (length s) b) (ltb-false (length s - at) 4 c) (ltb-false (length s - at) (le4 s at) d))

-- where a step meets an entry: its claim, which the upload has room for, moves the cursor
pub record Meets (s : List ℕ) (at size : ℕ) : Type 0 where
  pub claim : le4 s at ≡ size
  pub room : at + size ≤ length s
  pub four : at + 4 ≤ length s
  pub small : length s ≤ limit
  pub next : (claim_at s at).next ≡ at + size

pub meets : (s : List ℕ) (at size : ℕ) → (claim_at s at).size ≡ Some (Ok size) → Meets s at size
meets s at size e = by (claim_at s at) refl (claims s at) e
  where
    by : (c : Claimed) → claim_at s at ≡ c → Claims s at c → c.size ≡ Some (Ok size) → Meets s at size
    by c f (ended a) e = absurd (let u : ◌≡◌ {A = ℕ} 0 1 = cc in omega arith)
    by c f (large a b) e = absurd (let u : ◌≡◌ {A = ℕ} 0 1 = cc in omega arith)
    by c f (short a b d) e = absurd (let u : ◌≡◌ {A = ℕ} 0 1 = cc in omega arith)
    by c f (beyond a b d g) e = absurd (let u : ◌≡◌ {A = ℕ} 0 1 = cc in omega arith)
    by c f (entry a b d g) e =
        let u : le4 s at ≡ size = cc in
        record { claim = u; room = omega arith; four = omega arith; small = b; next = ap (λ c. c.next) f ∙ ap (λ (k : ℕ). at + k) u }

-- a step before the end goes neither back nor beyond it
between : (s : List ℕ) (at : ℕ) → at < length s → (at ≤ (claim_at s at).next) × ((claim_at s at).next ≤ length s)
between s at h = by (claim_at s at) (claims s at)
  where
    by : (c : Claimed) → Claims s at c → (at ≤ c.next) × (c.next ≤ length s)
    by c (ended a) = (omega arith, omega arith)
    by c (large a b) = (omega arith, omega arith)
    by c (short a b d) = (omega arith, omega arith)
    by c (beyond a b d g) = (omega arith, omega arith)
    by c (entry a b d g) = (omega arith, omega arith)

pub moves_on : (s : List ℕ) (at : ℕ) → at < length s → at ≤ (claim_at s at).next
moves_on s at h = (between s at h).0

pub moves_within : (s : List ℕ) (at : ℕ) → at < length s → (claim_at s at).next ≤ length s
moves_within s at h = (between s at h).1

-- an entry that is met lies in the upload
pub room_at : (s : List ℕ) (at size : ℕ) → (claim_at s at).size ≡ Some (Ok size) → at + size ≤ length s
room_at s at size e = (meets s at size e).room

-- before the end of the upload there is a claim, or why there is none
pub claim_there : (s : List ℕ) (at : ℕ) → at < length s → is_some (claim_at s at).size ≡ true
claim_there s at h = by (claim_at s at) (claims s at)
  where
    by : (c : Claimed) → Claims s at c → is_some c.size ≡ true
    by c (ended a) = absurd (omega arith)
    by c (large a b) = refl
    by c (short a b d) = refl
    by c (beyond a b d g) = refl
    by c (entry a b d g) = refl
