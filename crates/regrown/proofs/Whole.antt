-- What a walk meets at its end, at a whole entry, and at one that is cut.
use Rattle.std.specs.Prelude.{if◌then◌else◌}
use Prim.Native.Nat.{ℕ, zero, suc, ◌+◌, ◌-◌, ◌<◌, ◌≤◌}
use native.Mathlib.Omega.{arith}
use native.Mathlib.Nat.{add-zero}
use mathlib.Core.Path.{◌≡◌, refl, ap, ◌∙◌}
use mathlib.Core.Bool.{Bool, true, false}
use mathlib.Core.List.{List, [], ◌++◌, append-nil}
use lib.Dec.{ltb}
use lib.ListN.{length, take, length-append}
use lib.Seq.{length-take-le, get_or-take}
use borrow.Author.Tests.{le-ltb, lt-ltb, le-leb, lt-leb, ltb-true, ltb-false}
use Rattle.le.specs.Le.{le4}
use Rattle.le.proofs.Inside.{le4_inside}
use Rattle.refusal.specs.Refusal.{limit, figures_of}
use Rattle.refusal.specs.declared.Refusal.{Refusal}
use Rattle.refusal.specs.declared.Refusal.TheVariants.{TooShort, EntryLengthMismatch}
use Rattle.std.specs.Prelude.{Some, None, Ok, Err}
use Rattle.entry.specs.Entry.{claim_at, claimed}
use Rattle.regrown.specs.Regrown.{cut_figures}

-- the bytes of an entry that claims just these
pub record Whole (e : List ℕ) : Type 0 where
  pub claims : le4 e 0 ≡ length e
  pub long : 4 ≤ length e

-- the claim of an entry stands in its first four bytes
claim_first : (p e q : List ℕ) (k : ℕ) → 4 ≤ k → k ≤ length e → le4 (p ++ (take k e ++ q)) (length p) ≡ le4 e 0
unfolding le4
claim_first p e q k h l =
    let t : length (take k e) ≡ k = length-take-le k e l in
    rw add-zero at (le4_inside p (take k e) q 0 (omega arith)) ∙ simp (get_or-take k e 0 0 (omega arith), get_or-take k e 1 0 (omega arith), get_or-take k e 2 0 (omega arith), get_or-take k e 3 0 (omega arith))

pub claim_end : (s : List ℕ) (at : ℕ) → length s ≤ at → claim_at s at ≡ claimed None at
unfolding claim_at
claim_end s at h = simp (le-leb (length s) at h)

pub claim_whole : (p e q : List ℕ) → Whole e → length (p ++ (e ++ q)) ≤ limit → claim_at (p ++ (e ++ q)) (length p) ≡ claimed (Some (Ok (length e))) (length p + length e)
unfolding claim_at
claim_whole p e q w h =
    let len : length (p ++ (e ++ q)) ≡ length p + (length e + length q) = simp length-append in
    let claim : le4 (p ++ (e ++ q)) (length p) ≡ length e = rw add-zero at (le4_inside p e q 0 w.long) ∙ w.claims in
    simp (
      claim,
      lt-leb (length (p ++ (e ++ q))) (length p) (omega arith),
      le-ltb limit (length (p ++ (e ++ q))) h,
      le-ltb (length (p ++ (e ++ q)) - length p) 4 (omega arith),
      le-ltb (length (p ++ (e ++ q)) - length p) (length e) (omega arith),
    )

pub length_cut : (p e : List ℕ) (k : ℕ) → k < length e → length (p ++ take k e) ≡ length p + k
length_cut p e k b = length-append p (take k e) ∙ ap (λ (n : ℕ). length p + n) (length-take-le k e (omega arith))

-- what a cut k bytes into the entry e, which starts at a place, is refused with
abbrev pub cut_refusal : Bool → ℕ → ℕ → ℕ → Refusal
cut_refusal short at k size = if short then TooShort (at + 4) (at + k) else EntryLengthMismatch size k

pub cut_told : (short : Bool) (at k size : ℕ) → ltb k 4 ≡ short → figures_of (cut_refusal short at k size) ≡ cut_figures at k size
cut_told true at k size h = simp h
cut_told false at k size h = simp h

pub claim_cut : (p e : List ℕ) (k : ℕ) → Whole e → 0 < k → k < length e → length p + k ≤ limit → (short : Bool) → ltb k 4 ≡ short
    → claim_at (p ++ take k e) (length p) ≡ claimed (Some (Err (cut_refusal short (length p) k (length e)))) (length p + k)
unfolding claim_at
claim_cut p e k w a b h true t =
    let l = length_cut p e k b in
    let u : k < 4 = ltb-true k 4 t in
    simp (
      l,
      lt-leb (length p + k) (length p) (omega arith),
      le-ltb limit (length p + k) h,
      lt-ltb (length p + k - length p) 4 (omega arith),
    )
claim_cut p e k w a b h false t =
    let l = length_cut p e k b in
    let u : 4 ≤ k = ltb-false k 4 t in
    let claim : le4 (p ++ take k e) (length p) ≡ length e = simp append-nil at (claim_first p e [] k u (omega arith)) ∙ w.claims in
    let left : length p + k - length p ≡ k = omega arith in
    simp (
      l,
      claim,
      left,
      t,
      lt-leb (length p + k) (length p) (omega arith),
      le-ltb limit (length p + k) h,
      lt-ltb k (length e) b,
    )

pub above : (k : ℕ) → (k ≡ 0 → ⊥) → 0 < k
above zero h = absurd (h refl)
above (suc k) h = omega arith
