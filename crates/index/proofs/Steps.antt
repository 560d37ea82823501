-- The index by the steps of the walk: proved.
use Rattle.std.proofs.Common.{ℕ, zero, suc, ◌<◌, ◌≡◌, refl, sym, ap, ◌∙◌, Bool, true, false, List, [], ◌∷◌, length, arith, Bor, Result}
use Rattle.std.specs.Prelude.{leb, map, filter, is_ok, All, Some, Ok, Err, if◌then◌else◌}
use Rattle.std.specs.List.{list_any}
use Rattle.std.proofs.lemmas.List.Elements.{All-nil, All-cons, All-head, All-tail}
use borrow.Author.Tests.{leb-false, eqb-true}
use Rattle.le.specs.Le.{le4}
use Rattle.part.specs.Slice.{part}
use Rattle.refusal.specs.declared.Refusal.{Refusal}
use Rattle.refusal.specs.declared.Refusal.TheVariants.{TooShort}
use Rattle.entry.specs.declared.Claimed.{Claimed}
use Rattle.entry.specs.Entry.{claim_at}
use Rattle.entry.specs.Walk.{stands, steps_from, steps}
use Rattle.entry.specs.Claims.{Claims, ended, large, short, beyond, entry}
use Rattle.entry.proofs.Claims.{claims}
use Rattle.walk.specs.Zero.{is_zero}
use Rattle.walk.specs.Step.{step_at}
use Rattle.walk.specs.Pieces.{piece_at}
use Rattle.walk.proofs.Left.{piece_starts}
use Rattle.walk.proofs.Theorems.{pieces_are}
use Rattle.index.specs.Index.{is_stop, accepts, stops, starts, stopped}
use Rattle.index.specs.Steps.{is_record, gives, BySteps}

module _ {R : Type 0} (read : Bor (List ℕ) → Result R Refusal) (header : ℕ) (four : 4 < header)
    (none : (e : Bor (List ℕ)) → length e.now < header → read e ≡ Err (TooShort header (length e.now)))
    (never_zero : (e : Bor (List ℕ)) (why : Refusal) → read e ≡ Err why → is_zero why ≡ false) (s : Bor (List ℕ)) where
  read_by : (own : Bor (List ℕ)) (t : Result R Refusal) → read own ≡ t → (is_ok t ≡ is_record (Some t)) × (is_stop t ≡ false)
  read_by own (Ok r) p = (refl, refl)
  read_by own (Err why) p = (refl, never_zero own why p)

  -- a piece where the walk stands is refused with 10, as the step is with another number: neither is a record
  stood : (at : ℕ) → at < length s.now → stands s.now at ≡ true → (c : Claimed) → claim_at s.now at ≡ c → Claims s.now at c → (accepts (piece_at read s at) ≡ gives read s at) × (stops (piece_at read s at) ≡ true)
  unfolding piece_at step_at
  stood at h f c e (ended a) = absurd (omega arith)
  stood at h f c e (large a b) = absurd (omega (arith, eqb-true (claim_at s.now at).next at f, ap (λ c. c.next) e))
  stood at h f c e (short a b d) = absurd (omega (arith, eqb-true (claim_at s.now at).next at f, ap (λ c. c.next) e))
  stood at h f c e (beyond a b d g) = absurd (omega (arith, eqb-true (claim_at s.now at).next at f, ap (λ c. c.next) e))
  stood at h f c e (entry a b d g) =
      let z : le4 s.now at ≡ 0 = omega (arith, eqb-true (claim_at s.now at).next at f, ap (λ c. c.next) e) in
      let n = none (part s at 0) (omega arith) in
      simp f (simp (e, z, n) (refl, refl))

  moved : (at : ℕ) → at < length s.now → stands s.now at ≡ false → (c : Claimed) → claim_at s.now at ≡ c → Claims s.now at c → (accepts (piece_at read s at) ≡ gives read s at) × (stops (piece_at read s at) ≡ false)
  unfolding piece_at step_at
  moved at h f c e (ended a) = absurd (omega arith)
  moved at h f c e (large a b) = simp f (simp e (refl, refl))
  moved at h f c e (short a b d) = simp f (simp e (refl, refl))
  moved at h f c e (beyond a b d g) = simp f (simp e (refl, refl))
  moved at h f c e (entry a b d g) = simp f (simp e (read_by (part s at (le4 s.now at)) (read (part s at (le4 s.now at))) refl))

  both_by : (at : ℕ) → at < length s.now → (b : Bool) → stands s.now at ≡ b → (accepts (piece_at read s at) ≡ gives read s at) × (stops (piece_at read s at) ≡ stands s.now at)
  both_by at h true f = let w = stood at h f (claim_at s.now at) refl (claims s.now at) in (w.0, w.1 ∙ sym f)
  both_by at h false f = let w = moved at h f (claim_at s.now at) refl (claims s.now at) in (w.0, w.1 ∙ sym f)

  pub both : (at : ℕ) → at < length s.now → (accepts (piece_at read s at) ≡ gives read s at) × (stops (piece_at read s at) ≡ stands s.now at)
  both at h = both_by at h (stands s.now at) refl

  -- a list of places before the end
  Before : List ℕ → Type 0
  Before ats = All (λ at. at < length s.now) ats

  turn : (at : ℕ) (ats : List ℕ) (b : Bool) → accepts (piece_at read s at) ≡ b → (piece_at read s at).start ≡ at → starts (map (piece_at read s) ats) ≡ filter (gives read s) ats
      → starts (piece_at read s at ∷ map (piece_at read s) ats) ≡ (if b then at ∷ filter (gives read s) ats else filter (gives read s) ats)
  unfolding starts
  turn at ats true e at-is ih = simp (e, at-is, ih)
  turn at ats false e at-is ih = simp (e, ih)

  starts_by : (ats : List ℕ) → Before ats → starts (map (piece_at read s) ats) ≡ filter (gives read s) ats
  unfolding starts Before
  starts_by [] h = refl
  starts_by (at ∷ ats) h =
      let w = both at (All-head (λ at. at < length s.now) at ats h) in
      let ih = starts_by ats (All-tail (λ at. at < length s.now) at ats h) in
      turn at ats (gives read s at) w.0 (piece_starts read s at) ih

  stopped_by : (ats : List ℕ) → Before ats → stopped (map (piece_at read s) ats) ≡ list_any (stands s.now) ats
  unfolding Before
  stopped_by [] h = refl
  stopped_by (at ∷ ats) h =
      let w = both at (All-head (λ at. at < length s.now) at ats h) in
      let ih = stopped_by ats (All-tail (λ at. at < length s.now) at ats h) in
      simp (w.1, ih)

  before : (at most : ℕ) → Before (steps_from s.now at most)
  unfolding Before steps_from
  before at zero = All-nil _
  before at (suc most) = by (leb (length s.now) at) refl (stands s.now at) (before (claim_at s.now at).next most)
    where
      by : (end : Bool) → leb (length s.now) at ≡ end → (stand : Bool) → Before (steps_from s.now (claim_at s.now at).next most) → All (λ at. at < length s.now) (if end then [] else at ∷ (if stand then [] else steps_from s.now (claim_at s.now at).next most))
      by true e stand h = All-nil _
      by false e true h = All-cons (λ at. at < length s.now) at [] (leb-false (length s.now) at e) (All-nil _)
      by false e false h = All-cons (λ at. at < length s.now) at _ (leb-false (length s.now) at e) h

module _ {R : Type 0} (read : Bor (List ℕ) → Result R Refusal) (header : ℕ) (four : 4 < header)
    (none : (e : Bor (List ℕ)) → length e.now < header → read e ≡ Err (TooShort header (length e.now)))
    (never_zero : (e : Bor (List ℕ)) (why : Refusal) → read e ≡ Err why → is_zero why ≡ false) where
  pub by_steps_of : BySteps read
  unfolding steps
  by_steps_of = record {
    starts_are = λ s. ap starts (pieces_are read s) ∙ starts_by read header four none never_zero s (steps s.now) (before read header four none never_zero s 0 (length s.now));
    stopped_is = λ s. ap stopped (pieces_are read s) ∙ stopped_by read header four none never_zero s (steps s.now) (before read header four none never_zero s 0 (length s.now));
  }
