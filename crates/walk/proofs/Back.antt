-- Where a direct parse of the bytes that a record takes gives that record, a step gives it too.
use Rattle.std.proofs.Common.{ℕ, ◌+◌, ◌-◌, ◌<◌, ◌≤◌, ◌≡◌, sym, ap, ◌∙◌, List, length, drop, arith, Bor, Result}
use Rattle.std.specs.Prelude.{Some, Ok}
use Rattle.std.proofs.lemmas.List.{length-take}
use Rattle.std.proofs.Common.{length-drop, min}
use Rattle.le.specs.Le.{le4}
use Rattle.le.specs.Le as le
use Rattle.part.specs.Slice.{part}
use Rattle.part.specs.Outcome.{and_then}
use Rattle.refusal.specs.Refusal.{limit}
use Rattle.refusal.specs.declared.Refusal.{Refusal}
use Rattle.entry.specs.declared.Claimed.{Claimed}
use Rattle.entry.specs.Entry.{claim_at, claim_of}
use Rattle.entry.specs.Claims.{Claims, ended, large, short, beyond, entry}
use Rattle.entry.specs.DirectClaims.{IsClaimed, large as too_large, short as too_short, beyond as leads_beyond, below as too_low, whole}
use Rattle.entry.proofs.Claims.{claims}
use Rattle.entry.proofs.DirectClaims.{direct_claims}
use Rattle.entry.proofs.Direct.{part_all, part_long, own_claim}
use Rattle.walk.specs.Step.{parse_of, step_at}

module _ {R : Type 0} (read : Bor (List ℕ) → Result R Refusal) (header : ℕ) (length_of : R → ℕ) (four : 4 < header)
    (long : (e : Bor (List ℕ)) (r : R) → read e ≡ Ok r → length_of r ≡ length e.now)
    (s : Bor (List ℕ)) (at : ℕ) (r : R) (small : length s.now ≤ limit) where
  abbrev own : Bor (List ℕ)
  own = part s at (length_of r)

  -- the part is the whole entry, of a header at least
  record IsWhole : Type 0 where
    is : read own ≡ Ok r
    there : header ≤ length_of r
    room : at + length_of r ≤ length s.now
    claim : le4 s.now at ≡ length_of r

  by_parse : (c : Result ℕ Refusal) → IsClaimed header own.now c → and_then c (λ size. read (part own 0 size)) ≡ Ok r → IsWhole
  unfolding le.part
  by_parse c (too_large a) h = cc
  by_parse c (too_short a b) h = cc
  by_parse c (leads_beyond a b d) h = cc
  by_parse c (too_low a b d g) h = cc
  by_parse c (whole a b d g) h =
      let size : ℕ = le4 own.now 0 in
      let n : length_of r ≡ size = long (part own 0 size) r h ∙ part_long own 0 size (omega (arith, d)) in
      let m : length own.now ≡ min (length_of r) (length s.now - at) = length-take (length_of r) (drop at s.now) ∙ ap (λ (k : ℕ). min (length_of r) k) (length-drop at s.now) in
      let all : length own.now ≡ size = omega (arith, n, m, d) in
      let same : part own 0 size ≡ own = ap (part own 0) (sym all) ∙ part_all own in
      let there : header ≤ length_of r = omega (arith, n, g) in
      record {
        is = ap read (sym same) ∙ h;
        there = there;
        room = omega (arith, n, m, all, there, four);
        claim = sym (own_claim s.now at (length_of r) (omega (arith, there, four))) ∙ sym n;
      }

  by_claim : (c : Claimed) → Claims s.now at c → IsWhole → c.size ≡ Some (Ok (length_of r))
  by_claim c (ended a) w = absurd (omega (arith, a, four, w.there, w.room))
  by_claim c (large a b) w = absurd (omega (arith, b, small))
  by_claim c (short a b d) w = absurd (omega (arith, d, four, w.there, w.room))
  by_claim c (beyond a b d g) w = absurd (omega (arith, g, w.claim, w.room))
  by_claim c (entry a b d g) w = ap (λ (n : ℕ). Some (Ok n)) w.claim

  pub steps_back : parse_of header read own ≡ Ok r → (step_at read s at).answer ≡ Some (Ok r)
  unfolding step_at
  steps_back h =
      let w = by_parse (claim_of header own.now) (direct_claims header own.now) h in
      simp (by_claim (claim_at s.now at) (claims s.now at) w, w.is)
