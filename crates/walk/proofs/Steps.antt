-- What a step gives: proved.
use Rattle.std.proofs.Common.{ℕ, ◌+◌, ◌<◌, ◌≤◌, ◌≡◌, refl, ap, ◌∙◌, Bool, true, false, List, length, arith, Bor, Result}
use Rattle.std.specs.Prelude.{ltb, Some, Err}
use Rattle.std.specs.Option.{option_map}
use borrow.Author.Tests.{ltb-true, ltb-false}
use Rattle.le.specs.Le.{le4}
use Rattle.part.specs.Slice.{part}
use Rattle.part.specs.Outcome.{and_then}
use Rattle.refusal.specs.declared.Refusal.{Refusal}
use Rattle.refusal.specs.declared.Refusal.TheVariants.{TooShort}
use Rattle.entry.specs.Entry.{claim_at}
use Rattle.entry.specs.declared.Claimed.{Claimed}
use Rattle.entry.specs.Claims.{Claims, ended as at_end, large as too_large, short as too_short, beyond as leads_beyond, entry}
use Rattle.entry.proofs.Claims.{claims}
use Rattle.entry.proofs.Direct.{part_long}
use Rattle.walk.specs.Step.{step_at}
use Rattle.walk.specs.Steps.{IsStep, ended, large, short, beyond, below, own, StepsMeant}

module _ {R : Type 0} (header : ℕ) (read : Bor (List ℕ) → Result R Refusal) (refuses : (e : Bor (List ℕ)) → length e.now < header → read e ≡ Err (TooShort header (length e.now))) where
  -- bytes that are fewer than a header are refused with 2
  below_header : (s : Bor (List ℕ)) (at size : ℕ) → at + size ≤ length s.now → size < header → read (part s at size) ≡ Err (TooShort header size)
  below_header s at size room few =
      let l : length (part s at size).now ≡ size = part_long s at size room in
      refuses (part s at size) (omega (arith, l)) ∙ ap (λ (n : ℕ). Err (TooShort header n)) l

  by_claim : (s : Bor (List ℕ)) (at : ℕ) (c : Claimed) → Claims s.now at c
      → IsStep header read s at (option_map (λ claim. and_then claim (λ size. read (part s at size))) c.size) c.next
  by_claim s at c (at_end a) = ended a
  by_claim s at c (too_large a b) = large a b
  by_claim s at c (too_short a b d) = short a b d
  by_claim s at c (leads_beyond a b d g) = beyond a b d g
  by_claim s at c (entry a b d g) = by (ltb (le4 s.now at) header) refl
    where
      by : (few : Bool) → ltb (le4 s.now at) header ≡ few → IsStep header read s at (Some (read (part s at (le4 s.now at)))) (at + le4 s.now at)
      by true e =
          let few : le4 s.now at < header = ltb-true (le4 s.now at) header e in
          simp (below_header s at (le4 s.now at) (omega (arith, a, g)) few) (below a b d g few)
      by false e = own a b d g (ltb-false (le4 s.now at) header e)

  pub steps_meant : StepsMeant header read
  unfolding step_at
  steps_meant s at = by_claim s at (claim_at s.now at) (claims s.now at)
