-- What a direct parse gives: proved.
use Rattle.std.proofs.Common.{ℕ, List, Bor, Result}
use Rattle.part.specs.Slice.{part}
use Rattle.part.specs.Outcome.{and_then}
use Rattle.refusal.specs.declared.Refusal.{Refusal}
use Rattle.entry.specs.Entry.{claim_of}
use Rattle.entry.specs.DirectClaims.{IsClaimed, large as too_large, short as too_short, beyond as leads_beyond, below as too_low, whole}
use Rattle.entry.proofs.DirectClaims.{direct_claims}
use Rattle.walk.specs.Direct.{IsParsed, large, short, beyond, below, own, ParsesMeant}

module _ {R : Type 0} (header : ℕ) (read : Bor (List ℕ) → Result R Refusal) where
  by_claim : (s : Bor (List ℕ)) (c : Result ℕ Refusal) → IsClaimed header s.now c → IsParsed header read s (and_then c (λ size. read (part s 0 size)))
  by_claim s c (too_large a) = large a
  by_claim s c (too_short a b) = short a b
  by_claim s c (leads_beyond a b d) = beyond a b d
  by_claim s c (too_low a b d g) = below a b d g
  by_claim s c (whole a b d g) = own a b d g

  pub parses_meant : ParsesMeant header read
  parses_meant s = by_claim s (claim_of header s.now) (direct_claims header s.now)
