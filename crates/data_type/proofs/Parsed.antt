-- A direct parse that meets an entry: its own bytes lie in those given, and are read.
use Rattle.std.proofs.Common.{ℕ, ◌≤◌, ◌≡◌, List, length, arith, Bor}
use Rattle.std.specs.Prelude.{Result, Ok}
use Rattle.le.specs.Le.{le4}
use Rattle.part.specs.Slice.{part}
use Rattle.refusal.specs.Refusal.{limit}
use Rattle.refusal.specs.declared.Refusal.{Refusal}
use Rattle.entry.specs.Entry.{claim_of}
use Rattle.walk.specs.Step.{parse_of}
use Rattle.part.proofs.Outcome.{both_passed}

-- a claim that is met
pub record Meets (s : List ℕ) (size : ℕ) : Type 0 where
  pub small : length s ≤ limit
  pub claims : le4 s 0 ≡ size
  pub room : size ≤ length s
  pub least : 42 ≤ size

pub meets : (s : List ℕ) (size : ℕ) → claim_of 42 s ≡ Ok size → Meets s size
unfolding claim_of
meets s size h = record { small = grind arith; claims = grind arith; room = grind arith; least = grind arith }

pub record Parsed {R : Type 0} (read : Bor (List ℕ) → Result R Refusal) (s : Bor (List ℕ)) (r : R) : Type 0 where
  pub size : ℕ
  pub claims : claim_of 42 s.now ≡ Ok size
  pub entry : read (part s 0 size) ≡ Ok r

pub parsed : {R : Type 0} (read : Bor (List ℕ) → Result R Refusal) (s : Bor (List ℕ)) (r : R) → parse_of 42 read s ≡ Ok r → Parsed read s r
parsed read s r h = let p = both_passed (claim_of 42 s.now) h in record { size = p.0; claims = p.1.0; entry = p.1.1 }
