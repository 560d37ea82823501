-- docs/FORMAT.md, "Walking": a direct parse and a step, by what reading an entry's own bytes gives. These are a part of the upload: the memory is the caller's.
use Rattle.std.specs.Prelude.{ℕ, List, Result}
use Rattle.std.specs.Borrow.{Bor}
use Rattle.std.specs.Option.{option_map}
use Rattle.part.specs.Slice.{part}
use Rattle.part.specs.Outcome.{and_then}
use Rattle.refusal.specs.declared.Refusal.{Refusal}
use Rattle.entry.specs.Entry.{claim_at, claim_of}
use Rattle.walk.specs.declared.Stepped.{Stepped}

module _ {R : Type 0} where
  -- of the entry at the start, whose header is so long
  abbrev pub parse_of : ℕ → (Bor (List ℕ) → Result R Refusal) → Bor (List ℕ) → Result R Refusal
  parse_of header read s = and_then (claim_of header s.now) (λ size. read (part s 0 size))

  -- what a step gives at a place, and the cursor after it
  unfoldable pub step_at : (Bor (List ℕ) → Result R Refusal) → Bor (List ℕ) → ℕ → Stepped R
  step_at read s at =
      record {
        answer = option_map (λ claim. and_then claim (λ size. read (part s at size))) (claim_at s.now at).size;
        cursor = record { at = (claim_at s.now at).next };
      }
