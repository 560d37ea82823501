-- docs/FORMAT.md, "One bad entry". Wrong versions of a walk, of a step, of a direct parse and of a salvage, which what stays shuts out.
use Rattle.std.specs.Prelude.{ℕ, ◌+◌, Bool, false, List, [], ◌∷◌, Option, Some, None, Result, Ok, Err, is_err, eqb, get_or, length, option_map, if◌then◌else◌}
use Rattle.std.specs.List.{cons_option}
use Rattle.std.specs.Borrow.{Bor}
use Rattle.part.specs.Slice.{part}
use Rattle.part.specs.Outcome.{and_then}
use Rattle.refusal.specs.declared.Refusal.{Refusal}
use Rattle.refusal.specs.declared.Refusal.TheVariants.{TooShort}
use Rattle.entry.specs.Entry.{claim_at, claim_of}
use Rattle.walk.specs.declared.Piece.{Piece}
use Rattle.walk.specs.declared.Stepped.{Stepped}
use Rattle.walk.specs.Step.{step_at}
use Rattle.walk.specs.Pieces.{pieces}
use Rattle.walk.specs.Theorems.{cursor_of}
use Rattle.damage.specs.Stays.{StepsStay, ParsesStay}
use Rattle.damage.specs.Salvaged.{Kept, kept_of, dropped_runs, SalvageStays}
use Rattle.damage.specs.Theorems.{InPlace}

module _ {R : Type 0} (read : Bor (List ℕ) → Result R Refusal) where
  -- a walk that ends at a refused entry: the step there leaves the cursor at the end of the upload
  abbrev pub cursor_by : Option (Result R Refusal) → ℕ → ℕ → ℕ
  cursor_by None next end = next
  cursor_by (Some (Ok r)) next end = next
  cursor_by (Some (Err why)) next end = end

  abbrev pub ends_at_refused : Bor (List ℕ) → ℕ → Stepped R
  ends_at_refused s at =
      record {
        answer = (step_at read s at).answer;
        cursor = record { at = cursor_by (step_at read s at).answer (step_at read s at).cursor.at (length s.now) };
      }

  -- a step that looks past its entry, at the next one's claim and the byte behind it
  abbrev pub looks_past : Bor (List ℕ) → ℕ → Stepped R
  looks_past s at =
      record {
        answer = option_map (λ claim. and_then claim (λ size. read (part s at (size + 5)))) (claim_at s.now at).size;
        cursor = record { at = (claim_at s.now at).next };
      }

  -- a direct parse that looks past its entry likewise
  abbrev pub parses_past : Bor (List ℕ) → Result R Refusal
  parses_past s = and_then (claim_of 5 s.now) (λ size. read (part s 0 (size + 5)))

  -- a salvage that drops what follows upon what it drops
  abbrev pub kept_behind : List ℕ → Bool → List (Piece R) → List Kept
  kept_behind s dropped [] = []
  kept_behind s dropped (p ∷ ps) = cons_option (if dropped then None else kept_of s p.start p.end p.answer) (kept_behind s (is_err p.answer) ps)

  abbrev pub drops_the_next : Bor (List ℕ) → List Kept
  drops_the_next s = kept_behind s.now false (pieces read s)

-- a kind of entry to show it with: one whose fifth byte is 0 is refused, and any other gives its own bytes
unfoldable pub marked : Bor (List ℕ) → Result (List ℕ) Refusal
marked e = if eqb (get_or e.now 4 0) 0 then Err (TooShort 5 4) else Ok e.now

pub record DamageShutsOut : Type 0 where
  pub ends : InPlace (StepsStay (ends_at_refused marked) cursor_of (λ x. x)) → ⊥
  pub past : InPlace (StepsStay (looks_past marked) cursor_of (λ x. x)) → ⊥
  pub parse : InPlace (ParsesStay (parses_past marked) (λ x. x)) → ⊥
  pub next : InPlace (SalvageStays (drops_the_next marked) (dropped_runs marked)) → ⊥
