-- docs/FORMAT.md, "Writing": a block of attributes as writers of entries take it.
use Rattle.std.specs.Prelude.{ℕ, zero, suc, ◌-◌, List, Result, Ok, Err, eqb, length, if◌then◌else◌}
use Rattle.std.specs.Borrow.{Bor}
use Rattle.part.specs.Outcome.{outcome, and_then}
use Rattle.refusal.specs.EndBytes.{ended}
use Rattle.refusal.specs.declared.Refusal.{Refusal}
use Rattle.refusal.specs.declared.Refusal.TheVariants.{BadBlock}
use Rattle.attribute.specs.Attribute.{first_of, ends}

-- a good one is accepted by its reader and has end bytes 0: the bytes after it
unfoldable pub good_of : Bor (List ℕ) → Result (Bor (List ℕ)) Refusal
good_of s = and_then (first_of s) (λ p. and_then (ended (ends s 0 1)) (λ _. Ok p.1))

-- refusal 9 unless the rest of a block of this count is exactly so many good ones
unfoldable pub exact : Bor (List ℕ) → ℕ → ℕ → Result Unit Refusal
exact s count zero = if eqb (length s.now) 0 then Ok tt else Err (BadBlock count count)
exact s count (suc left) = outcome (good_of s) (λ next. exact next count left) (λ why. Err (BadBlock count (count - suc left)))

abbrev pub block_checked : ℕ → Bor (List ℕ) → Result Unit Refusal
block_checked count block = exact block count count
