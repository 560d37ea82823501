-- docs/FORMAT.md, "Writing": a block of refactor records as writers of entries take it.
use Rattle.std.specs.Prelude.{ℕ, zero, suc, ◌+◌, ◌-◌, Bool, false, List, Option, Some, None, Result, Ok, Err, eqb, ltb, length, get_or, if◌then◌else◌}
use Rattle.std.specs.Bool.{beq}
use Rattle.std.specs.Borrow.{Bor}
use Rattle.le.specs.Le.{le4}
use Rattle.part.specs.Outcome.{outcome}
use Rattle.refusal.specs.declared.Refusal.{Refusal}
use Rattle.refusal.specs.declared.Refusal.TheVariants.{BadBlock}
use Rattle.refactor.specs.declared.AdsRefactorInfo.{AdsRefactorInfo}
use Rattle.refactor.specs.Refactor.{first_of}

-- a good record is accepted by its reader, has no packed bit outside the mask and end byte 0, and tells rightly whether another follows
abbrev pub is_good : Bor (List ℕ) → AdsRefactorInfo → Bool → Bool
is_good s r follows =
    if eqb (le4 s.now 0) r.refactor_count then if beq r.next_refactor_info follows then eqb (get_or s.now (6 + length r.name.now) 0) 0 else false else false

-- the bytes after it
unfoldable pub good_of : Bor (List ℕ) → Bool → Option (Bor (List ℕ))
good_of s follows = outcome (first_of s) (λ p. if is_good s p.0 follows then Some p.1 else None) (λ why. None)

abbrev pub by_good : {A : Type 0} → Option (Bor (List ℕ)) → (Bor (List ℕ) → A) → A → A
by_good (Some next) on stop = on next
by_good None on stop = stop

-- refusal 9 unless the rest of a block of this count is exactly so many good ones
unfoldable pub exact : Bor (List ℕ) → ℕ → ℕ → Result Unit Refusal
exact s count zero = if eqb (length s.now) 0 then Ok tt else Err (BadBlock count count)
exact s count (suc left) = by_good (good_of s (ltb 0 left)) (λ next. exact next count left) (Err (BadBlock count (count - suc left)))

abbrev pub block_checked : ℕ → Bor (List ℕ) → Result Unit Refusal
block_checked count block = exact block count count
