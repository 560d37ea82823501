-- A turn of passing over items, by how many are left.
use Rattle.std.proofs.Common.{ℕ, zero, suc, ◌-◌, ◌<◌, ◌≤◌, ◌≡◌, refl, List, length, arith, Bor}
use borrow.Author.Tests.{lt-ltb}
use Rattle.le.specs.Le.{le4}
use Rattle.field.specs.Skip.{ahead, after_items}

pub items_none : (s : Bor (List ℕ)) (left : ℕ) → left ≤ 0 → after_items s left ≡ s
unfolding after_items
items_none s zero h = refl
items_none s (suc left) h = absurd (omega arith)

pub items_short : (s : Bor (List ℕ)) (left : ℕ) → length s.now < 4 → after_items s left ≡ s
unfolding after_items
items_short s zero h = refl
items_short s (suc left) h = simp (lt-ltb (length s.now) 4 h)

pub items_step : (s : Bor (List ℕ)) (left : ℕ) → 4 ≤ length s.now → 0 < left → after_items s left ≡ after_items (ahead s (le4 s.now 0)) (left - 1)
unfolding after_items
items_step s left h k = grind arith
