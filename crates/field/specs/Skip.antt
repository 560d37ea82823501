-- docs/FORMAT.md, "Field entries": what a reader passes over. It may say more bytes than there are: then all are passed over.
use Rattle.std.specs.Prelude.{ℕ, zero, suc, min, List, ltb, length, if◌then◌else◌}
use Rattle.std.specs.Borrow.{Bor}
use Rattle.le.specs.Le.{le4}
use Rattle.part.specs.Slice.{after}

-- all but so many bytes, or but as many of them as there are
abbrev pub ahead : Bor (List ℕ) → ℕ → Bor (List ℕ)
ahead s n = after s (min n (length s.now))

-- so many items, each of which begins with its length in 4 bytes: while these remain, that length is passed over
unfoldable pub after_items : Bor (List ℕ) → ℕ → Bor (List ℕ)
after_items s zero = s
after_items s (suc left) = if ltb (length s.now) 4 then s else after_items (ahead s (le4 s.now 0)) left
