-- docs/FORMAT.md, "Numbers": the rest of some bytes, from a place on to their end, and a string in them, in their memory.
use Rattle.std.specs.Prelude.{ℕ, ◌+◌, ◌-◌, ◌<◌, ◌≤◌, ◌≡◌, List, length}
use Rattle.std.specs.Borrow.{Bor}
use Rattle.part.specs.Slice.{part, after}

-- where the rest of some bytes begins in them
abbrev pub rest_at : Bor (List ℕ) → Bor (List ℕ) → ℕ
rest_at whole rest = length whole.now - length rest.now

-- these bytes are the end of those
pub record IsEnd (whole rest : Bor (List ℕ)) : Type 0 where
  pub is : rest ≡ after whole (rest_at whole rest)
  pub within : length rest.now ≤ length whole.now

-- a string of some bytes from a place on, in their memory, with an end byte behind it
pub record IsString (whole : Bor (List ℕ)) (at : ℕ) (s : Bor (List ℕ)) : Type 0 where
  pub is : s ≡ part whole at (length s.now)
  pub within : at + length s.now < length whole.now
