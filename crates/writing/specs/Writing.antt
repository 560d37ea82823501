-- docs/FORMAT.md, "Writing": what is to be written, whatever buffer is lent, and what a writer then answers and leaves in the buffer.
use Rattle.std.specs.Prelude.{ℕ, ◌≡◌, List, ◌++◌, ltb, length, drop, Result, Ok, Err, if◌then◌else◌}
use Rattle.refusal.specs.declared.Refusal.{Refusal}
use Rattle.refusal.specs.declared.Refusal.TheVariants.{OutputTooSmall}

-- the answer where so many places are lent: how many were written
abbrev pub answer : Result (List ℕ) Refusal → ℕ → Result ℕ Refusal
answer (Ok xs) lent = if ltb lent (length xs) then Err (OutputTooSmall (length xs) lent) else Ok (length xs)
answer (Err why) lent = Err why

-- the lent buffer after: what is written from place 0 and nothing else changed; as it was where the answer is a refusal
abbrev pub leaves : Result (List ℕ) Refusal → List ℕ → List ℕ
leaves (Ok xs) old = if ltb (length old) (length xs) then old else xs ++ drop (length xs) old
leaves (Err why) old = old

-- the promise of every writer: its answer r, and the buffer before and after
pub record Writes (w : Result (List ℕ) Refusal) (old new : List ℕ) (r : Result ℕ Refusal) : Type 0 where
  pub said : r ≡ answer w (length old)
  pub left : new ≡ leaves w old
