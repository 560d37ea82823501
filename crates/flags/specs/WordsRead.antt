-- docs/FORMAT.md, "Direct reading": flag words that are read alone, by their bytes.
use Rattle.std.specs.Prelude.{ℕ, ◌<◌, ◌≤◌, ◌≡◌, List, Result, Ok, Err, length}
use Rattle.le.specs.Le.{le2, le4}
use Rattle.refusal.specs.declared.Refusal.{Refusal}
use Rattle.refusal.specs.declared.Refusal.TheVariants.{TooLarge, UnexpectedLength}
use Rattle.flags.specs.Flags.{symbol_flags_of, symbol2_flags_of, type_flags_of}

-- 5 above the limit, then 1 at any length but this one, with this one and the length; else the word
pub data WordRead {A : Type 0} (needed : ℕ) (s : List ℕ) (word : A) (answer : Result A Refusal) : Type 0 where
  too_large : 16777216 < length s → answer ≡ Err (TooLarge (length s)) → WordRead needed s word answer
  another_length : length s ≤ 16777216 → (length s ≡ needed → ⊥) → answer ≡ Err (UnexpectedLength needed (length s)) → WordRead needed s word answer
  read : length s ≡ needed → answer ≡ Ok word → WordRead needed s word answer

pub record WordsRead : Type 0 where
  pub symbol : (s : List ℕ) → WordRead 2 s (record { 0 = le2 s 0 }) (symbol_flags_of s)
  pub extended : (s : List ℕ) → WordRead 4 s (record { 0 = le4 s 0 }) (symbol2_flags_of s)
  pub field : (s : List ℕ) → WordRead 4 s (record { 0 = le4 s 0 }) (type_flags_of s)
