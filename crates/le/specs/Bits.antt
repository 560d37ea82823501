-- docs/FORMAT.md, "Numbers": what a test of flags tells of the bits of a word.
use Rattle.std.specs.Prelude.{ℕ, ◌/◌, ◌%◌, ◌^◌, ◌≡◌, true}
use Rattle.le.specs.Le.{has}

-- bit k of a number is 1
abbrev pub IsSet : ℕ → ℕ → Type 0
IsSet n k = n / 2 ^ k % 2 ≡ 1

-- a word has a flag of one bit exactly where that bit of it is 1; it has several exactly where it has each of them
pub record BitsMeant : Type 0 where
  pub flag : (word k : ℕ) → has word (2 ^ k) ≡ true → IsSet word k
  pub flagged : (word k : ℕ) → IsSet word k → has word (2 ^ k) ≡ true
  pub each : (word flags : ℕ) → has word flags ≡ true → (k : ℕ) → IsSet flags k → IsSet word k
  pub all : (word flags : ℕ) → ((k : ℕ) → IsSet flags k → IsSet word k) → has word flags ≡ true
