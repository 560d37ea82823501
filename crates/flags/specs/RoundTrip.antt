-- docs/FORMAT.md, "Numbers": flag words and their bytes.
use Rattle.std.specs.Prelude.{ℕ, ◌≡◌, ◌<◌, ◌^◌, Ok}
use Rattle.le.specs.Le.{bytes2, bytes4}
use Rattle.flags.specs.Flags.{symbol_flags_of, symbol2_flags_of, type_flags_of}

-- a word's own bytes are read back as that word, with every bit kept
pub record WordsComeBack : Type 0 where
  pub symbol : (n : ℕ) → n < 2 ^ 16 → symbol_flags_of (bytes2 n) ≡ Ok (record { 0 = n })
  pub symbol2 : (n : ℕ) → n < 2 ^ 32 → symbol2_flags_of (bytes4 n) ≡ Ok (record { 0 = n })
  pub type : (n : ℕ) → n < 2 ^ 32 → type_flags_of (bytes4 n) ≡ Ok (record { 0 = n })
