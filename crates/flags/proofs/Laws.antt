-- A flag word's own bytes are read back as that word, with every bit kept. Assumes nothing.
use Prim.Native.Nat.{ℕ, ◌<◌}
use Rattle.std.proofs.Common.{◌≡◌, Ok}
use mathlib.Core.List.{[]}
use Rattle.le.specs.Le.{bytes2, bytes4}
use Rattle.le.proofs.Laws.{le2_bytes2, le4_bytes4}
use Rattle.flags.specs.Flags.{symbol_flags_of, symbol2_flags_of, type_flags_of}

pub symbol_back : (n : ℕ) → n < 65536 → symbol_flags_of (bytes2 n) ≡ Ok (record { 0 = n })
unfolding symbol_flags_of
symbol_back n h = simp (le2_bytes2 n [] h)

pub symbol2_back : (n : ℕ) → n < 4294967296 → symbol2_flags_of (bytes4 n) ≡ Ok (record { 0 = n })
unfolding symbol2_flags_of
symbol2_back n h = simp (le4_bytes4 n [] h)

pub type_back : (n : ℕ) → n < 4294967296 → type_flags_of (bytes4 n) ≡ Ok (record { 0 = n })
unfolding type_flags_of
type_back n h = simp (le4_bytes4 n [] h)
