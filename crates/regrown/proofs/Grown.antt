-- An entry that is grown is the entry of its rest and the bytes added.
use Rattle.std.proofs.Common.{ℕ, ◌+◌, ◌≡◌, ap, List, ◌++◌, length, arith, length-append}
use Rattle.le.specs.Le.{bytes4}
use Rattle.writing.specs.Layout.{entry_bytes}
use Rattle.regrown.specs.Regrown.{grown}

pub grown_entry : (rest extra : List ℕ) → grown (entry_bytes rest) extra ≡ entry_bytes (rest ++ extra)
unfolding grown entry_bytes
grown_entry rest extra = let n : length (bytes4 (length rest + 4) ++ rest) + length extra ≡ length (rest ++ extra) + 4 = simp length-append (omega arith) in ap (λ (k : ℕ). bytes4 k ++ (rest ++ extra)) n
