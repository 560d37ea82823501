-- docs/FORMAT.md, "Fit records": a symbol that is written, in an entry that any bytes end, is read as what was meant, in either mode.
use Rattle.std.specs.Prelude.{ℕ, ◌≤◌, ◌≡◌, List, ◌++◌, Ok, length, drop}
use Rattle.std.specs.Borrow.{Bor}
use Rattle.refusal.specs.Refusal.{limit}
use Rattle.refusal.specs.declared.Mode.{Mode}
use Rattle.walk.specs.Mapped.{map_ok}
use Rattle.writing.specs.Layout.{entry_bytes}
use Rattle.symbol.specs.declared.AdsSymbolInfo.{AdsSymbolInfo}
use Rattle.symbol.specs.declared.writer.NewSymbol.{NewSymbol}
use Rattle.symbol.specs.Symbol.{symbol_of}
use Rattle.symbol.specs.Told.{told_of, meant, IsTyped}
use Rattle.symbol.specs.Writing.{symbol_bytes, symbol_written}
use Rattle.symbol.specs.Again.{new_of, given_of}

-- what was written behind the length, and then some bytes
abbrev pub SymbolsReadBack : Type 0
SymbolsReadBack = (mode : Mode) (n : NewSymbol) (extra : List ℕ) (e : Bor (List ℕ)) → IsTyped n → symbol_written n ≡ Ok (symbol_bytes n)
    → e.now ≡ entry_bytes (drop 4 (symbol_bytes n) ++ extra) → length e.now ≤ limit → map_ok told_of (symbol_of mode e) ≡ Ok (meant n extra)

-- and what was read of it is, to be written again, what was given
abbrev pub SymbolsGivenBack : Type 0
SymbolsGivenBack = (mode : Mode) (n : NewSymbol) (extra : List ℕ) (e : Bor (List ℕ)) (r : AdsSymbolInfo) → IsTyped n → symbol_written n ≡ Ok (symbol_bytes n)
    → e.now ≡ entry_bytes (drop 4 (symbol_bytes n) ++ extra) → length e.now ≤ limit → symbol_of mode e ≡ Ok r → given_of (new_of r) ≡ given_of n
