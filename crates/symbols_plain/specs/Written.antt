-- docs/FORMAT.md, "Plain form": what the symbol writer writes is plain.
use Rattle.std.specs.Prelude.{ℕ, ◌≡◌, List, [], Ok}
use Rattle.std.specs.Borrow.{Bor}
use Rattle.refusal.specs.declared.Mode.TheVariants.{Present}
use Rattle.symbol.specs.declared.AdsSymbolInfo.{AdsSymbolInfo}
use Rattle.symbol.specs.declared.writer.NewSymbol.{NewSymbol}
use Rattle.symbol.specs.Symbol.{symbol_of}
use Rattle.symbol.specs.Told.{told_of, meant, IsTyped}
use Rattle.symbol.specs.Writing.{symbol_written}
use Rattle.symbol.specs.Again.{new_of, given_of}
use Rattle.plain.specs.Form.{HoldsBytes, IsWrittenSo, IsInForm}

-- an entry is read as what is meant by a symbol, is plain, by the writer and without it, and is that symbol to be written again
pub record IsPlainOf (n : NewSymbol) (e : Bor (List ℕ)) : Type 0 where
  pub read : AdsSymbolInfo
  pub is : symbol_of Present e ≡ Ok read
  pub tells : told_of read ≡ meant n []
  pub written : IsWrittenSo e read
  pub in_form : IsInForm e read
  pub given : given_of (new_of read) ≡ given_of n

-- whatever bytes the writer gives for a symbol, wherever they lie
abbrev pub WrittenPlain : Type 0
WrittenPlain = (n : NewSymbol) (e : Bor (List ℕ)) → IsTyped n → HoldsBytes e → symbol_written n ≡ Ok e.now → IsPlainOf n e
