-- An accepted symbol lies in its entry.
use Rattle.std.proofs.Common.{◌≡◌, ℕ, List, Ok, Bor}
use Rattle.refusal.specs.declared.Mode.{Mode}
use Rattle.symbol.specs.declared.AdsSymbolInfo.{AdsSymbolInfo}
use Rattle.symbol.specs.Symbol.{symbol_of, IsWithin}
use Rattle.symbol.proofs.Laws.{symbols_whole}

pub within : (mode : Mode) (e : Bor (List ℕ)) (r : AdsSymbolInfo) → symbol_of mode e ≡ Ok r → IsWithin e r
within mode e r h = (symbols_whole mode e r h).within
