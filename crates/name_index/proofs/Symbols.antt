-- Of symbols what is found is what finding of symbols finds: proved.
use Rattle.std.proofs.Common.{ℕ, ◌≡◌, refl, List, take, Bor, Result}
use Rattle.std.specs.Prelude.{Ok}
use Rattle.refusal.specs.declared.Mode.{Mode}
use Rattle.refusal.specs.declared.Refusal.{Refusal}
use Rattle.writing.specs.Writing.{Writes}
use Rattle.symbol.specs.Symbol.{symbol_of}
use Rattle.symbol_find.specs.Find.{own_name, find}
use Rattle.symbol_find.proofs.Meaning.{symbols_by_steps}
use Rattle.named.specs.Kinds.{symbol_places, symbol_told}
use Rattle.name_index.specs.Index.{name_indexing, Halves}
use Rattle.name_index.specs.Meaning.{SymbolsFound}
use Rattle.name_index.proofs.Meaning.{before_order, same_halved_of}

walked : (mode : Mode) (s : Bor (List ℕ)) (old new : List ℕ) (n : ℕ) → Writes (name_indexing symbol_places (symbol_of mode) s) old new (Ok n) → (name : List ℕ) (r : Result ℕ Refusal) → Halves symbol_places (symbol_of mode) own_name s (take n new) name r → r ≡ find mode s name
walked mode s old new n h name r halves =
    let p = before_order symbol_places (symbol_of mode) (symbols_by_steps mode) s old new n h in
    (same_halved_of symbol_places (symbol_of mode) (symbols_by_steps mode) own_name (symbol_told mode) s old new n h old p.mid n p.built name r halves).1

pub symbols_found : SymbolsFound
symbols_found = record { indexed = λ mode s slots name. refl; walked = walked }
