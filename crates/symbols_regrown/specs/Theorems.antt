-- docs/FORMAT.md, "Fit records": the theorems around the one that written symbols come back.
use Rattle.std.specs.Prelude.{ℕ, ◌<◌, ◌≤◌, ◌≡◌, List, Ok, length, take}
use Rattle.std.specs.List.{All}
use Rattle.std.specs.Borrow.{Bor}
use Rattle.refusal.specs.Refusal.{limit}
use Rattle.refusal.specs.declared.Mode.{Mode}
use Rattle.walk.specs.Theorems.{cursor_of}
use Rattle.writing.specs.Writing.{Writes}
use Rattle.regrown.specs.Regrown.{grown}
use Rattle.regrown.specs.ShutsOut.{ShutsOut}
use Rattle.regrown.specs.Tells.{tells}
use Rattle.attribute.specs.Attribute.{listed}
use Rattle.attribute.specs.Told as attributes
use Rattle.attribute.specs.Named.{told_named, named_told}
use Rattle.symbol.specs.declared.AdsSymbolInfo.{AdsSymbolInfo}
use Rattle.symbol.specs.declared.writer.NewSymbol.{NewSymbol}
use Rattle.symbol.specs.Symbol.{symbol_of}
use Rattle.symbol.specs.Told.{told_of, meant, IsTyped}
use Rattle.symbol.specs.Writing.{symbol_bytes, symbol_written}
use Rattle.symbols_regrown.specs.Kind.{IsFit}

-- a step that never gives a record, and one that gives a record wherever it is asked
abbrev pub SymbolsShutOut : Type 0
SymbolsShutOut = ShutsOut IsFit symbol_bytes meant cursor_of (tells (λ (r : AdsSymbolInfo). r.length) told_of)

-- where `write` answers that it wrote so many bytes, the symbol is fit, and these bytes are those that come back
pub record IsReached (n : NewSymbol) (count : ℕ) (new : List ℕ) : Type 0 where
  pub fit : IsFit n
  pub bytes : take count new ≡ symbol_bytes n

abbrev pub WrittenSymbolsFit : Type 0
WrittenSymbolsFit = (n : NewSymbol) (old new : List ℕ) (count : ℕ) → IsTyped n → Writes (symbol_written n) old new (Ok count) → IsReached n count new

-- of an entry that is read, asked by an attribute's name
pub record IsNamed (mode : Mode) (n : NewSymbol) (e : Bor (List ℕ)) (name : List ℕ) : Type 0 where
  pub back : AdsSymbolInfo
  pub is : symbol_of mode e ≡ Ok back
  pub tells : told_named (listed back.attributes.bytes back.attributes.count) name ≡ named_told (attributes.told (listed n.attributes.bytes n.attributes.count)) name

abbrev pub SymbolsByName : Type 0
SymbolsByName = (mode : Mode) (n : NewSymbol) (extra name : List ℕ) (e : Bor (List ℕ)) → IsFit n → e.now ≡ grown (symbol_bytes n) extra → length e.now ≤ limit → IsNamed mode n e name

-- Nothing that is written is left out of what is meant: two fit symbols that mean the same are written as the same bytes. A chain is a block of bytes
abbrev pub AreBytes : List ℕ → Type 0
AreBytes = All (λ b. b < 256)

abbrev pub SymbolsFaithful : Type 0
SymbolsFaithful = (n m : NewSymbol) (extra other : List ℕ) → IsFit n → IsFit m → AreBytes n.refactor_infos.bytes.now → AreBytes m.refactor_infos.bytes.now → meant n extra ≡ meant m other → symbol_bytes n ≡ symbol_bytes m
