-- docs/FORMAT.md, "Writing": which symbols are written, by what they hold and not by what is tested.
use Rattle.std.specs.Prelude.{ℕ, ◌<◌, ◌≤◌, ◌≡◌, false, List, Ok, length}
use Rattle.std.specs.List.{All}
use Rattle.le.specs.Le.{has}
use Rattle.refusal.specs.Refusal.{limit}
use Rattle.attribute.specs.Told as attributes
use Rattle.attribute.specs.Fit as attribute
use Rattle.refactor.specs.Refactor.{follower}
use Rattle.refactor.specs.Fit as refactor
use Rattle.writing.specs.Checks.{IsShort}
use Rattle.symbol.specs.declared.writer.NewSymbol.{NewSymbol}
use Rattle.symbol.specs.Told.{IsTyped}
use Rattle.symbol.specs.Writing.{symbol_bytes, symbol_written}
use Rattle.symbol.specs.Barred.{size_of, GuidAgrees, AttributesAgree, ExtendedAgree, ChainAgrees}

-- so many attributes one after another, each within its length fields
pub record AreAttributes (count : ℕ) (block : List ℕ) : Type 0 where
  pub all : List attributes.Told
  pub long : length all ≡ count
  pub fit : All attribute.Fits all
  pub bytes : block ≡ attribute.block_of all

-- so many refactor records one after another, each within its length field. Each but the last has a follower, and the last one's count has not the follower's bit
pub record AreRecords (count : ℕ) (block : List ℕ) : Type 0 where
  pub all : List refactor.Former
  pub long : length all ≡ count
  pub fit : All refactor.Fits all
  pub last : has (refactor.last_count all) follower ≡ false
  pub bytes : block ≡ refactor.chain_bytes all

pub record IsWritable (n : NewSymbol) : Type 0 where
  pub short : IsShort n.name.now n.type_name.now n.comment.now
  pub few : n.attributes.count ≤ 65535
  pub attributes : AreAttributes n.attributes.count n.attributes.bytes.now
  pub refactor_infos : AreRecords n.refactor_infos.count n.refactor_infos.bytes.now
  -- each section is flagged where it is given, a GUID and a chain also given where they are flagged
  pub guid_flagged : GuidAgrees n
  pub attributes_flagged : AttributesAgree n
  pub extended_flagged : ExtendedAgree n
  pub chain_flagged : ChainAgrees n
  pub within : size_of n ≤ limit

-- what a symbol's types say of its blocks
abbrev pub HoldsBytes : List ℕ → Type 0
HoldsBytes = All (λ b. b < 256)

pub record AreBytes (n : NewSymbol) : Type 0 where
  pub attributes : HoldsBytes n.attributes.bytes.now
  pub refactor_infos : HoldsBytes n.refactor_infos.bytes.now

-- these are written, each as so many bytes, and no others are
pub record IsWritten (n : NewSymbol) : Type 0 where
  pub written : IsWritable n → (symbol_written n ≡ Ok (symbol_bytes n)) × (length (symbol_bytes n) ≡ size_of n)
  pub only : (bytes : List ℕ) → symbol_written n ≡ Ok bytes → IsWritable n × (bytes ≡ symbol_bytes n)

abbrev pub SymbolsWritten : Type 0
SymbolsWritten = (n : NewSymbol) → IsTyped n → AreBytes n → IsWritten n
