-- docs/FORMAT.md, "Symbol entries": no section refuses an entry. A refused attribute ends its list, a refused chain is dropped whole, and reading goes on.
use Rattle.std.specs.Prelude.{ℕ, ◌+◌, ◌<◌, ◌≤◌, ◌≡◌, Bool, true, false, List, Ok, Err, length, if◌then◌else◌}
use Rattle.std.specs.Borrow.{Bor}
use Rattle.le.specs.Le.{le2, has}
use Rattle.refusal.specs.declared.Mode.{Mode}
use Rattle.refusal.specs.declared.Mode.TheVariants.{Present}
use Rattle.refusal.specs.declared.Refusal.{Refusal}
use Rattle.refusal.specs.declared.Refusal.TheVariants.{TooShort, EntryLengthMismatch}
use Rattle.attribute.specs.Attribute as attribute
use Rattle.refactor.specs.Chains.{IsRefused}
use Rattle.refactor.specs.Refactor as refactor
use Rattle.symbol.specs.declared.AdsSymbolInfo.{AdsSymbolInfo}
use Rattle.symbol.specs.Symbol.{extended_word, symbol_of}
use Rattle.symbol.specs.Inside.{behind_guid, is_there}

-- how many bytes a header and three strings need, by the lengths in it, and whether they are there
abbrev pub needed : Bor (List ℕ) → ℕ
needed e = 33 + le2 e.now 24 + le2 e.now 26 + le2 e.now 28

abbrev pub HasStrings : Bor (List ℕ) → Type 0
HasStrings e = needed e ≤ length e.now

-- so many attributes are shown as are announced, or so many as stand before the first that is refused
pub data Shows (s : Bor (List ℕ)) (announced count : ℕ) : Type 0 where
  all : count ≡ announced → Shows s announced count
  up_to : (why : Refusal) → count < announced → attribute.first_of (attribute.after_listed s count) ≡ Err why → Shows s announced count

abbrev pub announced : Bor (List ℕ) → AdsSymbolInfo → ℕ
announced e r = if is_there e 0x1000 (behind_guid r) 2 then le2 e.now (behind_guid r) else 0

-- no records, and nothing moved
pub record NoChain (r : AdsSymbolInfo) : Type 0 where
  pub none : r.refactor_infos.count ≡ 0
  pub unread : r.unread ≡ r.refactor_infos.bytes

abbrev pub is_flagged : AdsSymbolInfo → Bool
is_flagged r = has (extended_word r.extended_flags) 0x0004

pub record IsReadOn (e : Bor (List ℕ)) (r : AdsSymbolInfo) : Type 0 where
  pub attributes : Shows r.attributes.bytes (announced e r) r.attributes.count
  pub chain : is_flagged r ≡ true → (count : ℕ) (rest : Bor (List ℕ)) → refactor.chain_of r.refactor_infos.bytes ≡ Ok (count, rest) → (r.refactor_infos.count ≡ count) × (r.unread ≡ rest)
  -- one of its records is met and refused
  pub dropped : (why : Refusal) → IsRefused r.refactor_infos.bytes why → NoChain r
  pub unflagged : is_flagged r ≡ false → NoChain r

-- in the present mode an entry is read exactly where its strings are there, in either as far as its sections go. Without a header it is refused with 2, and with a
-- header and without its strings with 3, in either mode, whatever its end bytes are
pub record ReadsOn (e : Bor (List ℕ)) : Type 0 where
  pub no_header : (mode : Mode) → length e.now < 30 → symbol_of mode e ≡ Err (TooShort 30 (length e.now))
  pub no_strings : (mode : Mode) → 30 ≤ length e.now → length e.now < needed e → symbol_of mode e ≡ Err (EntryLengthMismatch (needed e) (length e.now))
  pub accepted : HasStrings e → (r : AdsSymbolInfo) × (symbol_of Present e ≡ Ok r)
  pub only : (mode : Mode) (r : AdsSymbolInfo) → symbol_of mode e ≡ Ok r → HasStrings e × IsReadOn e r

abbrev pub SymbolsReadOn : Type 0
SymbolsReadOn = (e : Bor (List ℕ)) → ReadsOn e
