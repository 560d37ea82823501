-- docs/FORMAT.md, "Fit records": symbols that are written, as a kind of entry that comes back.
use Rattle.std.proofs.Common.{ℕ, ◌+◌, ◌<◌, ◌≤◌, ◌≡◌, ap, ◌∙◌, List, ◌++◌, length, arith, Bor}
use Rattle.std.specs.Prelude.{Ok}
use Rattle.refusal.specs.Refusal.{limit}
use Rattle.refusal.specs.declared.Mode.{Mode}
use Rattle.writing.specs.Layout.{entry_bytes}
use Rattle.writing.proofs.Entry.{length_entry}
use Rattle.regrown.specs.Regrown.{grown}
use Rattle.regrown.proofs.Grown.{grown_entry}
use Rattle.regrown.specs.Tells.{ReadsBack}
use Rattle.symbol.specs.declared.writer.NewSymbol.{NewSymbol}
use Rattle.symbol.specs.Symbol.{symbol_of}
use Rattle.symbol.specs.Told.{told_of, meant, IsTyped}
use Rattle.symbol.specs.Writing.{symbol_bytes, symbol_written}
use Rattle.symbol.proofs.Accepted.{accepted_is}
use Rattle.symbol.proofs.Header.{body_of}
use Rattle.symbol.proofs.Back as back

-- every symbol that the symbol writer accepts
pub record IsFit (n : NewSymbol) : Type 0 where
  pub typed : IsTyped n
  pub accepted : symbol_written n ≡ Ok (symbol_bytes n)

-- the bytes that are written, grown, are an entry with the bytes added
pub grown_symbol : (n : NewSymbol) (extra : List ℕ) → grown (symbol_bytes n) extra ≡ entry_bytes (body_of n ++ extra)
unfolding symbol_bytes
grown_symbol n extra = grown_entry (body_of n) extra

pub reads_back : (mode : Mode) (n : NewSymbol) (extra : List ℕ) (e : Bor (List ℕ)) → IsFit n → e.now ≡ grown (symbol_bytes n) extra → length e.now ≤ limit → ReadsBack (symbol_of mode) told_of e (meant n extra)
reads_back mode n extra e f h small =
    let is : e.now ≡ entry_bytes (body_of n ++ extra) = h ∙ grown_symbol n extra in
    let fits : length (body_of n ++ extra) + 4 < 4294967296 = omega (arith, ap length is, length_entry (body_of n ++ extra)) in
    let a = (accepted_is n (symbol_bytes n) f.accepted).0 in
    record { back = back.back n f.typed a extra fits e is; is = back.read_is n f.typed a extra fits e is mode; tells = back.tells n f.typed a extra fits e is }
