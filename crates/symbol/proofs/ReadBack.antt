-- A symbol that is written is read as what was meant: proved.
use Rattle.std.proofs.Common.{◌+◌, ◌<◌, ◌≡◌, ap, ◌∙◌, ◌++◌, length, Ok, arith}
use Rattle.walk.specs.Mapped.{map_ok}
use Rattle.writing.specs.Layout.{entry_bytes}
use Rattle.writing.proofs.Entry.{length_entry}
use Rattle.symbol.specs.Told.{told_of}
use Rattle.symbol.specs.Writing.{symbol_bytes}
use Rattle.symbol.specs.ReadBack.{SymbolsReadBack}
use Rattle.symbol.proofs.Accepted.{accepted_is}
use Rattle.symbol.proofs.Header.{body_of}
use Rattle.symbol.proofs.Back.{read_is, tells}

pub symbols_read_back : SymbolsReadBack
unfolding symbol_bytes entry_bytes
symbols_read_back mode n extra e t w h small =
    let is : e.now ≡ entry_bytes (body_of n ++ extra) = h in
    let fits : length (body_of n ++ extra) + 4 < 4294967296 = omega (arith, ap length is, length_entry (body_of n ++ extra), small) in
    let a = (accepted_is n (symbol_bytes n) w).0 in
    ap (map_ok told_of) (read_is n t a extra fits e is mode) ∙ ap Ok (tells n t a extra fits e is)
