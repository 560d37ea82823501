-- docs/FORMAT.md, "Walking": what a walk asks of a kind of entry, of symbols.
use Rattle.std.proofs.Common.{ℕ, ◌<◌, ◌≤◌, ◌≡◌, List, length, arith, Bor}
use Rattle.std.specs.Prelude.{false, Ok, Err}
use borrow.Author.Tests.{lt-ltb}
use Rattle.refusal.specs.declared.Mode.{Mode}
use Rattle.refusal.specs.declared.Mode.TheVariants.{Present, Checked}
use Rattle.refusal.specs.declared.Refusal.{Refusal}
use Rattle.refusal.specs.declared.Refusal.TheVariants.{TooShort}
use Rattle.walk.specs.Zero.{is_zero}
use Rattle.walk.proofs.Own.{ended_own}
use Rattle.symbol.specs.declared.AdsSymbolInfo.{AdsSymbolInfo}
use Rattle.symbol.specs.Symbol.{symbol_ended, ended_symbol, with_strings, symbol_of}

pub four : 4 < 30
four = omega arith

pub long : (mode : Mode) (e : Bor (List ℕ)) (r : AdsSymbolInfo) → symbol_of mode e ≡ Ok r → r.length ≡ length e.now
unfolding symbol_of ended_symbol with_strings
long mode e r h = grind arith

pub room : (mode : Mode) (e : Bor (List ℕ)) (r : AdsSymbolInfo) → symbol_of mode e ≡ Ok r → 30 ≤ length e.now
unfolding symbol_of
room mode e r h = grind arith

pub short : (mode : Mode) (e : Bor (List ℕ)) → length e.now < 30 → symbol_of mode e ≡ Err (TooShort 30 (length e.now))
unfolding symbol_of
short mode e h = simp (lt-ltb (length e.now) 30 h)

-- no refusal of the reader is 10
tested_own : (e : Bor (List ℕ)) (r : AdsSymbolInfo) (why : Refusal) → symbol_ended e r ≡ Err why → is_zero why ≡ false
unfolding symbol_ended
tested_own e r why h = grind (arith, ended_own)

ended_symbol_own : (mode : Mode) (e : Bor (List ℕ)) (r : AdsSymbolInfo) (why : Refusal) → ended_symbol mode e r ≡ Err why → is_zero why ≡ false
unfolding ended_symbol
ended_symbol_own Present e r why h = cc
ended_symbol_own Checked e r why h = grind (arith, tested_own)

pub never_zero : (mode : Mode) (e : Bor (List ℕ)) (why : Refusal) → symbol_of mode e ≡ Err why → is_zero why ≡ false
unfolding symbol_of
never_zero mode e why h = grind (arith, ended_symbol_own)
