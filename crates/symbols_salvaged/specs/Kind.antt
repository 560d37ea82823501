-- Symbols as a kind of entry that is salvaged. docs/FORMAT.md, "Walking" and "Modes".
use Rattle.std.proofs.Common.{ℕ, ◌≡◌, refl, List, Err, Bor}
use Rattle.refusal.specs.Refusal.{figures_of}
use Rattle.refusal.specs.declared.Mode.{Mode}
use Rattle.refusal.specs.declared.Mode.TheVariants.{Checked}
use Rattle.refusal.specs.declared.Refusal.{Refusal}
use Rattle.walk.specs.Mapped.{map_ok}
use Rattle.symbol.specs.Symbol.{symbol_of}
use Rattle.symbol.specs.Told.{told_of}
use Rattle.symbol.proofs.Anywhere.{symbols_anywhere}
use Rattle.symbol.proofs.Refused.{refused_by}

-- the numbers that a step within an upload of no more than the limit is refused with; 16 only in the checked mode
pub data Reason (mode : Mode) : ℕ → Type 0 where
  too_short : Reason mode 2
  mismatch : Reason mode 3
  end_byte : mode ≡ Checked → Reason mode 16

-- a symbol tells the same wherever it lies
pub alike : (mode : Mode) (e f : Bor (List ℕ)) → e.now ≡ f.now → map_ok told_of (symbol_of mode e) ≡ map_ok told_of (symbol_of mode f)
alike = symbols_anywhere

pub own : (mode : Mode) (e : Bor (List ℕ)) (why : Refusal) → symbol_of mode e ≡ Err why → Reason mode (figures_of why).number
own mode e why h = refused_by e why Reason (λ m. too_short) (λ m. mismatch) (end_byte refl) mode h
