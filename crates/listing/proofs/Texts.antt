-- The text of a line, by its digits.
use Rattle.std.proofs.Common.{◌≡◌, ℕ, ◌<◌, ◌≤◌, ◌++◌, ◌⊎◌, inl, inr, List, length, ap, ◌∙◌, Bor}
use Rattle.std.specs.Prelude.{ltb, true, false, codes, Ok, Err}
use Rattle.std.specs.List.{flat_map}
use Rattle.std.specs.declared.result.Result.{Result}
use borrow.Author.Tests.{lt-ltb, le-ltb}
use Rattle.hex.specs.Hex.{decode_of}
use Rattle.hex.specs.declared.error.FromHexError.{FromHexError}
use Rattle.hex.specs.declared.error.FromHexError.TheVariants.{OutOfMemory}
use Rattle.refusal.specs.Refusal.{figures_of}
use Rattle.refusal.specs.declared.Refusal.TheVariants.{BadHexadecimal}
use Rattle.walk.specs.Pieces.{pieces}
use Rattle.symbol.specs.Symbol.{symbol_of}
use Rattle.listing.specs.Row.{refusal_row}
use Rattle.refusal.specs.declared.Mode.{Mode}
use Rattle.listing.proofs.Anywhere.{rows_moved}
use Rattle.listing.specs.Listing.{longest, row, rows, ok_of, line_text}

pub long_text : (mode : Mode) (line : ℕ) (digits : List ℕ) → longest < length digits → line_text mode line digits ≡ refusal_row line 0 (figures_of BadHexadecimal) ++ codes "\n"
unfolding line_text
long_text mode line digits h = let e : ltb longest (length digits) ≡ true = lt-ltb longest (length digits) h in simp e

pub good_text : (mode : Mode) (line : ℕ) (digits : List ℕ) (s : Bor (List ℕ)) → length digits ≤ longest → decode_of digits ≡ Ok s.now → line_text mode line digits ≡ flat_map (row line) (pieces (symbol_of mode) s)
unfolding line_text
good_text mode line digits s h d =
    let e : ltb longest (length digits) ≡ false = le-ltb longest (length digits) h in
    simp e (ap (λ (r : Result (List ℕ) FromHexError). rows mode line (ok_of r)) d ∙ rows_moved mode line (0, 0) s)

pub bad_text : (mode : Mode) (line : ℕ) (digits : List ℕ) (why : FromHexError) → length digits ≤ longest → decode_of digits ≡ Err why → line_text mode line digits ≡ refusal_row line 0 (figures_of BadHexadecimal) ++ codes "\n"
unfolding line_text
bad_text mode line digits why h d = let e : ltb longest (length digits) ≡ false = le-ltb longest (length digits) h in simp e (ap (λ (r : Result (List ℕ) FromHexError). rows mode line (ok_of r)) d)

pub bad_case : (mode : Mode) (line : ℕ) (digits : List ℕ) (why : FromHexError) → length digits ≤ longest → (why ≡ OutOfMemory → ⊥) → (why ≡ OutOfMemory) ⊎ (decode_of digits ≡ Err why)
    → line_text mode line digits ≡ refusal_row line 0 (figures_of BadHexadecimal) ++ codes "\n"
bad_case mode line digits why h other c = elim c [
  | inl e ↦ absurd (other e)
  | inr d ↦ bad_text mode line digits why h d
]
