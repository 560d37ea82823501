-- docs/FORMAT.md, "Direct reading": the three flag words, read from data of any length.
use Rattle.std.specs.Prelude.{ℕ, List, Result, Ok, Err, ltb, eqb, length, if◌then◌else◌}
use Rattle.le.specs.Le.{le2, le4}
use Rattle.refusal.specs.Refusal.{limit}
use Rattle.refusal.specs.declared.Refusal.{Refusal}
use Rattle.refusal.specs.declared.Refusal.TheVariants.{TooLarge, UnexpectedLength}
use Rattle.flags.specs.declared.symbol_flags.AdsSymbolFlags.{AdsSymbolFlags}
use Rattle.flags.specs.declared.symbol_flags.AdsSymbol2Flags.{AdsSymbol2Flags}
use Rattle.flags.specs.declared.type_flags.AdsTypeFlags.{AdsTypeFlags}

-- a word from data that has to be so many bytes long: refusal 5 above the limit, then 1 at any other length
abbrev pub of_length : {A : Type 0} → ℕ → List ℕ → A → Result A Refusal
of_length needed s word =
    if ltb limit (length s) then Err (TooLarge (length s))
    else if eqb (length s) needed then Ok word
    else Err (UnexpectedLength needed (length s))

unfoldable pub symbol_flags_of : List ℕ → Result AdsSymbolFlags Refusal
symbol_flags_of s = of_length 2 s (record { 0 = le2 s 0 })

unfoldable pub symbol2_flags_of : List ℕ → Result AdsSymbol2Flags Refusal
symbol2_flags_of s = of_length 4 s (record { 0 = le4 s 0 })

unfoldable pub type_flags_of : List ℕ → Result AdsTypeFlags Refusal
type_flags_of s = of_length 4 s (record { 0 = le4 s 0 })
