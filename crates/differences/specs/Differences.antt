-- docs/FORMAT.md, "The command's text", of `compare`: what is told of two entries that differ.
use Rattle.std.specs.Prelude.{ℕ, List, [], ◌∷◌, None, Result, Ok, Err, if◌then◌else◌}
use Rattle.std.specs.Borrow.{Bor}
use Rattle.refusal.specs.declared.Refusal.{Refusal}
use Rattle.symbol.specs.declared.AdsSymbolInfo.{AdsSymbolInfo}
use Rattle.sections.specs.Sections.{sections_of}
use Rattle.values.specs.Alike.{are_refused_alike}
use Rattle.values.specs.declared.Value.{Value}
use Rattle.values.specs.declared.Value.TheVariants.{Absent, Refused}
use Rattle.differences.specs.declared.Difference.{Difference}
use Rattle.differences.specs.declared.Entry.{Entry}
use Rattle.differences.specs.First.{first_byte}
use Rattle.differences.specs.Parts.{in_parts}

unfoldable pub in_symbols : Bor (List ℕ) → AdsSymbolInfo → Bor (List ℕ) → AdsSymbolInfo → List Difference
in_symbols e r f s = in_parts r s (sections_of e r) (sections_of f s)

abbrev pub reason : Result AdsSymbolInfo Refusal → Value
reason (Ok r) = Absent
reason (Err why) = Refused why

-- of no part
abbrev pub refusals_told : Value × Value → Difference
refusals_told v = record { part = None; in_a = v.0; in_b = v.1 }

-- why, or where both are refused alike, the first byte that differs
abbrev pub in_refusals : List ℕ → Result AdsSymbolInfo Refusal → List ℕ → Result AdsSymbolInfo Refusal → Difference
in_refusals e (Ok r) f answer = refusals_told (Absent, reason answer)
in_refusals e (Err why) f (Ok s) = refusals_told (Refused why, Absent)
in_refusals e (Err why) f (Err other) = refusals_told (if are_refused_alike why other then first_byte 0 e 0 f else (Refused why, Refused other))

abbrev pub differences_by : Bor (List ℕ) → Result AdsSymbolInfo Refusal → Bor (List ℕ) → Result AdsSymbolInfo Refusal → List Difference
differences_by e (Ok r) f (Ok s) = in_symbols e r f s
differences_by e (Ok r) f (Err why) = in_refusals e.now (Ok r) f.now (Err why) ∷ []
differences_by e (Err why) f answer = in_refusals e.now (Err why) f.now answer ∷ []

abbrev pub differences_of : Entry → Entry → List Difference
differences_of a b = differences_by a.bytes a.answer b.bytes b.answer
