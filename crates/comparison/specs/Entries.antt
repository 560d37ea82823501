-- docs/FORMAT.md, "The command's text", of `compare`: what is told of an entry that both uploads have, and in which rows.
use Rattle.std.specs.Prelude.{ℕ, List, Option, Some, None, Result, Ok, Err}
use Rattle.std.specs.Borrow.{Bor}
use Rattle.refusal.specs.declared.Mode.{Mode}
use Rattle.refusal.specs.declared.Refusal.{Refusal}
use Rattle.symbol.specs.Symbol.{symbol_of}
use Rattle.symbol.specs.declared.AdsSymbolInfo.{AdsSymbolInfo}
use Rattle.differences.specs.declared.Difference.{Difference}
use Rattle.differences.specs.declared.Entry.{Entry}
use Rattle.differences.specs.Differences.{differences_of}
use Rattle.pairing.specs.declared.pieces.Piece.{Piece}
use Rattle.pairing.specs.declared.pieces.Shift.{Shift}
use Rattle.pairing.specs.declared.pieces.Shift.TheVariants.{Later}
use Rattle.pairing.specs.declared.rows.Row.{Row}
use Rattle.pairing.specs.Rows.{shift_in}

-- what was read of a piece, or why nothing was
abbrev pub answer_of : Mode → Bor (List ℕ) → Result (Bor (List ℕ)) Refusal → Result AdsSymbolInfo Refusal
answer_of mode e (Ok name) = symbol_of mode e
answer_of mode e (Err why) = Err why

abbrev pub entry_of : Mode → Piece → Entry
entry_of mode p = record { bytes = p.bytes; answer = answer_of mode p.bytes p.name }

abbrev pub told_of_both : Mode → Piece → Piece → List Difference
told_of_both mode p q = differences_of (entry_of mode p) (entry_of mode q)

-- before the first entry
abbrev pub together : Shift
together = Later 0

-- how far apart an entry stands, behind others
abbrev pub shift_else : Shift → Option Shift → Shift
shift_else before None = before
shift_else before (Some s) = s

abbrev pub shift_behind : Shift → Row → Shift
shift_behind before r = shift_else before (shift_in r.a r.b)
