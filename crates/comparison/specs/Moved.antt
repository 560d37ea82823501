-- docs/FORMAT.md, "The command's text", of `compare`: where from an entry on the entries of both uploads start later or earlier.
use Rattle.std.specs.Prelude.{ℕ, Option, Some, None, if◌then◌else◌}
use Rattle.pairing.specs.declared.pieces.Piece.{Piece}
use Rattle.pairing.specs.declared.pieces.Shift.{Shift}
use Rattle.pairing.specs.Pieces.{shift}
use Rattle.pairing.specs.Rows.{is_same_shift}
use Rattle.comparison.specs.declared.moved.Moved.{Moved}

-- otherwise apart than the one before
abbrev pub moved_on : Shift → ℕ → ℕ → Option Moved
moved_on before a b = if is_same_shift (shift a b) before then None else Some (record { place_in_a = a; place_in_b = b; shift = shift a b })

abbrev pub moved_in : Shift → Option Piece → Option Piece → Option Moved
moved_in before None q = None
moved_in before (Some p) None = None
moved_in before (Some p) (Some q) = moved_on before p.place q.place
