-- docs/FORMAT.md, "The command's text", of `compare`: the pieces of an upload, and by what they are known.
use Rattle.std.specs.Prelude.{ℕ, ◌-◌, List, ◌∷◌, Result, Ok, Err, length, map, min, nat_lt, if◌then◌else◌}
use Rattle.std.specs.Borrow.{Bor}
use Rattle.std.specs.Ordering.{nat_cmp}
use Rattle.std.specs.Cmp.Lexicographic.{slice_cmp}
use Rattle.std.specs.declared.cmp.Ordering.{Ordering}
use Rattle.names.specs.Names.{folded}
use Rattle.part.specs.Slice.{part}
use Rattle.refusal.specs.declared.Refusal.{Refusal}
use Rattle.walk.specs.Mapped.{map_ok}
use Rattle.walk.specs.Pieces.{pieces}
use Rattle.walk.specs.declared.Piece as walk
use Rattle.symbol.specs.Symbol.{symbol_of}
use Rattle.symbol.specs.declared.AdsSymbolInfo.{AdsSymbolInfo}
use Rattle.report.specs.declared.Upload.{Upload}
use Rattle.pairing.specs.declared.pieces.Piece.{Piece}
use Rattle.pairing.specs.declared.pieces.Shift.{Shift}
use Rattle.pairing.specs.declared.pieces.Shift.TheVariants.{Later, Earlier}

abbrev pub bytes_between : Bor (List ℕ) → ℕ → ℕ → Result (Bor (List ℕ)) Refusal → Piece
bytes_between s place end name = record { place = place; bytes = part s place (end - place); name = name }

-- from where a step of the walk begins up to the next
unfoldable pub piece_of : Bor (List ℕ) → walk.Piece AdsSymbolInfo → Piece
piece_of s p = bytes_between s (min p.start (min p.end (length s.now))) (min p.end (length s.now)) (map_ok (λ r. r.name) p.answer)

unfoldable pub pieces_of : Upload → List Piece
pieces_of u = map (piece_of u.bytes) (pieces (symbol_of u.mode) u.bytes)

-- a piece is known by its name, A to Z equal to a to z, or where it is refused by its bytes; those that have a name come first
abbrev pub known : Result (Bor (List ℕ)) Refusal → List ℕ → List ℕ
known (Ok name) bytes = 0 ∷ folded name.now
known (Err why) bytes = 1 ∷ bytes

abbrev pub known_by : Piece → List ℕ
known_by p = known p.name p.bytes.now

unfoldable pub by_name : Piece → Piece → Ordering
by_name p q = slice_cmp nat_cmp (known_by p) (known_by q)

-- from a place in A to a place in B
abbrev pub shift : ℕ → ℕ → Shift
shift a b = if nat_lt b a then Earlier (a - b) else Later (b - a)
