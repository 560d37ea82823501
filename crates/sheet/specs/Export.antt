-- docs/FORMAT.md, "Sheet": which symbols a sheet holds, and the sheet of an upload.
use Rattle.std.specs.Prelude.{ℕ, ◌+◌, ◌-◌, ◌≤◌, Bool, true, false, List, [], ◌∷◌, Result, Ok, Err, eqb, ltb, length, is_ok, if◌then◌else◌}
use Rattle.std.specs.List.{flat_map}
use Rattle.std.specs.Borrow.{Bor}
use Rattle.le.specs.Le.{has, part}
use Rattle.part.specs.Outcome.{and_then}
use Rattle.refusal.specs.Refusal.{limit}
use Rattle.refusal.specs.declared.Mode.TheVariants.{Present}
use Rattle.refusal.specs.declared.Refusal.{Refusal}
use Rattle.refusal.specs.declared.Refusal.TheVariants.{TooLarge, NotInSheet}
use Rattle.refusal.specs.EndBytes.{ended}
use Rattle.layout.specs.Layout.{string_ends}
use Rattle.walk.specs.declared.Piece.{Piece}
use Rattle.walk.specs.Pieces.{pieces}
use Rattle.symbol.specs.declared.AdsSymbolInfo.{AdsSymbolInfo}
use Rattle.symbol.specs.Symbol.{symbol_of}
use Rattle.sheet.specs.Cells.{Row, row_text, sheet_text}

-- strings within the limit, as those of an upload within it are
pub record HasShortStrings (r : AdsSymbolInfo) : Type 0 where
  pub name : length r.name.now ≤ limit
  pub type_name : length r.type_name.now ≤ limit
  pub comment : length r.comment.now ≤ limit

abbrev pub row_of : AdsSymbolInfo → Row
row_of r =
    record {
      index_group = r.index_group.0;
      index_offset = r.index_offset.0;
      size = r.size;
      data_type_id = r.data_type_id;
      flags = r.flags.0;
      high = r.high;
      name = r.name.now;
      type_name = r.type_name.now;
      comment = r.comment.now;
    }

-- nothing is unread, and the strings' end bytes in the entry are 0
abbrev pub is_whole : List ℕ → AdsSymbolInfo → Bool
is_whole e r = if eqb (length r.unread.now) 0 then is_ok (ended (string_ends e 30 (length r.name.now) (length r.type_name.now) (length r.comment.now))) else false

-- an entry with flagged sections, unread bytes or an end byte that is not 0 is not for a sheet: 17 with the first that applies
unfoldable pub admitted : ℕ → List ℕ → AdsSymbolInfo → Result Unit Refusal
admitted k e r =
    if has r.flags.0 0x0008 then Err (NotInSheet k 1)
    else if has r.flags.0 0x1000 then Err (NotInSheet k 2)
    else if has r.flags.0 0x8000 then Err (NotInSheet k 3)
    else if is_whole e r then Ok tt
    else Err (NotInSheet k 5)

-- the row of a piece of an upload, the k-th
unfoldable pub piece_row : List ℕ → ℕ → Piece AdsSymbolInfo → Result Row Refusal
piece_row s k p = and_then p.answer (λ r. and_then (admitted k (part s p.start (p.end - p.start)) r) (λ _. Ok (row_of r)))

-- the rows of pieces from the k-th on, or the first refusal
unfoldable pub rows_from : List ℕ → ℕ → List (Piece AdsSymbolInfo) → Result (List Row) Refusal
rows_from s k [] = Ok []
rows_from s k (p ∷ more) = and_then (piece_row s k p) (λ row. and_then (rows_from s (k + 1) more) (λ rows. Ok (row ∷ rows)))

unfoldable pub rows_of : Bor (List ℕ) → Result (List Row) Refusal
rows_of s = rows_from s.now 0 (pieces (symbol_of Present) s)

-- the text of the rows of those that are accepted
abbrev pub accepted_text : Result AdsSymbolInfo Refusal → List ℕ
accepted_text (Ok r) = row_text (row_of r)
accepted_text (Err why) = []

unfoldable pub pieces_text : List (Piece AdsSymbolInfo) → List ℕ
pieces_text ps = flat_map (λ p. accepted_text p.answer) ps

-- what exporting writes: 5, then the rows' refusals; 6 is the writer's
unfoldable pub exporting : Bor (List ℕ) → Result (List ℕ) Refusal
exporting s = if ltb limit (length s.now) then Err (TooLarge (length s.now)) else and_then (rows_of s) (λ rows. Ok (sheet_text rows))
