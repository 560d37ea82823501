-- What is listed of an upload does not depend on where it lies in memory.
use Rattle.std.proofs.Common.{◌≡◌, ℕ, zero, suc, Bool, true, false, List, [], ◌∷◌, ◌++◌, length, refl, sym, ap, ◌∙◌, Bor}
use Rattle.std.specs.Prelude.{Result, Ok, Err, leb, codes, if◌then◌else◌}
use Rattle.std.specs.List.{flat_map}
use Rattle.part.specs.Slice.{part}
use Rattle.part.specs.Outcome.{and_then}
use Rattle.refusal.specs.declared.Mode.{Mode}
use Rattle.refusal.specs.declared.Refusal.{Refusal}
use Rattle.entry.specs.Entry.{claim_at}
use Rattle.entry.specs.Walk.{stands}
use Rattle.walk.specs.Mapped.{map_ok}
use Rattle.walk.specs.Pieces.{piece_at, pieces_from, claim_there}
use Rattle.symbol.specs.declared.AdsSymbolInfo.{AdsSymbolInfo}
use Rattle.symbol.specs.Symbol.{symbol_of}
use Rattle.attribute.proofs.Anywhere.{moved, on}
use Rattle.symbol.proofs.Anywhere.{still, read_still}
use Rattle.listing.specs.Row.{entry_row}
use Rattle.listing.specs.Listing.{answer_row, row}

-- the row of a symbol that lies elsewhere is its row
row_still : (line start : ℕ) (t : Result AdsSymbolInfo Refusal) → answer_row line start (map_ok still t) ≡ answer_row line start t
unfolding entry_row
row_still line start (Ok r) = refl
row_still line start (Err why) = refl

pub row_of : (mode : Mode) (line start : ℕ) (m : ℕ × ℕ) (e : Bor (List ℕ)) → answer_row line start (symbol_of mode (moved m e)) ≡ answer_row line start (symbol_of mode e)
row_of mode line start m e = sym (row_still line start (symbol_of mode (moved m e))) ∙ ap (answer_row line start) (read_still mode m e) ∙ row_still line start (symbol_of mode e)

module _ (mode : Mode) (line : ℕ) (m : ℕ × ℕ) (s : Bor (List ℕ)) where
  claimed_row : (at : ℕ) (t : Result ℕ Refusal) → answer_row line at (and_then t (λ size. symbol_of mode (part (moved m s) at size))) ≡ answer_row line at (and_then t (λ size. symbol_of mode (part s at size)))
  claimed_row at (Ok size) = row_of mode line at (on m at) (part s at size)
  claimed_row at (Err why) = refl

  piece_row : (at : ℕ) (b : Bool) → stands s.now at ≡ b → row line (piece_at (symbol_of mode) (moved m s) at) ≡ row line (piece_at (symbol_of mode) s at)
  unfolding row piece_at
  piece_row at true p = rw p refl
  piece_row at false p = rw p (ap (λ (l : List ℕ). l ++ codes "\n") (claimed_row at (claim_there (claim_at s.now at).size)))

  piece_end : (at : ℕ) (b : Bool) → stands s.now at ≡ b → (piece_at (symbol_of mode) (moved m s) at).end ≡ (piece_at (symbol_of mode) s at).end
  unfolding piece_at
  piece_end at true p = rw p refl
  piece_end at false p = rw p refl

  rows_from : (n at : ℕ) → flat_map (row line) (pieces_from (symbol_of mode) (moved m s) at n) ≡ flat_map (row line) (pieces_from (symbol_of mode) s at n)
  unfolding pieces_from
  rows_from zero at = refl
  rows_from (suc n) at = by (rows_from n (piece_at (symbol_of mode) s at).end) (leb (length s.now) at)
    where
      by : flat_map (row line) (pieces_from (symbol_of mode) (moved m s) (piece_at (symbol_of mode) s at).end n) ≡ flat_map (row line) (pieces_from (symbol_of mode) s (piece_at (symbol_of mode) s at).end n) → (b : Bool)
          → flat_map (row line) (if b then [] else piece_at (symbol_of mode) (moved m s) at ∷ pieces_from (symbol_of mode) (moved m s) (piece_at (symbol_of mode) (moved m s) at).end n)
          ≡ flat_map (row line) (if b then [] else piece_at (symbol_of mode) s at ∷ pieces_from (symbol_of mode) s (piece_at (symbol_of mode) s at).end n)
      by ih true = refl
      by ih false = rw (piece_row at (stands s.now at) refl, piece_end at (stands s.now at) refl) (ap (λ (l : List ℕ). row line (piece_at (symbol_of mode) s at) ++ l) ih)

  -- the rows of an upload, wherever it lies
  pub rows_moved : flat_map (row line) (pieces_from (symbol_of mode) (moved m s) 0 (length s.now)) ≡ flat_map (row line) (pieces_from (symbol_of mode) s 0 (length s.now))
  rows_moved = rows_from (length s.now) 0
