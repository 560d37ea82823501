-- docs/FORMAT.md, "Sheet": the cells of a row by its bytes, and the number of a cell.
use Rattle.std.specs.Prelude.{ℕ, ◌<◌, ◌≤◌, ◌≡◌, ◌↔◌, List, [], ◌∷◌, ◌++◌, Some, length, replicate, decimal}
use Rattle.std.specs.List.{All}
use Rattle.std.specs.Borrow.{Bor}
use Rattle.sheet.specs.CellsMeant.{IsPlain}
use Rattle.sheet_rows.specs.declared.cells.Cells.{Cells}
use Rattle.sheet_rows.specs.Cells.{cells_of}
use Rattle.sheet_rows.specs.Numbers.{number_of}

-- bytes in which quotes stand by twos
pub data IsPaired : List ℕ → Type 0 where
  none : IsPaired []
  quotes : {s : List ℕ} → IsPaired s → IsPaired (34 ∷ 34 ∷ s)
  other : {b : ℕ} {s : List ℕ} → (b ≡ 34 → ⊥) → IsPaired s → IsPaired (b ∷ s)

-- a cell's text, and the cell as it stands in a sheet
pub data IsCell (text : List ℕ) : List ℕ → Type 0 where
  plain : All IsPlain text → IsCell text text
  quoted : IsPaired text → IsCell text (34 ∷ (text ++ (34 ∷ [])))

-- the end of a row, with what is behind it
pub data IsEnd : List ℕ → List ℕ → Type 0 where
  crlf : {rest : List ℕ} → IsEnd (13 ∷ 10 ∷ rest) rest
  lf : {rest : List ℕ} → IsEnd (10 ∷ rest) rest
  last : IsEnd [] []

-- the texts of the cells of a row, the row with what is behind it, and this
pub data IsRow : List (List ℕ) → List ℕ → List ℕ → Type 0 where
  ended : {text cell end rest : List ℕ} → IsCell text cell → IsEnd end rest → IsRow (text ∷ []) (cell ++ end) rest
  comma : {text cell more rest : List ℕ} {texts : List (List ℕ)} → IsCell text cell → IsRow texts more rest → IsRow (text ∷ texts) (cell ++ (44 ∷ more)) rest

abbrev pub texts_of : Cells → List (List ℕ)
texts_of c =
    c.places.first.now ∷ c.places.second.now ∷ c.places.third.now
    ∷ c.kinds.first.now ∷ c.kinds.second.now ∷ c.kinds.third.now
    ∷ c.strings.first.now ∷ c.strings.second.now ∷ c.strings.third.now ∷ []

-- of bytes that begin with a row of nine cells these are read, and of no others any
pub record RowsMeant : Type 0 where
  pub row : (s : Bor (List ℕ)) (c : Cells) → cells_of s ≡ Some c → IsRow (texts_of c) s.now c.strings.rest.now
  pub only : (s : Bor (List ℕ)) (texts : List (List ℕ)) (rest : List ℕ) → length texts ≡ 9 → IsRow texts s.now rest
      → (c : Cells) × (cells_of s ≡ Some c) × (texts_of c ≡ texts) × (c.strings.rest.now ≡ rest)

-- a number is zeros, as many as there are, and its figures
pub record IsNumber (text : List ℕ) (n : ℕ) : Type 0 where
  pub zeros : ℕ
  pub is : text ≡ replicate zeros 48 ++ decimal n

-- a cell has a number, up to some most, exactly where it is one
abbrev pub NumbersMeant : Type 0
NumbersMeant = (most n : ℕ) (text : List ℕ) → most < 4294967296 → (number_of most text ≡ Some n) ↔ ((n ≤ most) × IsNumber text n)
