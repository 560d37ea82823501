-- docs/FORMAT.md, "Sheet": the cells of a row, and where it ends.
use Rattle.std.specs.Prelude.{ℕ, ◌+◌, List, [], ◌∷◌, Option, Some, None, eqb, length, drop, get_or, if◌then◌else◌}
use Rattle.std.specs.Option.{option_map}
use Rattle.std.specs.Borrow.{Bor}
use Rattle.part.specs.Slice.{part, after}
use Rattle.sheet.specs.Cells.{is_special}
use Rattle.sheet_rows.specs.declared.cells.Cell.{Cell}
use Rattle.sheet_rows.specs.declared.cells.Three.{Three}
use Rattle.sheet_rows.specs.declared.cells.Cells.{Cells}
use Rattle.sheet_rows.specs.declared.cells.End.{End}
use Rattle.sheet_rows.specs.declared.cells.End.TheVariants.{Comma, Row}

-- the next step, unless this one gave nothing
abbrev pub if_some : {A B : Type 0} → Option A → (A → Option B) → Option B
if_some (Some x) next = next x
if_some None next = None

-- the bytes before the first comma, quote, CR or LF
unfoldable pub plain_length : List ℕ → ℕ
plain_length [] = 0
plain_length (b ∷ s) = if is_special b then 0 else plain_length s + 1

abbrev pub behind : ℕ → Option ℕ → Option ℕ
behind n o = option_map (λ k. n + k) o

-- the bytes before the quote that closes a cell: the first that is not one of two
unfoldable pub quoted_length : List ℕ → Option ℕ
quoted_length [] = None
quoted_length (b ∷ []) = if eqb b 34 then Some 0 else None
quoted_length (b ∷ c ∷ s) = if eqb b 34 then if eqb c 34 then behind 2 (quoted_length s) else Some 0 else behind 1 (quoted_length (c ∷ s))

-- a cell stands between quotes where it begins with one
abbrev pub quoted_cell : Bor (List ℕ) → Option Cell
quoted_cell s = option_map (λ n. record { text = part s 1 n; rest = after s (n + 2) }) (quoted_length (drop 1 s.now))

abbrev pub plain_cell : Bor (List ℕ) → Cell
plain_cell s = record { text = part s 0 (plain_length s.now); rest = after s (plain_length s.now) }

unfoldable pub cell_of : Bor (List ℕ) → Option Cell
cell_of s = if eqb (get_or s.now 0 0) 34 then quoted_cell s else Some (plain_cell s)

-- what is behind a comma; and behind the end of a row, which is CRLF, LF or the end of all
abbrev pub feed_at : Bor (List ℕ) → ℕ → Option (Bor (List ℕ))
feed_at s at = if eqb (get_or s.now at 0) 10 then Some (after s (at + 1)) else None

unfoldable pub behind_end : End → Bor (List ℕ) → Option (Bor (List ℕ))
behind_end Comma s = if eqb (get_or s.now 0 0) 44 then Some (after s 1) else None
behind_end Row s = if eqb (length s.now) 0 then Some s else if eqb (get_or s.now 0 0) 13 then feed_at s 1 else feed_at s 0

-- a cell, and what is behind its end
unfoldable pub ended_cell : End → Bor (List ℕ) → Option Cell
ended_cell e s = if_some (cell_of s) (λ c. option_map (λ rest. record { text = c.text; rest = rest }) (behind_end e c.rest))

-- three cells, the last with its end
unfoldable pub three_of : End → Bor (List ℕ) → Option Three
three_of e s =
    if_some (ended_cell Comma s) (λ a.
    if_some (ended_cell Comma a.rest) (λ b.
    option_map (λ c. record { first = a.text; second = b.text; third = c.text; rest = c.rest }) (ended_cell e b.rest)))

-- the nine cells of a row, and what is behind it
unfoldable pub cells_of : Bor (List ℕ) → Option Cells
cells_of s =
    if_some (three_of Comma s) (λ a.
    if_some (three_of Comma a.rest) (λ b.
    option_map (λ c. record { places = a; kinds = b; strings = c }) (three_of Row b.rest)))
