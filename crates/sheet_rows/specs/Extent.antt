-- docs/FORMAT.md, "Sheet": how long the strings of rows are, as the sheet has them.
use Rattle.std.specs.Prelude.{ℕ, ◌+◌, ◌-◌, ◌/◌, max, List, [], ◌∷◌, eqb, length, if◌then◌else◌}
use Rattle.sheet_rows.specs.declared.cells.Three.{Three}
use Rattle.sheet_rows.specs.declared.extent.Extent.{Extent}
use Rattle.sheet_rows.specs.Rows.{Line}

-- how many quotes there are
unfoldable pub quotes : List ℕ → ℕ
quotes [] = 0
quotes (b ∷ s) = if eqb b 34 then quotes s + 1 else quotes s

-- how long the text of a cell is, two quotes counted as one
unfoldable pub text_length : List ℕ → ℕ
text_length t = length t - quotes t / 2

-- no rows, a row, and some rows and others
abbrev pub none : Extent
none = record { rows = 0; bytes = 0; longest = 0 }

unfoldable pub row_extent : Three → Extent
row_extent c = record {
  rows = 1;
  bytes = text_length c.first.now + text_length c.second.now + text_length c.third.now;
  longest = max (text_length c.first.now) (max (text_length c.second.now) (text_length c.third.now));
}

abbrev pub joined : Extent → Extent → Extent
joined a b = record { rows = a.rows + b.rows; bytes = a.bytes + b.bytes; longest = max a.longest b.longest }

unfoldable pub extent_of : List Line → Extent
extent_of [] = none
extent_of (l ∷ lines) = joined (row_extent l.cells.strings) (extent_of lines)
