-- docs/FORMAT.md, "The command's text": the cells of a table, each beside as many spaces as are left of its column.
use Rattle.std.specs.Prelude.{ℕ, ◌+◌, ◌-◌, true, List, ◌++◌, length, codes, decimal, replicate}
use Rattle.std.specs.Fmt.{digits}
use Rattle.refusal.specs.declared.Refusal.{Refusal}
use Rattle.wording.specs.Text.{shown, shown_width}
use Rattle.wording.specs.Wording.{refusal_text}

-- a text of a width at the left of its column, and at the right
abbrev pub at_left : ℕ → ℕ → List ℕ → List ℕ
at_left column width text = text ++ replicate (column - width) 32

abbrev pub at_right : ℕ → ℕ → List ℕ → List ℕ
at_right column width text = replicate (column - width) 32 ++ text

-- the digits of a number, in the base's own letters
abbrev pub hexadecimal : ℕ → List ℕ
hexadecimal n = codes "0x" ++ digits 16 true n

unfoldable pub number_cell : ℕ → ℕ → List ℕ
number_cell column n = at_right column (length (decimal n)) (decimal n)

unfoldable pub hexadecimal_cell : ℕ → ℕ → List ℕ
hexadecimal_cell column n = at_right column (length (digits 16 true n) + 2) (hexadecimal n)

unfoldable pub name_cell : ℕ → List ℕ → List ℕ
name_cell column s = at_left column (shown_width s) (shown s)

-- a place, and why the entry there was refused
unfoldable pub refused_row : ℕ → ℕ → Refusal → List ℕ
refused_row column place why = number_cell column place ++ (codes "  " ++ refusal_text why)
