-- docs/FORMAT.md, "Sheet": the upload of a sheet.
use Rattle.std.specs.Prelude.{ℕ, ◌≡◌, min, ◌-◌, ◌^◌, List, [], ◌∷◌, ◌++◌, Result, Ok, Err, length}
use Rattle.std.specs.List.{flat_map}
use Rattle.std.specs.Borrow.{Bor}
use Rattle.le.specs.Le.{bytes4, bytes2}
use Rattle.part.specs.Outcome.{and_then}
use Rattle.refusal.specs.declared.Refusal.{Refusal}
use Rattle.writing.specs.Checks.{strings_checked, size_checked, IsShort}
use Rattle.writing.specs.Layout.{lengths_bytes, strings_bytes, entry_bytes}
use Rattle.text.specs.Text.{encoded_from}
use Rattle.sheet_rows.specs.declared.cells.Cells.{Cells}
use Rattle.sheet_rows.specs.declared.cells.Three.{Three}
use Rattle.sheet_rows.specs.declared.numbers.Numbers.{Numbers}
use Rattle.sheet_rows.specs.Rows.{Line, numbers_of, lines_from, lines_of}
use Rattle.sheet_import.specs.Strings.{string_of, IsText}

-- the entry of a row: the header, and the strings with their end bytes
unfoldable pub numbers_bytes : Numbers → List ℕ
numbers_bytes n =
    bytes4 n.index_group ++ (bytes4 n.index_offset ++ (bytes4 n.size ++ (bytes4 n.data_type_id ++ (bytes2 n.flags ++ bytes2 n.high))))

-- three lengths and three strings
abbrev pub texts_bytes : List ℕ → List ℕ → List ℕ → List ℕ
texts_bytes name type comment = lengths_bytes name type comment ++ strings_bytes name type comment

unfoldable pub entry_of : Numbers → Three → List ℕ
entry_of n c = entry_bytes (numbers_bytes n ++ texts_bytes (string_of c.first.now) (string_of c.second.now) (string_of c.third.now))

-- that of a row's cells, if they have numbers
abbrev pub entry_by : Result Numbers ℕ → Three → List ℕ
entry_by (Ok n) c = entry_of n c
entry_by (Err column) c = []

unfoldable pub row_entry : Cells → List ℕ
row_entry c = entry_by (numbers_of c) c.strings

unfoldable pub upload_of : List Line → List ℕ
upload_of lines = flat_map (λ l. entry_of l.numbers l.cells.strings) lines

-- 7 for the first string that is too long
unfoldable pub cells_checked : Three → Result Unit Refusal
cells_checked c = strings_checked (string_of c.first.now) (string_of c.second.now) (string_of c.third.now)

unfoldable pub lines_checked : List Line → Result Unit Refusal
lines_checked [] = Ok tt
lines_checked (l ∷ lines) = and_then (cells_checked l.cells.strings) (λ _. lines_checked lines)

-- a length as it is told
abbrev pub told : ℕ → ℕ
told n = min n (2 ^ 64 - 1)

-- the rows of some bytes where none has a fault
abbrev pub or_none : Result (List Line) Refusal → List Line
or_none (Ok lines) = lines
or_none (Err why) = []

unfoldable pub lines_in : Bor (List ℕ) → List Line
lines_in s = or_none (lines_from (length s.now) 2 s)

-- so it is, and their text has none
pub record AreRows (s : Bor (List ℕ)) : Type 0 where
  pub rows : lines_from (length s.now) 2 s ≡ Ok (lines_in s)
  pub text : IsText s.now

-- strings that fit
abbrev pub AreShort : Three → Type 0
AreShort c = IsShort (string_of c.first.now) (string_of c.second.now) (string_of c.third.now)

-- how many bytes the upload of some rows has, or 7
unfoldable pub size_of : List Line → Result ℕ Refusal
size_of lines = and_then (lines_checked lines) (λ _. Ok (told (length (upload_of lines))))

-- what importing writes: 18, 11, 7, then 5; 6 is the writer's
unfoldable pub importing : Bor (List ℕ) → Result (List ℕ) Refusal
importing s =
    and_then (lines_of s) (λ lines.
    and_then (encoded_from 0 s.now) (λ _.
    and_then (size_of lines) (λ size.
    and_then (size_checked size) (λ _.
    Ok (upload_of lines)))))
