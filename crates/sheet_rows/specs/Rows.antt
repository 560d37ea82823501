-- docs/FORMAT.md, "Sheet": the rows of a sheet, or its first fault, 18.
use Rattle.std.specs.Prelude.{ℕ, zero, suc, ◌+◌, Bool, true, false, List, [], ◌∷◌, Option, Some, None, Result, Ok, Err, eqb, nat_eq, length, codes, if◌then◌else◌}
use Rattle.std.specs.Option.{ok_or}
use Rattle.std.specs.Cmp.Lexicographic.{pointwise}
use Rattle.std.specs.Borrow.{Bor}
use Rattle.le.specs.Le.{has}
use Rattle.part.specs.Outcome.{and_then}
use Rattle.refusal.specs.declared.Refusal.{Refusal}
use Rattle.refusal.specs.declared.Refusal.TheVariants.{BadSheet}
use Rattle.sheet_rows.specs.declared.cells.Cells.{Cells}
use Rattle.sheet_rows.specs.declared.cells.Three.{Three}
use Rattle.sheet_rows.specs.declared.numbers.Numbers.{Numbers}
use Rattle.sheet_rows.specs.Cells.{if_some, cells_of}
use Rattle.sheet_rows.specs.Numbers.{number_of}

-- flags without those that name sections
abbrev pub is_bare : ℕ → Bool
is_bare flags = if has flags 0x0008 then false else if has flags 0x1000 then false else if has flags 0x8000 then false else true

unfoldable pub flags_of : List ℕ → Option ℕ
flags_of text = if_some (number_of 65535 text) (λ flags. if is_bare flags then Some flags else None)

-- the numbers of a row's first six columns, or the first of these that has none
unfoldable pub numbers_of : Cells → Result Numbers ℕ
numbers_of c =
    and_then (ok_or (number_of 4294967295 c.places.first.now) 1) (λ group.
    and_then (ok_or (number_of 4294967295 c.places.second.now) 2) (λ offset.
    and_then (ok_or (number_of 4294967295 c.places.third.now) 3) (λ size.
    and_then (ok_or (number_of 4294967295 c.kinds.first.now) 4) (λ type_id.
    and_then (ok_or (flags_of c.kinds.second.now) 5) (λ flags.
    and_then (ok_or (number_of 65535 c.kinds.third.now) 6) (λ high.
    Ok (record { index_group = group; index_offset = offset; size = size; data_type_id = type_id; flags = flags; high = high })))))))

-- a row of a sheet
pub record Line : Type 0 where
  pub cells : Cells
  pub numbers : Numbers

-- the first row of some bytes, or its first bad column, 0 for its shape
unfoldable pub line_of : Bor (List ℕ) → Result Line ℕ
line_of s = and_then (ok_or (cells_of s) 0) (λ c. and_then (numbers_of c) (λ n. Ok (record { cells = c; numbers = n })))

-- 18 for a bad column of a row
abbrev pub in_row : {A : Type 0} → ℕ → Result A ℕ → Result A Refusal
in_row row (Ok x) = Ok x
in_row row (Err column) = Err (BadSheet row column)

-- the rows of some bytes, of which the first has a number, or 18 for the first with a fault
unfoldable pub lines_from : ℕ → ℕ → Bor (List ℕ) → Result (List Line) Refusal
lines_from zero row s = Ok []
lines_from (suc n) row s =
    if eqb (length s.now) 0 then Ok []
    else and_then (in_row row (line_of s)) (λ l. and_then (lines_from n (row + 1) l.cells.strings.rest) (λ lines. Ok (l ∷ lines)))

-- the words of the header
abbrev pub are_words : Three → List ℕ → List ℕ → List ℕ → Bool
are_words t a b c = if pointwise nat_eq t.first.now a then if pointwise nat_eq t.second.now b then pointwise nat_eq t.third.now c else false else false

unfoldable pub is_header : Cells → Bool
is_header c =
    if are_words c.places (codes "group") (codes "offset") (codes "size") then
    if are_words c.kinds (codes "type id") (codes "flags") (codes "high") then are_words c.strings (codes "name") (codes "type") (codes "comment")
    else false
    else false

-- what is behind the header, which is row 1
unfoldable pub behind_header : Bor (List ℕ) → Result (Bor (List ℕ)) Refusal
behind_header s = ok_or (if_some (cells_of s) (λ c. if is_header c then Some c.strings.rest else None)) (BadSheet 1 0)

-- the rows below the header, or the first fault of the sheet
unfoldable pub lines_of : Bor (List ℕ) → Result (List Line) Refusal
lines_of s = and_then (behind_header s) (λ rest. lines_from (length rest.now) 2 rest)
