-- Rows one after another.
use Rattle.std.proofs.Common.{ℕ, zero, suc, ◌+◌, ◌<◌, ◌≤◌, ◌≡◌, refl, sym, ap, subst, ◌∙◌, Bool, List, [], ◌∷◌, length, arith}
use Rattle.std.specs.Prelude.{Option, Some, None, Result, Ok, Err, if◌then◌else◌}
use Rattle.std.specs.Option.{ok_or}
use Rattle.std.specs.Borrow.{Bor}
use borrow.Author.Tests.{eq-eqb, ne_eqb}
use Rattle.part.specs.Outcome.{and_then}
use Rattle.refusal.specs.declared.Refusal.{Refusal}
use Rattle.refusal.specs.declared.Refusal.TheVariants.{BadSheet}
use Rattle.sheet_rows.specs.declared.cells.Cells.{Cells}
use Rattle.sheet_rows.specs.declared.numbers.Numbers.{Numbers}
use Rattle.sheet_rows.specs.Cells.{cells_of}
use Rattle.sheet_rows.specs.Rows.{Line, numbers_of, line_of, in_row, lines_from}
use Rattle.sheet_rows.specs.declared.extent.Extent.{Extent}
use Rattle.sheet_rows.specs.Extent.{none, row_extent, joined, extent_of}
use Rattle.sheet_rows.proofs.RowsRead.{cells_shorter, cells_longer}
use Rattle.sheet_rows.proofs.Quotes.{row_bytes, row_one, none_joined, joined_none, joined_on, extent_none, extent_then}

-- ---- one row
pub record Parts (s : Bor (List ℕ)) (l : Line) : Type 0 where
  pub cells : cells_of s ≡ Some l.cells
  pub numbers : numbers_of l.cells ≡ Ok l.numbers

pub line_parts : (s : Bor (List ℕ)) (l : Line) → line_of s ≡ Ok l → Parts s l
unfolding line_of
line_parts s l = by (cells_of s) refl
  where
    inner : (c : Cells) (w : Result Numbers ℕ) → cells_of s ≡ Some c → numbers_of c ≡ w → and_then w (λ n. Ok (record { cells = c; numbers = n })) ≡ Ok l → Parts s l
    inner c (Ok n) e f h = let same : record { cells = c; numbers = n } ≡ l = cc in subst (Parts s) same (record { cells = e; numbers = f })
    inner c (Err k) e f h = cc

    by : (o : Option Cells) → cells_of s ≡ o → and_then (ok_or o 0) (λ c. and_then (numbers_of c) (λ n. Ok (record { cells = c; numbers = n }))) ≡ Ok l → Parts s l
    by (Some c) e h = inner c (numbers_of c) e refl h
    by None e h = cc

pub line_whole : (s : Bor (List ℕ)) (l : Line) → Parts s l → line_of s ≡ Ok l
unfolding line_of
line_whole s l p =
    ap (λ (o : Option Cells). and_then (ok_or o 0) (λ c. and_then (numbers_of c) (λ n. Ok (record { cells = c; numbers = n })))) p.cells
    ∙ ap (λ (w : Result Numbers ℕ). and_then w (λ n. Ok (record { cells = l.cells; numbers = n }))) p.numbers

pub row_told : (w : Result Line ℕ) (c : Cells) → and_then w (λ l. Ok l.cells) ≡ Ok c → (l : Line) × (w ≡ Ok l) × (l.cells ≡ c)
row_told (Ok l) c h = (l, refl, cc)
row_told (Err k) c h = cc

pub row_bad : (w : Result Line ℕ) (k : ℕ) → and_then w (λ l. Ok l.cells) ≡ Err k → w ≡ Err k
row_bad (Ok l) k h = cc
row_bad (Err j) k h = cc

-- ---- rows
pub lines_none : (n row : ℕ) (s : Bor (List ℕ)) → length s.now ≡ 0 → lines_from n row s ≡ Ok []
unfolding lines_from
lines_none zero row s e = refl
lines_none (suc n) row s e =
    ap (λ (b : Bool). if b then Ok [] else and_then (in_row row (line_of s)) (λ l. and_then (lines_from n (row + 1) l.cells.strings.rest) (λ lines. Ok (l ∷ lines)))) (eq-eqb (length s.now) 0 e)

pub lines_on : (n row : ℕ) (s : Bor (List ℕ)) → 0 < length s.now
    → lines_from (suc n) row s ≡ and_then (in_row row (line_of s)) (λ l. and_then (lines_from n (row + 1) l.cells.strings.rest) (λ lines. Ok (l ∷ lines)))
unfolding lines_from
lines_on n row s h =
    ap (λ (b : Bool). if b then Ok [] else and_then (in_row row (line_of s)) (λ l. and_then (lines_from n (row + 1) l.cells.strings.rest) (λ lines. Ok (l ∷ lines))))
    (ne_eqb (length s.now) 0 (λ e. omega (arith, e, h)))

pub line_then : (n row : ℕ) (s : Bor (List ℕ)) (l : Line) → 0 < length s.now → line_of s ≡ Ok l
    → lines_from (suc n) row s ≡ and_then (lines_from n (row + 1) l.cells.strings.rest) (λ lines. Ok (l ∷ lines))
line_then n row s l h e =
    lines_on n row s h
    ∙ ap (λ (w : Result Line ℕ). and_then (in_row row w) (λ l. and_then (lines_from n (row + 1) l.cells.strings.rest) (λ lines. Ok (l ∷ lines)))) e

pub line_bad : (n row column : ℕ) (s : Bor (List ℕ)) → 0 < length s.now → line_of s ≡ Err column → lines_from (suc n) row s ≡ Err (BadSheet row column)
line_bad n row column s h e =
    lines_on n row s h
    ∙ ap (λ (w : Result Line ℕ). and_then (in_row row w) (λ l. and_then (lines_from n (row + 1) l.cells.strings.rest) (λ lines. Ok (l ∷ lines)))) e

-- ---- how much they are, where none has a fault
abbrev pub extended : Extent → Result (List Line) Refusal → Result Extent Refusal
extended e w = and_then w (λ lines. Ok (joined e (extent_of lines)))

extended_more : (e : Extent) (l : Line) (w : Result (List Line) Refusal) → extended e (and_then w (λ lines. Ok (l ∷ lines))) ≡ extended (joined e (row_extent l.cells.strings)) w
extended_more e l (Ok lines) = ap (λ (x : Extent). Ok x) (ap (joined e) (extent_then l lines) ∙ sym (joined_on e (row_extent l.cells.strings) (extent_of lines)))
extended_more e l (Err why) = refl

extended_none : (w : Result (List Line) Refusal) → extended none w ≡ and_then w (λ lines. Ok (extent_of lines))
extended_none (Ok lines) = ap (λ (x : Extent). Ok x) (none_joined (extent_of lines))
extended_none (Err why) = refl

-- the extent of those that were looked at
pub record Left (whole left : Bor (List ℕ)) (row : ℕ) (extent : Extent) : Type 0 where
  pub fuel : ℕ
  pub enough : length left.now ≤ fuel
  pub count : row + length left.now ≤ 2 + length whole.now
  pub rows : extent.rows + length left.now ≤ length whole.now
  pub bytes : extent.bytes + length left.now ≤ length whole.now
  pub same : extended extent (lines_from fuel row left) ≡ and_then (lines_from (length whole.now) 2 whole) (λ lines. Ok (extent_of lines))

pub all_left : (whole : Bor (List ℕ)) → Left whole whole 2 none
all_left whole = record {
  fuel = length whole.now;
  enough = omega arith;
  count = omega arith;
  rows = omega arith;
  bytes = omega arith;
  same = extended_none (lines_from (length whole.now) 2 whole);
}

pub none_left : {whole left : Bor (List ℕ)} {row : ℕ} {extent : Extent} → Left whole left row extent → length left.now ≡ 0
    → and_then (lines_from (length whole.now) 2 whole) (λ lines. Ok (extent_of lines)) ≡ Ok extent
none_left {whole} {left} {row} {extent} g e =
    sym g.same ∙ ap (extended extent) (lines_none g.fuel row left e) ∙ ap (λ (x : Extent). Ok x) (ap (joined extent) extent_none ∙ joined_none extent)

some_fuel : (n : ℕ) → 0 < n → (k : ℕ) × (n ≡ suc k)
some_fuel zero h = absurd (omega arith)
some_fuel (suc k) h = (k, refl)

pub bad_left : {whole left : Bor (List ℕ)} {row : ℕ} {extent : Extent} (column : ℕ) → Left whole left row extent → 0 < length left.now → line_of left ≡ Err column
    → and_then (lines_from (length whole.now) 2 whole) (λ lines. Ok (extent_of lines)) ≡ Err (BadSheet row column)
bad_left {whole} {left} {row} {extent} column g h e =
    let k = some_fuel g.fuel (omega (arith, g.enough)) in
    sym g.same ∙ ap (λ (n : ℕ). extended extent (lines_from n row left)) k.1 ∙ ap (extended extent) (line_bad k.0 row column left h e)

-- one more fits
pub record Fits (whole left : Bor (List ℕ)) (extent : Extent) (c : Cells) : Type 0 where
  pub rows : extent.rows + 1 ≤ length whole.now
  pub bytes : extent.bytes + (row_extent c.strings).bytes ≤ length whole.now

pub next_fits : {whole left : Bor (List ℕ)} {row : ℕ} {extent : Extent} (c : Cells) → Left whole left row extent → cells_of left ≡ Some c → Fits whole left extent c
next_fits {whole} {left} {row} {extent} c g h = record {
  rows = omega (arith, g.rows, cells_shorter left c h);
  bytes = omega (arith, g.bytes, cells_longer left c h, row_bytes c.strings);
}

pub next_left : {whole left : Bor (List ℕ)} {row : ℕ} {extent : Extent} (l : Line) → Left whole left row extent → 0 < length left.now → line_of left ≡ Ok l
    → Left whole l.cells.strings.rest (row + 1) (joined extent (row_extent l.cells.strings))
next_left {whole} {left} {row} {extent} l g h e =
    let k = some_fuel g.fuel (omega (arith, g.enough)) in
    let p = line_parts left l e in
    let short = cells_shorter left l.cells p.cells in
    let long = cells_longer left l.cells p.cells in
    record {
      fuel = k.0;
      enough = omega (arith, short, g.enough, k.1);
      count = omega (arith, short, g.count);
      rows = omega (arith, short, g.rows, row_one l.cells.strings);
      bytes = omega (arith, long, g.bytes, row_bytes l.cells.strings);
      same = sym (extended_more extent l (lines_from k.0 (row + 1) l.cells.strings.rest)) ∙ sym (ap (extended extent) (line_then k.0 row left l h e))
          ∙ ap (λ (n : ℕ). extended extent (lines_from n row left)) (sym k.1) ∙ g.same;
    }
