-- The rows of a sheet one after another, how long their entries are, and which strings are too long.
use Rattle.std.proofs.Common.{ℕ, zero, suc, ◌+◌, ◌<◌, ◌≤◌, ◌≡◌, refl, sym, ap, ◌∙◌, Bool, true, false, List, [], ◌∷◌, ◌++◌, length, length-append, arith}
use Rattle.std.specs.Prelude.{eqb, ltb, if◌then◌else◌, Some, None, Result, Ok, Err}
use Rattle.std.specs.Borrow.{Bor}
use borrow.Author.Tests.{eqb-true, eqb-false, ltb-false}
use Rattle.part.specs.Outcome.{and_then}
use Rattle.refusal.specs.declared.Refusal.{Refusal}
use Rattle.sheet_rows.specs.declared.cells.Cells.{Cells}
use Rattle.sheet_rows.specs.declared.cells.Three.{Three}
use Rattle.sheet_rows.specs.declared.numbers.Numbers.{Numbers}
use Rattle.sheet_rows.specs.Cells.{cells_of}
use Rattle.sheet_rows.specs.Rows.{Line, numbers_of, line_of, in_row, lines_from}
use Rattle.sheet_rows.proofs.RowsRead.{cells_shorter}
use Rattle.sheet_rows.proofs.Lines.{line_parts, lines_none, lines_on}
use Rattle.refusal.specs.declared.Refusal.TheVariants.{TooLong}
use Rattle.writing.specs.Checks.{count_checked, strings_checked}
use Rattle.writing.specs.Layout.{lengths_bytes, strings_bytes, entry_bytes}
use Rattle.sheet_import.specs.Strings.{string_of, IsText, AreStrings}
use Rattle.sheet_import.specs.Import.{numbers_bytes, entry_of, upload_of, cells_checked, lines_checked, lines_in, AreRows}
use Rattle.sheet_import.proofs.CellTexts.{row_texts}

-- what is left of rows without a fault
pub record Rest (left : Bor (List ℕ)) (lines : List Line) : Type 0 where
  pub fuel : ℕ
  pub row : ℕ
  pub enough : length left.now ≤ fuel
  pub are : lines_from fuel row left ≡ Ok lines
  pub text : IsText left.now

pub all_rest : {s : Bor (List ℕ)} → AreRows s → Rest s (lines_in s)
all_rest {s} r = record { fuel = length s.now; row = 2; enough = omega arith; are = r.rows; text = r.text }

pub record Turn (left : Bor (List ℕ)) (cells : Cells) (lines : List Line) : Type 0 where
  pub numbers : Numbers
  pub good : numbers_of cells ≡ Ok numbers
  pub more : List Line
  pub is : lines ≡ record { cells = cells; numbers = numbers } ∷ more
  pub rest : Rest cells.strings.rest more
  pub strings : AreStrings cells.strings
  pub shorter : length cells.strings.rest.now < length left.now

some_fuel : (n : ℕ) → 0 < n → (k : ℕ) × (n ≡ suc k)
some_fuel zero h = absurd (omega arith)
some_fuel (suc k) h = (k, refl)

record Step (n row : ℕ) (left : Bor (List ℕ)) (lines : List Line) : Type 0 where
  line : Line
  read : line_of left ≡ Ok line
  more : List Line
  are : lines_from n (row + 1) line.cells.strings.rest ≡ Ok more
  is : lines ≡ line ∷ more

step : (n row : ℕ) (left : Bor (List ℕ)) (lines : List Line) → 0 < length left.now → lines_from (suc n) row left ≡ Ok lines → Step n row left lines
step n row left lines some h = by (line_of left) refl (sym (lines_on n row left some) ∙ h)
  where
    inner : (l : Line) (w : Result (List Line) Refusal) → line_of left ≡ Ok l → lines_from n (row + 1) l.cells.strings.rest ≡ w → and_then w (λ lines. Ok (l ∷ lines)) ≡ Ok lines → Step n row left lines
    inner l (Ok more) e f g = record { line = l; read = e; more = more; are = f; is = cc }
    inner l (Err why) e f g = cc

    by : (w : Result Line ℕ) → line_of left ≡ w → and_then (in_row row w) (λ l. and_then (lines_from n (row + 1) l.cells.strings.rest) (λ lines. Ok (l ∷ lines))) ≡ Ok lines → Step n row left lines
    by (Ok l) e g = inner l (lines_from n (row + 1) l.cells.strings.rest) e refl g
    by (Err k) e g = cc

rest_step : {left : Bor (List ℕ)} {lines : List Line} (r : Rest left lines) → 0 < length left.now → (k : ℕ) × (length left.now ≤ suc k) × Step k r.row left lines
rest_step {left} {lines} r some =
    let k = some_fuel r.fuel (omega (arith, r.enough)) in
    let are : lines_from (suc k.0) r.row left ≡ Ok lines = ap (λ (n : ℕ). lines_from n r.row left) (sym k.1) ∙ r.are in
    (k.0, omega (arith, r.enough, k.1), step k.0 r.row left lines some are)

pub turn : {left : Bor (List ℕ)} {lines : List Line} (cells : Cells) → Rest left lines → cells_of left ≡ Some cells → Turn left cells lines
turn {left} {lines} cells r h =
    let short = cells_shorter left cells h in
    let p = rest_step r (omega (arith, short)) in
    let s = p.2 in
    let parts = line_parts left s.line s.read in
    let same : s.line.cells ≡ cells = let e = sym parts.cells ∙ h in cc in
    let texts = row_texts left cells h r.text in
    record {
      numbers = s.line.numbers;
      good = ap numbers_of (sym same) ∙ parts.numbers;
      more = s.more;
      is = s.is ∙ ap (λ (c : Cells). record { cells = c; numbers = s.line.numbers } ∷ s.more) same;
      rest = record { fuel = p.0; row = r.row + 1; enough = omega (arith, short, p.1); are = ap (λ (c : Cells). lines_from p.0 (r.row + 1) c.strings.rest) (sym same) ∙ s.are; text = texts.rest };
      strings = texts.strings;
      shorter = short;
    }

pub no_more : {left : Bor (List ℕ)} {lines : List Line} → Rest left lines → cells_of left ≡ None → lines ≡ []
no_more {left} {lines} r h = by (eqb (length left.now) 0) refl
  where
    by : (b : Bool) → eqb (length left.now) 0 ≡ b → lines ≡ []
    by true e = let f = sym (lines_none r.fuel r.row left (eqb-true (length left.now) 0 e)) ∙ r.are in cc
    by false e =
        let p = rest_step r (omega (arith, eqb-false (length left.now) 0 e)) in
        let parts = line_parts left p.2.line p.2.read in
        let f = sym h ∙ parts.cells in
        cc

-- ---- how long the entries are
abbrev pub strings_size : Three → ℕ
strings_size c = 33 + length (string_of c.first.now) + length (string_of c.second.now) + length (string_of c.third.now)

pub entry_long : (n : Numbers) (c : Three) → length (entry_of n c) ≡ strings_size c
unfolding entry_of numbers_bytes lengths_bytes strings_bytes entry_bytes
entry_long n c = simp (length-append) (omega arith)

pub upload_none : upload_of [] ≡ []
unfolding upload_of
upload_none = refl

pub upload_then : (l : Line) (lines : List Line) → upload_of (l ∷ lines) ≡ entry_of l.numbers l.cells.strings ++ upload_of lines
unfolding upload_of
upload_then l lines = refl

-- ---- whether strings fit
pub checked_none : lines_checked [] ≡ Ok tt
unfolding lines_checked
checked_none = refl

pub checked_then : (l : Line) (lines : List Line) → lines_checked (l ∷ lines) ≡ and_then (cells_checked l.cells.strings) (λ _. lines_checked lines)
unfolding lines_checked
checked_then l lines = refl

pub record Checking (whole left : Bor (List ℕ)) : Type 0 where
  pub lines : List Line
  pub rest : Rest left lines
  pub same : lines_checked lines ≡ lines_checked (lines_in whole)

pub all_checking : {s : Bor (List ℕ)} → AreRows s → Checking s s
all_checking {s} r = record { lines = lines_in s; rest = all_rest r; same = refl }

pub checking_strings : {whole left : Bor (List ℕ)} (cells : Cells) → Checking whole left → cells_of left ≡ Some cells → AreStrings cells.strings
checking_strings cells g h = (turn cells g.rest h).strings

-- a row's checks, and those of the rows behind it
checking_turn : {whole left : Bor (List ℕ)} (cells : Cells) (g : Checking whole left) (h : cells_of left ≡ Some cells)
    → and_then (cells_checked cells.strings) (λ _. lines_checked (turn cells g.rest h).more) ≡ lines_checked (lines_in whole)
checking_turn cells g h =
    let t = turn cells g.rest h in
    sym (checked_then (record { cells = cells; numbers = t.numbers }) t.more) ∙ ap lines_checked (sym t.is) ∙ g.same

pub checking_bad : {whole left : Bor (List ℕ)} (cells : Cells) (why : Refusal) → Checking whole left → cells_of left ≡ Some cells → cells_checked cells.strings ≡ Err why → lines_checked (lines_in whole) ≡ Err why
checking_bad {whole} {left} cells why g h e =
    sym (checking_turn cells g h) ∙ ap (λ (w : Result Unit Refusal). and_then w (λ _. lines_checked (turn cells g.rest h).more)) e

pub checking_on : {whole left : Bor (List ℕ)} (cells : Cells) → Checking whole left → cells_of left ≡ Some cells → cells_checked cells.strings ≡ Ok tt → Checking whole cells.strings.rest
checking_on {whole} {left} cells g h e =
    let t = turn cells g.rest h in
    record {
      lines = t.more;
      rest = t.rest;
      same = sym (ap (λ (w : Result Unit Refusal). and_then w (λ _. lines_checked t.more)) e) ∙ checking_turn cells g h;
    }

pub checking_done : {whole left : Bor (List ℕ)} → Checking whole left → cells_of left ≡ None → lines_checked (lines_in whole) ≡ Ok tt
checking_done {whole} {left} g h = sym g.same ∙ ap lines_checked (no_more g.rest h) ∙ checked_none

-- which string is too long
pub count_fits : (n : ℕ) → count_checked n ≡ Ok tt → n ≤ 65535
count_fits n h = by (ltb 65535 n) refl h
  where
    by : (b : Bool) → ltb 65535 n ≡ b → (if b then Err (TooLong 65535 n) else Ok (tt {0})) ≡ Ok (tt {0}) → n ≤ 65535
    by true e g = cc
    by false e g = ltb-false 65535 n e

module _ (c : Three) where
  abbrev name : ℕ
  name = length (string_of c.first.now)

  abbrev type_name : ℕ
  type_name = length (string_of c.second.now)

  abbrev comment : ℕ
  comment = length (string_of c.third.now)

  pub first_bad : (why : Refusal) → count_checked name ≡ Err why → cells_checked c ≡ Err why
  unfolding cells_checked strings_checked
  first_bad why h = ap (λ (w : Result Unit Refusal). and_then w (λ _. and_then (count_checked type_name) (λ _. count_checked comment))) h

  pub second_bad : (why : Refusal) → count_checked name ≡ Ok tt → count_checked type_name ≡ Err why → cells_checked c ≡ Err why
  unfolding cells_checked strings_checked
  second_bad why g h =
      ap (λ (w : Result Unit Refusal). and_then w (λ _. and_then (count_checked type_name) (λ _. count_checked comment))) g
      ∙ ap (λ (w : Result Unit Refusal). and_then w (λ _. count_checked comment)) h

  pub third : (w : Result Unit Refusal) → count_checked name ≡ Ok tt → count_checked type_name ≡ Ok tt → count_checked comment ≡ w → cells_checked c ≡ w
  unfolding cells_checked strings_checked
  third w f g h =
      ap (λ (w : Result Unit Refusal). and_then w (λ _. and_then (count_checked type_name) (λ _. count_checked comment))) f
      ∙ ap (λ (w : Result Unit Refusal). and_then w (λ _. count_checked comment)) g ∙ h

-- a check of a length that was worked out
pub count_is : (n m : ℕ) (w : Result Unit Refusal) → n ≡ m → w ≡ count_checked n → count_checked m ≡ w
count_is n m w e h = ap count_checked (sym e) ∙ sym h

pub numbers_long : (n : Numbers) → length (numbers_bytes n) ≡ 20
unfolding numbers_bytes
numbers_long n = refl

pub lengths_long : (a b c : List ℕ) → length (lengths_bytes a b c) ≡ 6
unfolding lengths_bytes
lengths_long a b c = refl
