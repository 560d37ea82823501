-- Entries that are written one after another.
use Rattle.std.proofs.Common.{ℕ, ◌+◌, ◌≤◌, ◌≡◌, refl, sym, ap, ap₂, ◌∙◌, List, [], ◌∷◌, ◌++◌, length, take, drop, append_assoc, length-append, arith}
use lib.Seq.{take-take, drop_at, length-take-le}
use Rattle.std.proofs.lemmas.List.{take-append-le}
use Rattle.le.proofs.Laws.{wrote}
use Rattle.std.specs.Prelude.{Some, None, Result, Ok, Err}
use Rattle.std.specs.Borrow.{Bor}
use Rattle.part.specs.Outcome.{and_then}
use Rattle.refusal.specs.declared.Refusal.{Refusal}
use Rattle.le.specs.Put.{put, Wrote}
use Rattle.writing.specs.Meant.{StringsChecked, name_too_long, type_too_long, comment_too_long, all_fit}
use Rattle.writing.specs.Layout.{string_bytes}
use Rattle.writing.specs.Checks.{strings_checked, IsShort}
use Rattle.writing.proofs.Going.{Going, going, goes_on, gone, going_by}
use Rattle.writing.proofs.Meant.{checks_meant}
use Rattle.sheet_rows.specs.declared.cells.Cells.{Cells}
use Rattle.sheet_rows.specs.declared.cells.Three.{Three}
use Rattle.sheet_rows.specs.declared.numbers.Numbers.{Numbers}
use Rattle.sheet_rows.specs.Cells.{cells_of}
use Rattle.sheet_rows.specs.Rows.{Line, numbers_of}
use Rattle.sheet_import.specs.Strings.{string_of, AreStrings}
use Rattle.sheet_import.specs.Import.{entry_of, entry_by, row_entry, upload_of, cells_checked, lines_checked, lines_in, AreRows, AreShort}
use Rattle.sheet_import.proofs.Sizes.{Rest, all_rest, turn, no_more, upload_none, upload_then, checked_then}

short_by : (name type comment : List ℕ) → StringsChecked name type comment → strings_checked name type comment ≡ Ok tt → IsShort name type comment
short_by name type comment (name_too_long h e) f = cc
short_by name type comment (type_too_long h k e) f = cc
short_by name type comment (comment_too_long h k l e) f = cc
short_by name type comment (all_fit h k l e) f = record { name_fits = h; type_fits = k; comment_fits = l }

pub are_short : (c : Three) → cells_checked c ≡ Ok tt → AreShort c
unfolding cells_checked
are_short c h = short_by (string_of c.first.now) (string_of c.second.now) (string_of c.third.now) (checks_meant.strings (string_of c.first.now) (string_of c.second.now) (string_of c.third.now)) h

both_checked : (w v : Result Unit Refusal) → and_then w (λ _. v) ≡ Ok tt → (w ≡ Ok tt) × (v ≡ Ok tt)
both_checked (Ok u) v h = (refl, h)
both_checked (Err why) v h = cc

checked_both : (l : Line) (lines : List Line) → lines_checked (l ∷ lines) ≡ Ok tt → (cells_checked l.cells.strings ≡ Ok tt) × (lines_checked lines ≡ Ok tt)
checked_both l lines h = both_checked (cells_checked l.cells.strings) (lines_checked lines) (sym (checked_then l lines) ∙ h)

pub record Putting (whole left : Bor (List ℕ)) (old now : List ℕ) (at : ℕ) : Type 0 where
  pub lines : List Line
  pub rest : Rest left lines
  pub short : lines_checked lines ≡ Ok tt
  pub going : Going old now at (upload_of lines) (upload_of (lines_in whole))

pub all_putting : {s : Bor (List ℕ)} {old : List ℕ} → AreRows s → lines_checked (lines_in s) ≡ Ok tt → length (upload_of (lines_in s)) ≤ length old → Putting s s old old 0
all_putting {s} {old} r h k = record { lines = lines_in s; rest = all_rest r; short = h; going = going old (upload_of (lines_in s)) k }

pub record Next (whole left : Bor (List ℕ)) (old now : List ℕ) (at : ℕ) (cells : Cells) : Type 0 where
  pub strings : AreStrings cells.strings
  pub short : AreShort cells.strings
  pub room : at + length (row_entry cells) ≤ length now
  pub on : (new : List ℕ) (next : ℕ) → Wrote now at (row_entry cells) new next → Putting whole cells.strings.rest old new next

pub row_is : (c : Cells) (w : Result Numbers ℕ) → numbers_of c ≡ w → row_entry c ≡ entry_by w c.strings
unfolding row_entry
row_is c w e = ap (λ (v : Result Numbers ℕ). entry_by v c.strings) e

pub next_row : {whole left : Bor (List ℕ)} {old now : List ℕ} {at : ℕ} (cells : Cells) → Putting whole left old now at → cells_of left ≡ Some cells → Next whole left old now at cells
next_row {whole} {left} {old} {now} {at} cells g h =
    let t = turn cells g.rest h in
    let l : Line = record { cells = cells; numbers = t.numbers } in
    let checked = checked_both l t.more (ap lines_checked (sym t.is) ∙ g.short) in
    let own : row_entry cells ≡ entry_of t.numbers cells.strings = row_is cells (Ok t.numbers) t.good in
    let parts : upload_of g.lines ≡ row_entry cells ++ upload_of t.more = ap upload_of t.is ∙ upload_then l t.more ∙ ap (λ (e : List ℕ). e ++ upload_of t.more) (sym own) in
    let on = going_by parts g.going in
    record {
      strings = t.strings;
      short = are_short cells.strings checked.0;
      room = omega (arith, on.room, length-append (row_entry cells) (upload_of t.more));
      on = λ new next w. record { lines = t.more; rest = t.rest; short = checked.1; going = goes_on (row_entry cells) on w };
    }

pub put_all : {whole left : Bor (List ℕ)} {old now : List ℕ} {at : ℕ} → Putting whole left old now at → cells_of left ≡ None → now ≡ put old 0 (upload_of (lines_in whole))
put_all g h = gone (going_by (ap upload_of (no_more g.rest h) ∙ upload_none) g.going)

-- what is written before what was written
put_before : (old : List ℕ) (at : ℕ) (xs : List ℕ) (n : ℕ) (ys : List ℕ) → n ≡ at + length xs → n + length ys ≤ length old → put (put old n ys) at xs ≡ put old at (xs ++ ys)
unfolding put
put_before old at xs n ys e h =
    let few : length (take n old) ≡ n = length-take-le n old (omega (arith, h)) in
    let front : take at (take n old ++ ys ++ drop (n + length ys) old) ≡ take at old =
    ap (take at) (append_assoc (take n old) ys (drop (n + length ys) old))
    ∙ take-append-le at (take n old) (ys ++ drop (n + length ys) old) (omega (arith, few, e)) ∙ take-take at n old (omega (arith, e)) in
    let rest : drop (at + length xs) (take n old ++ ys ++ drop (n + length ys) old) ≡ ys ++ drop (n + length ys) old =
    ap (λ (k : ℕ). drop k (take n old ++ ys ++ drop (n + length ys) old)) (sym e)
    ∙ ap (drop n) (append_assoc (take n old) ys (drop (n + length ys) old))
    ∙ drop_at (take n old) (ys ++ drop (n + length ys) old) n few in
    let end : n + length ys ≡ at + length (xs ++ ys) = omega (arith, e, length-append xs ys) in
    ap₂ (λ (f r : List ℕ). f ++ xs ++ r) front rest
    ∙ ap (λ (k : ℕ). take at old ++ xs ++ (ys ++ drop k old)) end
    ∙ sym (append_assoc (take at old ++ xs) ys (drop (at + length (xs ++ ys)) old))
    ∙ ap (λ (l : List ℕ). l ++ drop (at + length (xs ++ ys)) old) (append_assoc (take at old) xs ys)

pub before : {old l m : List ℕ} {at n k e : ℕ} {xs ys : List ℕ} → n ≡ at + length xs → Wrote old n ys l e → Wrote l at xs m k → Wrote old at (xs ++ ys) m e
before {old} {l} {m} {at} {n} {k} {e} {xs} {ys} h p q =
    wrote (q.is ∙ ap (λ (x : List ℕ). put x at xs) p.is ∙ put_before old at xs n ys h (omega (arith, p.room))) (omega (arith, p.end, h, length-append xs ys)) (omega (arith, p.room, h, length-append xs ys))

pub string_long : (s : List ℕ) → length (string_bytes s) ≡ length s + 1
string_long s = length-append s (0 ∷ [])
