-- In which order a sheet is refused.
use Rattle.std.proofs.Common.{ℕ, ◌+◌, ◌<◌, ◌≤◌, ◌≡◌, ⊎_elim, refl, sym, ap, subst, ◌∙◌, Bool, List, ◌++◌, length, take, drop, length-append, length-take-le, take-append-drop, arith}
use Rattle.std.specs.Prelude.{Result, Ok, Err, if◌then◌else◌}
use Rattle.std.specs.Borrow.{Bor}
use borrow.Author.Tests.{lt-ltb, le-ltb}
use Rattle.part.specs.Outcome.{and_then}
use Rattle.refusal.specs.Refusal.{limit}
use Rattle.refusal.specs.declared.Refusal.{Refusal}
use Rattle.refusal.specs.declared.Refusal.TheVariants.{BadText, TooLong, TooLarge}
use Rattle.writing.specs.Checks.{count_checked, size_checked}
use Rattle.text.specs.RoundTrip.{AreBytes}
use Rattle.text.specs.Faults.{IsFirstFault}
use Rattle.text.specs.Text.{decoded, encoded_from}
use Rattle.text.proofs.Back.{prefixed}
use Rattle.text.proofs.Theory.{encoded_front, encoded_fault, source_of}
use Rattle.text.proofs.Utf8.{le_or_lt}
use Rattle.sheet.specs.CellsMeant.{Doubled}
use Rattle.sheet.proofs.Meant.{doubled_one}
use Rattle.sheet_rows.specs.declared.cells.Cells.{Cells}
use Rattle.sheet_rows.specs.Rows.{Line, lines_of}
use Rattle.sheet_import.specs.Strings.{string_of, IsText}
use Rattle.sheet_import.specs.Import.{upload_of, cells_checked, lines_checked, told, size_of, importing}
use Rattle.sheet_import.specs.ImportMeant.{Strings, Fit, IsLong, name, type_name, comment, AllFit, none, row, FirstLong, here, behind, IsImport, rows, text, long, large, written, ImportsMeant}
use Rattle.sheet_import.proofs.StringsRead.{string_escaped, encoded_decoded}
use Rattle.sheet_import.proofs.Sizes.{first_bad, second_bad, third}
use Rattle.sheet_import.proofs.Halves.{text_or_fault, sheet_halves}
use Rattle.sheet_import.proofs.Ready.{importing_on}

-- the first fault of a text is what is told of it
at_fault : (t : List ℕ) (place kind : ℕ) → IsFirstFault t place kind → encoded_from 0 t ≡ Err (BadText place kind)
at_fault t place kind f =
    let c = source_of f.before.0 f.before.1 in
    let s : List ℕ = c.string in
    let is : take place t ≡ decoded s = f.before.2 ∙ sym c.told in
    let n : 0 + length (decoded s) ≡ place = omega (arith, ap length is, length-take-le place t (omega (arith, f.inside))) in
    let some : 0 < length (drop place t) = omega (arith, f.inside, ap length (take-append-drop place t), length-append (take place t) (drop place t), length-take-le place t (omega (arith, f.inside))) in
    ap (encoded_from 0) (sym (take-append-drop place t) ∙ ap (λ (l : List ℕ). l ++ drop place t) is)
    ∙ encoded_front s (drop place t) 0 c.bytes
    ∙ ap (λ (m : ℕ). prefixed s (encoded_from m (drop place t))) n
    ∙ ap (prefixed s) (encoded_fault place (drop place t) kind (record { some = some; here = f.here }))

-- ---- strings
pub string_told : (s t : List ℕ) → AreBytes s → Doubled s t → string_of t ≡ s
string_told s t h d = ap string_of (sym (doubled_one d)) ∙ string_escaped s h

count_good : (n m : ℕ) → n ≡ m → m ≤ 65535 → count_checked n ≡ Ok tt
count_good n m e h = ap (λ (b : Bool). if b then Err (TooLong 65535 n) else Ok tt) (le-ltb 65535 n (omega (arith, e, h)))

count_bad : (n m : ℕ) → n ≡ m → 65535 < m → count_checked n ≡ Err (TooLong 65535 m)
count_bad n m e h = ap (λ (b : Bool). if b then Err (TooLong 65535 n) else Ok tt) (lt-ltb 65535 n (omega (arith, e, h))) ∙ ap (λ (k : ℕ). Err (TooLong 65535 k)) e

module _ (c : Cells) (s : Strings c) where
  name_is : length (string_of c.strings.first.now) ≡ length s.name
  name_is = ap length (string_told s.name c.strings.first.now s.name_bytes s.name_text)

  type_is : length (string_of c.strings.second.now) ≡ length s.type_name
  type_is = ap length (string_told s.type_name c.strings.second.now s.type_bytes s.type_text)

  comment_is : length (string_of c.strings.third.now) ≡ length s.comment
  comment_is = ap length (string_told s.comment c.strings.third.now s.comment_bytes s.comment_text)

fit_checked : (c : Cells) → Fit c → cells_checked c.strings ≡ Ok tt
fit_checked c f = third c.strings (Ok tt) (count_good _ _ (name_is c f.strings) f.name) (count_good _ _ (type_is c f.strings) f.type_name) (count_good _ _ (comment_is c f.strings) f.comment)

long_checked : (c : Cells) (n : ℕ) → IsLong c n → cells_checked c.strings ≡ Err (TooLong 65535 n)
long_checked c n (name s h) = first_bad c.strings _ (count_bad _ _ (name_is c s) h)
long_checked c n (type_name s h k) = second_bad c.strings _ (count_good _ _ (name_is c s) h) (count_bad _ _ (type_is c s) k)
long_checked c n (comment s h k l) = third c.strings _ (count_good _ _ (name_is c s) h) (count_good _ _ (type_is c s) k) (count_bad _ _ (comment_is c s) l)

all_checked : (lines : List Line) → AllFit lines → lines_checked lines ≡ Ok tt
unfolding lines_checked
all_checked lines none = refl
all_checked lines (row {l} {lines = more} f a) = ap (λ (w : Result Unit Refusal). and_then w (λ _. lines_checked more)) (fit_checked l.cells f) ∙ all_checked more a

long_told : (lines : List Line) (n : ℕ) → FirstLong lines n → lines_checked lines ≡ Err (TooLong 65535 n)
unfolding lines_checked
long_told lines n (here {l} {lines = more} g) = ap (λ (w : Result Unit Refusal). and_then w (λ _. lines_checked more)) (long_checked l.cells n g)
long_told lines n (behind {l} {lines = more} f g) = ap (λ (w : Result Unit Refusal). and_then w (λ _. lines_checked more)) (fit_checked l.cells f) ∙ long_told more n g

-- ---- the order
abbrev last_checks : List Line → Result ℕ Refusal → Result (List ℕ) Refusal
last_checks lines w = and_then w (λ size. and_then (size_checked size) (λ _. Ok (upload_of lines)))

sizes : (lines : List Line) (w : Result Unit Refusal) → lines_checked lines ≡ w → size_of lines ≡ and_then w (λ _. Ok (told (length (upload_of lines))))
unfolding size_of
sizes lines w h = ap (λ (v : Result Unit Refusal). and_then v (λ _. Ok (told (length (upload_of lines))))) h

module _ (s : Bor (List ℕ)) where
  first : (why : Refusal) → lines_of s ≡ Err why → importing s ≡ Err why
  unfolding importing
  first why h = ap (λ (w : Result (List Line) Refusal). and_then w (λ lines. and_then (encoded_from 0 s.now) (λ _. last_checks lines (size_of lines)))) h

  second : (lines : List Line) (place kind : ℕ) → lines_of s ≡ Ok lines → IsFirstFault s.now place kind → importing s ≡ Err (BadText place kind)
  unfolding importing
  second lines place kind h f =
      ap (λ (w : Result (List Line) Refusal). and_then w (λ lines. and_then (encoded_from 0 s.now) (λ _. last_checks lines (size_of lines)))) h
      ∙ ap (λ (w : Result (List ℕ) Refusal). and_then w (λ _. last_checks lines (size_of lines))) (at_fault s.now place kind f)

  sized : (lines : List Line) (w : Result Unit Refusal) → lines_of s ≡ Ok lines → IsText s.now → lines_checked lines ≡ w
      → importing s ≡ last_checks lines (and_then w (λ _. Ok (told (length (upload_of lines)))))
  sized lines w h x c =
      importing_on s lines x.bytes h (ap (encoded_from 0) x.is ∙ encoded_decoded x.bytes x.are)
      ∙ ap (last_checks lines) (sizes lines w c)

  abbrev at_size : List Line → Bool → Result (List ℕ) Refusal
  at_size lines b = and_then (if b then Err (TooLarge (told (length (upload_of lines)))) else Ok (tt {0})) (λ _. Ok (upload_of lines))

  -- each case is told as it says
  told_so : (w : Result (List ℕ) Refusal) → IsImport s w → importing s ≡ w
  told_so w (rows {why} h) = first why h
  told_so w (text {lines} {place} {kind} h f) = second lines place kind h f
  told_so w (long {lines} {n} h x f) = sized lines (Err (TooLong 65535 n)) h x (long_told lines n f)
  told_so w (large {lines} h x f k) = sized lines (Ok tt) h x (all_checked lines f) ∙ ap (at_size lines) (lt-ltb limit (told (length (upload_of lines))) (omega (arith, k)))
  told_so w (written {lines} h x f k) = sized lines (Ok tt) h x (all_checked lines f) ∙ ap (at_size lines) (le-ltb limit (told (length (upload_of lines))) (omega (arith, k)))

  abbrev Some_case : Type 0
  Some_case = (w : Result (List ℕ) Refusal) × IsImport s w

  -- and one is met
  by_length : (lines : List Line) → lines_of s ≡ Ok lines → IsText s.now → AllFit lines → Some_case
  by_length lines h x f = ⊎_elim
      (λ k. (Ok (upload_of lines), written h x f k))
      (λ k. (Err (TooLarge (told (length (upload_of lines)))), large h x f k)) (le_or_lt (length (upload_of lines)) 16777216)

  by_text : (lines : List Line) → lines_of s ≡ Ok lines → Some_case
  by_text lines h = ⊎_elim
      (λ x. ⊎_elim (by_length lines h x) (λ f. (Err (TooLong 65535 f.0), long h x f.1)) (sheet_halves s lines h x))
      (λ f. (Err (BadText f.0 f.1), text h f.2)) (text_or_fault s.now)

  by_rows : (w : Result (List Line) Refusal) → lines_of s ≡ w → Some_case
  by_rows (Ok lines) h = by_text lines h
  by_rows (Err why) h = (Err why, rows h)

  some_case : Some_case
  some_case = by_rows (lines_of s) refl

  met : (w : Result (List ℕ) Refusal) → importing s ≡ w → IsImport s w
  met w h = subst (IsImport s) (sym (told_so some_case.0 some_case.1) ∙ h) some_case.1

pub imports_meant : ImportsMeant
imports_meant s w = (met s w, told_so s w)
