-- The rows of a sheet, and its first fault.
use Rattle.std.proofs.Common.{ℕ, zero, suc, ◌+◌, ◌<◌, ◌≤◌, ◌≡◌, refl, sym, ap, ap₂, subst, ◌∙◌, Bool, true, false, List, [], ◌∷◌, length, arith}
use Rattle.std.specs.Prelude.{Option, Some, None, Result, Ok, Err, eqb, nat_eq, codes, if◌then◌else◌}
use Rattle.std.specs.Option.{ok_or}
use Rattle.std.specs.Cmp.Lexicographic.{pointwise, same_text}
use Rattle.std.specs.Borrow.{Bor}
use borrow.Author.Tests.{eqb-true, eqb-false}
use Rattle.le.specs.Le.{has}
use Rattle.part.specs.Outcome.{and_then}
use Rattle.refusal.specs.declared.Refusal.{Refusal}
use Rattle.refusal.specs.declared.Refusal.TheVariants.{BadSheet}
use Rattle.sheet_rows.specs.declared.cells.Cells.{Cells}
use Rattle.sheet_rows.specs.declared.cells.Three.{Three}
use Rattle.sheet_rows.specs.declared.numbers.Numbers.{Numbers}
use Rattle.sheet_rows.specs.Cells.{if_some, cells_of}
use Rattle.sheet_rows.specs.Numbers.{number_of}
use Rattle.sheet_rows.specs.Rows.{is_bare, flags_of, numbers_of, Line, line_of, in_row, lines_from, are_words, is_header, behind_header, lines_of}
use Rattle.sheet_rows.specs.Meant.{IsRow, texts_of}
use Rattle.sheet_rows.specs.SheetMeant.{
  words,
  IsValue,
  IsBare,
  HasNumbers,
  Has,
  HasBare,
  IsFirstBad,
  index_group,
  index_offset,
  size,
  data_type_id,
  flags,
  high,
  AreLines,
  none,
  row,
  IsFault,
  shape,
  column,
  behind,
  IsSheetFault,
  header,
  below,
  SheetsMeant,
}
use Rattle.sheet_rows.proofs.NumbersRead.{numbers_meant}
use Rattle.sheet_rows.proofs.RowsRead.{rows_meant, cells_shorter}
use Rattle.sheet_rows.proofs.Lines.{line_parts, lines_none, lines_on}

-- ---- the number of a cell
value_is : (most n : ℕ) (text : List ℕ) → most < 4294967296 → number_of most text ≡ Some n → IsValue (suc most) text n
value_is most n text h e = let p = (numbers_meant most n text h).0 e in record { number = p.1; fits = omega (arith, p.0) }

value_read : (most n : ℕ) (text : List ℕ) → most < 4294967296 → IsValue (suc most) text n → number_of most text ≡ Some n
value_read most n text h v = (numbers_meant most n text h).1 (omega (arith, v.fits), v.number)

no_value : (most : ℕ) (text : List ℕ) → most < 4294967296 → number_of most text ≡ None → Has (suc most) text → ⊥
no_value most text h e v = let f = sym (value_read most v.0 text h v.1) ∙ e in cc

bare_is : (n : ℕ) (text : List ℕ) → flags_of text ≡ Some n → IsBare text n
unfolding flags_of
bare_is n text = by (number_of 65535 text) refl
  where
    inner : (k : ℕ) (a b d : Bool) → number_of 65535 text ≡ Some k → has k 0x0008 ≡ a → has k 0x1000 ≡ b → has k 0x8000 ≡ d
        → (if (if a then false else if b then false else if d then false else true) then Some k else None) ≡ Some n → IsBare text n
    inner k true b d e f g h i = cc
    inner k false true d e f g h i = cc
    inner k false false true e f g h i = cc
    inner k false false false e f g h i =
        let same : k ≡ n = cc in
        subst (IsBare text) same (record { value = value_is 65535 k text (omega arith) e; guid = f; attributes = g; extended_flags = h })

    by : (o : Option ℕ) → number_of 65535 text ≡ o → if_some o (λ f. if is_bare f then Some f else None) ≡ Some n → IsBare text n
    by (Some k) e h = inner k (has k 0x0008) (has k 0x1000) (has k 0x8000) e refl refl refl h
    by None e h = cc

no_bare : (text : List ℕ) → flags_of text ≡ None → HasBare text → ⊥
unfolding flags_of
no_bare text e v =
    let n : ℕ = v.0 in
    let k = value_read 65535 n text (omega arith) v.1.value in
    let f : flags_of text ≡ Some n =
    ap (λ (o : Option ℕ). if_some o (λ f. if is_bare f then Some f else None)) k
    ∙ simp (v.1.guid, v.1.attributes, v.1.extended_flags) in
    let g = sym f ∙ e in
    cc

-- ---- the numbers of a row
module _ (c : Cells) where
  abbrev Good : Numbers → Type 0
  Good n = HasNumbers c n

  -- what is told where the first columns are good
  data Told : Result Numbers ℕ → Type 0 where
    good : {n : Numbers} → HasNumbers c n → Told (Ok n)
    bad : {k : ℕ} → IsFirstBad c k → Told (Err k)

  told_high : (a b d e f : ℕ) → IsValue 4294967296 c.places.first.now a → IsValue 4294967296 c.places.second.now b → IsValue 4294967296 c.places.third.now d
      → IsValue 4294967296 c.kinds.first.now e → IsBare c.kinds.second.now f → (o : Option ℕ) → number_of 65535 c.kinds.third.now ≡ o
      → Told (and_then (ok_or o 6) (λ g. Ok (record { index_group = a; index_offset = b; size = d; data_type_id = e; flags = f; high = g })))
  told_high a b d e f p q r s t (Some g) h = good (record { index_group = p; index_offset = q; size = r; data_type_id = s; flags = t; high = value_is 65535 g c.kinds.third.now (omega arith) h })
  told_high a b d e f p q r s t None h = bad (high (a, p) (b, q) (d, r) (e, s) (f, t) (no_value 65535 c.kinds.third.now (omega arith) h))

  told_flags : (a b d e : ℕ) → IsValue 4294967296 c.places.first.now a → IsValue 4294967296 c.places.second.now b → IsValue 4294967296 c.places.third.now d
      → IsValue 4294967296 c.kinds.first.now e → (o : Option ℕ) → flags_of c.kinds.second.now ≡ o
      → Told (and_then (ok_or o 5) (λ f. and_then (ok_or (number_of 65535 c.kinds.third.now) 6) (λ g. Ok (record { index_group = a; index_offset = b; size = d; data_type_id = e; flags = f; high = g }))))
  told_flags a b d e p q r s (Some f) h = told_high a b d e f p q r s (bare_is f c.kinds.second.now h) (number_of 65535 c.kinds.third.now) refl
  told_flags a b d e p q r s None h = bad (flags (a, p) (b, q) (d, r) (e, s) (no_bare c.kinds.second.now h))

  told_type : (a b d : ℕ) → IsValue 4294967296 c.places.first.now a → IsValue 4294967296 c.places.second.now b → IsValue 4294967296 c.places.third.now d
      → (o : Option ℕ) → number_of 4294967295 c.kinds.first.now ≡ o
      → Told (and_then (ok_or o 4) (λ e. and_then (ok_or (flags_of c.kinds.second.now) 5) (λ f. and_then (ok_or (number_of 65535 c.kinds.third.now) 6) (λ g. Ok (record { index_group = a; index_offset = b; size = d; data_type_id = e; flags = f; high = g })))))
  told_type a b d p q r (Some e) h = told_flags a b d e p q r (value_is 4294967295 e c.kinds.first.now (omega arith) h) (flags_of c.kinds.second.now) refl
  told_type a b d p q r None h = bad (data_type_id (a, p) (b, q) (d, r) (no_value 4294967295 c.kinds.first.now (omega arith) h))

  told_size : (a b : ℕ) → IsValue 4294967296 c.places.first.now a → IsValue 4294967296 c.places.second.now b → (o : Option ℕ) → number_of 4294967295 c.places.third.now ≡ o
      → Told (and_then (ok_or o 3) (λ d. and_then (ok_or (number_of 4294967295 c.kinds.first.now) 4) (λ e. and_then (ok_or (flags_of c.kinds.second.now) 5) (λ f. and_then (ok_or (number_of 65535 c.kinds.third.now) 6) (λ g. Ok (record { index_group = a; index_offset = b; size = d; data_type_id = e; flags = f; high = g }))))))
  told_size a b p q (Some d) h = told_type a b d p q (value_is 4294967295 d c.places.third.now (omega arith) h) (number_of 4294967295 c.kinds.first.now) refl
  told_size a b p q None h = bad (size (a, p) (b, q) (no_value 4294967295 c.places.third.now (omega arith) h))

  told_offset : (a : ℕ) → IsValue 4294967296 c.places.first.now a → (o : Option ℕ) → number_of 4294967295 c.places.second.now ≡ o
      → Told (and_then (ok_or o 2) (λ b. and_then (ok_or (number_of 4294967295 c.places.third.now) 3) (λ d. and_then (ok_or (number_of 4294967295 c.kinds.first.now) 4) (λ e. and_then (ok_or (flags_of c.kinds.second.now) 5) (λ f. and_then (ok_or (number_of 65535 c.kinds.third.now) 6) (λ g. Ok (record { index_group = a; index_offset = b; size = d; data_type_id = e; flags = f; high = g })))))))
  told_offset a p (Some b) h = told_size a b p (value_is 4294967295 b c.places.second.now (omega arith) h) (number_of 4294967295 c.places.third.now) refl
  told_offset a p None h = bad (index_offset (a, p) (no_value 4294967295 c.places.second.now (omega arith) h))

  told_group : (o : Option ℕ) → number_of 4294967295 c.places.first.now ≡ o
      → Told (and_then (ok_or o 1) (λ a. and_then (ok_or (number_of 4294967295 c.places.second.now) 2) (λ b. and_then (ok_or (number_of 4294967295 c.places.third.now) 3) (λ d. and_then (ok_or (number_of 4294967295 c.kinds.first.now) 4) (λ e. and_then (ok_or (flags_of c.kinds.second.now) 5) (λ f. and_then (ok_or (number_of 65535 c.kinds.third.now) 6) (λ g. Ok (record { index_group = a; index_offset = b; size = d; data_type_id = e; flags = f; high = g }))))))))
  told_group (Some a) h = told_offset a (value_is 4294967295 a c.places.first.now (omega arith) h) (number_of 4294967295 c.places.second.now) refl
  told_group None h = bad (index_group (no_value 4294967295 c.places.first.now (omega arith) h))

  numbers_told : Told (numbers_of c)
  unfolding numbers_of
  numbers_told = told_group (number_of 4294967295 c.places.first.now) refl

-- ---- the header
same_words : (t : Three) (a b c : List ℕ) → are_words t a b c ≡ true → (t.first.now ≡ a) × (t.second.now ≡ b) × (t.third.now ≡ c)
same_words t a b c = by (pointwise nat_eq t.first.now a) (pointwise nat_eq t.second.now b) (pointwise nat_eq t.third.now c) refl refl refl
  where
    by : (p q r : Bool) → pointwise nat_eq t.first.now a ≡ p → pointwise nat_eq t.second.now b ≡ q → pointwise nat_eq t.third.now c ≡ r
        → (if p then if q then r else false else false) ≡ true → (t.first.now ≡ a) × (t.second.now ≡ b) × (t.third.now ≡ c)
    by true true true e f g h = (same_text t.first.now a (sym e), same_text t.second.now b (sym f), same_text t.third.now c (sym g))
    by true true false e f g h = cc
    by true false r e f g h = cc
    by false q r e f g h = cc

also : {a b : List ℕ} {l m : List (List ℕ)} → a ≡ b → l ≡ m → a ∷ l ≡ b ∷ m
also e f = ap₂ (λ (x : List ℕ) (y : List (List ℕ)). x ∷ y) e f

both_true : (b c : Bool) → (if b then c else false) ≡ true → (b ≡ true) × (c ≡ true)
both_true true c e = (refl, e)
both_true false c e = cc

header_words : (c : Cells) → is_header c ≡ true → texts_of c ≡ words
unfolding is_header
header_words c h =
    let p = both_true (are_words c.places (codes "group") (codes "offset") (codes "size")) _ h in
    let q = both_true (are_words c.kinds (codes "type id") (codes "flags") (codes "high")) _ p.1 in
    let a = same_words c.places (codes "group") (codes "offset") (codes "size") p.0 in
    let b = same_words c.kinds (codes "type id") (codes "flags") (codes "high") q.0 in
    let d = same_words c.strings (codes "name") (codes "type") (codes "comment") q.1 in
    also a.0 (also a.1 (also a.2 (also b.0 (also b.1 (also b.2 (also d.0 (also d.1 (also d.2 refl))))))))

words_by : (a b c d e f g h i : List ℕ) → Bool
words_by a b c d e f g h i =
    if (if pointwise nat_eq a (codes "group") then if pointwise nat_eq b (codes "offset") then pointwise nat_eq c (codes "size") else false else false) then
    if (if pointwise nat_eq d (codes "type id") then if pointwise nat_eq e (codes "flags") then pointwise nat_eq f (codes "high") else false else false) then
    if pointwise nat_eq g (codes "name") then if pointwise nat_eq h (codes "type") then pointwise nat_eq i (codes "comment") else false else false
    else false
    else false

-- those of a list of nine
words_of : List (List ℕ) → Bool
words_of (a ∷ b ∷ c ∷ d ∷ e ∷ f ∷ g ∷ h ∷ i ∷ l) = words_by a b c d e f g h i
words_of l = false

pub words_header : (c : Cells) → texts_of c ≡ words → is_header c ≡ true
unfolding is_header words_of words_by
words_header c e = ap words_of e

-- ---- rows one after another
no_cells : (s : Bor (List ℕ)) → cells_of s ≡ None → (c : Cells) (rest : List ℕ) → IsRow (texts_of c) s.now rest → ⊥
no_cells s h c rest r = let p = rows_meant.only s (texts_of c) rest refl r in let e = sym h ∙ p.1 in cc

numbers_good : (c : Cells) (n : Numbers) (w : Result Numbers ℕ) → w ≡ Ok n → Told c w → HasNumbers c n
numbers_good c n w e (good {n = m} g) = let same : m ≡ n = cc in subst (HasNumbers c) same g
numbers_good c n w e (bad b) = cc

bad_numbers : (c : Cells) (k : ℕ) (w : Result Numbers ℕ) → w ≡ Err k → Told c w → IsFirstBad c k
bad_numbers c k w e (good g) = cc
bad_numbers c k w e (bad {k = j} b) = let same : j ≡ k = cc in subst (IsFirstBad c) same b

first_line : (s : Bor (List ℕ)) (l : Line) → line_of s ≡ Ok l → IsRow (texts_of l.cells) s.now l.cells.strings.rest.now × HasNumbers l.cells l.numbers
first_line s l h =
    let p = line_parts s l h in
    (rows_meant.row s l.cells p.cells, numbers_good l.cells l.numbers (numbers_of l.cells) p.numbers (numbers_told l.cells))

first_fault : (s : Bor (List ℕ)) (k at : ℕ) → 0 < length s.now → line_of s ≡ Err k → IsFault s.now at at k
unfolding line_of
first_fault s k at some = by (cells_of s) refl
  where
    inner : (c : Cells) (w : Result Numbers ℕ) → cells_of s ≡ Some c → numbers_of c ≡ w → and_then {B = Line} w (λ n. Ok (record { cells = c; numbers = n })) ≡ Err k → IsFault s.now at at k
    inner c (Ok n) e f h = cc
    inner c (Err j) e f h = let same : j ≡ k = cc in column (rows_meant.row s c e) (bad_numbers c k (numbers_of c) (f ∙ ap (λ (i : ℕ). Err i) same) (numbers_told c))

    by : (o : Option Cells) → cells_of s ≡ o → and_then {B = Line} (ok_or o 0) (λ c. and_then (numbers_of c) (λ n. Ok (record { cells = c; numbers = n }))) ≡ Err k → IsFault s.now at at k
    by (Some c) e h = inner c (numbers_of c) e refl h
    by None e h = let same : 0 ≡ k = cc in subst (IsFault s.now at at) same (shape some (no_cells s e))

-- what is told of rows
data Rows (s : List ℕ) (at : ℕ) : Result (List Line) Refusal → Type 0 where
  lines : {l : List Line} → AreLines s l → Rows s at (Ok l)
  fault : {row k : ℕ} → IsFault s at row k → Rows s at (Err (BadSheet row k))

rows_then : {s : List ℕ} {rest : List ℕ} (at : ℕ) (l : Line) (w : Result (List Line) Refusal) → IsRow (texts_of l.cells) s rest → HasNumbers l.cells l.numbers → Rows rest (at + 1) w
    → Rows s at (and_then w (λ lines. Ok (l ∷ lines)))
rows_then at l (Ok more) r h (lines a) = lines (row r h a)
rows_then at l (Err why) r h (fault f) = fault (behind r h f)

nothing : (s : List ℕ) (at : ℕ) → length s ≡ 0 → Rows s at (Ok [])
nothing [] at h = lines none
nothing (b ∷ s) at h = absurd (omega arith)

rows_met : (n at : ℕ) (s : Bor (List ℕ)) → length s.now ≤ n → Rows s.now at (lines_from n at s)
rows_met zero at s h = subst (Rows s.now at) (sym (lines_none zero at s (omega arith))) (nothing s.now at (omega arith))
rows_met (suc n) at s h = by (eqb (length s.now) 0) refl (λ (t : Bor (List ℕ)) k. rows_met n (at + 1) t k)
  where
    some : 0 < length s.now → (w : Result Line ℕ) → line_of s ≡ w → ((t : Bor (List ℕ)) → length t.now ≤ n → Rows t.now (at + 1) (lines_from n (at + 1) t))
        → Rows s.now at (and_then (in_row at w) (λ l. and_then (lines_from n (at + 1) l.cells.strings.rest) (λ lines. Ok (l ∷ lines))))
    some k (Ok l) e more =
        let p = first_line s l e in
        let short = cells_shorter s l.cells (line_parts s l e).cells in
        rows_then at l (lines_from n (at + 1) l.cells.strings.rest) p.0 p.1 (more l.cells.strings.rest (omega (arith, h, short)))
    some k (Err j) e more = fault (first_fault s j at k e)

    by : (b : Bool) → eqb (length s.now) 0 ≡ b → ((t : Bor (List ℕ)) → length t.now ≤ n → Rows t.now (at + 1) (lines_from n (at + 1) t)) → Rows s.now at (lines_from (suc n) at s)
    by true e more = let z = eqb-true (length s.now) 0 e in subst (Rows s.now at) (sym (lines_none (suc n) at s z)) (nothing s.now at z)
    by false e more = let z : 0 < length s.now = omega (arith, eqb-false (length s.now) 0 e) in subst (Rows s.now at) (sym (lines_on n at s z)) (some z (line_of s) refl more)

-- ---- a sheet
data Sheet (s : List ℕ) : Result (List Line) Refusal → Type 0 where
  lines : {rest : List ℕ} {l : List Line} → IsRow words s rest → AreLines rest l → Sheet s (Ok l)
  fault : {at k : ℕ} → IsSheetFault s at k → Sheet s (Err (BadSheet at k))

sheet_then : {s rest : List ℕ} {w : Result (List Line) Refusal} → IsRow words s rest → Rows rest 2 w → Sheet s w
sheet_then r (lines a) = lines r a
sheet_then r (fault f) = fault (below r f)

sheet_met : (s : Bor (List ℕ)) → Sheet s.now (lines_of s)
unfolding lines_of behind_header
sheet_met s = by (cells_of s) refl
  where
    inner : (c : Cells) (b : Bool) → cells_of s ≡ Some c → is_header c ≡ b
        → Sheet s.now (and_then (ok_or (if b then Some c.strings.rest else None) (BadSheet 1 0)) (λ rest. lines_from (length rest.now) 2 rest))
    inner c true e f =
        let r : IsRow words s.now c.strings.rest.now = subst (λ (l : List (List ℕ)). IsRow l s.now c.strings.rest.now) (header_words c f) (rows_meant.row s c e) in
        sheet_then r (rows_met (length c.strings.rest.now) 2 c.strings.rest (omega arith))
    inner c false e f = fault (header (λ rest r.
        let p = rows_meant.only s words rest refl r in
        let same : p.0 ≡ c = let g = sym p.1 ∙ e in cc in
        let g : is_header c ≡ true = words_header c (ap texts_of (sym same) ∙ p.2) in
        let z : true ≡ false = sym g ∙ f in
        cc))

    by : (o : Option Cells) → cells_of s ≡ o
        → Sheet s.now (and_then (ok_or (if_some o (λ c. if is_header c then Some c.strings.rest else None)) (BadSheet 1 0)) (λ rest. lines_from (length rest.now) 2 rest))
    by (Some c) e = inner c (is_header c) e refl
    by None e = fault (header (λ rest r. let p = rows_meant.only s words rest refl r in let g = sym e ∙ p.1 in cc))

told_good : (s : List ℕ) (l : List Line) (w : Result (List Line) Refusal) → w ≡ Ok l → Sheet s w → (rest : List ℕ) × IsRow words s rest × AreLines rest l
told_good s l w e (lines {rest} {l = m} r a) = let same : m ≡ l = cc in (rest, r, subst (AreLines rest) same a)
told_good s l w e (fault f) = cc

told_bad : (s : List ℕ) (why : Refusal) (w : Result (List Line) Refusal) → w ≡ Err why → Sheet s w → (row : ℕ) × (column : ℕ) × (why ≡ BadSheet row column) × IsSheetFault s row column
told_bad s why w e (lines r a) = cc
told_bad s why w e (fault {at} {k} f) = let same : why ≡ BadSheet at k = cc in (at, k, same, f)

pub sheets_meant : SheetsMeant
sheets_meant = record {
  good = λ s l h. told_good s.now l (lines_of s) h (sheet_met s);
  bad = λ s why h. told_bad s.now why (lines_of s) h (sheet_met s);
}
