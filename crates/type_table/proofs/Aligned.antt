-- The cells of the table of data types stand in their columns.
use Rattle.std.proofs.Common.{◌≡◌, ℕ, zero, suc, ◌+◌, ◌-◌, ◌*◌, ◌<◌, ◌≤◌, Bool, true, false, List, [], ◌∷◌, ◌++◌, codes, decimal, get_or, length, map, refl, sym, ap, ap₂, subst, ◌∙◌, append_assoc, append-nil, length-append, arith, encode_utf8_all}
use Rattle.std.specs.Prelude.{◌^◌, max, nat_lt, not, replicate, Contains, Result, Ok, Err, ℤ, pos, negsuc, if◌then◌else◌}
use Rattle.std.specs.Fmt.{signed_decimal}
use Rattle.std.specs.List.{flat_map}
use Rattle.text.specs.Text.{code_point}
use Rattle.wording.specs.Meant.{IsVisible}
use Rattle.std.proofs.Math.Nat.{le-max_left, le-max_right}
use Rattle.std.proofs.lemmas.List.{length-replicate, replicate-append-replicate}
use Rattle.std.proofs.lemmas.List.Elements.{All-contains}
use Rattle.std.proofs.lemmas.Str.{encodes-append, encodes_same}
use borrow.Author.Tests.{lt-ltb}
use Rattle.le.specs.Le.{has}
use Rattle.part.specs.Outcome.{outcome}
use Rattle.refusal.specs.Refusal.{limit}
use Rattle.refusal.specs.declared.Mode.{Mode}
use Rattle.refusal.specs.declared.Refusal.{Refusal}
use Rattle.walk.specs.declared.Piece.{Piece}
use Rattle.attribute.specs.Attribute as attribute
use Rattle.attribute.specs.declared.AdsAttribute.{AdsAttribute}
use Rattle.data_type.specs.Array as array
use Rattle.data_type.specs.declared.AdsDataTypeInfo.{AdsDataTypeInfo}
use Rattle.data_type.specs.declared.array.AdsArrayInfo.{AdsArrayInfo}
use Rattle.wording.specs.Text.{shown, shown_width}
use Rattle.wording.proofs.Read.{strings_shown}
use Rattle.report.specs.Report.{plus}
use Rattle.report.specs.Cells.{at_left, at_right, number_cell, name_cell, refused_row}
use Rattle.report.specs.Aligned.{Cell, left, right, IsColumn, IsRow}
use Rattle.report.specs.Aligned as aligned
use Rattle.report.proofs.Digits.{few_digits}
use Rattle.report.proofs.Aligned.{IsPlainText, plain_nil, plain_cons, plain_append, plain_spaces, plain_digits, Column, Row, Seen, in_characters, on_left, in_number, in_name, row_last, row_more, refused_line}
use Rattle.type_tree.specs.declared.node.Node.{Node}
use Rattle.type_table.specs.declared.table.Columns.{Columns}
use Rattle.type_tree.specs.declared.marks.Marks.{Marks}
use Rattle.type_table.specs.Cells.{is_none, lowest, highest, array_cell, array_cells, array_width, arrays_on, arrays_width, attribute_cell}
use Rattle.type_tree.specs.Joined.{more, joined}
use Rattle.type_tree.specs.Marks.{said, words_of, marks_text}
use Rattle.type_tree.specs.Node.{root}
use Rattle.type_table.specs.Table.{headings, widths_of, widest, fitted_on, fitted, fitted_all, columns_of, headings_text, names_text, numbers_text, tail_text, row_text, row_line, rows_at, piece_lines}
use Rattle.type_table.specs.Aligned.{IsSmall, IsNodeRow, TypeTablesMeant, widths, heading_cells, node_cells}

-- columns that are at least as wide
record IsWithin (a b : Columns) : Type 0 where
  place : a.place ≤ b.place
  name : a.name ≤ b.name
  type_name : a.type_name ≤ b.type_name
  offset : a.offset ≤ b.offset
  from_start : a.from_start ≤ b.from_start
  size : a.size ≤ b.size
  marks : a.marks ≤ b.marks
  arrays : a.arrays ≤ b.arrays

itself : (a : Columns) → IsWithin a a
itself a = record { place = omega arith; name = omega arith; type_name = omega arith; offset = omega arith; from_start = omega arith; size = omega arith; marks = omega arith; arrays = omega arith }

further : (a b c : Columns) → IsWithin a b → IsWithin b c → IsWithin a c
further a b c h k = record { place = omega arith; name = omega arith; type_name = omega arith; offset = omega arith; from_start = omega arith; size = omega arith; marks = omega arith; arrays = omega arith }

in_widest : (a b : Columns) → IsWithin a (widest a b)
unfolding widest
in_widest a b = record {
  place = le-max_left a.place b.place;
  name = le-max_left a.name b.name;
  type_name = le-max_left a.type_name b.type_name;
  offset = le-max_left a.offset b.offset;
  from_start = le-max_left a.from_start b.from_start;
  size = le-max_left a.size b.size;
  marks = le-max_left a.marks b.marks;
  arrays = le-max_left a.arrays b.arrays;
}

also_in_widest : (a b : Columns) → IsWithin b (widest a b)
unfolding widest
also_in_widest a b = record {
  place = le-max_right a.place b.place;
  name = le-max_right a.name b.name;
  type_name = le-max_right a.type_name b.type_name;
  offset = le-max_right a.offset b.offset;
  from_start = le-max_right a.from_start b.from_start;
  size = le-max_right a.size b.size;
  marks = le-max_right a.marks b.marks;
  arrays = le-max_right a.arrays b.arrays;
}

rows_grow : (c : Columns) (rs : List (ℕ × Node)) → IsWithin c (fitted_on c rs)
unfolding fitted_on
rows_grow c [] = itself c
rows_grow c (r ∷ rs) = further c (widest c (widths_of r.0 r.1)) (fitted_on (widest c (widths_of r.0 r.1)) rs) (in_widest c (widths_of r.0 r.1)) (rows_grow (widest c (widths_of r.0 r.1)) rs)

rows_fit : (c : Columns) (rs : List (ℕ × Node)) (k : ℕ) (d : ℕ × Node) → k < length rs → IsWithin (widths_of (get_or rs k d).0 (get_or rs k d).1) (fitted_on c rs)
unfolding fitted_on
rows_fit c [] k d lt = absurd (omega (arith, lt))
rows_fit c (r ∷ rs) zero d lt =
    further (widths_of r.0 r.1) (widest c (widths_of r.0 r.1)) (fitted_on (widest c (widths_of r.0 r.1)) rs) (also_in_widest c (widths_of r.0 r.1)) (rows_grow (widest c (widths_of r.0 r.1)) rs)
rows_fit c (r ∷ rs) (suc k) d lt = rows_fit (widest c (widths_of r.0 r.1)) rs k d (omega (arith, lt))

-- an entry's rows fit
abbrev FitsBy : Mode → Columns → ℕ → Result AdsDataTypeInfo Refusal → Type 0
FitsBy mode c place (Ok info) = (k : ℕ) (d : ℕ × Node) → k < length (rows_at mode (root place info)) → IsWithin (widths_of (get_or (rows_at mode (root place info)) k d).0 (get_or (rows_at mode (root place info)) k d).1) c
FitsBy mode c place (Err why) = length (decimal place) ≤ c.place

abbrev fitted_by : Mode → Columns → ℕ → Result AdsDataTypeInfo Refusal → Columns
fitted_by mode c place r = outcome r (λ info. fitted_on c (rows_at mode (root place info))) (λ why. record c { place = max c.place (length (decimal place)) })

grown_by : (mode : Mode) (c : Columns) (place : ℕ) (r : Result AdsDataTypeInfo Refusal) → IsWithin c (fitted_by mode c place r)
grown_by mode c place (Ok info) = rows_grow c (rows_at mode (root place info))
grown_by mode c place (Err why) = record { place = le-max_left c.place (length (decimal place)); name = omega arith; type_name = omega arith; offset = omega arith; from_start = omega arith; size = omega arith; marks = omega arith; arrays = omega arith }

fits_by : (mode : Mode) (c : Columns) (place : ℕ) (r : Result AdsDataTypeInfo Refusal) → FitsBy mode (fitted_by mode c place r) place r
fits_by mode c place (Ok info) = rows_fit c (rows_at mode (root place info))
fits_by mode c place (Err why) = le-max_right c.place (length (decimal place))

fits_in : (mode : Mode) (a b : Columns) (place : ℕ) (r : Result AdsDataTypeInfo Refusal) → FitsBy mode a place r → IsWithin a b → FitsBy mode b place r
fits_in mode a b place (Ok info) h w = λ k d lt. further (widths_of (get_or (rows_at mode (root place info)) k d).0 (get_or (rows_at mode (root place info)) k d).1) a b (h k d lt) w
fits_in mode a b place (Err why) h w = omega (arith, h)

grown : (mode : Mode) (c : Columns) (ps : List (Piece AdsDataTypeInfo)) → IsWithin c (fitted_all mode c ps)
unfolding fitted_all fitted
grown mode c [] = itself c
grown mode c (p ∷ ps) = further c (fitted mode c p) (fitted_all mode (fitted mode c p) ps) (grown_by mode c p.start p.answer) (grown mode (fitted mode c p) ps)

fit_all : (mode : Mode) (c : Columns) (ps : List (Piece AdsDataTypeInfo)) (k : ℕ) (d : Piece AdsDataTypeInfo) → k < length ps → FitsBy mode (fitted_all mode c ps) (get_or ps k d).start (get_or ps k d).answer
unfolding fitted_all fitted
fit_all mode c [] k d lt = absurd (omega (arith, lt))
fit_all mode c (p ∷ ps) zero d lt = fits_in mode (fitted mode c p) (fitted_all mode (fitted mode c p) ps) p.start p.answer (fits_by mode c p.start p.answer) (grown mode (fitted mode c p) ps)
fit_all mode c (p ∷ ps) (suc k) d lt = fit_all mode (fitted mode c p) ps k d (omega (arith, lt))

fits : (mode : Mode) (ps : List (Piece AdsDataTypeInfo)) (p : Piece AdsDataTypeInfo) → Contains ps p → FitsBy mode (columns_of mode ps) p.start p.answer
fits mode ps p h = All-contains (λ (q : Piece AdsDataTypeInfo). FitsBy mode (columns_of mode ps) q.start q.answer) ps p (fit_all mode headings ps) h

row_fits : (mode : Mode) (c : Columns) (place : ℕ) (info : AdsDataTypeInfo) (r : ℕ × Node) → FitsBy mode c place (Ok info) → Contains (rows_at mode (root place info)) r → IsWithin (widths_of r.0 r.1) c
row_fits mode c place info r h at = All-contains (λ (q : ℕ × Node). IsWithin (widths_of q.0 q.1) c) (rows_at mode (root place info)) r h at

-- texts that are their own UTF-8
abbrev Plain : List (List ℕ) → Type 0
Plain [] = Unit
Plain (w ∷ ws) = IsPlainText w × Plain ws

plain_on : (a b : List (List ℕ)) → Plain a → Plain b → Plain (a ++ b)
plain_on [] b p q = q
plain_on (w ∷ a) b p q = (p.0, plain_on a b p.1 q)

plain_said : (z : Bool) (w : List ℕ) → IsPlainText w → Plain (said z w)
plain_said true w p = (p, tt)
plain_said false w p = tt

plain_four : (a b c d : Bool) (p q r s : List ℕ) → IsPlainText p → IsPlainText q → IsPlainText r → IsPlainText s → Plain (said a p ++ (said b q ++ (said c r ++ said d s)))
plain_four a b c d p q r s x y z w =
    plain_on (said a p) (said b q ++ (said c r ++ said d s)) (plain_said a p x)
    (plain_on (said b q) (said c r ++ said d s) (plain_said b q y) (plain_on (said c r) (said d s) (plain_said c r z) (plain_said d s w)))

plain_words : (prefix : List ℕ) (flags : ℕ) → IsPlainText prefix → Plain (words_of prefix flags)
unfolding words_of lib.Utf8.encode
plain_words prefix flags p =
    plain_four (has flags 0x20) (has flags 0x20000) (has flags 4) (has flags 0x40) (prefix ++ codes "bits") (prefix ++ codes "static") (prefix ++ codes "reference") (prefix ++ codes "property")
    (plain_append prefix (codes "bits") p (record { is = refl })) (plain_append prefix (codes "static") p (record { is = refl }))
    (plain_append prefix (codes "reference") p (record { is = refl })) (plain_append prefix (codes "property") p (record { is = refl }))

-- with something plain between two
module _ {X : Type 0} (between : List ℕ) (f : X → List ℕ) (p : IsPlainText between) where
  plain_more : (xs : List X) → ((x : X) → IsPlainText (f x)) → IsPlainText (more between f xs)
  unfolding more
  plain_more [] h = plain_nil
  plain_more (x ∷ xs) h = plain_append (between ++ f x) (more between f xs) (plain_append between (f x) p (h x)) (plain_more xs h)

  plain_joined : (xs : List X) → ((x : X) → IsPlainText (f x)) → IsPlainText (joined between f xs)
  unfolding joined
  plain_joined [] h = plain_nil
  plain_joined (x ∷ xs) h = plain_append (f x) (more between f xs) (h x) (plain_more xs h)

comma : IsPlainText (codes ", ")
unfolding lib.Utf8.encode
comma = record { is = refl }

bare : (w : List ℕ) → IsPlainText w → IsPlainText ([] ++ (w ++ []))
bare w p = plain_append w [] p plain_nil

more_words : (ws : List (List ℕ)) → Plain ws → IsPlainText (more (codes ", ") (λ w. [] ++ (w ++ [])) ws)
unfolding more
more_words [] h = plain_nil
more_words (w ∷ ws) h = plain_append (codes ", " ++ (w ++ [])) (more (codes ", ") (λ v. [] ++ (v ++ [])) ws) (plain_append (codes ", ") (w ++ []) comma (bare w h.0)) (more_words ws h.1)

joined_words : (ws : List (List ℕ)) → Plain ws → IsPlainText (joined (codes ", ") (λ w. [] ++ (w ++ [])) ws)
unfolding joined
joined_words [] h = plain_nil
joined_words (w ∷ ws) h = plain_append (w ++ []) (more (codes ", ") (λ v. [] ++ (v ++ [])) ws) (bare w h.0) (more_words ws h.1)

plain_marks : (m : Marks) → IsPlainText (marks_text (codes ", ") [] m)
unfolding marks_text lib.Utf8.encode
plain_marks m = joined_words (words_of [] m.own.0 ++ words_of (codes "in ") m.around.0)
    (plain_on (words_of [] m.own.0) (words_of (codes "in ") m.around.0) (plain_words [] m.own.0 plain_nil) (plain_words (codes "in ") m.around.0 (record { is = refl })))

-- so are the bounds of array records
plain_signed : (z : ℤ) → IsPlainText (signed_decimal z)
plain_signed (pos n) = plain_digits 10 false n (omega arith) (omega arith)
plain_signed (negsuc n) = plain_cons 45 (decimal (suc n)) (omega arith) (plain_digits 10 false (suc n) (omega arith) (omega arith))

plain_array : (a : AdsArrayInfo) → IsPlainText (array_cell a)
unfolding array_cell lib.Utf8.encode
plain_array a = plain_append (signed_decimal (lowest a)) (codes ".." ++ signed_decimal (highest a)) (plain_signed (lowest a))
    (plain_append (codes "..") (signed_decimal (highest a)) (record { is = refl }) (plain_signed (highest a)))

plain_arrays : (all : List AdsArrayInfo) → IsPlainText (array_cells all)
unfolding array_cells lib.Utf8.encode
plain_arrays [] = plain_nil
plain_arrays (a ∷ all) = plain_append (codes "[") (joined (codes ", ") array_cell (a ∷ all) ++ codes "]") (record { is = refl })
    (plain_append (joined (codes ", ") array_cell (a ∷ all)) (codes "]") (plain_joined (codes ", ") array_cell comma (a ∷ all) plain_array) (record { is = refl }))

-- and their width is the number of their characters
few_signed : (z : ℤ) → length (signed_decimal z) ≤ 65
few_signed (pos n) = omega (arith, few_digits 10 false n)
few_signed (negsuc n) = omega (arith, few_digits 10 false (suc n))

widths_sum : List AdsArrayInfo → ℕ
widths_sum [] = 0
widths_sum (a ∷ all) = array_width a + widths_sum all

sum_few : (all : List AdsArrayInfo) → widths_sum all ≤ 134 * length all
unfolding widths_sum array_width
sum_few [] = omega arith
sum_few (a ∷ all) = omega (arith, few_signed (lowest a), few_signed (highest a), sum_few all)

on_sum : (n : ℕ) (all : List AdsArrayInfo) → n + widths_sum all < 2 ^ 64 → arrays_on n all ≡ n + widths_sum all
unfolding widths_sum arrays_on
on_sum n [] h = omega arith
on_sum n (a ∷ all) h =
    let own : plus n (array_width a) ≡ n + array_width a = omega (arith, h) in
    ap (λ (x : ℕ). arrays_on x all) own ∙ on_sum (n + array_width a) all (omega (arith, h)) ∙ omega arith

more_long : (all : List AdsArrayInfo) → length (more (codes ", ") array_cell all) ≡ widths_sum all
unfolding more array_cell array_width widths_sum
more_long [] = refl
more_long (a ∷ all) =
    omega (
      arith,
      length-append (codes ", " ++ array_cell a) (more (codes ", ") array_cell all),
      length-append (signed_decimal (lowest a)) (codes ".." ++ signed_decimal (highest a)),
      more_long all,
    )

cell_long : (a : AdsArrayInfo) → length (array_cell a) + 2 ≡ array_width a
unfolding array_cell array_width
cell_long a = omega (arith, length-append (signed_decimal (lowest a)) (codes ".." ++ signed_decimal (highest a)))

arrays_long : (all : List AdsArrayInfo) → length all ≤ limit → arrays_width all ≡ length (array_cells all)
unfolding array_cells joined widths_sum
arrays_long [] h = on_sum 0 [] (omega arith) ∙ refl
arrays_long (a ∷ all) h =
    let few : widths_sum (a ∷ all) ≤ 134 * suc (length all) = sum_few (a ∷ all) in
    let cell : length (array_cell a) + 2 ≡ array_width a = cell_long a in
    let on : length (array_cell a ++ more (codes ", ") array_cell all) ≡ length (array_cell a) + length (more (codes ", ") array_cell all) = length-append (array_cell a) (more (codes ", ") array_cell all) in
    let closed : length ((array_cell a ++ more (codes ", ") array_cell all) ++ codes "]") ≡ length (array_cell a ++ more (codes ", ") array_cell all) + 1 = length-append (array_cell a ++ more (codes ", ") array_cell all) (codes "]") in
    on_sum 0 (a ∷ all) (omega (arith, few, h)) ∙ omega (arith, cell, on, closed, more_long all)

-- the characters of attributes
record Characters (bytes : List ℕ) : Type 0 where
  text : List ℕ
  is : bytes ≡ encode_utf8_all text

abbrev both : (a b : List ℕ) → Characters a → Characters b → Characters (a ++ b)
both a b p q = record { text = p.text ++ q.text; is = ap₂ (λ (x y : List ℕ). x ++ y) p.is q.is ∙ sym (encodes-append p.text q.text) }

abbrev plain_text : (t : List ℕ) → IsPlainText t → Characters t
plain_text t p = record { text = t; is = sym p.is }

attribute_text : (a : AdsAttribute) → Characters (attribute_cell a)
unfolding attribute_cell lib.Utf8.encode
attribute_text a =
    let n = strings_shown a.name.now in
    let v = strings_shown a.value.now in
    both (shown a.name.now) (codes " = " ++ shown a.value.now) (record { text = n.0; is = n.1 }) (both (codes " = ") (shown a.value.now) (plain_text (codes " = ") (record { is = refl })) (record { text = v.0; is = v.1 }))

more_text : (all : List AdsAttribute) → Characters (more (codes "; ") attribute_cell all)
unfolding more lib.Utf8.encode
more_text [] = plain_text [] plain_nil
more_text (a ∷ all) = both (codes "; " ++ attribute_cell a) (more (codes "; ") attribute_cell all) (both (codes "; ") (attribute_cell a) (plain_text (codes "; ") (record { is = refl })) (attribute_text a)) (more_text all)

attributes_text : (all : List AdsAttribute) → Characters (joined (codes "; ") attribute_cell all)
unfolding joined
attributes_text [] = plain_text [] plain_nil
attributes_text (a ∷ all) = both (attribute_cell a) (more (codes "; ") attribute_cell all) (attribute_text a) (more_text all)

-- the cells of text, with the spaces that are left out at the end of a row
spaces_on : (a b : ℕ) → ◌≡◌ {A = List ℕ} (replicate a 32 ++ replicate b 32) (replicate (a + b) 32)
spaces_on a b = replicate-append-replicate a b 32

abbrev padded : ℕ → ℕ → ℕ → List ℕ → List ℕ → List ℕ → List ℕ
padded cm ca wide marks arrays last =
    codes "  " ++ (at_left cm (length marks) marks ++ (codes "  " ++ (at_left ca wide arrays ++ (codes "  " ++ last))))

abbrev shortened : ℕ → ℕ → ℕ → List ℕ → List ℕ → List AdsAttribute → List ℕ
shortened cm ca wide marks arrays attributes =
    if not (is_none attributes)
    then codes "  " ++ (marks ++ (replicate (cm - length marks) 32 ++ (codes "  " ++ (arrays ++ (replicate (ca - wide) 32 ++ (codes "  " ++ joined (codes "; ") attribute_cell attributes))))))
    else if nat_lt 0 wide then codes "  " ++ (marks ++ (replicate (cm - length marks) 32 ++ (codes "  " ++ arrays)))
    else if nat_lt 0 (length marks) then codes "  " ++ marks
    else []

record Whole (short full : List ℕ) : Type 0 where
  left_out : ℕ
  is : short ++ replicate left_out 32 ≡ full

no_marks : (x y : ℕ) → Whole [] (codes "  " ++ (([] ++ replicate x 32) ++ (codes "  " ++ (([] ++ replicate y 32) ++ (codes "  " ++ [])))))
no_marks x y = record {
  left_out = 2 + (x + (2 + (y + 2)));
  is = sym (spaces_on 2 (x + (2 + (y + 2))))
      ∙ ap (λ (t : List ℕ). codes "  " ++ t) (sym (spaces_on x (2 + (y + 2))))
      ∙ ap (λ (t : List ℕ). codes "  " ++ (replicate x 32 ++ t)) (sym (spaces_on 2 (y + 2)))
      ∙ ap (λ (t : List ℕ). codes "  " ++ (replicate x 32 ++ (codes "  " ++ t))) (sym (spaces_on y 2));
}

some_marks : (x y : ℕ) (marks : List ℕ) → Whole (codes "  " ++ marks) (codes "  " ++ ((marks ++ replicate x 32) ++ (codes "  " ++ (([] ++ replicate y 32) ++ (codes "  " ++ [])))))
some_marks x y marks = record {
  left_out = x + (2 + (y + 2));
  is = ap (λ (t : List ℕ). codes "  " ++ (marks ++ t)) (sym (spaces_on x (2 + (y + 2))))
      ∙ ap (λ (t : List ℕ). codes "  " ++ (marks ++ (replicate x 32 ++ t))) (sym (spaces_on 2 (y + 2)))
      ∙ ap (λ (t : List ℕ). codes "  " ++ (marks ++ (replicate x 32 ++ (codes "  " ++ t)))) (sym (spaces_on y 2))
      ∙ ap (λ (t : List ℕ). codes "  " ++ t) (sym (append_assoc marks (replicate x 32) (codes "  " ++ (replicate y 32 ++ codes "  "))));
}

some_arrays : (x y : ℕ) (marks arrays : List ℕ) → Whole (codes "  " ++ (marks ++ (replicate x 32 ++ (codes "  " ++ arrays)))) (codes "  " ++ ((marks ++ replicate x 32) ++ (codes "  " ++ ((arrays ++ replicate y 32) ++ (codes "  " ++ [])))))
some_arrays x y marks arrays = record {
  left_out = y + 2;
  is = ap (λ (t : List ℕ). (codes "  " ++ (marks ++ (replicate x 32 ++ (codes "  " ++ arrays)))) ++ t) (sym (spaces_on y 2)) ∙ simp append_assoc;
}

some_attributes : (x y : ℕ) (marks arrays last : List ℕ) → Whole (codes "  " ++ (marks ++ (replicate x 32 ++ (codes "  " ++ (arrays ++ (replicate y 32 ++ (codes "  " ++ last))))))) (codes "  " ++ ((marks ++ replicate x 32) ++ (codes "  " ++ ((arrays ++ replicate y 32) ++ (codes "  " ++ last)))))
some_attributes x y marks arrays last = record {
  left_out = 0;
  is = append-nil (codes "  " ++ (marks ++ (replicate x 32 ++ (codes "  " ++ (arrays ++ (replicate y 32 ++ (codes "  " ++ last)))))))
      ∙ ap (λ (t : List ℕ). codes "  " ++ t) (sym (append_assoc marks (replicate x 32) (codes "  " ++ (arrays ++ (replicate y 32 ++ (codes "  " ++ last))))))
      ∙ ap (λ (t : List ℕ). codes "  " ++ ((marks ++ replicate x 32) ++ (codes "  " ++ t))) (sym (append_assoc arrays (replicate y 32) (codes "  " ++ last)));
}

is_some : (m : ℕ) (ms : List ℕ) → nat_lt 0 (length (m ∷ ms)) ≡ false → ⊥
is_some m ms e = let t : nat_lt 0 (length (m ∷ ms)) ≡ true = lt-ltb 0 (length (m ∷ ms)) (omega arith) in cc (t, e)

no_arrays : (cm ca : ℕ) (marks : List ℕ) (z : Bool) → nat_lt 0 (length marks) ≡ z → Whole (if z then codes "  " ++ marks else []) (padded cm ca 0 marks [] [])
no_arrays cm ca marks true e = some_marks (cm - length marks) (ca - 0) marks
no_arrays cm ca [] false e = no_marks (cm - 0) (ca - 0)
no_arrays cm ca (m ∷ marks) false e = absurd (is_some m marks e)

no_attributes : (cm ca wide : ℕ) (marks arrays : List ℕ) → wide ≡ length arrays → (z : Bool) → nat_lt 0 (length arrays) ≡ z
    → Whole (if z then codes "  " ++ (marks ++ (replicate (cm - length marks) 32 ++ (codes "  " ++ arrays))) else if nat_lt 0 (length marks) then codes "  " ++ marks else []) (padded cm ca wide marks arrays [])
no_attributes cm ca wide marks arrays w true e = some_arrays (cm - length marks) (ca - wide) marks arrays
no_attributes cm ca wide marks [] w false e =
    subst (λ (k : ℕ). Whole (if nat_lt 0 (length marks) then codes "  " ++ marks else []) (padded cm ca k marks [] [])) (sym w) (no_arrays cm ca marks (nat_lt 0 (length marks)) refl)
no_attributes cm ca wide marks (a ∷ arrays) w false e = absurd (is_some a arrays e)

whole_tail : (cm ca wide : ℕ) (marks arrays : List ℕ) (attributes : List AdsAttribute) → wide ≡ length arrays
    → Whole (shortened cm ca wide marks arrays attributes) (padded cm ca wide marks arrays (joined (codes "; ") attribute_cell attributes))
unfolding joined
whole_tail cm ca wide marks arrays [] w =
    no_attributes cm ca wide marks arrays w (nat_lt 0 wide) (ap (nat_lt 0) (sym w))
whole_tail cm ca wide marks arrays (x ∷ attributes) w = some_attributes (cm - length marks) (ca - wide) marks arrays (joined (codes "; ") attribute_cell (x ∷ attributes))

-- the cells before them
abbrev before : Columns → ℕ → Node → List ℕ → List ℕ
before c indent n t =
    number_cell c.place n.place ++ (codes "  " ++ ((replicate indent 32 ++ name_cell (c.name - indent) n.info.field.name.now) ++ (codes "  " ++ (name_cell c.type_name n.info.field.type_name.now
    ++ (codes "  " ++ (number_cell c.offset n.info.field.offset ++ (codes "  " ++ (number_cell c.from_start n.offset_from_start ++ (codes "  " ++ (number_cell c.size n.info.field.size ++ t))))))))))

row_flat : (c : Columns) (indent : ℕ) (n : Node) (t : List ℕ) → row_text c indent n ++ t ≡ before c indent n (tail_text c n ++ t)
unfolding row_text names_text numbers_text
row_flat c indent n t =
    go (number_cell c.place n.place) (replicate indent 32) (name_cell (c.name - indent) n.info.field.name.now) (name_cell c.type_name n.info.field.type_name.now)
    (number_cell c.offset n.info.field.offset) (number_cell c.from_start n.offset_from_start) (number_cell c.size n.info.field.size) (tail_text c n)
  where
    go : (p i a b o f s x : List ℕ) → ((p ++ (codes "  " ++ (i ++ (a ++ (codes "  " ++ b))))) ++ (codes "  " ++ ((o ++ (codes "  " ++ (f ++ (codes "  " ++ s)))) ++ x))) ++ t
        ≡ p ++ (codes "  " ++ ((i ++ a) ++ (codes "  " ++ (b ++ (codes "  " ++ (o ++ (codes "  " ++ (f ++ (codes "  " ++ (s ++ (x ++ t)))))))))))
    go p i a b o f s x = simp append_assoc

-- a name with so many spaces before it
record Indented (w indent : ℕ) (s : List ℕ) : Type 0 where
  text : List ℕ
  visible : IsVisible text (map code_point s)
  column : Column w (left (replicate indent 32 ++ text)) (replicate indent 32 ++ name_cell (w - indent) s)

indented : (w indent : ℕ) (s : List ℕ) → length s ≤ limit → indent ≤ limit → plus indent (shown_width s) ≤ w → Indented w indent s
unfolding name_cell
indented w indent s short place h =
    let r = in_characters s short in
    let fits : indent + shown_width s ≤ w = omega (arith, h, r.wide, r.few, place) in
    let long : indent + shown_width s ≡ length (replicate indent 32 ++ r.text) = sym (length-append (replicate indent 32) r.text ∙ ap₂ (λ (a b : ℕ). a + b) (length-replicate indent 32) (sym r.wide)) in
    let is : replicate indent 32 ++ shown s ≡ encode_utf8_all (replicate indent 32 ++ r.text) = (both (replicate indent 32) (shown s) (plain_text (replicate indent 32) (plain_spaces indent)) (record { text = r.text; is = r.is })).is in
    let bytes : at_left w (indent + shown_width s) (replicate indent 32 ++ shown s) ≡ replicate indent 32 ++ at_left (w - indent) (shown_width s) (shown s)
    = append_assoc (replicate indent 32) (shown s) (replicate (w - (indent + shown_width s)) 32)
    ∙ ap (λ (k : ℕ). replicate indent 32 ++ (shown s ++ replicate k 32)) (omega arith) in
    record {
      text = r.text;
      visible = r.visible;
      column = subst (Column w (left (replicate indent 32 ++ r.text))) bytes (on_left w (indent + shown_width s) (replicate indent 32 ++ shown s) (replicate indent 32 ++ r.text) is long fits);
    }

-- the last column, as wide as it is
last_column : (bytes : List ℕ) (p : Characters bytes) → Column (length p.text) (left p.text) bytes
last_column bytes p = record {
  text = p.text;
  is = p.is;
  column = subst (IsColumn (length p.text) (left p.text)) (append-nil p.text) (aligned.IsColumn.at_left p.text 0 (omega arith));
}

-- the characters of a row as it is written
row_text_in : (c : Columns) (indent : ℕ) (n : Node) → IsSmall indent n → Characters (tail_text c n) → Characters (before c indent n (tail_text c n))
unfolding number_cell name_cell lib.Utf8.encode
row_text_in c indent n small tail =
    let two : Characters (codes "  ") = plain_text (codes "  ") (record { is = refl }) in
    let number : (w k : ℕ) → Characters (number_cell w k) = λ w k. plain_text (number_cell w k) (plain_append (replicate (w - length (decimal k)) 32) (decimal k) (plain_spaces (w - length (decimal k))) (plain_digits 10 false k (omega arith) (omega arith))) in
    let name : (w : ℕ) (s : List ℕ) → Characters (name_cell w s) = λ w s.
    (let r = strings_shown s in both (shown s) (replicate (w - shown_width s) 32) (record { text = r.0; is = r.1 }) (plain_text (replicate (w - shown_width s) 32) (plain_spaces (w - shown_width s)))) in
    both _ _ (number c.place n.place) (both _ _ two (both _ _ (both _ _ (plain_text (replicate indent 32) (plain_spaces indent)) (name (c.name - indent) n.info.field.name.now))
    (both _ _ two (both _ _ (name c.type_name n.info.field.type_name.now) (both _ _ two (both _ _ (number c.offset n.info.field.offset) (both _ _ two (both _ _ (number c.from_start n.offset_from_start)
    (both _ _ two (both _ _ (number c.size n.info.field.size) tail))))))))))

abbrev marks_in : Node → List ℕ
marks_in n = marks_text (codes ", ") [] n.marks

abbrev arrays_in : Node → List ℕ
arrays_in n = array_cells (array.left n.info.arrays)

abbrev wide_of : Node → ℕ
wide_of n = arrays_width (array.left n.info.arrays)

tail_in : (c : Columns) (n : Node) → Characters (tail_text c n)
unfolding tail_text lib.Utf8.encode
tail_in c n = go (not (is_none (attribute.left n.info.field.attributes))) (nat_lt 0 (wide_of n)) (nat_lt 0 (length (marks_in n)))
  where
    two : Characters (codes "  ")
    two = plain_text (codes "  ") (record { is = refl })

    go : (x y z : Bool)
        → Characters
        (if x
        then codes "  " ++ ((marks_in n) ++ (replicate (c.marks - length (marks_in n)) 32 ++ (codes "  " ++ ((arrays_in n) ++ (replicate (c.arrays - (wide_of n)) 32 ++ (codes "  " ++ joined (codes "; ") attribute_cell (attribute.left n.info.field.attributes)))))))
        else if y then codes "  " ++ ((marks_in n) ++ (replicate (c.marks - length (marks_in n)) 32 ++ (codes "  " ++ (arrays_in n))))
        else if z then codes "  " ++ (marks_in n)
        else [])
    go true y z = both _ _ two (both _ _ (plain_text (marks_in n) (plain_marks n.marks)) (both _ _ (plain_text _ (plain_spaces (c.marks - length (marks_in n)))) (both _ _ two (both _ _ (plain_text (arrays_in n) (plain_arrays (array.left n.info.arrays)))
        (both _ _ (plain_text _ (plain_spaces (c.arrays - (wide_of n)))) (both _ _ two (attributes_text (attribute.left n.info.field.attributes))))))))
    go false true z = both _ _ two (both _ _ (plain_text (marks_in n) (plain_marks n.marks)) (both _ _ (plain_text _ (plain_spaces (c.marks - length (marks_in n)))) (both _ _ two (plain_text (arrays_in n) (plain_arrays (array.left n.info.arrays))))))
    go false false true = both _ _ two (plain_text (marks_in n) (plain_marks n.marks))
    go false false false = plain_text [] plain_nil

-- all cells of a row in their columns
whole_row : (c : Columns) (indent : ℕ) (n : Node) (name : Indented c.name indent n.info.field.name.now) (kind : Seen c.type_name n.info.field.type_name.now) (attributes : Characters (joined (codes "; ") attribute_cell (attribute.left n.info.field.attributes)))
    → IsSmall indent n → IsWithin (widths_of indent n) c
    → Row (widths c (length attributes.text)) (node_cells indent n name.text kind.text attributes.text)
    (before c indent n (padded c.marks c.arrays (wide_of n) (marks_in n) (arrays_in n) (joined (codes "; ") attribute_cell (attribute.left n.info.field.attributes))))
unfolding widths_of
whole_row c indent n name kind attributes small f =
    row_more (in_number c.place n.place f.place) (row_more name.column (row_more kind.column
    (row_more (in_number c.offset n.info.field.offset f.offset) (row_more (in_number c.from_start n.offset_from_start f.from_start) (row_more (in_number c.size n.info.field.size f.size)
    (row_more (on_left c.marks (length (marks_in n)) (marks_in n) (marks_in n) (sym (plain_marks n.marks).is) refl f.marks)
    (row_more (on_left c.arrays (wide_of n) (arrays_in n) (arrays_in n) (sym (plain_arrays (array.left n.info.arrays)).is) (arrays_long (array.left n.info.arrays) small.arrays) f.arrays)
    (row_last (last_column (joined (codes "; ") attribute_cell (attribute.left n.info.field.attributes)) attributes)))))))))

own_tail : (c : Columns) (n : Node) → length (array.left n.info.arrays) ≤ limit → Whole (tail_text c n) (padded c.marks c.arrays (wide_of n) (marks_in n) (arrays_in n) (joined (codes "; ") attribute_cell (attribute.left n.info.field.attributes)))
unfolding tail_text
own_tail c n small = whole_tail c.marks c.arrays (wide_of n) (marks_in n) (arrays_in n) (attribute.left n.info.field.attributes) (arrays_long (array.left n.info.arrays) small)

row_line_is : (c : Columns) (indent : ℕ) (n : Node) → IsSmall indent n → IsWithin (widths_of indent n) c → IsNodeRow c indent n (row_text c indent n ++ codes "\n")
unfolding widths_of
row_line_is c indent n small f =
    let name = indented c.name indent n.info.field.name.now small.name small.place f.name in
    let kind = in_name c.type_name n.info.field.type_name.now small.type_name f.type_name in
    let attributes = attributes_text (attribute.left n.info.field.attributes) in
    let full = whole_row c indent n name kind attributes small f in
    let own = row_text_in c indent n small (tail_in c n) in
    let tail : Whole (tail_text c n) (padded c.marks c.arrays (wide_of n) (marks_in n) (arrays_in n) (joined (codes "; ") attribute_cell (attribute.left n.info.field.attributes))) = own_tail c n small.arrays in
    let short : row_text c indent n ≡ before c indent n (tail_text c n) = sym (append-nil (row_text c indent n)) ∙ row_flat c indent n [] ∙ ap (before c indent n) (append-nil (tail_text c n)) in
    let bytes : encode_utf8_all full.text ≡ encode_utf8_all (own.text ++ replicate tail.left_out 32) =
    sym full.is ∙ ap (before c indent n) (sym tail.is) ∙ sym (row_flat c indent n (replicate tail.left_out 32))
    ∙ ap₂ (λ (a b : List ℕ). a ++ b) (short ∙ own.is) (sym (plain_spaces tail.left_out).is) ∙ sym (encodes-append own.text (replicate tail.left_out 32)) in
    record {
      name = name.text;
      type_name = kind.text;
      attributes = attributes.text;
      row = own.text;
      left_out = tail.left_out;
      is_name = name.visible;
      is_type = kind.visible;
      are_attributes = attributes.is;
      is = ap (λ (t : List ℕ). t ++ codes "\n") (short ∙ own.is);
      cells = subst (IsRow (widths c (length attributes.text)) (node_cells indent n name.text kind.text attributes.text)) (encodes_same full.text (own.text ++ replicate tail.left_out 32) bytes) full.row;
    }

heading : (c : Columns) → IsWithin headings c → IsRow (widths c 10) heading_cells (headings_text c)
unfolding headings_text
heading c f =
    aligned.IsRow.more (word c.place (codes "place") f.place) (aligned.IsRow.more (name c.name (codes "name") f.name) (aligned.IsRow.more (name c.type_name (codes "type") f.type_name)
    (aligned.IsRow.more (word c.offset (codes "offset") f.offset) (aligned.IsRow.more (word c.from_start (codes "from start") f.from_start) (aligned.IsRow.more (word c.size (codes "size") f.size)
    (aligned.IsRow.more (name c.marks (codes "mark") f.marks) (aligned.IsRow.more (name c.arrays (codes "array") f.arrays) (aligned.IsRow.last (aligned.IsColumn.at_left (codes "attributes") 0 refl)))))))))
  where
    word : (w : ℕ) (text : List ℕ) → length text ≤ w → IsColumn w (right text) (at_right w (length text) text)
    word w text h = aligned.IsColumn.at_right text (w - length text) (omega (arith, h))

    name : (w : ℕ) (text : List ℕ) → length text ≤ w → IsColumn w (left text) (at_left w (length text) text)
    name w text h = aligned.IsColumn.at_left text (w - length text) (omega (arith, h))

pub type_tables_meant : TypeTablesMeant
unfolding row_line piece_lines
type_tables_meant = record {
  headings = λ mode ps. heading (columns_of mode ps) (grown mode headings ps);
  rows = λ mode ps p info r h a at small.
      let f : FitsBy mode (columns_of mode ps) p.start (Ok info) = subst (FitsBy mode (columns_of mode ps) p.start) a (fits mode ps p h) in
      row_line_is (columns_of mode ps) r.0 r.1 small (row_fits mode (columns_of mode ps) p.start info r f at);
  refused = λ mode ps p why h a.
      let f : FitsBy mode (columns_of mode ps) p.start (Err why) = subst (FitsBy mode (columns_of mode ps) p.start) a (fits mode ps p h) in
      let line = refused_line (columns_of mode ps).place p.start why f in
      (line.0, line.1, ap (λ (x : Result AdsDataTypeInfo Refusal). outcome x (λ info. flat_map (row_line (columns_of mode ps)) (rows_at mode (root p.start info))) (λ w. refused_row (columns_of mode ps).place p.start w ++ codes "\n")) a ∙ line.2);
}
