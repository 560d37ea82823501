-- The cells of the table stand in their columns.
use Rattle.std.proofs.Common.{◌≡◌, ℕ, zero, suc, ◌+◌, ◌-◌, ◌<◌, ◌≤◌, Bool, true, false, List, [], ◌∷◌, ◌++◌, codes, decimal, get_or, length, refl, sym, ap, ap₂, subst, ◌∙◌, append_assoc, append-nil, arith, encode_utf8_all, if◌then◌else◌, eqb-true}
use Rattle.std.specs.Prelude.{Contains, Option, Some, None, Result, Ok, Err, ◌==◌}
use Rattle.std.specs.Fmt.{digits}
use Rattle.std.specs.Borrow.{Bor}
use Rattle.std.proofs.Math.Nat.{le-max_left, le-max_right}
use Rattle.std.proofs.lemmas.List.Elements.{All-contains}
use Rattle.std.proofs.lemmas.Bool.{ne_eqb}
use Rattle.refusal.specs.Refusal.{limit}
use Rattle.refusal.specs.declared.Refusal.{Refusal}
use Rattle.wording.specs.Text.{shown, shown_width}
use Rattle.wording.proofs.Read.{strings_shown}
use Rattle.report.specs.Cells.{at_left, at_right, hexadecimal, hexadecimal_cell, name_cell}
use Rattle.report.specs.Aligned.{Cell, left, right, IsColumn, IsRow}
use Rattle.report.specs.Aligned as aligned
use Rattle.report.proofs.Aligned.{IsPlainText, plain_cons, plain_append, plain_digits, Column, Row, on_right, in_name, row_last, row_more}
use Rattle.bind.specs.declared.Address.{Address}
use Rattle.bind.specs.declared.reading.Place.{Place}
use Rattle.bind.specs.declared.reading.Place.TheVariants.{Symbol, DataType}
use Rattle.bind_report.specs.declared.Bound.{Bound}
use Rattle.bind_report.specs.declared.table.Columns.{Columns}
use Rattle.bind_report.specs.Words.{reason_text, refused_part}
use Rattle.bind_report.specs.Table.{tells_bit, offset_text, size_text, entry_text, headings, widths_of, widest, fitted, fitted_by, fitted_on, columns_of, headings_text, offset_cell, size_cell, numbers_text, address_text, part_text, refused_text, answer_by, line_text}
use Rattle.bind_report.specs.Aligned.{widths, heading_cells, begins, long, entry, address_cells, IsAddressRow, IsPartTold, IsRefusedLine, AddressTablesMeant}
use Rattle.bind_report.specs.Aligned as told

-- columns that are at least as wide
record IsWithin (a b : Columns) : Type 0 where
  path : a.path ≤ b.path
  group : a.group ≤ b.group
  offset : a.offset ≤ b.offset
  size : a.size ≤ b.size
  type_name : a.type_name ≤ b.type_name

itself : (a : Columns) → IsWithin a a
itself a = record { path = omega arith; group = omega arith; offset = omega arith; size = omega arith; type_name = omega arith }

further : (a b c : Columns) → IsWithin a b → IsWithin b c → IsWithin a c
further a b c h k = record { path = omega arith; group = omega arith; offset = omega arith; size = omega arith; type_name = omega arith }

in_widest : (a b : Columns) → IsWithin a (widest a b)
unfolding widest
in_widest a b = record {
  path = le-max_left a.path b.path;
  group = le-max_left a.group b.group;
  offset = le-max_left a.offset b.offset;
  size = le-max_left a.size b.size;
  type_name = le-max_left a.type_name b.type_name;
}

also_in_widest : (a b : Columns) → IsWithin b (widest a b)
unfolding widest
also_in_widest a b = record {
  path = le-max_right a.path b.path;
  group = le-max_right a.group b.group;
  offset = le-max_right a.offset b.offset;
  size = le-max_right a.size b.size;
  type_name = le-max_right a.type_name b.type_name;
}

-- the cells of a path fit
abbrev FitsBy : Columns → Bor (List ℕ) → Result Address Refusal → Type 0
FitsBy c path (Ok a) = IsWithin (widths_of path a) c
FitsBy c path (Err why) = shown_width path.now ≤ c.path

abbrev Fits : Columns → Bound → Type 0
Fits c b = FitsBy c b.path b.answer

grown_by : (c : Columns) (path : Bor (List ℕ)) (r : Result Address Refusal) → IsWithin c (fitted_by c path r)
grown_by c path (Ok a) = in_widest c (widths_of path a)
grown_by c path (Err why) = record { path = le-max_left c.path (shown_width path.now); group = omega arith; offset = omega arith; size = omega arith; type_name = omega arith }

fits_by : (c : Columns) (path : Bor (List ℕ)) (r : Result Address Refusal) → FitsBy (fitted_by c path r) path r
fits_by c path (Ok a) = also_in_widest c (widths_of path a)
fits_by c path (Err why) = le-max_right c.path (shown_width path.now)

fits_in : (a b : Columns) (path : Bor (List ℕ)) (r : Result Address Refusal) → FitsBy a path r → IsWithin a b → FitsBy b path r
fits_in a b path (Ok x) h k = further (widths_of path x) a b h k
fits_in a b path (Err why) h k = let w : a.path ≤ b.path = k.path in omega (arith, h, w)

grown : (c : Columns) (bs : List Bound) → IsWithin c (fitted_on c bs)
unfolding fitted_on fitted
grown c [] = itself c
grown c (b ∷ bs) = further c (fitted c b) (fitted_on (fitted c b) bs) (grown_by c b.path b.answer) (grown (fitted c b) bs)

fit_all : (c : Columns) (bs : List Bound) (k : ℕ) (d : Bound) → k < length bs → Fits (fitted_on c bs) (get_or bs k d)
unfolding fitted_on fitted
fit_all c [] k d lt = absurd (omega (arith, lt))
fit_all c (b ∷ bs) zero d lt = fits_in (fitted c b) (fitted_on (fitted c b) bs) b.path b.answer (fits_by c b.path b.answer) (grown (fitted c b) bs)
fit_all c (b ∷ bs) (suc k) d lt = fit_all (fitted c b) bs k d (omega (arith, lt))

fits : (bs : List Bound) (b : Bound) → Contains bs b → Fits (columns_of bs) b
fits bs b h = All-contains (Fits (columns_of bs)) bs b (fit_all headings bs) h

-- the texts of the cells, which are ASCII
plain_decimal : (n : ℕ) → IsPlainText (decimal n)
plain_decimal n = plain_digits 10 false n (omega arith) (omega arith)

plain_hexadecimal : (n : ℕ) → IsPlainText (hexadecimal n)
plain_hexadecimal n = plain_cons 48 (120 ∷ digits 16 true n) (omega arith) (plain_cons 120 (digits 16 true n) (omega arith) (plain_digits 16 true n (omega arith) (omega arith)))

plain_word : (t : List ℕ) → encode_utf8_all t ≡ t → IsPlainText t
plain_word t h = record { is = h }

plain_begins : (a : Address) → IsPlainText (begins a)
unfolding lib.Utf8.encode
plain_begins a = by (tells_bit a)
  where
    by : (t : Bool) → IsPlainText (if t then hexadecimal a.offset.0 ++ (codes "." ++ decimal a.bit) else hexadecimal a.offset.0)
    by true = plain_append (hexadecimal a.offset.0) (codes "." ++ decimal a.bit) (plain_hexadecimal a.offset.0) (plain_append (codes ".") (decimal a.bit) (plain_word (codes ".") refl) (plain_decimal a.bit))
    by false = plain_hexadecimal a.offset.0

plain_long : (a : Address) → IsPlainText (long a)
unfolding lib.Utf8.encode
plain_long a = by a.size_in_bits (a.size == 1)
  where
    by : (t u : Bool) → IsPlainText (if t then (if u then codes "1 bit" else decimal a.size ++ codes " bits") else decimal a.size)
    by true true = plain_word (codes "1 bit") refl
    by true false = plain_append (decimal a.size) (codes " bits") (plain_decimal a.size) (plain_word (codes " bits") refl)
    by false u = plain_decimal a.size

plain_entry : (p : Place) → IsPlainText (entry p)
unfolding lib.Utf8.encode
plain_entry (Symbol at) = plain_append (codes "symbols ") (decimal at) (plain_word (codes "symbols ") refl) (plain_decimal at)
plain_entry (DataType at) = plain_append (codes "types ") (decimal at) (plain_word (codes "types ") refl) (plain_decimal at)

-- what is written of them
offset_is : (a : Address) → offset_text a ≡ begins a
unfolding offset_text
offset_is a = by (tells_bit a)
  where
    by : (t : Bool) → hexadecimal a.offset.0 ++ (if t then codes "." ++ decimal a.bit else []) ≡ (if t then hexadecimal a.offset.0 ++ (codes "." ++ decimal a.bit) else hexadecimal a.offset.0)
    by true = refl
    by false = append-nil (hexadecimal a.offset.0)

size_is : (a : Address) → size_text a ≡ long a
unfolding size_text digits
size_is a = by a.size_in_bits (a.size == 1) refl
  where
    by : (t u : Bool) → (a.size == 1) ≡ u → decimal a.size ++ (if t then (if u then codes " bit" else codes " bits") else []) ≡ (if t then (if u then codes "1 bit" else decimal a.size ++ codes " bits") else decimal a.size)
    by true true e = ap (λ (n : ℕ). decimal n ++ codes " bit") (eqb-true a.size 1 e)
    by true false e = refl
    by false u e = append-nil (decimal a.size)

entry_is : (p : Place) → entry_text p ≡ entry p
unfolding entry_text
entry_is (Symbol at) = refl
entry_is (DataType at) = refl

in_group : (w n : ℕ) → length (hexadecimal n) ≤ w → Column w (right (hexadecimal n)) (hexadecimal_cell w n)
unfolding hexadecimal_cell
in_group w n h = on_right w (length (digits 16 true n) + 2) (hexadecimal n) (plain_hexadecimal n) (omega arith) (omega (arith, h))

in_offset : (w : ℕ) (a : Address) → length (offset_text a) ≤ w → Column w (right (begins a)) (offset_cell w a)
unfolding offset_cell
in_offset w a h =
    subst (λ (t : List ℕ). Column w (right (begins a)) (at_right w (length t) t)) (sym (offset_is a))
    (on_right w (length (begins a)) (begins a) (plain_begins a) refl (subst (λ (t : List ℕ). length t ≤ w) (offset_is a) h))

in_size : (w : ℕ) (a : Address) → length (size_text a) ≤ w → Column w (right (long a)) (size_cell w a)
unfolding size_cell
in_size w a h =
    subst (λ (t : List ℕ). Column w (right (long a)) (at_right w (length t) t)) (sym (size_is a))
    (on_right w (length (long a)) (long a) (plain_long a) refl (subst (λ (t : List ℕ). length t ≤ w) (size_is a) h))

in_entry : (p : Place) → Column (length (entry p)) (left (entry p)) (entry_text p)
in_entry p = record {
  text = entry p;
  is = entry_is p ∙ sym (plain_entry p).is;
  column = subst (IsColumn (length (entry p)) (left (entry p))) (append-nil (entry p)) (aligned.IsColumn.at_left (entry p) 0 (omega arith));
}

-- three cells before others
three_on : (a b c x : List ℕ) → (a ++ (codes "  " ++ (b ++ (codes "  " ++ c)))) ++ (codes "  " ++ x) ≡ a ++ (codes "  " ++ (b ++ (codes "  " ++ (c ++ (codes "  " ++ x)))))
three_on a b c x = append_assoc a (codes "  " ++ (b ++ (codes "  " ++ c))) (codes "  " ++ x) ∙ ap (λ (t : List ℕ). a ++ (codes "  " ++ t)) (append_assoc b (codes "  " ++ c) (codes "  " ++ x))

flat_row : (c : Columns) (path : List ℕ) (a : Address) → name_cell c.path path ++ (codes "  " ++ address_text c a)
    ≡ name_cell c.path path ++ (codes "  " ++ (hexadecimal_cell c.group a.group.0 ++ (codes "  " ++ (offset_cell c.offset a ++ (codes "  " ++ (size_cell c.size a
    ++ (codes "  " ++ (name_cell c.type_name a.type_name.now ++ (codes "  " ++ entry_text a.place)))))))))
unfolding address_text numbers_text
flat_row c path a =
    ap (λ (t : List ℕ). name_cell c.path path ++ (codes "  " ++ t))
    (three_on (hexadecimal_cell c.group a.group.0) (offset_cell c.offset a) (size_cell c.size a) (name_cell c.type_name a.type_name.now ++ (codes "  " ++ entry_text a.place)))

address_line : (c : Columns) (path : Bor (List ℕ)) (a : Address) → IsWithin (widths_of path a) c → length path.now ≤ limit → length a.type_name.now ≤ limit
    → IsAddressRow c path.now a (name_cell c.path path.now ++ (codes "  " ++ (address_text c a ++ codes "\n")))
unfolding widths_of
address_line c path a f short also =
    let name = in_name c.path path.now short f.path in
    let kind = in_name c.type_name a.type_name.now also f.type_name in
    let own : Row (widths c (length (entry a.place))) (address_cells a name.text kind.text) (name_cell c.path path.now ++ (codes "  " ++ address_text c a))
    = subst (Row (widths c (length (entry a.place))) (address_cells a name.text kind.text)) (sym (flat_row c path.now a))
    (row_more name.column (row_more (in_group c.group a.group.0 f.group) (row_more (in_offset c.offset a f.offset) (row_more (in_size c.size a f.size)
    (row_more kind.column (row_last (in_entry a.place))))))) in
    record {
      path_shown = name.text;
      type_name = kind.text;
      row = own.text;
      is_path = name.visible;
      is_type = kind.visible;
      is = sym (append_assoc (name_cell c.path path.now) (codes "  " ++ address_text c a) (codes "\n")) ∙ ap (λ (t : List ℕ). t ++ codes "\n") own.is;
      cells = own.row;
    }

heading : (c : Columns) → IsWithin headings c → IsRow (widths c 5) heading_cells (headings_text c)
unfolding headings_text
heading c f =
    aligned.IsRow.more (name c.path (codes "path") f.path) (aligned.IsRow.more (word c.group (codes "group") f.group) (aligned.IsRow.more (word c.offset (codes "offset") f.offset)
    (aligned.IsRow.more (word c.size (codes "size") f.size) (aligned.IsRow.more (name c.type_name (codes "type") f.type_name) (aligned.IsRow.last (aligned.IsColumn.at_left (codes "entry") 0 refl))))))
  where
    word : (w : ℕ) (text : List ℕ) → length text ≤ w → IsColumn w (right text) (at_right w (length text) text)
    word w text h = aligned.IsColumn.at_right text (w - length text) (omega (arith, h))

    name : (w : ℕ) (text : List ℕ) → length text ≤ w → IsColumn w (left text) (at_left w (length text) text)
    name w text h = aligned.IsColumn.at_left text (w - length text) (omega (arith, h))

-- the part behind the words
record PartTold (p : Option (Bor (List ℕ))) : Type 0 where
  text : List ℕ
  is : part_text p ≡ encode_utf8_all text
  told : IsPartTold p text

part_told : (p : Option (Bor (List ℕ))) → PartTold p
unfolding lib.Utf8.encode
part_told None = record { text = []; is = refl; told = told.IsPartTold.no_part }
part_told (Some p) = by p.now refl
  where
    some : (n : ℕ) → (suc n == 0) ≡ false
    some n = ne_eqb (suc n) 0 (λ e. absurd (omega (arith, e)))

    by : (s : List ℕ) → p.now ≡ s → PartTold (Some p)
    by [] e = record { text = []; is = ap (λ (s : List ℕ). if length s == 0 then [] else codes ": " ++ shown s) e; told = told.IsPartTold.no_byte p e }
    by (b ∷ bs) e =
        let r = strings_shown p.now in
        record {
          text = codes ": " ++ r.0;
          is = ap (λ (t : Bool). if t then [] else codes ": " ++ shown p.now) (ap (λ (s : List ℕ). length s == 0) e ∙ some (length bs)) ∙ ap (λ (t : List ℕ). codes ": " ++ t) r.1;
          told = told.IsPartTold.told p b bs r.0 e r.2;
        }

refused_line : (c : Columns) (path : Bor (List ℕ)) (why : Refusal) → shown_width path.now ≤ c.path → length path.now ≤ limit
    → IsRefusedLine c path why (name_cell c.path path.now ++ (codes "  " ++ (refused_text path why ++ codes "\n")))
unfolding refused_text
refused_line c path why f short =
    let name = in_name c.path path.now short f in
    let part = part_told (refused_part path why) in
    let words : refused_text path why ++ codes "\n" ≡ reason_text why ++ (encode_utf8_all part.text ++ codes "\n")
    = append_assoc (reason_text why) (part_text (refused_part path why)) (codes "\n") ∙ ap (λ (t : List ℕ). reason_text why ++ (t ++ codes "\n")) part.is in
    record {
      path_shown = name.text;
      column = name.column.text;
      part = part.text;
      is_path = name.visible;
      in_column = name.column.column;
      is_part = part.told;
      is = ap₂ (λ (x y : List ℕ). x ++ (codes "  " ++ y)) name.column.is words;
    }

abbrev line_by : Columns → Bor (List ℕ) → Result Address Refusal → List ℕ
line_by c path r = name_cell c.path path.now ++ (codes "  " ++ (answer_by c path r ++ codes "\n"))

pub address_tables_meant : AddressTablesMeant
unfolding line_text
address_tables_meant = record {
  headings = λ bs. heading (columns_of bs) (grown headings bs);
  bound = λ bs b a h e short also.
      let f : FitsBy (columns_of bs) b.path (Ok a) = subst (FitsBy (columns_of bs) b.path) e (fits bs b h) in
      subst (IsAddressRow (columns_of bs) b.path.now a) (sym (ap (line_by (columns_of bs) b.path) e)) (address_line (columns_of bs) b.path a f short also);
  refused = λ bs b why h e short.
      let f : FitsBy (columns_of bs) b.path (Err why) = subst (FitsBy (columns_of bs) b.path) e (fits bs b h) in
      subst (IsRefusedLine (columns_of bs) b.path why) (sym (ap (line_by (columns_of bs) b.path) e)) (refused_line (columns_of bs) b.path why f short);
}
