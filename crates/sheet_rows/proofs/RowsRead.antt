-- A row by its bytes.
use Rattle.std.proofs.Common.{ℕ, ◌+◌, ◌<◌, ◌≤◌, ◌≡◌, refl, sym, ap, ap₂, subst, ◌∙◌, Bool, true, false, List, [], ◌∷◌, ◌++◌, length, drop, get_or, length-append, arith}
use Rattle.std.specs.Prelude.{Option, Some, None, eqb, if◌then◌else◌}
use Rattle.std.specs.Option.{option_map}
use Rattle.std.specs.Borrow.{Bor}
use borrow.Author.Tests.{eqb-true, ne_eqb}
use Rattle.part.specs.Slice.{after}
use Rattle.sheet_rows.specs.declared.cells.Cell.{Cell}
use Rattle.sheet_rows.specs.declared.cells.Three.{Three}
use Rattle.sheet_rows.specs.declared.cells.Cells.{Cells}
use Rattle.sheet_rows.specs.declared.cells.End.{End}
use Rattle.sheet_rows.specs.declared.cells.End.TheVariants.{Comma, Row}
use Rattle.sheet_rows.specs.Cells.{if_some, behind_end, cell_of, ended_cell, three_of, cells_of}
use Rattle.sheet_rows.specs.Meant.{IsCell, plain, quoted, IsEnd, crlf, lf, last, IsRow, ended, comma, texts_of, RowsMeant}
use Rattle.sheet_rows.proofs.CellsRead.{Stops, stops_none, stops_comma, stops_return, stops_feed, cell_spelt, cell_read}

-- ---- steps that may give nothing
pub some_step : {A B : Type 0} (o : Option A) (f : A → Option B) (y : B) → if_some o f ≡ Some y → (x : A) × (o ≡ Some x) × (f x ≡ Some y)
some_step (Some x) f y h = (x, refl, h)
some_step None f y h = cc

pub some_map : {A B : Type 0} (o : Option A) (f : A → B) (y : B) → option_map f o ≡ Some y → (x : A) × (o ≡ Some x) × (f x ≡ y)
some_map (Some x) f y h = (x, refl, cc)
some_map None f y h = cc

pub some_on : {A B : Type 0} {o : Option A} {x : A} (f : A → Option B) → o ≡ Some x → if_some o f ≡ f x
some_on f e = ap (λ o. if_some o f) e

-- ---- what ends a cell
is_first : (s : List ℕ) (b : ℕ) → 0 < b → eqb (get_or s 0 0) b ≡ true → s ≡ b ∷ drop 1 s
is_first [] b h e = absurd (omega (arith, h, eqb-true 0 b e))
is_first (c ∷ s) b h e = ap (λ (x : ℕ). x ∷ s) (eqb-true c b e)

comma_is : (s rest : Bor (List ℕ)) → behind_end Comma s ≡ Some rest → s.now ≡ 44 ∷ rest.now
unfolding behind_end
comma_is s rest = by (eqb (get_or s.now 0 0) 44) refl
  where
    by : (b : Bool) → eqb (get_or s.now 0 0) 44 ≡ b → (if b then Some (after s 1) else None) ≡ Some rest → s.now ≡ 44 ∷ rest.now
    by true e h = let same : after s 1 ≡ rest = cc in is_first s.now 44 (omega arith) e ∙ ap (λ (r : Bor (List ℕ)). 44 ∷ r.now) same
    by false e h = cc

end_is : (s rest : Bor (List ℕ)) → behind_end Row s ≡ Some rest → IsEnd s.now rest.now
unfolding behind_end
end_is s rest = by (eqb (length s.now) 0) (eqb (get_or s.now 0 0) 13) (eqb (get_or s.now 1 0) 10) (eqb (get_or s.now 0 0) 10) refl refl refl refl
  where
    nothing : (l : List ℕ) → length l ≡ 0 → IsEnd l l
    nothing [] h = last
    nothing (b ∷ l) h = absurd (omega (arith, h))

    two : (l : List ℕ) → eqb (get_or l 0 0) 13 ≡ true → eqb (get_or l 1 0) 10 ≡ true → l ≡ 13 ∷ 10 ∷ drop 2 l
    two [] e f = cc
    two (b ∷ []) e f = cc
    two (b ∷ c ∷ l) e f = let p = eqb-true b 13 e in let q = eqb-true c 10 f in cc

    by : (n r p q : Bool) → eqb (length s.now) 0 ≡ n → eqb (get_or s.now 0 0) 13 ≡ r → eqb (get_or s.now 1 0) 10 ≡ p → eqb (get_or s.now 0 0) 10 ≡ q
        → (if n then Some s else if r then if p then Some (after s (1 + 1)) else None else if q then Some (after s (0 + 1)) else None) ≡ Some rest → IsEnd s.now rest.now
    by true r p q e f g h k = let same : s ≡ rest = cc in subst (λ (x : Bor (List ℕ)). IsEnd s.now x.now) same (nothing s.now (eqb-true (length s.now) 0 e))
    by false true true q e f g h k =
        let same : after s 2 ≡ rest = cc in
        subst (λ (x : Bor (List ℕ)). IsEnd s.now x.now) same (subst (λ (l : List ℕ). IsEnd l (drop 2 s.now)) (sym (two s.now f g)) crlf)
    by false true false q e f g h k = cc
    by false false p true e f g h k =
        let same : after s 1 ≡ rest = cc in
        subst (λ (x : Bor (List ℕ)). IsEnd s.now x.now) same (subst (λ (l : List ℕ). IsEnd l (drop 1 s.now)) (sym (is_first s.now 10 (omega arith) h)) lf)
    by false false p false e f g h k = cc

-- ---- a cell with its end
record Ended (e : End) (s : Bor (List ℕ)) (c : Cell) : Type 0 where
  cell : List ℕ
  is_cell : IsCell c.text.now cell
  end : Bor (List ℕ)
  is : s.now ≡ cell ++ end.now
  ends : behind_end e end ≡ Some c.rest

ended_spelt : (e : End) (s : Bor (List ℕ)) (c : Cell) → ended_cell e s ≡ Some c → Ended e s c
unfolding ended_cell
ended_spelt e s c h =
    let a = some_step (cell_of s) _ c h in
    let b = some_map (behind_end e a.0.rest) _ c a.2 in
    let p = cell_spelt s a.0 a.1 in
    let same : record { text = a.0.text; rest = b.0 } ≡ c = b.2 in
    subst (Ended e s) same (record { cell = p.cell; is_cell = p.is_cell; end = a.0.rest; is = p.is; ends = b.1 })

-- a cell and a comma before a row's cells
comma_before : (s : Bor (List ℕ)) {c : Cell} {texts : List (List ℕ)} {rest : List ℕ} → ended_cell Comma s ≡ Some c → IsRow texts c.rest.now rest → IsRow (c.text.now ∷ texts) s.now rest
comma_before s {c} {texts} {rest} h r =
    let p = ended_spelt Comma s c h in
    let whole : p.cell ++ (44 ∷ c.rest.now) ≡ s.now = sym (p.is ∙ ap (λ (l : List ℕ). p.cell ++ l) (comma_is p.end c.rest p.ends)) in
    subst (λ (l : List ℕ). IsRow (c.text.now ∷ texts) l rest) whole (comma p.is_cell r)

last_cell : (s : Bor (List ℕ)) {c : Cell} → ended_cell Row s ≡ Some c → IsRow (c.text.now ∷ []) s.now c.rest.now
last_cell s {c} h =
    let p = ended_spelt Row s c h in
    subst (λ (l : List ℕ). IsRow (c.text.now ∷ []) l c.rest.now) (sym p.is) (ended p.is_cell (end_is p.end c.rest p.ends))

-- ---- three cells
record Steps (e : End) (s : Bor (List ℕ)) (t : Three) : Type 0 where
  a : Cell
  b : Cell
  c : Cell
  first : ended_cell Comma s ≡ Some a
  second : ended_cell Comma a.rest ≡ Some b
  third : ended_cell e b.rest ≡ Some c
  is : record { first = a.text; second = b.text; third = c.text; rest = c.rest } ≡ t

three_steps : (e : End) (s : Bor (List ℕ)) (t : Three) → three_of e s ≡ Some t → Steps e s t
unfolding three_of
three_steps e s t h =
    let a = some_step (ended_cell Comma s) _ t h in
    let b = some_step (ended_cell Comma a.0.rest) _ t a.2 in
    let c = some_map (ended_cell e b.0.rest) _ t b.2 in
    record { a = a.0; b = b.0; c = c.0; first = a.1; second = b.1; third = c.1; is = c.2 }

three_before : (s : Bor (List ℕ)) {t : Three} {texts : List (List ℕ)} {rest : List ℕ} → three_of Comma s ≡ Some t → IsRow texts t.rest.now rest
    → IsRow (t.first.now ∷ t.second.now ∷ t.third.now ∷ texts) s.now rest
three_before s {t} {texts} {rest} h r =
    let p = three_steps Comma s t h in
    let q : IsRow texts p.c.rest.now rest = subst (λ (x : Three). IsRow texts x.rest.now rest) (sym p.is) r in
    subst (λ (x : Three). IsRow (x.first.now ∷ x.second.now ∷ x.third.now ∷ texts) s.now rest) p.is (comma_before s p.first (comma_before p.a.rest p.second (comma_before p.b.rest p.third q)))

last_three : (s : Bor (List ℕ)) {t : Three} → three_of Row s ≡ Some t → IsRow (t.first.now ∷ t.second.now ∷ t.third.now ∷ []) s.now t.rest.now
last_three s {t} h =
    let p = three_steps Row s t h in
    subst (λ (x : Three). IsRow (x.first.now ∷ x.second.now ∷ x.third.now ∷ []) s.now x.rest.now) p.is (comma_before s p.first (comma_before p.a.rest p.second (last_cell p.b.rest p.third)))

pub row_is : (s : Bor (List ℕ)) (c : Cells) → cells_of s ≡ Some c → IsRow (texts_of c) s.now c.strings.rest.now
unfolding cells_of
row_is s c h =
    let a = some_step (three_of Comma s) _ c h in
    let b = some_step (three_of Comma a.0.rest) _ c a.2 in
    let d = some_map (three_of Row b.0.rest) _ c b.2 in
    subst (λ (x : Cells). IsRow (texts_of x) s.now x.strings.rest.now) d.2 (three_before s a.1 (three_before a.0.rest b.1 (last_three b.0.rest d.1)))

-- the last three cells of a row
pub strings_row : (s : Bor (List ℕ)) (c : Cells) → cells_of s ≡ Some c → IsRow (c.strings.first.now ∷ c.strings.second.now ∷ c.strings.third.now ∷ []) c.kinds.rest.now c.strings.rest.now
unfolding cells_of
strings_row s c h =
    let a = some_step (three_of Comma s) _ c h in
    let b = some_step (three_of Comma a.0.rest) _ c a.2 in
    let d = some_map (three_of Row b.0.rest) _ c b.2 in
    subst (λ (x : Cells). IsRow (x.strings.first.now ∷ x.strings.second.now ∷ x.strings.third.now ∷ []) x.kinds.rest.now x.strings.rest.now) d.2 (last_three b.0.rest d.1)

-- ---- a row that stands there is read
ended_on : (e : End) (s rest : Bor (List ℕ)) (c : Cell) → cell_of s ≡ Some c → behind_end e c.rest ≡ Some rest → ended_cell e s ≡ Some (record { text = c.text; rest = rest })
unfolding ended_cell
ended_on e s rest c h k =
    some_on (λ c. option_map (λ rest. record { text = c.text; rest = rest }) (behind_end e c.rest)) h
    ∙ ap (λ (o : Option (Bor (List ℕ))). option_map (λ rest. record { text = c.text; rest = rest }) o) k

comma_on : (s : Bor (List ℕ)) (more : List ℕ) → s.now ≡ 44 ∷ more → behind_end Comma s ≡ Some (after s 1)
unfolding behind_end
comma_on s more e =
    let first : eqb (get_or s.now 0 0) 44 ≡ true = ap (λ (l : List ℕ). eqb (get_or l 0 0) 44) e in
    ap (λ (b : Bool). if b then Some (after s 1) else None) first

-- a cell that is read with its end, and what is behind it
record Peeled (e : End) (s : Bor (List ℕ)) (text : List ℕ) : Type 0 where
  cell : Cell
  is : ended_cell e s ≡ Some cell
  text_is : cell.text.now ≡ text

record Comma_ended (s : Bor (List ℕ)) (text : List ℕ) (texts : List (List ℕ)) (rest : List ℕ) : Type 0 where
  peeled : Peeled Comma s text
  row : IsRow texts peeled.cell.rest.now rest

peel : (s : Bor (List ℕ)) {l text rest : List ℕ} {texts : List (List ℕ)} → IsRow (text ∷ texts) l rest → s.now ≡ l → 0 < length texts → Comma_ended s text texts rest
peel s (ended c e) h k = absurd (omega arith)
peel s (comma {text} {cell} {more} {rest} {texts} c r) h k =
    let q = cell_read s text cell (44 ∷ more) c (stops_comma more) h in
    let last : drop 1 q.cell.rest.now ≡ more = ap (drop 1) q.rest_is in
    record {
      peeled = record {
        cell = record { text = q.cell.text; rest = after q.cell.rest 1 };
        is = ended_on Comma s (after q.cell.rest 1) q.cell q.is (comma_on q.cell.rest more q.rest_is);
        text_is = q.text_is;
      };
      row = subst (λ (l : List ℕ). IsRow texts l rest) (sym last) r;
    }

no_row : {l rest : List ℕ} → IsRow [] l rest → ⊥
no_row r = elim r [ ]

end_stops : {l rest : List ℕ} → IsEnd l rest → Stops l
end_stops (crlf {rest}) = stops_return (10 ∷ rest)
end_stops (lf {rest}) = stops_feed rest
end_stops last = stops_none

record End_read (s : Bor (List ℕ)) (rest : List ℕ) : Type 0 where
  behind : Bor (List ℕ)
  is : behind_end Row s ≡ Some behind
  rest_is : behind.now ≡ rest

row_end : (s : Bor (List ℕ)) (n r p q : Bool) → eqb (length s.now) 0 ≡ n → eqb (get_or s.now 0 0) 13 ≡ r → eqb (get_or s.now 1 0) 10 ≡ p → eqb (get_or s.now 0 0) 10 ≡ q
    → behind_end Row s ≡ (if n then Some s else if r then if p then Some (after s (1 + 1)) else None else if q then Some (after s (0 + 1)) else None)
unfolding behind_end
row_end s n r p q e f g h = simp (e, f, g, h)

end_read : (s : Bor (List ℕ)) {l rest : List ℕ} → IsEnd l rest → s.now ≡ l → End_read s rest
end_read s (crlf {rest}) h =
    let none : eqb (length s.now) 0 ≡ false = ne_eqb (length s.now) 0 (λ e. omega (arith, e, ap length h)) in
    let return : eqb (get_or s.now 0 0) 13 ≡ true = ap (λ (l : List ℕ). eqb (get_or l 0 0) 13) h in
    let feed : eqb (get_or s.now 1 0) 10 ≡ true = ap (λ (l : List ℕ). eqb (get_or l 1 0) 10) h in
    record { behind = after s 2; is = row_end s false true true _ none return feed refl; rest_is = ap (drop 2) h }
end_read s (lf {rest}) h =
    let none : eqb (length s.now) 0 ≡ false = ne_eqb (length s.now) 0 (λ e. omega (arith, e, ap length h)) in
    let return : eqb (get_or s.now 0 0) 13 ≡ false = ap (λ (l : List ℕ). eqb (get_or l 0 0) 13) h in
    let feed : eqb (get_or s.now 0 0) 10 ≡ true = ap (λ (l : List ℕ). eqb (get_or l 0 0) 10) h in
    record { behind = after s 1; is = row_end s false false _ true none return refl feed; rest_is = ap (drop 1) h }
end_read s last h =
    let none : eqb (length s.now) 0 ≡ true = ap (λ (l : List ℕ). eqb (length l) 0) h in
    record { behind = s; is = row_end s true _ _ _ none refl refl refl; rest_is = h }

record Row_ended (s : Bor (List ℕ)) (text rest : List ℕ) : Type 0 where
  peeled : Peeled Row s text
  rest_is : peeled.cell.rest.now ≡ rest

peel_last : (s : Bor (List ℕ)) {l text rest : List ℕ} → IsRow (text ∷ []) l rest → s.now ≡ l → Row_ended s text rest
peel_last s (ended {text} {cell} {end} {rest} c e) h =
    let q = cell_read s text cell end c (end_stops e) h in
    let p = end_read q.cell.rest e q.rest_is in
    record {
      peeled = record { cell = record { text = q.cell.text; rest = p.behind }; is = ended_on Row s p.behind q.cell q.is p.is; text_is = q.text_is };
      rest_is = p.rest_is;
    }
peel_last s (comma c r) h = absurd (no_row r)

three_on : (e : End) (s : Bor (List ℕ)) (a b c : Cell) → ended_cell Comma s ≡ Some a → ended_cell Comma a.rest ≡ Some b → ended_cell e b.rest ≡ Some c
    → three_of e s ≡ Some (record { first = a.text; second = b.text; third = c.text; rest = c.rest })
unfolding three_of
three_on e s a b c h k l =
    some_on _ h ∙ some_on _ k
    ∙ ap (λ (o : Option Cell). option_map (λ c. record { first = a.text; second = b.text; third = c.text; rest = c.rest }) o) l

cells_on : (s : Bor (List ℕ)) (a b c : Three) → three_of Comma s ≡ Some a → three_of Comma a.rest ≡ Some b → three_of Row b.rest ≡ Some c
    → cells_of s ≡ Some (record { places = a; kinds = b; strings = c })
unfolding cells_of
cells_on s a b c h k l = some_on _ h ∙ some_on _ k ∙ ap (λ (o : Option Three). option_map (λ c. record { places = a; kinds = b; strings = c }) o) l

record Nine (l : List (List ℕ)) : Type 0 where
  a : List ℕ
  b : List ℕ
  c : List ℕ
  d : List ℕ
  e : List ℕ
  f : List ℕ
  g : List ℕ
  h : List ℕ
  i : List ℕ
  is : l ≡ a ∷ b ∷ c ∷ d ∷ e ∷ f ∷ g ∷ h ∷ i ∷ []

nine : (l : List (List ℕ)) → length l ≡ 9 → Nine l
nine (a ∷ b ∷ c ∷ d ∷ e ∷ f ∷ g ∷ h ∷ i ∷ []) long = record { a = a; b = b; c = c; d = d; e = e; f = f; g = g; h = h; i = i; is = refl }
nine l long = absurd (omega arith)

also : {a b : List ℕ} {l m : List (List ℕ)} → a ≡ b → l ≡ m → a ∷ l ≡ b ∷ m
also e f = ap₂ (λ (x : List ℕ) (y : List (List ℕ)). x ∷ y) e f

record Row_read (s : Bor (List ℕ)) (texts : List (List ℕ)) (rest : List ℕ) : Type 0 where
  cells : Cells
  is : cells_of s ≡ Some cells
  texts_are : texts_of cells ≡ texts
  rest_is : cells.strings.rest.now ≡ rest

row_read : (s : Bor (List ℕ)) (texts : List (List ℕ)) (rest : List ℕ) → length texts ≡ 9 → IsRow texts s.now rest → Row_read s texts rest
row_read s texts rest long r =
    let n = nine texts long in
    let whole : IsRow (n.a ∷ n.b ∷ n.c ∷ n.d ∷ n.e ∷ n.f ∷ n.g ∷ n.h ∷ n.i ∷ []) s.now rest = subst (λ (l : List (List ℕ)). IsRow l s.now rest) n.is r in
    let a = peel s whole refl (omega arith) in
    let b = peel a.peeled.cell.rest a.row refl (omega arith) in
    let c = peel b.peeled.cell.rest b.row refl (omega arith) in
    let d = peel c.peeled.cell.rest c.row refl (omega arith) in
    let e = peel d.peeled.cell.rest d.row refl (omega arith) in
    let f = peel e.peeled.cell.rest e.row refl (omega arith) in
    let g = peel f.peeled.cell.rest f.row refl (omega arith) in
    let h = peel g.peeled.cell.rest g.row refl (omega arith) in
    let i = peel_last h.peeled.cell.rest h.row refl in
    let cells : Cells = record {
      places = record { first = a.peeled.cell.text; second = b.peeled.cell.text; third = c.peeled.cell.text; rest = c.peeled.cell.rest };
      kinds = record { first = d.peeled.cell.text; second = e.peeled.cell.text; third = f.peeled.cell.text; rest = f.peeled.cell.rest };
      strings = record { first = g.peeled.cell.text; second = h.peeled.cell.text; third = i.peeled.cell.text; rest = i.peeled.cell.rest };
    } in
    record {
      cells = cells;
      is = cells_on s cells.places cells.kinds cells.strings
          (three_on Comma s a.peeled.cell b.peeled.cell c.peeled.cell a.peeled.is b.peeled.is c.peeled.is)
          (three_on Comma c.peeled.cell.rest d.peeled.cell e.peeled.cell f.peeled.cell d.peeled.is e.peeled.is f.peeled.is)
          (three_on Row f.peeled.cell.rest g.peeled.cell h.peeled.cell i.peeled.cell g.peeled.is h.peeled.is i.peeled.is);
      texts_are =
          also a.peeled.text_is (also b.peeled.text_is (also c.peeled.text_is (also d.peeled.text_is (also e.peeled.text_is (also f.peeled.text_is (
          also g.peeled.text_is (also h.peeled.text_is (also i.peeled.text_is refl)))))))) ∙ sym n.is;
      rest_is = i.rest_is;
    }

pub rows_meant : RowsMeant
rows_meant = record {
  row = row_is;
  only = λ s texts rest long r. let p = row_read s texts rest long r in (p.cells, p.is, p.texts_are, p.rest_is);
}

-- ---- how long a row is
end_shorter : {l rest : List ℕ} → IsEnd l rest → length rest ≤ length l
end_shorter crlf = omega arith
end_shorter lf = omega arith
end_shorter last = omega arith

row_shorter : {texts : List (List ℕ)} {l rest : List ℕ} → IsRow texts l rest → length rest ≤ length l
row_shorter (ended {text} {cell} {end} {rest} c e) = omega (arith, length-append cell end, end_shorter e)
row_shorter (comma {text} {cell} {more} c r) = omega (arith, length-append cell (44 ∷ more), row_shorter r)

-- that of two cells or more has a comma
comma_shorter : {a b : List ℕ} {texts : List (List ℕ)} {l rest : List ℕ} → IsRow (a ∷ b ∷ texts) l rest → length rest < length l
comma_shorter (comma {text} {cell} {more} c r) = omega (arith, length-append cell (44 ∷ more), row_shorter r)

pub cells_shorter : (s : Bor (List ℕ)) (c : Cells) → cells_of s ≡ Some c → length c.strings.rest.now < length s.now
cells_shorter s c h = comma_shorter (row_is s c h)

-- ---- how long its texts are
abbrev pub total : List (List ℕ) → ℕ
total [] = 0
total (t ∷ ts) = length t + total ts

pub cell_longer : {text cell : List ℕ} → IsCell text cell → length text ≤ length cell
cell_longer (plain p) = omega arith
cell_longer {text} (quoted p) = omega (arith, length-append text (34 ∷ []))

pub row_longer : {texts : List (List ℕ)} {l rest : List ℕ} → IsRow texts l rest → total texts + length rest ≤ length l
row_longer (ended {text} {cell} {end} {rest} c e) = omega (arith, length-append cell end, end_shorter e, cell_longer c)
row_longer (comma {text} {cell} {more} c r) = omega (arith, length-append cell (44 ∷ more), cell_longer c, row_longer r)

pub cells_longer : (s : Bor (List ℕ)) (c : Cells) → cells_of s ≡ Some c
    → length c.strings.first.now + length c.strings.second.now + length c.strings.third.now + length c.strings.rest.now ≤ length s.now
cells_longer s c h = omega (arith, row_longer (row_is s c h))
