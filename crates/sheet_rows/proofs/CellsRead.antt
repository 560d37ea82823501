-- A cell by its bytes.
use Rattle.std.proofs.Common.{ℕ, suc, ◌+◌, ◌≡◌, refl, sym, ap, ap₂, subst, ◌∙◌, Bool, true, false, List, [], ◌∷◌, ◌++◌, length, take, drop, get_or, append_assoc, take-append-drop, arith}
use Rattle.std.specs.Prelude.{Option, Some, None, eqb, if◌then◌else◌}
use Rattle.std.specs.List.{All}
use Rattle.std.specs.Option.{option_map}
use Rattle.std.proofs.lemmas.List.{drop-drop}
use Rattle.std.specs.Borrow.{Bor}
use Rattle.std.proofs.lemmas.List.Elements.{All-nil, All-cons, All-head, All-rest}
use borrow.Author.Tests.{eqb-true, eqb-false, ne_eqb}
use Rattle.part.specs.Slice.{part, after}
use Rattle.sheet.specs.Cells.{is_special}
use Rattle.sheet.specs.CellsMeant.{IsPlain}
use Rattle.sheet.proofs.Meant.{special_plain, plain_special}
use Rattle.sheet_rows.specs.declared.cells.Cell.{Cell}
use Rattle.sheet_rows.specs.Cells.{plain_length, behind, quoted_length, quoted_cell, plain_cell, cell_of}
use Rattle.sheet_rows.specs.Meant.{IsPaired, none, quotes, other, IsCell, plain, quoted}
use Rattle.sheet_rows.proofs.Lengths.{plain_none, plain_more, plain_special as plain_stops, quoted_other, quoted_pair, quoted_closes}

-- ---- without quotes
plain_is : (s : List ℕ) → All IsPlain (take (plain_length s) s)
unfolding plain_length
plain_is [] = All-nil IsPlain
plain_is (b ∷ s) = by (is_special b) refl (plain_is s)
  where
    one : suc (plain_length s) ≡ plain_length s + 1
    one = omega arith

    by : (c : Bool) → is_special b ≡ c → All IsPlain (take (plain_length s) s) → All IsPlain (take (if c then 0 else plain_length s + 1) (b ∷ s))
    by true e h = All-nil IsPlain
    by false e h = subst (λ (n : ℕ). All IsPlain (take n (b ∷ s))) one (All-cons IsPlain b (take (plain_length s) s) (special_plain b e) h)

-- what stands behind a cell: nothing, or a special byte
pub record Stops (s : List ℕ) : Type 0 where
  pub stops : plain_length s ≡ 0
  pub unquoted : eqb (get_or s 0 0) 34 ≡ false

pub stops_none : Stops []
stops_none = record { stops = plain_none; unquoted = refl }

pub stops_comma : (s : List ℕ) → Stops (44 ∷ s)
stops_comma s = record { stops = plain_stops 44 s refl; unquoted = refl }

pub stops_return : (s : List ℕ) → Stops (13 ∷ s)
stops_return s = record { stops = plain_stops 13 s refl; unquoted = refl }

pub stops_feed : (s : List ℕ) → Stops (10 ∷ s)
stops_feed s = record { stops = plain_stops 10 s refl; unquoted = refl }

plain_long : (t y : List ℕ) → All IsPlain t → Stops y → plain_length (t ++ y) ≡ length t
plain_long [] y h k = k.stops
plain_long (b ∷ t) y h k =
    plain_more b (t ++ y) (plain_special b (All-head IsPlain b t h))
    ∙ omega (arith, plain_long t y (All-rest IsPlain _ _ _ refl h) k)

take_front : (t y : List ℕ) → take (length t) (t ++ y) ≡ t
take_front [] y = refl
take_front (b ∷ t) y = ap (λ (l : List ℕ). b ∷ l) (take_front t y)

drop_front : (t y : List ℕ) → drop (length t) (t ++ y) ≡ y
drop_front [] y = refl
drop_front (b ∷ t) y = drop_front t y

same_drop : (m n : ℕ) (s : List ℕ) → m ≡ n → drop m s ≡ drop n s
same_drop m n s e = ap (λ (k : ℕ). drop k s) e

same_some : (m n : ℕ) → m ≡ n → ◌≡◌ {A = Option ℕ} (Some m) (Some n)
same_some m n e = ap (λ (k : ℕ). Some k) e

-- ---- between quotes
behind_some : (k n : ℕ) (o : Option ℕ) → behind k o ≡ Some n → (m : ℕ) × (o ≡ Some m) × (k + m ≡ n)
behind_some k n (Some m) e = (m, refl, cc)
behind_some k n None e = cc

-- the bytes before the quote that closes, and this quote
record Closed (s : List ℕ) (n : ℕ) : Type 0 where
  paired : IsPaired (take n s)
  parts : s ≡ take n s ++ (34 ∷ drop (n + 1) s)
  unquoted : eqb (get_or (drop (n + 1) s) 0 0) 34 ≡ false

closed_here : (b : ℕ) (s : List ℕ) → eqb b 34 ≡ true → eqb (get_or s 0 0) 34 ≡ false → Closed (b ∷ s) 0
closed_here b s e f =
    record {
      paired = none;
      parts = ap (λ (c : ℕ). c ∷ s) (eqb-true b 34 e);
      unquoted = f;
    }

closed_pair : (b c n k : ℕ) (s : List ℕ) → eqb b 34 ≡ true → eqb c 34 ≡ true → Closed s k → 2 + k ≡ n → Closed (b ∷ c ∷ s) n
closed_pair b c n k s e f d h =
    let two : suc (suc k) ≡ n = omega arith in
    let on : drop (suc (suc k) + 1) (b ∷ c ∷ s) ≡ drop (k + 1) s = same_drop (suc (suc k) + 1) (suc (suc (k + 1))) (b ∷ c ∷ s) (omega arith) in
    let pair : 34 ∷ 34 ∷ take k s ≡ b ∷ c ∷ take k s = ap₂ (λ (x y : ℕ). x ∷ y ∷ take k s) (sym (eqb-true b 34 e)) (sym (eqb-true c 34 f)) in
    subst (Closed (b ∷ c ∷ s)) two (record {
      paired = subst IsPaired pair (quotes d.paired);
      parts = ap (λ (l : List ℕ). b ∷ c ∷ l) (d.parts ∙ ap (λ (l : List ℕ). take k s ++ (34 ∷ l)) (sym on));
      unquoted = ap (λ (l : List ℕ). eqb (get_or l 0 0) 34) on ∙ d.unquoted;
    })

closed_other : (b n k : ℕ) (s : List ℕ) → eqb b 34 ≡ false → Closed s k → 1 + k ≡ n → Closed (b ∷ s) n
closed_other b n k s e d h =
    let one : suc k ≡ n = omega arith in
    let on : drop (suc k + 1) (b ∷ s) ≡ drop (k + 1) s = same_drop (suc k + 1) (suc (k + 1)) (b ∷ s) (omega arith) in
    subst (Closed (b ∷ s)) one (record {
      paired = other (eqb-false b 34 e) d.paired;
      parts = ap (λ (l : List ℕ). b ∷ l) (d.parts ∙ ap (λ (l : List ℕ). take k s ++ (34 ∷ l)) (sym on));
      unquoted = ap (λ (l : List ℕ). eqb (get_or l 0 0) 34) on ∙ d.unquoted;
    })

closed : (s : List ℕ) (n : ℕ) → quoted_length s ≡ Some n → Closed s n
unfolding quoted_length
closed [] n h = cc
closed (b ∷ []) n h = by (eqb b 34) refl h
  where
    by : (t : Bool) → eqb b 34 ≡ t → (if t then Some 0 else None) ≡ Some n → Closed (b ∷ []) n
    by true e g = let zero_is : 0 ≡ n = cc in subst (Closed (b ∷ [])) zero_is (closed_here b [] e refl)
    by false e g = cc
closed (b ∷ c ∷ s) n h = by (eqb b 34) (eqb c 34) refl refl (closed s) (closed (c ∷ s)) h
  where
    by : (t u : Bool) → eqb b 34 ≡ t → eqb c 34 ≡ u → ((k : ℕ) → quoted_length s ≡ Some k → Closed s k) → ((k : ℕ) → quoted_length (c ∷ s) ≡ Some k → Closed (c ∷ s) k)
        → (if t then if u then behind 2 (quoted_length s) else Some 0 else behind 1 (quoted_length (c ∷ s))) ≡ Some n → Closed (b ∷ c ∷ s) n
    by true true e f two one g = let m = behind_some 2 n (quoted_length s) g in closed_pair b c n m.0 s e f (two m.0 m.1) m.2
    by true false e f two one g = let zero_is : 0 ≡ n = cc in subst (Closed (b ∷ c ∷ s)) zero_is (closed_here b (c ∷ s) e f)
    by false u e f two one g = let m = behind_some 1 n (quoted_length (c ∷ s)) g in closed_other b n m.0 (c ∷ s) e (one m.0 m.1) m.2

quoted_long : {t : List ℕ} (y : List ℕ) → IsPaired t → eqb (get_or y 0 0) 34 ≡ false → quoted_length (t ++ (34 ∷ y)) ≡ Some (length t)
quoted_long y none h = quoted_closes 34 y refl h
quoted_long y (quotes {s} p) h =
    quoted_pair 34 34 (s ++ (34 ∷ y)) refl refl
    ∙ ap (behind 2) (quoted_long y p h) ∙ same_some (2 + length s) (suc (suc (length s))) (omega arith)
quoted_long y (other {b} {s} d p) h =
    quoted_other b (s ++ (34 ∷ y)) (ne_eqb b 34 d)
    ∙ ap (behind 1) (quoted_long y p h) ∙ same_some (1 + length s) (suc (length s)) (omega arith)

-- ---- a cell
pub record Spelt (s : List ℕ) (c : Cell) : Type 0 where
  pub cell : List ℕ
  pub is_cell : IsCell c.text.now cell
  pub is : s ≡ cell ++ c.rest.now

quoted_spelt : (s : Bor (List ℕ)) (c : Cell) → eqb (get_or s.now 0 0) 34 ≡ true → quoted_cell s ≡ Some c → Spelt s.now c
quoted_spelt s c e h = by (quoted_length (drop 1 s.now)) refl h
  where
    first : (l : List ℕ) → eqb (get_or l 0 0) 34 ≡ true → l ≡ 34 ∷ drop 1 l
    first [] g = cc
    first (b ∷ l) g = ap (λ (x : ℕ). x ∷ l) (eqb-true b 34 g)

    ends : (n : ℕ) → drop (n + 1) (drop 1 s.now) ≡ drop (n + 2) s.now
    ends n = drop-drop (n + 1) 1 s.now ∙ same_drop (1 + (n + 1)) (n + 2) s.now (omega arith)

    by : (o : Option ℕ) → quoted_length (drop 1 s.now) ≡ o → option_map (λ n. record { text = part s 1 n; rest = after s (n + 2) }) o ≡ Some c → Spelt s.now c
    by (Some n) f g =
        let d = closed (drop 1 s.now) n f in
        let same : record { text = part s 1 n; rest = after s (n + 2) } ≡ c = cc in
        subst (Spelt s.now) same (record {
          cell = 34 ∷ (take n (drop 1 s.now) ++ (34 ∷ []));
          is_cell = quoted d.paired;
          is = first s.now e ∙ ap (λ (l : List ℕ). 34 ∷ l) (
              d.parts ∙ ap (λ (l : List ℕ). take n (drop 1 s.now) ++ (34 ∷ l)) (ends n)
              ∙ sym (append_assoc (take n (drop 1 s.now)) (34 ∷ []) (drop (n + 2) s.now)));
        })
    by None f g = cc

plain_spelt : (s : Bor (List ℕ)) → Spelt s.now (plain_cell s)
plain_spelt s = record { cell = take (plain_length s.now) s.now; is_cell = plain (plain_is s.now); is = sym (take-append-drop (plain_length s.now) s.now) }

pub cell_spelt : (s : Bor (List ℕ)) (c : Cell) → cell_of s ≡ Some c → Spelt s.now c
unfolding cell_of
cell_spelt s c h = by (eqb (get_or s.now 0 0) 34) refl h
  where
    by : (b : Bool) → eqb (get_or s.now 0 0) 34 ≡ b → (if b then quoted_cell s else Some (plain_cell s)) ≡ Some c → Spelt s.now c
    by true e g = quoted_spelt s c e g
    by false e g = let same : plain_cell s ≡ c = cc in subst (Spelt s.now) same (plain_spelt s)

-- the cell that is read where one stands
pub record Read (s : Bor (List ℕ)) (text rest : List ℕ) : Type 0 where
  pub cell : Cell
  pub is : cell_of s ≡ Some cell
  pub text_is : cell.text.now ≡ text
  pub rest_is : cell.rest.now ≡ rest

plain_first : (t y : List ℕ) → All IsPlain t → Stops y → eqb (get_or (t ++ y) 0 0) 34 ≡ false
plain_first [] y h k = k.unquoted
plain_first (b ∷ t) y h k = let p = All-head IsPlain b t h in ne_eqb b 34 p.quote

pub cell_read : (s : Bor (List ℕ)) (text cell rest : List ℕ) → IsCell text cell → Stops rest → s.now ≡ cell ++ rest → Read s text rest
unfolding cell_of
cell_read s text cell rest (plain p) k e =
    let long : plain_length s.now ≡ length text = ap plain_length e ∙ plain_long text rest p k in
    let first : eqb (get_or s.now 0 0) 34 ≡ false = ap (λ (l : List ℕ). eqb (get_or l 0 0) 34) e ∙ plain_first text rest p k in
    record {
      cell = plain_cell s;
      is = ap (λ (b : Bool). if b then quoted_cell s else Some (plain_cell s)) first;
      text_is = ap₂ (λ (n : ℕ) (l : List ℕ). take n l) long e ∙ take_front text rest;
      rest_is = ap₂ (λ (n : ℕ) (l : List ℕ). drop n l) long e ∙ drop_front text rest;
    }
cell_read s text cell rest (quoted p) k e =
    let whole : s.now ≡ 34 ∷ (text ++ (34 ∷ rest)) = e ∙ ap (λ (l : List ℕ). 34 ∷ l) (append_assoc text (34 ∷ []) rest) in
    let first : eqb (get_or s.now 0 0) 34 ≡ true = ap (λ (l : List ℕ). eqb (get_or l 0 0) 34) whole in
    let behind_quote : drop 1 s.now ≡ text ++ (34 ∷ rest) = ap (drop 1) whole in
    let long : quoted_length (drop 1 s.now) ≡ Some (length text) = ap quoted_length behind_quote ∙ quoted_long rest p k.unquoted in
    let two : drop (length text + 2) s.now ≡ rest =
    same_drop (length text + 2) (1 + (length text + 1)) s.now (omega arith) ∙ sym (drop-drop (length text + 1) 1 s.now) ∙ ap (drop (length text + 1)) behind_quote
    ∙ sym (drop-drop 1 (length text) (text ++ (34 ∷ rest))) ∙ ap (drop 1) (drop_front text (34 ∷ rest)) in
    record {
      cell = record { text = part s 1 (length text); rest = after s (length text + 2) };
      is = ap (λ (b : Bool). if b then quoted_cell s else Some (plain_cell s)) first
          ∙ ap (λ (o : Option ℕ). option_map (λ n. record { text = part s 1 n; rest = after s (n + 2) }) o) long;
      text_is = ap (take (length text)) behind_quote ∙ take_front text (34 ∷ rest);
      rest_is = two;
    }
