-- The tables of `list`, `list --sorted` and `branch`: proved.
use Rattle.std.proofs.Common.{ℕ, zero, suc, ◌+◌, ◌≤◌, ◌≡◌, ◌⊎◌, inl, inr, ⊎_elim, refl, sym, ap, subst, ◌∙◌, Bool, true, false, List, [], ◌∷◌, ◌++◌, codes, decimal, length, take, drop, get_or, arith, Bor, Result, append_assoc, max}
use Rattle.std.specs.Prelude.{Option, Some, None, Ok, Err, All, map, Contains}
use Rattle.std.specs.List.{flat_map}
use Rattle.std.proofs.lemmas.List.Elements.{All-head, All-tail, All-contains_itself, Contains-append_right}
use Rattle.std.proofs.lemmas.List.{length-take, length-drop}
use Rattle.le.specs.Le.{le2}
use Rattle.part.specs.Slice.{part}
use Rattle.part.specs.End.{IsString}
use Rattle.refusal.specs.Refusal.{limit}
use Rattle.refusal.specs.declared.Refusal.{Refusal}
use Rattle.refusal.specs.declared.Refusal.TheVariants.{ZeroEntryLength}
use Rattle.entry.specs.Entry.{claim_at}
use Rattle.entry.specs.Walk.{stands, steps}
use Rattle.entry.proofs.Claims.{room_at}
use Rattle.entry.proofs.Direct.{part_long}
use Rattle.text.specs.Text.{code_point}
use Rattle.walk.specs.declared.Piece.{Piece}
use Rattle.walk.specs.Pieces.{piece_at}
use Rattle.walk.proofs.Left.{piece_starts}
use Rattle.walk.proofs.Theorems.{pieces_are}
use Rattle.symbol.specs.declared.AdsSymbolInfo.{AdsSymbolInfo}
use Rattle.symbol.specs.Symbol.{symbol_of}
use Rattle.symbol.specs.Kind as kind
use Rattle.symbol.specs.Inside.{IsInside}
use Rattle.symbol.proofs.Lies.{symbols_inside}
use Rattle.wording.specs.Text.{shown_width}
use Rattle.wording.specs.Wording.{refusal_text}
use Rattle.wording.specs.Meant.{IsVisible}
use Rattle.wording.specs.Meant as wording
use Rattle.report.specs.declared.Upload.{Upload}
use Rattle.report.specs.declared.table.Columns.{Columns}
use Rattle.report.specs.Report.{upload_text}
use Rattle.report.specs.Cells.{hexadecimal}
use Rattle.report.specs.Table.{headings, widths_of, widest, fitted, fitted_by, fitted_on, columns_of, headings_text, line_text, table_text}
use Rattle.report.specs.Aligned.{Cell, right, IsSymbolRow, IsColumn, heading_cells, symbol_cells, widths}
use Rattle.report.proofs.Aligned.{in_characters, tables_meant}
use Rattle.branching.specs.Lines.{entries_at, table_of, table}
use Rattle.branching.specs.Tables.{characters, characters_in, IsLine, AreLines, IsTable, ListWritten}
use Rattle.branching.specs.Tables as meant

-- what is shown of a string has as many characters, whichever way it is read
as_long : (t u s : List ℕ) → IsVisible t s → IsVisible u s → length t ≡ length u
as_long t u s wording.IsVisible.nothing wording.IsVisible.nothing = refl
as_long t u s (wording.IsVisible.numbered c h l v w control is high low on) (wording.IsVisible.numbered c2 h2 l2 v2 w2 control2 is2 high2 low2 on2) = omega (arith, as_long v v2 w on on2)
as_long t u s (wording.IsVisible.numbered c h l v w control is high low on) (wording.IsVisible.itself c2 v2 w2 plain on2) = absurd (plain control)
as_long t u s (wording.IsVisible.itself c v w plain on) (wording.IsVisible.numbered c2 h2 l2 v2 w2 control is high low on2) = absurd (plain control)
as_long t u s (wording.IsVisible.itself c v w plain on) (wording.IsVisible.itself c2 v2 w2 plain2 on2) = omega (arith, as_long v v2 w on on2)

string_is : (e s : Bor (List ℕ)) (at n : ℕ) → IsString e at s → length s.now ≡ n → s.now ≡ take n (drop at e.now)
string_is e s at n h l = ap (λ (b : Bor (List ℕ)). b.now) h.is ∙ ap (λ (k : ℕ). take k (drop at e.now)) l

name_long : (s t cut : List ℕ) → s ≡ cut → length s ≤ limit → IsVisible t (map code_point cut) → length t ≡ shown_width s
name_long s t cut e short seen =
    let own = in_characters s short in
    as_long t own.text (map code_point cut) seen (subst (λ (x : List ℕ). IsVisible own.text (map code_point x)) e own.visible) ∙ sym own.wide

-- the cells of a row are as wide as a symbol's
cells_wide : (at : ℕ) (e : Bor (List ℕ)) (s : AdsSymbolInfo) (name type_name : List ℕ) → IsInside e s → length name ≡ shown_width s.name.now → length type_name ≡ shown_width s.type_name.now
    → (k : ℕ) → characters_in k (symbol_cells at e.now s name type_name) ≡ get_or (widths (widths_of at s)) k 0
unfolding widths_of
cells_wide at e s name type_name i n t zero = refl
cells_wide at e s name type_name i n t (suc zero) = n
cells_wide at e s name type_name i n t (suc (suc zero)) = t
cells_wide at e s name type_name i n t (suc (suc (suc zero))) = ap (λ (x : ℕ). length (decimal x)) (sym i.size)
cells_wide at e s name type_name i n t (suc (suc (suc (suc zero)))) = ap (λ (x : ℕ). length (hexadecimal x)) (sym i.index_group) ∙ omega arith
cells_wide at e s name type_name i n t (suc (suc (suc (suc (suc zero))))) = ap (λ (x : ℕ). length (hexadecimal x)) (sym i.index_offset) ∙ omega arith
cells_wide at e s name type_name i n t (suc (suc (suc (suc (suc (suc zero)))))) = refl
cells_wide at e s name type_name i n t (suc (suc (suc (suc (suc (suc (suc zero))))))) = refl
cells_wide at e s name type_name i n t (suc (suc (suc (suc (suc (suc (suc (suc zero)))))))) = ap (λ (x : ℕ). length (decimal x)) (sym i.high)
cells_wide at e s name type_name i n t (suc (suc (suc (suc (suc (suc (suc (suc (suc k))))))))) = refl

headings_wide : (k : ℕ) → characters_in k heading_cells ≡ get_or (widths headings) k 0
headings_wide zero = refl
headings_wide (suc zero) = refl
headings_wide (suc (suc zero)) = refl
headings_wide (suc (suc (suc zero))) = refl
headings_wide (suc (suc (suc (suc zero)))) = refl
headings_wide (suc (suc (suc (suc (suc zero))))) = refl
headings_wide (suc (suc (suc (suc (suc (suc zero)))))) = refl
headings_wide (suc (suc (suc (suc (suc (suc (suc zero))))))) = refl
headings_wide (suc (suc (suc (suc (suc (suc (suc (suc zero)))))))) = refl
headings_wide (suc (suc (suc (suc (suc (suc (suc (suc (suc k))))))))) = refl

-- each column of the wider of two is as wide as in one of them
either : (a b : ℕ) → (max a b ≡ a) ⊎ (max a b ≡ b)
either a b = grind arith

one_of : (a b : Columns) (k : ℕ) → (get_or (widths (widest a b)) k 0 ≡ get_or (widths a) k 0) ⊎ (get_or (widths (widest a b)) k 0 ≡ get_or (widths b) k 0)
unfolding widest
one_of a b zero = either a.place b.place
one_of a b (suc zero) = either a.name b.name
one_of a b (suc (suc zero)) = either a.type_name b.type_name
one_of a b (suc (suc (suc zero))) = either a.size b.size
one_of a b (suc (suc (suc (suc zero)))) = either a.group b.group
one_of a b (suc (suc (suc (suc (suc zero))))) = either a.offset b.offset
one_of a b (suc (suc (suc (suc (suc (suc zero)))))) = either a.attributes b.attributes
one_of a b (suc (suc (suc (suc (suc (suc (suc zero))))))) = either a.unread b.unread
one_of a b (suc (suc (suc (suc (suc (suc (suc (suc zero)))))))) = either a.high b.high
one_of a b (suc (suc (suc (suc (suc (suc (suc (suc (suc k))))))))) = inl refl

module _ (u : Upload) (small : length u.bytes.now ≤ limit) where
  abbrev read : Bor (List ℕ) → Result AdsSymbolInfo Refusal
  read = symbol_of u.mode

  abbrev s : Bor (List ℕ)
  s = u.bytes

  abbrev piece : ℕ → Piece AdsSymbolInfo
  piece = piece_at read s

  -- an accepted piece is read from its own bytes
  own_read : (at : ℕ) (r : AdsSymbolInfo) → (piece at).answer ≡ Ok r → read (part s at r.length) ≡ Ok r
  unfolding piece_at
  own_read at r h = by (stands s.now at) refl (claim_at s.now at).size refl
    where
      by : (b : Bool) → stands s.now at ≡ b → (c : Option (Result ℕ Refusal)) → (claim_at s.now at).size ≡ c → read (part s at r.length) ≡ Ok r
      by true e c f = let g : ◌≡◌ {A = Result AdsSymbolInfo Refusal} (Err ZeroEntryLength) (Ok r) = simp e at h in cc
      by false e None f = let g : ◌≡◌ {A = Result AdsSymbolInfo Refusal} (Err ZeroEntryLength) (Ok r) = simp (e, f) at h in cc
      by false e (Some (Err why)) f = let g : ◌≡◌ {A = Result AdsSymbolInfo Refusal} (Err why) (Ok r) = simp (e, f) at h in cc
      by false e (Some (Ok size)) f =
          let g : read (part s at size) ≡ Ok r = simp (e, f) at h in
          let n : r.length ≡ size = kind.long u.mode (part s at size) r g ∙ part_long s at size (room_at s.now at size f) in
          ap (λ (k : ℕ). read (part s at k)) n ∙ g

  own_small : (at size : ℕ) → length (part s at size).now ≤ limit
  own_small at size = omega (arith, length-take size (drop at s.now), length-drop at s.now, small)

  -- what a piece makes of the columns
  fitted_ok : (d : Columns) (at : ℕ) (r : AdsSymbolInfo) → (piece at).answer ≡ Ok r → fitted d (piece at) ≡ widest d (widths_of at r)
  unfolding fitted
  fitted_ok d at r e = ap (λ (a : Result AdsSymbolInfo Refusal). fitted_by d (piece at).start a) e ∙ ap (λ (k : ℕ). widest d (widths_of k r)) (piece_starts read s at)

  fitted_err : (d : Columns) (at : ℕ) (why : Refusal) → (piece at).answer ≡ Err why → fitted d (piece at) ≡ record d { place = max d.place (length (decimal at)) }
  unfolding fitted
  fitted_err d at why e = ap (λ (a : Result AdsSymbolInfo Refusal). fitted_by d (piece at).start a) e ∙ ap (λ (k : ℕ). record d { place = max d.place (length (decimal k)) }) (piece_starts read s at)

  -- columns that are wider than others are as wide as a cell
  abbrev AddsTo : List Cell → Columns → Columns → Type 0
  AddsTo cells d n = (k : ℕ) → (get_or (widths n) k 0 ≡ get_or (widths d) k 0) ⊎ (characters_in k cells ≡ get_or (widths n) k 0)

  -- a line in columns that are made for some pieces, the cells in it, and what they add to the columns
  record Made (c : Columns) (at : ℕ) : Type 0 where
    cells : List Cell
    is : IsLine u (widths c) at cells (line_text c (piece at))
    adds : (d : Columns) → AddsTo cells d (fitted d (piece at))

  accepted : (c : Columns) (at : ℕ) (r : AdsSymbolInfo) → (piece at).answer ≡ Ok r → IsSymbolRow (widths c) at (part s at r.length).now r (line_text c (piece at)) → Made c at
  accepted c at r e row =
      let own = own_read at r e in
      let own_bytes = part s at r.length in
      let i = symbols_inside u.mode own_bytes r own in
      let short = own_small at r.length in
      let name_is = string_is own_bytes r.name 30 (le2 own_bytes.now 24) i.name i.name_length in
      let type_is = string_is own_bytes r.type_name (31 + length r.name.now) (le2 own_bytes.now 26) i.type_name i.type_name_length ∙ ap (λ (k : ℕ). take (le2 own_bytes.now 26) (drop (31 + k) own_bytes.now)) i.name_length in
      let n = name_long r.name.now row.name _ name_is (omega (arith, i.name.within, short)) row.is_name in
      let t = name_long r.type_name.now row.type_name _ type_is (omega (arith, i.type_name.within, short)) row.is_type in
      record {
        cells = symbol_cells at own_bytes.now r row.name row.type_name;
        is = meant.IsLine.accepted r (line_text c (piece at)) own row;
        adds = λ d. subst (AddsTo (symbol_cells at own_bytes.now r row.name row.type_name) d) (sym (fitted_ok d at r e))
            (λ k. ⊎_elim (λ h. inl h) (λ h. inr (cells_wide at own_bytes r row.name row.type_name i n t k ∙ sym h)) (one_of d (widths_of at r) k));
      }

  refused : (c : Columns) (at : ℕ) (why : Refusal) (place : List ℕ) → (piece at).answer ≡ Err why → IsColumn c.place (right (decimal at)) place → line_text c (piece at) ≡ place ++ (codes "  " ++ (refusal_text why ++ codes "\n")) → Made c at
  refused c at why place e column is = record {
    cells = right (decimal at) ∷ [];
    is = subst (IsLine u (widths c) at (right (decimal at) ∷ [])) (sym is) (meant.IsLine.refused why place e column);
    adds = λ d. subst (AddsTo (right (decimal at) ∷ []) d) (sym (fitted_err d at why e)) (adds d);
  }
    where
      adds : (d : Columns) → AddsTo (right (decimal at) ∷ []) d (record d { place = max d.place (length (decimal at)) })
      adds d zero = ⊎_elim (λ h. inl h) (λ h. inr (sym h)) (either d.place (length (decimal at)))
      adds d (suc k) = inl refl

  made : (ps : List (Piece AdsSymbolInfo)) (at : ℕ) → Contains ps (piece at) → Made (columns_of ps) at
  made ps at has = by (piece at).answer refl
    where
      by : (a : Result AdsSymbolInfo Refusal) → (piece at).answer ≡ a → Made (columns_of ps) at
      by (Ok r) e =
          accepted (columns_of ps) at r e
          (subst (λ (k : ℕ). IsSymbolRow (widths (columns_of ps)) k (part s at r.length).now r (line_text (columns_of ps) (piece at))) (piece_starts read s at)
          (tables_meant.accepted ps (piece at) u.mode (part s at r.length) r has e (own_read at r e) (own_small at r.length)))
      by (Err why) e =
          let line = tables_meant.refused ps (piece at) why has e in
          refused (columns_of ps) at why line.0 e (subst (λ (k : ℕ). IsColumn (columns_of ps).place (right (decimal k)) line.0) (piece_starts read s at) line.1) line.2

  -- the lines of some places, and what all their cells add
  abbrev fits : Columns → List ℕ → Columns
  fits d ats = fitted_on d (map piece ats)

  abbrev NeedsFor : List (List Cell) → Columns → Columns → Type 0
  NeedsFor rows d n = (k : ℕ) → (get_or (widths n) k 0 ≡ get_or (widths d) k 0) ⊎ ((cells : List Cell) × Contains rows cells × (characters_in k cells ≡ get_or (widths n) k 0))

  record Lined (c : Columns) (ats : List ℕ) : Type 0 where
    rows : List (List Cell)
    each : AreLines u (widths c) ats rows (flat_map (line_text c) (map piece ats))
    needs : (d : Columns) → NeedsFor rows d (fits d ats)

  lined : (ps : List (Piece AdsSymbolInfo)) (ats : List ℕ) → All (Contains ps) (map piece ats) → Lined (columns_of ps) ats
  unfolding fitted_on
  lined ps [] h = record { rows = []; each = meant.AreLines.done; needs = λ d k. inl refl }
  lined ps (at ∷ ats) h =
      let one = made ps at (All-head (Contains ps) (piece at) (map piece ats) h) in
      let rest = lined ps ats (All-tail (Contains ps) (piece at) (map piece ats) h) in
      record {
        rows = one.cells ∷ rest.rows;
        each = meant.AreLines.next one.is rest.each;
        needs = λ d k.
            ⊎_elim
            (λ same. ⊎_elim (λ h. inl (same ∙ h)) (λ h. inr (one.cells, (0, omega arith, refl), h ∙ sym same)) (one.adds d k))
            (λ there. inr (there.0, Contains-append_right (one.cells ∷ []) rest.rows there.0 there.1, there.2))
            (rest.needs (fitted d (piece at)) k);
      }

  pub told_of : (ats : List ℕ) → IsTable u ats (table_of u (map piece ats))
  told_of ats =
      let ps = map piece ats in
      let all = lined ps ats (All-contains_itself ps) in
      let lines = flat_map (line_text (columns_of ps)) ps in
      record {
        widths = widths (columns_of ps);
        headings = headings_text (columns_of ps);
        rows = all.rows;
        lines = lines;
        is = append_assoc (upload_text u) (codes "\n" ++ (headings_text (columns_of ps) ++ codes "\n")) lines
            ∙ ap (λ (t : List ℕ). upload_text u ++ (codes "\n" ++ t)) (append_assoc (headings_text (columns_of ps)) (codes "\n") lines);
        heading = tables_meant.headings ps;
        each = all.each;
        needed = λ k lt.
            ⊎_elim
            (λ same. (heading_cells, (0, omega arith, refl), headings_wide k ∙ sym same))
            (λ there. (there.0, Contains-append_right (heading_cells ∷ []) all.rows there.0 there.1, there.2))
            (all.needs headings k);
      }

  -- where at each place something stands
  pub told : (ats : List ℕ) → entries_at u ats ≡ map piece ats → IsTable u ats (table u ats)
  unfolding table
  told ats e = subst (λ (ps : List (Piece AdsSymbolInfo)). IsTable u ats (table_of u ps)) (sym e) (told_of ats)

pub list_written : ListWritten
unfolding table_text
list_written u small = subst (λ (ps : List (Piece AdsSymbolInfo)). IsTable u (steps u.bytes.now) (table_of u ps)) (sym (pieces_are (symbol_of u.mode) u.bytes)) (told_of u small (steps u.bytes.now))
