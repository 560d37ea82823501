-- The pieces of an upload, one after another.
use Rattle.std.proofs.Common.{ℕ, zero, suc, ◌+◌, ◌-◌, ◌<◌, ◌≤◌, ◌≡◌, refl, sym, ap, ap₂, subst, ◌∙◌, Bool, true, false, List, [], ◌∷◌, ◌++◌, length, take, drop, length-append, length-drop, arith, Result, Ok, Err}
use Rattle.std.specs.Prelude.{leb, All, Option, Some, None, if◌then◌else◌}
use Rattle.std.specs.List.{flat_map}
use Rattle.std.specs.Borrow.{Bor}
use Rattle.std.proofs.lemmas.List.{length-take-le}
use Rattle.std.proofs.lemmas.List.Elements.{All-nil, All-cons, All-head}
use borrow.Author.Tests.{leb-false, lt-ltb, le-ltb}
use Rattle.le.specs.Le.{le4, part}
use Rattle.le.proofs.Laws.{length_part}
use Rattle.part.specs.Slice as slice
use Rattle.part.specs.Outcome.{and_then}
use Rattle.refusal.specs.Refusal.{limit}
use Rattle.refusal.specs.declared.Mode.TheVariants.{Present}
use Rattle.refusal.specs.declared.Refusal.{Refusal}
use Rattle.refusal.specs.declared.Refusal.TheVariants.{TooLarge, ZeroEntryLength}
use Rattle.entry.specs.declared.Claimed.{Claimed}
use Rattle.entry.specs.Entry.{claim_at}
use Rattle.entry.specs.Walk.{stands}
use Rattle.entry.specs.Claims as claims
use Rattle.entry.proofs.Claims as met
use Rattle.walk.specs.declared.Piece.{Piece}
use Rattle.walk.specs.Pieces.{claim_there, piece_at, pieces_from, pieces}
use Rattle.walk.proofs.Forward.{Forward, forward_at}
use Rattle.symbol.specs.declared.AdsSymbolInfo.{AdsSymbolInfo}
use Rattle.symbol.specs.Symbol.{symbol_of}
use Rattle.symbol.specs.Laws.{IsWhole}
use Rattle.symbol.proofs.Laws.{symbols_whole}
use Rattle.sheet.specs.Cells.{Row, row_text, header, sheet_text}
use Rattle.sheet.specs.Export.{row_of, rows_of, admitted, piece_row, rows_from, accepted_text, pieces_text, exporting}

-- the strings of a symbol, with its header and end bytes
abbrev pub strings_size : AdsSymbolInfo → ℕ
strings_size r = 33 + length r.name.now + length r.type_name.now + length r.comment.now

-- a piece lies in the upload, and the strings of its symbol in it
pub record Lies (s : List ℕ) (p : Piece AdsSymbolInfo) : Type 0 where
  pub forward : Forward s p
  pub strings : (r : AdsSymbolInfo) → p.answer ≡ Ok r → strings_size r ≤ p.end - p.start

module _ (s : Bor (List ℕ)) where
  strings_by : (at : ℕ) (c : Claimed) → claims.Claims s.now at c → (r : AdsSymbolInfo) → and_then (claim_there c.size) (λ size. symbol_of Present (slice.part s at size)) ≡ Ok r → strings_size r ≤ c.next - at
  unfolding part
  strings_by at c (claims.ended a) r e = cc
  strings_by at c (claims.large a b) r e = cc
  strings_by at c (claims.short a b d) r e = cc
  strings_by at c (claims.beyond a b d g) r e = cc
  strings_by at c (claims.entry a b d g) r e =
      let w = symbols_whole Present (slice.part s at (le4 s.now at)) r e in
      omega (arith, w.within.strings, length_part s.now at (le4 s.now at) (omega arith))

  zero_by : (p : Piece AdsSymbolInfo) → p.answer ≡ Err ZeroEntryLength → (r : AdsSymbolInfo) → p.answer ≡ Ok r → strings_size r ≤ p.end - p.start
  zero_by p z r e = cc

  lies_by : (at : ℕ) → at < length s.now → (b : Bool) → stands s.now at ≡ b → (r : AdsSymbolInfo) → (piece_at (symbol_of Present) s at).answer ≡ Ok r → strings_size r ≤ (piece_at (symbol_of Present) s at).end - (piece_at (symbol_of Present) s at).start
  unfolding piece_at
  lies_by at h true f r e = zero_by (piece_at (symbol_of Present) s at) (simp f) r e
  lies_by at h false f r e = simp f (strings_by at (claim_at s.now at) (met.claims s.now at) r (simp f at e))

  pub all_lie : (n at : ℕ) → All (Lies s.now) (pieces_from (symbol_of Present) s at n)
  unfolding pieces_from
  all_lie zero at = All-nil (Lies s.now)
  all_lie (suc n) at = by (leb (length s.now) at) refl (all_lie n (piece_at (symbol_of Present) s at).end)
    where
      by : (b : Bool) → leb (length s.now) at ≡ b → All (Lies s.now) (pieces_from (symbol_of Present) s (piece_at (symbol_of Present) s at).end n)
          → All (Lies s.now) (if b then [] else piece_at (symbol_of Present) s at ∷ pieces_from (symbol_of Present) s (piece_at (symbol_of Present) s at).end n)
      by true e h = All-nil (Lies s.now)
      by false e h =
          let l = leb-false (length s.now) at e in
          All-cons (Lies s.now) _ _ (record { forward = forward_at (symbol_of Present) s at l; strings = lies_by at l (stands s.now at) refl }) h

pub first_lies : {s : List ℕ} {left rest : List (Piece AdsSymbolInfo)} {p : Piece AdsSymbolInfo} → left ≡ p ∷ rest → All (Lies s) left → Lies s p
first_lies {s} {left} {rest} {p} turn h = All-head (Lies s) p rest (subst (All (Lies s)) turn h)

-- how many bytes there are behind so many, of rows or their refusal
abbrev pub sized : ℕ → Result (List Row) Refusal → Result ℕ Refusal
sized n w = and_then w (λ rows. Ok (n + length (flat_map row_text rows)))

sized_on : (n : ℕ) (row : Row) (w : Result (List Row) Refusal) → sized n (and_then w (λ rows. Ok (row ∷ rows))) ≡ sized (n + length (row_text row)) w
sized_on n row (Ok rows) = ap Ok (omega (arith, length-append (row_text row) (flat_map row_text rows)))
sized_on n row (Err why) = refl

module _ (s : List ℕ) (k n : ℕ) {left rest : List (Piece AdsSymbolInfo)} {p : Piece AdsSymbolInfo} (turn : left ≡ p ∷ rest) where
  pub rows_on : (r : AdsSymbolInfo) → p.answer ≡ Ok r → admitted k (part s p.start (p.end - p.start)) r ≡ Ok tt
      → sized n (rows_from s k left) ≡ sized (n + length (row_text (row_of r))) (rows_from s (k + 1) rest)
  unfolding rows_from piece_row
  rows_on r e h = simp turn (simp (e, h) (sized_on n (row_of r) (rows_from s (k + 1) rest)))

  pub rows_stop : (why : Refusal) → p.answer ≡ Err why → sized n (rows_from s k left) ≡ Err why
  unfolding rows_from piece_row
  rows_stop why e = simp turn (simp e)

  pub rows_barred : (r : AdsSymbolInfo) (why : Refusal) → p.answer ≡ Ok r → admitted k (part s p.start (p.end - p.start)) r ≡ Err why → sized n (rows_from s k left) ≡ Err why
  unfolding rows_from piece_row
  rows_barred r why e h = simp turn (simp (e, h))

pub rows_none : (s : List ℕ) (k n : ℕ) {left : List (Piece AdsSymbolInfo)} → left ≡ [] → sized n (rows_from s k left) ≡ Ok n
unfolding rows_from
rows_none s k n e = simp e (ap Ok (omega arith))

-- the text of those that are accepted
pub text_then : {left rest : List (Piece AdsSymbolInfo)} {p : Piece AdsSymbolInfo} → left ≡ p ∷ rest → pieces_text left ≡ accepted_text p.answer ++ pieces_text rest
unfolding pieces_text
text_then turn = simp turn

pub row_then : {left rest : List (Piece AdsSymbolInfo)} {p : Piece AdsSymbolInfo} → left ≡ p ∷ rest → (r : AdsSymbolInfo) → p.answer ≡ Ok r → pieces_text left ≡ row_text (row_of r) ++ pieces_text rest
row_then {rest = rest} turn r e = text_then turn ∙ ap (λ (a : Result AdsSymbolInfo Refusal). accepted_text a ++ pieces_text rest) e

pub none_then : {left rest : List (Piece AdsSymbolInfo)} {p : Piece AdsSymbolInfo} → left ≡ p ∷ rest → (why : Refusal) → p.answer ≡ Err why → pieces_text left ≡ pieces_text rest
none_then {rest = rest} turn why e = text_then turn ∙ ap (λ (a : Result AdsSymbolInfo Refusal). accepted_text a ++ pieces_text rest) e

pub no_text : {left : List (Piece AdsSymbolInfo)} → left ≡ [] → pieces_text left ≡ []
unfolding pieces_text
no_text turn = simp turn

-- it is that of the rows where no entry is refused
unit_by : (r : AdsSymbolInfo) (u : Result Unit Refusal) (row : Row) → and_then u (λ _. Ok (row_of r)) ≡ Ok row → row_of r ≡ row
unit_by r (Ok u) row e = cc
unit_by r (Err why) row e = cc

row_is : (w : Result AdsSymbolInfo Refusal) (t : AdsSymbolInfo → Result Unit Refusal) (row : Row) → and_then w (λ r. and_then (t r) (λ _. Ok (row_of r))) ≡ Ok row → row_text row ≡ accepted_text w
row_is (Ok r) t row e = ap row_text (sym (unit_by r (t r) row e))
row_is (Err why) t row e = cc

pub joined_by : (w : Result Row Refusal) (m : Result (List Row) Refusal) (rows : List Row) → and_then w (λ row. and_then m (λ more. Ok (row ∷ more))) ≡ Ok rows
    → (row : Row) × (more : List Row) × (w ≡ Ok row) × (m ≡ Ok more) × (row ∷ more ≡ rows)
joined_by (Ok row) (Ok more) rows e = (row, more, refl, refl, cc)
joined_by (Ok row) (Err why) rows e = cc
joined_by (Err why) m rows e = cc

no_rows : (rows : List Row) → ◌≡◌ {A = Result (List Row) Refusal} (Ok []) (Ok rows) → [] ≡ rows
no_rows rows e = cc

pub rows_text : (s : List ℕ) (k : ℕ) (ps : List (Piece AdsSymbolInfo)) (rows : List Row) → rows_from s k ps ≡ Ok rows → flat_map row_text rows ≡ pieces_text ps
unfolding rows_from pieces_text piece_row
rows_text s k [] rows e = ap (flat_map row_text) (sym (no_rows rows e))
rows_text s k (p ∷ ps) rows e =
    let j = joined_by (piece_row s k p) (rows_from s (k + 1) ps) rows e in
    ap (flat_map row_text) (sym j.4)
    ∙ ap₂ (λ (x y : List ℕ). x ++ y) (row_is p.answer (admitted k (part s p.start (p.end - p.start))) j.0 j.2) (rows_text s (k + 1) ps j.1 j.3)

-- the sheet of rows is the header and theirs
pub sheet_long : (rows : List Row) → length (sheet_text rows) ≡ 56 + length (flat_map row_text rows)
unfolding sheet_text header
sheet_long rows = length-append header (flat_map row_text rows)

sized_by : (w : Result (List Row) Refusal) → sized 56 w ≡ and_then w (λ rows. Ok (length (sheet_text rows)))
sized_by (Ok rows) = ap Ok (sym (sheet_long rows))
sized_by (Err why) = refl

pub sized_all : (s : Bor (List ℕ)) → sized 56 (rows_from s.now 0 (pieces (symbol_of Present) s)) ≡ and_then (rows_of s) (λ rows. Ok (length (sheet_text rows)))
unfolding rows_of
sized_all s = sized_by (rows_of s)

-- what exporting writes
pub export_large : (s : Bor (List ℕ)) → limit < length s.now → exporting s ≡ Err (TooLarge (length s.now))
unfolding exporting
export_large s h = simp (lt-ltb limit (length s.now) h)

pub export_is : (s : Bor (List ℕ)) → length s.now ≤ limit → exporting s ≡ and_then (rows_of s) (λ rows. Ok (sheet_text rows))
unfolding exporting
export_is s h = simp (le-ltb limit (length s.now) h)

refused_by : (w : Result (List Row) Refusal) (why : Refusal) → and_then w (λ rows. Ok (length (sheet_text rows))) ≡ Err why → and_then w (λ rows. Ok (sheet_text rows)) ≡ Err why
refused_by (Ok rows) why e = cc
refused_by (Err w) why e = cc

pub export_refused : (s : Bor (List ℕ)) (why : Refusal) → length s.now ≤ limit → and_then (rows_of s) (λ rows. Ok (length (sheet_text rows))) ≡ Err why → exporting s ≡ Err why
export_refused s why h e = export_is s h ∙ refused_by (rows_of s) why e

pub record Exported (s : Bor (List ℕ)) (n : ℕ) : Type 0 where
  pub written : exporting s ≡ Ok (header ++ pieces_text (pieces (symbol_of Present) s))
  pub long : length (header ++ pieces_text (pieces (symbol_of Present) s)) ≡ n

exported_by : (s : Bor (List ℕ)) (n : ℕ) (w : Result (List Row) Refusal) → rows_of s ≡ w → exporting s ≡ and_then w (λ rows. Ok (sheet_text rows)) → and_then w (λ rows. Ok (length (sheet_text rows))) ≡ Ok n → Exported s n
unfolding rows_of sheet_text
exported_by s n (Ok rows) e f g =
    let t = ap (λ (x : List ℕ). header ++ x) (rows_text s.now 0 (pieces (symbol_of Present) s) rows e) in
    let l : length (sheet_text rows) ≡ n = cc in
    record { written = f ∙ ap Ok t; long = ap length (sym t) ∙ l }
exported_by s n (Err why) e f g = cc

pub exported : (s : Bor (List ℕ)) (n : ℕ) → length s.now ≤ limit → and_then (rows_of s) (λ rows. Ok (length (sheet_text rows))) ≡ Ok n → Exported s n
exported s n h e = exported_by s n (rows_of s) refl (export_is s h) e
