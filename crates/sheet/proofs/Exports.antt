-- What exporting writes, or why it refuses, entry by entry.
use Rattle.std.proofs.Common.{ℕ, zero, suc, ◌+◌, ◌-◌, ◌<◌, ◌≤◌, ◌≡◌, refl, sym, ap, subst, ◌∙◌, Bool, true, false, List, [], ◌∷◌, ◌++◌, length, take, drop, arith, Result, Ok, Err, Bor}
use Rattle.std.specs.Prelude.{leb, ltb, eqb, Option, Some, None, codes, if◌then◌else◌}
use Rattle.std.specs.List.{flat_map}
use borrow.Author.Tests.{leb-true, leb-false, le-leb, eqb-true, eqb-false, ltb-true, ltb-false}
use Rattle.le.specs.Le.{le4, part}
use Rattle.part.specs.Slice as slice
use Rattle.part.specs.Outcome.{and_then}
use Rattle.refusal.specs.Refusal.{limit}
use Rattle.refusal.specs.declared.Mode.TheVariants.{Present}
use Rattle.refusal.specs.declared.Refusal.{Refusal}
use Rattle.refusal.specs.declared.Refusal.TheVariants.{ZeroEntryLength}
use Rattle.walk.specs.declared.Piece.{Piece}
use Rattle.walk.specs.Step.{step_at}
use Rattle.walk.specs.Steps.{IsStep, ended, large, short, beyond, below, own}
use Rattle.walk.specs.Pieces.{piece_at, pieces_from, pieces}
use Rattle.walk.proofs.Left.{piece_ends}
use Rattle.walk.proofs.Steps.{steps_meant}
use Rattle.walk.proofs.Theorems.{pieces_tell}
use Rattle.symbol.specs.declared.AdsSymbolInfo.{AdsSymbolInfo}
use Rattle.symbol.specs.Symbol.{symbol_of}
use Rattle.symbol.specs.Kind as kind
use Rattle.sheet.specs.Cells.{Row, row_text, header, sheet_text}
use Rattle.sheet.specs.Export.{row_of, admitted, piece_row, rows_from, rows_of, exporting}
use Rattle.sheet.specs.CellsMeant.{IsRow}
use Rattle.sheet.specs.ExportMeant.{IsAdmitted, Rows, done, zero as stays, refused, barred, row, later, ExportsMeant}
use Rattle.sheet.proofs.Meant.{admitted_meant, row_is}
use Rattle.sheet.proofs.Pieces.{export_large, export_is}

-- the text of rows or their refusal
abbrev rows_text : Result (List Row) Refusal → Result (List ℕ) Refusal
rows_text w = and_then w (λ rows. Ok (flat_map row_text rows))

rows_then : (r : Row) (w : Result (List Row) Refusal) → rows_text (and_then w (λ rows. Ok (r ∷ rows))) ≡ and_then (rows_text w) (λ more. Ok (row_text r ++ more))
rows_then r (Ok rows) = refl
rows_then r (Err why) = refl

module _ (s : Bor (List ℕ)) where
  abbrev read : Bor (List ℕ) → Result AdsSymbolInfo Refusal
  read = symbol_of Present

  -- an accepted entry is its claim's bytes
  record Read (at next : ℕ) (r : AdsSymbolInfo) : Type 0 where
    is : symbol_of Present (slice.part s at (next - at)) ≡ Ok r

  accepted : (at next : ℕ) (answer : Option (Result AdsSymbolInfo Refusal)) → IsStep 30 read s at answer next → (r : AdsSymbolInfo) → answer ≡ Some (Ok r) → Read at next r
  accepted at next a (ended h) r e = cc
  accepted at next a (large h b) r e = cc
  accepted at next a (short h b d) r e = cc
  accepted at next a (beyond h b d g) r e = cc
  accepted at next a (below h b d g i) r e = cc
  accepted at next a (own h b d g i) r e =
      let w : symbol_of Present (slice.part s at (le4 s.now at)) ≡ Ok r = cc in
      let n : at + le4 s.now at - at ≡ le4 s.now at = omega arith in
      record { is = ap (λ (k : ℕ). symbol_of Present (slice.part s at k)) n ∙ w }

  behind : (k at next : ℕ) (r : AdsSymbolInfo) → at < next → IsStep 30 read s at (Some (Ok r)) next → IsAdmitted (part s.now at (next - at)) k (Ok tt) → IsRow (part s.now at (next - at)) (row_text (row_of r))
      → (w : Result (List ℕ) Refusal) → Rows s (k + 1) next w → Rows s k at (and_then w (λ more. Ok (row_text (row_of r) ++ more)))
  behind k at next r h i a t (Ok more) w = row h i a t w
  behind k at next r h i a t (Err why) w = later h i a w

  admitted_then : (k at next : ℕ) (r : AdsSymbolInfo) → at < next → IsStep 30 read s at (Some (Ok r)) next → IsRow (part s.now at (next - at)) (row_text (row_of r))
      → (u : Result Unit Refusal) → IsAdmitted (part s.now at (next - at)) k u → (w : Result (List Row) Refusal) → Rows s (k + 1) next (rows_text w)
      → Rows s k at (rows_text (and_then (and_then u (λ _. Ok (row_of r))) (λ q. and_then w (λ rows. Ok (q ∷ rows)))))
  admitted_then k at next r h i t (Ok tt) a w more = subst (Rows s k at) (sym (rows_then (row_of r) w)) (behind k at next r h i a t (rows_text w) more)
  admitted_then k at next r h i t (Err why) a w more = barred h i a

  answered : (k at next : ℕ) → at < next → (answer : Result AdsSymbolInfo Refusal) → IsStep 30 read s at (Some answer) next → (w : Result (List Row) Refusal) → Rows s (k + 1) next (rows_text w)
      → Rows s k at (rows_text (and_then (and_then answer (λ r. and_then (admitted k (part s.now at (next - at)) r) (λ _. Ok (row_of r)))) (λ q. and_then w (λ rows. Ok (q ∷ rows)))))
  unfolding part
  answered k at next h (Err why) i w more = refused h i
  answered k at next h (Ok r) i w more =
      let a = accepted at next (Some (Ok r)) i r refl in
      admitted_then k at next r h i (row_is (slice.part s at (next - at)) r a.is) (admitted k (part s.now at (next - at)) r) (admitted_meant k (slice.part s at (next - at)) r a.is) w more

  forward : (at next : ℕ) (answer : Option (Result AdsSymbolInfo Refusal)) → IsStep 30 read s at answer next → at ≤ next
  forward at next a (ended h) = omega arith
  forward at next a (large h b) = omega arith
  forward at next a (short h b d) = omega arith
  forward at next a (beyond h b d g) = omega arith
  forward at next a (below h b d g i) = omega arith
  forward at next a (own h b d g i) = omega arith

  -- the piece at a place, by the step there
  told_by : (k at next : ℕ) (answer : Option (Result AdsSymbolInfo Refusal)) (p : Piece AdsSymbolInfo) → at < length s.now → IsStep 30 read s at answer next → p.start ≡ at
      → (at < next → (answer ≡ Some p.answer) × (p.end ≡ next)) → (next ≡ at → p.answer ≡ Err ZeroEntryLength) → (w : Result (List Row) Refusal) → Rows s (k + 1) p.end (rows_text w)
      → Rows s k at (rows_text (and_then (piece_row s.now k p) (λ q. and_then w (λ rows. Ok (q ∷ rows)))))
  unfolding piece_row
  told_by k at next a p h i starts moves stands w more = by (eqb next at) refl
    where
      by : (b : Bool) → eqb next at ≡ b
          → Rows s k at (rows_text (and_then (and_then p.answer (λ r. and_then (admitted k (part s.now p.start (p.end - p.start)) r) (λ _. Ok (row_of r)))) (λ q. and_then w (λ rows. Ok (q ∷ rows)))))
      by true f =
          let same = eqb-true next at f in
          let z = stands same in
          simp z (stays h (subst (λ (n : ℕ). IsStep 30 read s at a n) same i))
      by false f =
          let lt : at < next = omega (arith, forward at next a i, eqb-false next at f) in
          let m = moves lt in
          let q : IsStep 30 read s at (Some p.answer) p.end = subst (λ (n : ℕ). IsStep 30 read s at (Some p.answer) n) (sym m.1) (subst (λ x. IsStep 30 read s at x next) m.0 i) in
          let g = answered k at p.end (omega (arith, lt, m.1)) p.answer q w more in
          subst (λ (x : ℕ). Rows s k at (rows_text (and_then (and_then p.answer (λ r. and_then (admitted k (part s.now x (p.end - x)) r) (λ _. Ok (row_of r)))) (λ q. and_then w (λ rows. Ok (q ∷ rows)))))) (sym starts) g

  piece_told : (k at : ℕ) → at < length s.now → (w : Result (List Row) Refusal) → Rows s (k + 1) (piece_at read s at).end (rows_text w)
      → Rows s k at (rows_text (and_then (piece_row s.now k (piece_at read s at)) (λ q. and_then w (λ rows. Ok (q ∷ rows)))))
  piece_told k at h w more =
      let t = pieces_tell read s at h in
      told_by k at (step_at read s at).cursor.at (step_at read s at).answer (piece_at read s at) h (steps_meant 30 read (kind.short Present) s at) t.begins t.moves (λ f. (t.stays f).0) w more

  pub rows_met : (n k at : ℕ) → length s.now - at ≤ n → Rows s k at (rows_text (rows_from s.now k (pieces_from read s at n)))
  unfolding rows_from pieces_from
  rows_met zero k at h = done (omega arith)
  rows_met (suc n) k at h = by (leb (length s.now) at) refl (λ l. rows_met n (k + 1) (piece_at read s at).end l)
    where
      by : (b : Bool) → leb (length s.now) at ≡ b
          → (length s.now - (piece_at read s at).end ≤ n → Rows s (k + 1) (piece_at read s at).end (rows_text (rows_from s.now (k + 1) (pieces_from read s (piece_at read s at).end n))))
          → Rows s k at (rows_text (rows_from s.now k (if b then [] else piece_at read s at ∷ pieces_from read s (piece_at read s at).end n)))
      by true e more = done (leb-true (length s.now) at e)
      by false e more =
          let l = leb-false (length s.now) at e in
          piece_told k at l _ (more (omega (arith, piece_ends read s at l)))

written_by : (s : Bor (List ℕ)) (text : List ℕ) (w : Result (List Row) Refusal) → and_then w (λ rows. Ok (sheet_text rows)) ≡ Ok text → Rows s 0 0 (rows_text w)
    → (rows : List ℕ) × (text ≡ codes "group,offset,size,type id,flags,high,name,type,comment\r\n" ++ rows) × Rows s 0 0 (Ok rows)
unfolding sheet_text header
written_by s text (Ok rows) e m = let q : sheet_text rows ≡ text = cc in (flat_map row_text rows, sym q, m)
written_by s text (Err why) e m = cc

refusal_by : (s : Bor (List ℕ)) (why : Refusal) (w : Result (List Row) Refusal) → and_then w (λ rows. Ok (sheet_text rows)) ≡ Err why → Rows s 0 0 (rows_text w) → Rows s 0 0 (Err why)
refusal_by s why (Ok rows) e m = cc
refusal_by s why (Err x) e m = let q : x ≡ why = cc in subst (λ y. Rows s 0 0 (Err y)) q m

all_met : (s : Bor (List ℕ)) → Rows s 0 0 (rows_text (rows_of s))
unfolding rows_of
all_met s = rows_met s (length s.now) 0 0 (omega arith)

within : (s : Bor (List ℕ)) (text : List ℕ) → exporting s ≡ Ok text → length s.now ≤ limit
within s text e = by (ltb limit (length s.now)) refl
  where
    by : (b : Bool) → ltb limit (length s.now) ≡ b → length s.now ≤ limit
    by true f = absurd (never (sym (export_large s (ltb-true limit (length s.now) f)) ∙ e))
      where
        never : {why : Refusal} → ◌≡◌ {A = Result (List ℕ) Refusal} (Err why) (Ok text) → ⊥
        never h = cc
    by false f = ltb-false limit (length s.now) f

pub exports_meant : ExportsMeant
exports_meant s = record {
  large = export_large s;
  written = λ text e. written_by s text (rows_of s) (sym (export_is s (within s text e)) ∙ e) (all_met s);
  refusal = λ why h e. refusal_by s why (rows_of s) (sym (export_is s h) ∙ e) (all_met s);
}
