-- A sheet's text has a fault or none, and its strings fit or one does not.
use Rattle.std.proofs.Common.{ℕ, ◌≡◌, ◌⊎◌, inl, inr, ⊎_elim, refl, sym, ap, subst, ◌∙◌, List, [], ◌∷◌, ◌++◌, append-nil, length, take, drop, length-append, arith}
use lib.Seq.{drop-append_seam, take-append_seam}
use Rattle.std.specs.Prelude.{Option, Some, None, Ok}
use Rattle.std.specs.Borrow.{Bor}
use Rattle.text.specs.Faults.{IsNoUtf8, HasNoByte, IsFirstFault}
use Rattle.text.specs.Text.{decoded}
use Rattle.text.proofs.Theory.{Fault, Split, parted, within_of}
use Rattle.text.proofs.Utf8.{le_or_lt}
use Rattle.sheet.specs.CellsMeant.{Doubled}
use Rattle.sheet.proofs.Meant.{doubled_is}
use Rattle.sheet_rows.specs.declared.cells.Cells.{Cells}
use Rattle.sheet_rows.specs.Cells.{cells_of}
use Rattle.sheet_rows.specs.Rows.{Line, lines_of}
use Rattle.sheet_import.specs.Strings.{IsText, AreStrings}
use Rattle.sheet_import.specs.ImportMeant.{Strings, Fit, IsLong, name, type_name, comment, AllFit, none, row, FirstLong, here, behind}
use Rattle.sheet_import.proofs.CellTexts.{row_texts}
use Rattle.sheet_import.proofs.Sizes.{Rest, turn, no_more}
use Rattle.sheet_import.proofs.Ready.{header_cells, below}

-- ---- the text
pub text_or_fault : (t : List ℕ) → IsText t ⊎ ((place : ℕ) × (kind : ℕ) × IsFirstFault t place kind)
text_or_fault t = ⊎_elim good bad u.end
  where
    u : Split t
    u = (parted t).split

    front : List ℕ
    front = decoded u.bytes

    good : u.rest ≡ [] → IsText t ⊎ ((place : ℕ) × (kind : ℕ) × IsFirstFault t place kind)
    good h = inl (record { bytes = u.bytes; are = u.are; is = u.is ∙ ap (λ (l : List ℕ). front ++ l) h ∙ append-nil front })

    bad : (kind : ℕ) × Fault u.rest kind → IsText t ⊎ ((place : ℕ) × (kind : ℕ) × IsFirstFault t place kind)
    bad f =
        let rest : drop (length front) t ≡ u.rest = ap (drop (length front)) u.is ∙ drop-append_seam front u.rest in
        let start : take (length front) t ≡ front = ap (take (length front)) u.is ∙ take-append_seam front u.rest in
        let w = within_of u.bytes u.are in
        inr (
          length front,
          f.0,
          record {
            inside = omega (arith, ap length u.is, length-append front u.rest, f.1.some);
            before = (w.0, w.1, start ∙ w.2);
            here = subst (λ (l : List ℕ). ((f.0 ≡ 1) × IsNoUtf8 l) ⊎ ((f.0 ≡ 2) × HasNoByte l)) (sym rest) f.1.here;
          },
        )

-- ---- the strings of a row
strings_of : (c : Cells) → AreStrings c.strings → Strings c
strings_of c s = record {
  name = s.name.string;
  type_name = s.type_name.string;
  comment = s.comment.string;
  name_bytes = s.name.are;
  type_bytes = s.type_name.are;
  comment_bytes = s.comment.are;
  name_text = subst (Doubled s.name.string) (sym s.name.is) (doubled_is s.name.string);
  type_text = subst (Doubled s.type_name.string) (sym s.type_name.is) (doubled_is s.type_name.string);
  comment_text = subst (Doubled s.comment.string) (sym s.comment.is) (doubled_is s.comment.string);
}

fit_or_long : (c : Cells) → Strings c → Fit c ⊎ ((n : ℕ) × IsLong c n)
fit_or_long c s = ⊎_elim
    (λ h. ⊎_elim
    (λ k. ⊎_elim
    (λ l. inl (record { strings = s; name = h; type_name = k; comment = l }))
    (λ l. inr (length s.comment, comment s h k l)) (le_or_lt (length s.comment) 65535))
    (λ k. inr (length s.type_name, type_name s h k)) (le_or_lt (length s.type_name) 65535))
    (λ h. inr (length s.name, name s h)) (le_or_lt (length s.name) 65535)

-- ---- those of all rows
next : {left : Bor (List ℕ)} (l : Line) (more : List Line) → Rest left (l ∷ more) → AreStrings l.cells.strings × Rest l.cells.strings.rest more
next {left} l more r = by (cells_of left) refl
  where
    by : (o : Option Cells) → cells_of left ≡ o → AreStrings l.cells.strings × Rest l.cells.strings.rest more
    by (Some c) e =
        let t = turn c r e in
        let is = t.is in
        let head : c ≡ l.cells = cc in
        let tail : t.more ≡ more = cc in
        (subst (λ (k : Cells). AreStrings k.strings) head t.strings, subst (λ (k : Cells). Rest k.strings.rest more) head (subst (Rest c.strings.rest) tail t.rest))
    by None e = let f = no_more r e in cc

abbrev Halves : List Line → Type 0
Halves lines = AllFit lines ⊎ ((n : ℕ) × FirstLong lines n)

halves_then : (l : Line) (more : List Line) → Fit l.cells ⊎ ((n : ℕ) × IsLong l.cells n) → Halves more → Halves (l ∷ more)
halves_then l more first rest = ⊎_elim
    (λ f. ⊎_elim (λ a. inl (row f a)) (λ b. inr (b.0, behind f b.1)) rest)
    (λ g. inr (g.0, here g.1)) first

halves : {left : Bor (List ℕ)} (lines : List Line) → Rest left lines → Halves lines
halves [] r = inl none
halves (l ∷ more) r = let n = next l more r in halves_then l more (fit_or_long l.cells (strings_of l.cells n.0)) (halves more n.1)

-- the rows of a sheet without a fault
pub sheet_halves : (s : Bor (List ℕ)) (lines : List Line) → lines_of s ≡ Ok lines → IsText s.now → Halves lines
sheet_halves s lines h x =
    let b = below s lines h in
    let c = header_cells s b.rest b.header in
    let t : IsText b.rest.now = subst (λ (r : Bor (List ℕ)). IsText r.now) c.2 (row_texts s c.0 c.1 x).rest in
    let r : Rest b.rest lines = record { fuel = length b.rest.now; row = 2; enough = omega arith; are = b.are; text = t } in
    halves lines r
