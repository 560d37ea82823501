-- What importing writes, or why it refuses, check after check.
use Rattle.std.proofs.Common.{ℕ, ◌+◌, ◌-◌, ◌*◌, ◌<◌, ◌≤◌, ◌≡◌, ⊎_elim, refl, sym, ap, subst, ◌∙◌, Bool, true, false, List, [], ◌++◌, length, append-nil, arith}
use Rattle.std.specs.Prelude.{ltb, Option, Some, None, Result, Ok, Err, if◌then◌else◌}
use Rattle.std.specs.Option.{ok_or}
use Rattle.std.specs.Borrow.{Bor}
use borrow.Author.Tests.{ltb-true, ltb-false, le-ltb}
use Rattle.part.specs.Outcome.{and_then}
use Rattle.refusal.specs.Refusal.{limit}
use Rattle.refusal.specs.declared.Refusal.{Refusal}
use Rattle.refusal.specs.declared.Refusal.TheVariants.{TooLarge, OutputTooSmall, BadText, BadSheet}
use Rattle.le.specs.Put.{put}
use Rattle.le.proofs.Laws.{wrote}
use Rattle.writing.specs.Checks.{size_checked, room_checked}
use Rattle.writing.specs.Writing.{Writes}
use Rattle.writing.proofs.Laws.{refuses, too_small, done}
use Rattle.text.specs.Text.{decoded, encoded_from, counted}
use Rattle.text.proofs.Back.{prefixed}
use Rattle.text.proofs.Theory.{Fault, Split, Parted, parted, encoded_fault}
use Rattle.sheet_rows.specs.declared.cells.Cells.{Cells}
use Rattle.sheet_rows.specs.declared.Rows.{Rows}
use Rattle.sheet_rows.specs.declared.extent.Extent.{Extent}
use Rattle.sheet_rows.specs.Extent.{extent_of}
use Rattle.sheet_rows.specs.Cells.{if_some, cells_of}
use Rattle.sheet_rows.specs.Rows.{Line, is_header, behind_header, lines_from, lines_of}
use Rattle.sheet_import.specs.Strings.{IsText}
use Rattle.sheet_import.specs.Import.{or_none, lines_in, AreRows, lines_checked, upload_of, told, size_of, importing}
use Rattle.sheet_import.proofs.CellTexts.{row_texts}
use Rattle.sheet_import.proofs.Followers.{counted_long}
use Rattle.sheet_import.proofs.Bulk.{weighed}

-- ---- a text that has no fault
pub text_is : (t bytes : List ℕ) → encoded_from 0 t ≡ Ok bytes → IsText t
text_is t bytes e = ⊎_elim none some u.end
  where
    p : Parted t
    p = parted t

    u : Split t
    u = p.split

    none : u.rest ≡ [] → IsText t
    none h = record { bytes = u.bytes; are = u.are; is = u.is ∙ ap (λ (l : List ℕ). decoded u.bytes ++ l) h ∙ append-nil (decoded u.bytes) }

    some : (kind : ℕ) × Fault u.rest kind → IsText t
    some f =
        let v : Err (BadText (length (decoded u.bytes)) f.0) ≡ Ok bytes =
        ap (prefixed u.bytes) (sym (encoded_fault (length (decoded u.bytes)) u.rest f.0 f.1)) ∙ sym p.written ∙ e in
        cc

pub text_bytes : (t : List ℕ) (n : ℕ) → counted 0 (encoded_from 0 t) ≡ Ok n → (bytes : List ℕ) × (encoded_from 0 t ≡ Ok bytes)
text_bytes t n h = by (encoded_from 0 t) refl h
  where
    by : (w : Result (List ℕ) Refusal) → encoded_from 0 t ≡ w → counted 0 w ≡ Ok n → (bytes : List ℕ) × (encoded_from 0 t ≡ Ok bytes)
    by (Ok bytes) e g = (bytes, e)
    by (Err why) e g = cc

text_refused : (t : List ℕ) (why : Refusal) → counted 0 (encoded_from 0 t) ≡ Err why → encoded_from 0 t ≡ Err why
text_refused t why h = by (encoded_from 0 t) refl h
  where
    by : (w : Result (List ℕ) Refusal) → encoded_from 0 t ≡ w → counted 0 w ≡ Err why → encoded_from 0 t ≡ Err why
    by (Ok bytes) e g = cc
    by (Err other) e g = e ∙ cc

-- ---- rows that have none
abbrev pub extent_in : Result (List Line) Refusal → Result Extent Refusal
extent_in w = and_then w (λ lines. Ok (extent_of lines))

extent_ok : (w : Result (List Line) Refusal) (e : Extent) → extent_in w ≡ Ok e → (lines : List Line) × (w ≡ Ok lines) × (extent_of lines ≡ e)
extent_ok (Ok lines) e h = (lines, refl, cc)
extent_ok (Err why) e h = cc

extent_bad : (w : Result (List Line) Refusal) (why : Refusal) → extent_in w ≡ Err why → w ≡ Err why
extent_bad (Ok lines) why h = cc
extent_bad (Err other) why h = cc

-- what stands behind the header begins with no row but it
pub header_cells : (s rest : Bor (List ℕ)) → behind_header s ≡ Ok rest → (c : Cells) × (cells_of s ≡ Some c) × (c.strings.rest ≡ rest)
unfolding behind_header
header_cells s rest h = by (cells_of s) refl h
  where
    inner : (c : Cells) (b : Bool) → cells_of s ≡ Some c → ok_or (if b then Some c.strings.rest else None) (BadSheet 1 0) ≡ Ok rest → (c : Cells) × (cells_of s ≡ Some c) × (c.strings.rest ≡ rest)
    inner c true e g = (c, e, cc)
    inner c false e g = cc

    by : (o : Option Cells) → cells_of s ≡ o → ok_or (if_some o (λ c. if is_header c then Some c.strings.rest else None)) (BadSheet 1 0) ≡ Ok rest → (c : Cells) × (cells_of s ≡ Some c) × (c.strings.rest ≡ rest)
    by (Some c) e g = inner c (is_header c) e g
    by None e g = cc

pub record Below (s : Bor (List ℕ)) (lines : List Line) : Type 0 where
  pub rest : Bor (List ℕ)
  pub header : behind_header s ≡ Ok rest
  pub are : lines_from (length rest.now) 2 rest ≡ Ok lines

pub below : (s : Bor (List ℕ)) (lines : List Line) → lines_of s ≡ Ok lines → Below s lines
unfolding lines_of
below s lines h = by (behind_header s) refl h
  where
    by : (w : Result (Bor (List ℕ)) Refusal) → behind_header s ≡ w → and_then w (λ rest. lines_from (length rest.now) 2 rest) ≡ Ok lines → Below s lines
    by (Ok rest) e g = record { rest = rest; header = e; are = g }
    by (Err why) e g = cc

lines_in_is : (s : Bor (List ℕ)) (lines : List Line) → lines_from (length s.now) 2 s ≡ Ok lines → lines_in s ≡ lines
unfolding lines_in
lines_in_is s lines h = ap or_none h

-- ---- after the look at rows and text
pub record Ready (s rest : Bor (List ℕ)) (e : Extent) (n : ℕ) : Type 0 where
  pub rows : AreRows rest
  pub is : importing s ≡ and_then (size_of (lines_in rest)) (λ size. and_then (size_checked size) (λ _. Ok (upload_of (lines_in rest))))
  pub within : n ≤ length s.now
  pub few : length s.now - n ≤ e.bytes
  pub long : length (upload_of (lines_in rest)) ≡ 33 * e.rows + (e.bytes - (length s.now - n))
  pub short : e.longest ≤ 65535 → lines_checked (lines_in rest) ≡ Ok tt

pub importing_on : (s : Bor (List ℕ)) (lines : List Line) (bytes : List ℕ) → lines_of s ≡ Ok lines → encoded_from 0 s.now ≡ Ok bytes
    → importing s ≡ and_then (size_of lines) (λ size. and_then (size_checked size) (λ _. Ok (upload_of lines)))
unfolding importing
importing_on s lines bytes h e =
    ap (λ (w : Result (List Line) Refusal). and_then w (λ lines. and_then (encoded_from 0 s.now) (λ _. and_then (size_of lines) (λ size. and_then (size_checked size) (λ _. Ok (upload_of lines)))))) h
    ∙ ap (λ (w : Result (List ℕ) Refusal). and_then w (λ _. and_then (size_of lines) (λ size. and_then (size_checked size) (λ _. Ok (upload_of lines))))) e

pub bad_rows : (s : Bor (List ℕ)) (why : Refusal) → extent_in (lines_of s) ≡ Err why → importing s ≡ Err why
unfolding importing
bad_rows s why h =
    ap (λ (w : Result (List Line) Refusal). and_then w (λ lines. and_then (encoded_from 0 s.now) (λ _. and_then (size_of lines) (λ size. and_then (size_checked size) (λ _. Ok (upload_of lines)))))) (extent_bad (lines_of s) why h)

pub bad_text : (s : Bor (List ℕ)) (why : Refusal) (e : Extent) → extent_in (lines_of s) ≡ Ok e → counted 0 (encoded_from 0 s.now) ≡ Err why → importing s ≡ Err why
unfolding importing
bad_text s why e h k =
    let l = extent_ok (lines_of s) e h in
    ap (λ (w : Result (List Line) Refusal). and_then w (λ lines. and_then (encoded_from 0 s.now) (λ _. and_then (size_of lines) (λ size. and_then (size_checked size) (λ _. Ok (upload_of lines)))))) l.1
    ∙ ap (λ (w : Result (List ℕ) Refusal). and_then w (λ _. and_then (size_of l.0) (λ size. and_then (size_checked size) (λ _. Ok (upload_of l.0))))) (text_refused s.now why k)

pub ready : (s rest : Bor (List ℕ)) (e : Extent) (n : ℕ) → extent_in (lines_of s) ≡ Ok e → counted 0 (encoded_from 0 s.now) ≡ Ok n → behind_header s ≡ Ok rest → Ready s rest e n
ready s rest e n h k b =
    let l = extent_ok (lines_of s) e h in
    let t = text_bytes s.now n k in
    let p = below s l.0 l.1 in
    let same : p.rest ≡ rest = let f = sym p.header ∙ b in cc in
    let are : lines_from (length rest.now) 2 rest ≡ Ok l.0 = ap (λ (r : Bor (List ℕ)). lines_from (length r.now) 2 r) (sym same) ∙ p.are in
    let own = lines_in_is rest l.0 are in
    let c = header_cells s rest b in
    let text = text_is s.now t.0 t.1 in
    let w = weighed s l.0 n l.1 text k in
    let rows : (extent_of l.0).rows ≡ e.rows = ap (λ (x : Extent). x.rows) l.2 in
    let bytes : (extent_of l.0).bytes ≡ e.bytes = ap (λ (x : Extent). x.bytes) l.2 in
    let longest : (extent_of l.0).longest ≡ e.longest = ap (λ (x : Extent). x.longest) l.2 in
    record {
      rows = record { rows = are ∙ ap (λ (x : List Line). Ok x) (sym own); text = subst (λ (r : Bor (List ℕ)). IsText r.now) c.2 (row_texts s c.0 c.1 text).rest };
      is = importing_on s l.0 t.0 l.1 t.1 ∙ ap (λ (x : List Line). and_then (size_of x) (λ size. and_then (size_checked size) (λ _. Ok (upload_of x)))) (sym own);
      within = omega (arith, counted_long s.now n text k);
      few = omega (arith, w.few, bytes);
      long = omega (arith, ap (λ (x : List Line). length (upload_of x)) own, w.long, rows, bytes);
      short = λ f. ap lines_checked own ∙ w.short (omega (arith, longest, f));
    }

pub header_there : (s : Bor (List ℕ)) (why : Refusal) (e : Extent) → extent_in (lines_of s) ≡ Ok e → behind_header s ≡ Err why → ⊥
header_there s why e h b =
    let l = extent_ok (lines_of s) e h in
    let p = below s l.0 l.1 in
    let f = sym p.header ∙ b in
    cc

-- ---- how long the upload is
pub too_long : {s rest : Bor (List ℕ)} {e : Extent} {n : ℕ} (why : Refusal) → Ready s rest e n → lines_checked (lines_in rest) ≡ Err why → importing s ≡ Err why
unfolding size_of
too_long {s} {rest} why r h =
    r.is ∙ ap (λ (w : Result Unit Refusal). and_then (and_then w (λ _. Ok (told (length (upload_of (lines_in rest)))))) (λ size. and_then (size_checked size) (λ _. Ok (upload_of (lines_in rest))))) h

-- what is worked out is how long it is
pub size_is : {s rest : Bor (List ℕ)} {e : Extent} {n size : ℕ} → Ready s rest e n → lines_checked (lines_in rest) ≡ Ok tt → size ≡ told (33 * e.rows + (e.bytes - (length s.now - n)))
    → size_of (lines_in rest) ≡ Ok size
unfolding size_of
size_is {s} {rest} {e} {n} {size} r h g =
    ap (λ (w : Result Unit Refusal). and_then w (λ _. Ok (told (length (upload_of (lines_in rest)))))) h
    ∙ ap (λ (k : ℕ). Ok (told k)) r.long ∙ ap (λ (k : ℕ). Ok k) (sym g)

sized_then : {s rest : Bor (List ℕ)} {e : Extent} {m n : ℕ} → Ready s rest e m → size_of (lines_in rest) ≡ Ok n → importing s ≡ and_then (size_checked n) (λ _. Ok (upload_of (lines_in rest)))
sized_then {s} {rest} {e} {m} {n} r h = r.is ∙ ap (λ (w : Result ℕ Refusal). and_then w (λ size. and_then (size_checked size) (λ _. Ok (upload_of (lines_in rest))))) h

record Sized (lines : List Line) (n : ℕ) : Type 0 where
  short : lines_checked lines ≡ Ok tt
  long : n ≡ told (length (upload_of lines))

sizes_are : (lines : List Line) (n : ℕ) → size_of lines ≡ Ok n → Sized lines n
unfolding size_of
sizes_are lines n h = by (lines_checked lines) refl h
  where
    by : (w : Result Unit Refusal) → lines_checked lines ≡ w → and_then w (λ _. Ok (told (length (upload_of lines)))) ≡ Ok n → Sized lines n
    by (Ok u) e g = record { short = e; long = cc }
    by (Err why) e g = cc

pub no_room : {s rest : Bor (List ℕ)} {x : Extent} {m : ℕ} {old : List ℕ} {n : ℕ} (why : Refusal) → Ready s rest x m → size_of (lines_in rest) ≡ Ok n → room_checked n (length old) ≡ Err why → Writes (importing s) old old (Err why)
unfolding room_checked
no_room {s} {rest} {x} {m} {old} {n} why r h k = by (ltb limit n) (ltb (length old) n) refl refl k
  where
    lines : List Line
    lines = lines_in rest

    small : n ≤ limit → length old < n → Writes (importing s) old old (Err (OutputTooSmall n (length old)))
    small f g =
        let z = sizes_are lines n h in
        too_small (sized_then r h ∙ ap (λ (b : Bool). and_then (if b then Err (TooLarge n) else Ok tt) (λ _. Ok (upload_of lines))) (le-ltb limit n f)) (omega (arith, z.long, f)) g

    by : (a b : Bool) → ltb limit n ≡ a → ltb (length old) n ≡ b
        → and_then (if a then Err (TooLarge n) else Ok (tt {0})) (λ _. if b then Err (OutputTooSmall n (length old)) else Ok (tt {0})) ≡ Err why → Writes (importing s) old old (Err why)
    by true b e f g = refuses (sized_then r h ∙ ap (λ (b : Bool). and_then (if b then Err (TooLarge n) else Ok tt) (λ _. Ok (upload_of lines))) e ∙ cc)
    by false true e f g =
        let same : OutputTooSmall n (length old) ≡ why = cc in
        subst (λ (w : Refusal). Writes (importing s) old old (Err w)) same (small (ltb-false limit n e) (ltb-true (length old) n f))
    by false false e f g = cc

-- the buffer has room
pub record Roomy (lines : List Line) (n lent : ℕ) : Type 0 where
  pub short : lines_checked lines ≡ Ok tt
  pub long : length (upload_of lines) ≡ n
  pub room : n ≤ lent
  pub within : n ≤ limit

pub roomy : (lines : List Line) (n lent : ℕ) → size_of lines ≡ Ok n → room_checked n lent ≡ Ok tt → Roomy lines n lent
unfolding room_checked
roomy lines n lent h k = by (ltb limit n) (ltb lent n) refl refl k
  where
    by : (a b : Bool) → ltb limit n ≡ a → ltb lent n ≡ b → and_then (if a then Err (TooLarge n) else Ok (tt {0})) (λ _. if b then Err (OutputTooSmall n lent) else Ok (tt {0})) ≡ Ok (tt {0}) → Roomy lines n lent
    by true b e f g = cc
    by false true e f g = cc
    by false false e f g =
        let z = sizes_are lines n h in
        let few = ltb-false limit n e in
        record { short = z.short; long = omega (arith, z.long, few); room = ltb-false lent n f; within = few }

pub written : {s rest : Bor (List ℕ)} {x : Extent} {m : ℕ} {old new : List ℕ} {n : ℕ} → Ready s rest x m → size_of (lines_in rest) ≡ Ok n → Roomy (lines_in rest) n (length old) → new ≡ put old 0 (upload_of (lines_in rest))
    → Writes (importing s) old new (Ok n)
written {s} {rest} {x} {m} {old} {new} {n} r h z e =
    done (sized_then r h ∙ ap (λ (b : Bool). and_then (if b then Err (TooLarge n) else Ok tt) (λ _. Ok (upload_of (lines_in rest)))) (le-ltb limit n z.within))
    (wrote e (omega (arith, z.long)) (omega (arith, z.long, z.room)))

-- ---- the header that was read again
abbrev pub as_rows : Result (Bor (List ℕ)) Refusal → Result Rows Refusal
as_rows w = and_then w (λ bytes. Ok (record { bytes = bytes }))

pub header_is : (w : Result (Bor (List ℕ)) Refusal) (r : Rows) → as_rows w ≡ Ok r → w ≡ Ok r.bytes
header_is (Ok b) r h = let same : record { bytes = b } ≡ r = cc in ap (λ (x : Rows). Ok x.bytes) same
header_is (Err why) r h = cc

pub header_bad : (w : Result (Bor (List ℕ)) Refusal) (why : Refusal) → as_rows w ≡ Err why → w ≡ Err why
header_bad (Ok b) why h = cc
header_bad (Err other) why h = cc
