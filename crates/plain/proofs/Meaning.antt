-- Which uploads are plain, and how the others are refused: proved.
use Rattle.std.proofs.Common.{ℕ, suc, ◌+◌, ◌-◌, ◌<◌, ◌≤◌, ◌≡◌, refl, sym, ap, ◌∙◌, subst, Bool, true, false, List, [], ◌∷◌, ◌++◌, length, take, drop, get_or, arith, Bor, Result, Ok, Err, length-take}
use Rattle.std.specs.Prelude.{Option, Some, None, eqb, ltb, slice_get, if◌then◌else◌}
use Rattle.std.specs.List.{All}
use Rattle.std.proofs.lemmas.List.Elements.{All-nil, All-cons}
use Rattle.std.proofs.lemmas.List.{drop_all, take_all}
use Rattle.std.proofs.lemmas.Option.{slice_get_past, slice_get-get_or}
use borrow.Author.Tests.{eqb-true, eqb-false, ltb-true, ltb-false}
use Rattle.part.specs.Outcome.{outcome, and_then}
use Rattle.refusal.specs.declared.Mode.TheVariants.{Present}
use Rattle.refusal.specs.declared.Refusal.{Refusal}
use Rattle.refusal.specs.declared.Refusal.TheVariants.{NotPlain}
use Rattle.walk.specs.declared.Piece.{Piece}
use Rattle.walk.specs.Pieces.{pieces}
use Rattle.le.specs.Le as le
use Rattle.symbol.specs.declared.AdsSymbolInfo.{AdsSymbolInfo}
use Rattle.symbol.specs.Symbol.{symbol_of}
use Rattle.symbol.specs.Writing.{symbol_written}
use Rattle.symbol.specs.Again.{new_of}
use Rattle.plain.proofs.Bytes.{byte_then}
use Rattle.plain.proofs.Own.{finishes}
use Rattle.plain.specs.Plain.{stands, along, at_end, departing, placed, piece_plain, pieces_plain, plain_of}
use Rattle.plain.specs.Meaning.{Departs, Departing, nowhere, at_start, at_place, DepartingMeant, own, IsPlain, NotSo, refused, unwritten, departs, Told, plain, first, PlainMeant}

-- what is found of bytes from a place of an entry on, by the lists
data Along (e bs : List ℕ) (at : ℕ) : Result ℕ ℕ → Type 0 where
  stand : (next : ℕ) → next ≡ at + length bs → take (length bs) (drop at e) ≡ bs → Along e bs at (Ok next)
  apart : (place k : ℕ) → place ≡ at + k → take k (drop at e) ≡ take k bs → (slice_get (drop at e) k ≡ slice_get bs k → ⊥) → Along e bs at (Err place)

stands_there : (e : List ℕ) (at b : ℕ) → stands e at b ≡ true → drop at e ≡ b ∷ drop (suc at) e
stands_there e at b h = by (ltb at (length e)) refl h
  where
    by : (t : Bool) → ltb at (length e) ≡ t → (if t then eqb (get_or e at 0) b else false) ≡ true → drop at e ≡ b ∷ drop (suc at) e
    by true l q = byte_then e at (ltb-true at (length e) l) ∙ ap (λ (x : ℕ). x ∷ drop (suc at) e) (eqb-true (get_or e at 0) b q)
    by false l q = cc

not_there : (e : List ℕ) (at b : ℕ) → stands e at b ≡ false → slice_get (drop at e) 0 ≡ Some b → ⊥
not_there e at b h = by (ltb at (length e)) refl h
  where
    by : (t : Bool) → ltb at (length e) ≡ t → (if t then eqb (get_or e at 0) b else false) ≡ false → slice_get (drop at e) 0 ≡ Some b → ⊥
    by true l q z =
        let x : Some (get_or e at 0) ≡ Some b = sym (ap (λ (d : List ℕ). slice_get d 0) (byte_then e at (ltb-true at (length e) l))) ∙ z in
        let same : get_or e at 0 ≡ b = cc in
        eqb-false (get_or e at 0) b q same
    by false l q z =
        let x : ◌≡◌ {A = Option ℕ} None (Some b) = sym (ap (λ (d : List ℕ). slice_get d 0) (drop_all at e (ltb-false at (length e) l))) ∙ z in
        cc

along_next : (e more : List ℕ) (at b : ℕ) (w : Result ℕ ℕ) → drop at e ≡ b ∷ drop (suc at) e → Along e more (at + 1) w → Along e (b ∷ more) at w
along_next e more at b w d (stand next l h) =
    let same : suc at ≡ at + 1 = omega arith in
    stand next (omega arith) (ap (take (suc (length more))) d ∙ ap (λ (k : ℕ). b ∷ take (length more) (drop k e)) same ∙ ap (λ (x : List ℕ). b ∷ x) h)
along_next e more at b w d (apart place k l h not) =
    let same : suc at ≡ at + 1 = omega arith in
    let behind : drop at e ≡ b ∷ drop (at + 1) e = d ∙ ap (λ (k : ℕ). b ∷ drop k e) same in
    apart place (suc k) (omega arith) (ap (take (suc k)) behind ∙ ap (λ (x : List ℕ). b ∷ x) h) (λ z. not (sym (ap (λ (x : List ℕ). slice_get x (suc k)) behind) ∙ z))

along_is : (e bs : List ℕ) (at : ℕ) → Along e bs at (along e at bs)
unfolding along
along_is e [] at = stand at (omega arith) refl
along_is e (b ∷ more) at = by (stands e at b) refl (along_is e more (at + 1))
  where
    by : (t : Bool) → stands e at b ≡ t → Along e more (at + 1) (along e (at + 1) more) → Along e (b ∷ more) at (if t then along e (at + 1) more else Err at)
    by true h next = along_next e more at b _ (stands_there e at b h) next
    by false h next = apart at 0 (omega arith) refl (not_there e at b h)

-- the whole
data Compared (e bytes : List ℕ) : Result Unit ℕ → Type 0 where
  same : e ≡ bytes → Compared e bytes (Ok tt)
  apart_at : (place : ℕ) → Departs e bytes place → Compared e bytes (Err place)

at_end_is : (e bytes : List ℕ) (next : ℕ) → next ≡ length bytes → take (length bytes) e ≡ bytes → (t : Bool) → eqb next (length e) ≡ t → Compared e bytes (if t then Ok tt else Err next)
at_end_is e bytes next l h true q =
    let n : length bytes ≡ length e = omega (arith, eqb-true next (length e) q) in
    same (sym (take_all (length e) e (omega arith)) ∙ ap (λ (k : ℕ). take k e) (sym n) ∙ h)
at_end_is e bytes next l h false q =
    let n = eqb-false next (length e) q in
    let few : length bytes ≤ length e = within e bytes h in
    let more : next < length e = omega (arith, n) in
    apart_at next (record {
      before = ap (λ (k : ℕ). take k e) l ∙ h ∙ sym (take_all next bytes (omega arith));
      there = λ z. let x : ◌≡◌ {A = Option ℕ} (Some (get_or e next 0)) None = sym (slice_get-get_or e next 0 more) ∙ z ∙ slice_get_past bytes next (omega arith) in cc;
    })
  where
    within : (e bytes : List ℕ) → take (length bytes) e ≡ bytes → length bytes ≤ length e
    within e bytes h = let l = ap length h in omega (arith, l, length-take (length bytes) e)

compared_is : (e bytes : List ℕ) → Compared e bytes (and_then (along e 0 bytes) (at_end e))
compared_is e bytes = by (along e 0 bytes) (along_is e bytes 0)
  where
    by : (w : Result ℕ ℕ) → Along e bytes 0 w → Compared e bytes (and_then w (at_end e))
    by (Ok next) (stand n l h) = at_end_is e bytes next (omega arith) h (eqb next (length e)) refl
    by (Err place) (apart p k l h not) = let here : k ≡ place = omega arith in apart_at place (subst (λ (k : ℕ). Departs e bytes k) here (record { before = h; there = not }))

-- an entry that was read
departing_by : (e : List ℕ) (r : AdsSymbolInfo) (w : Result (List ℕ) Refusal) → symbol_written (new_of r) ≡ w → Departing e r (outcome w (λ bytes. and_then (along e 0 bytes) (at_end e)) (λ why. Err 0))
departing_by e r (Ok bytes) w = by (compared_is e bytes)
  where
    by : {t : Result Unit ℕ} → Compared e bytes t → Departing e r t
    by (same q) = nowhere (w ∙ ap Ok (sym q))
    by (apart_at place d) = at_place bytes place w d
departing_by e r (Err why) w = at_start why w

pub departing_meant : DepartingMeant
unfolding departing
departing_meant e r = departing_by e r (symbol_written (new_of r)) refl

module _ (s : Bor (List ℕ)) where
  data Piecewise (p : Piece AdsSymbolInfo) : Result Unit Refusal → Type 0 where
    is_plain : IsPlain s p → Piecewise p (Ok tt)
    not_plain : {why : Refusal} → NotSo s p why → Piecewise p (Err why)

  read_is : (p : Piece AdsSymbolInfo) (r : AdsSymbolInfo) → p.answer ≡ Ok r → {t : Result Unit ℕ} → Departing (own s p).now r t → Piecewise p (placed p.start t)
  read_is p r h (nowhere w) = is_plain (record { read = r; is = h; written = w })
  read_is p r h (at_start why w) = let start : p.start ≡ p.start + 0 = omega arith in subst (λ (k : ℕ). Piecewise p (Err (NotPlain k))) start (not_plain (unwritten r why h w))
  read_is p r h (at_place bytes at w d) = not_plain (departs r bytes at h w d)

  piece_is : (p : Piece AdsSymbolInfo) (t : Result AdsSymbolInfo Refusal) → p.answer ≡ t → Piecewise p (and_then t (λ r. placed p.start (departing (le.part s.now p.start (p.end - p.start)) r)))
  unfolding le.part
  piece_is p (Ok r) h = read_is p r h (departing_meant (own s p).now r)
  piece_is p (Err why) h = not_plain (refused h)

  data From (ps : List (Piece AdsSymbolInfo)) : Result Unit Refusal → Type 0 where
    plain_from : All (IsPlain s) ps → From ps (Ok tt)
    first_from : (before behind : List (Piece AdsSymbolInfo)) (p : Piece AdsSymbolInfo) {why : Refusal} → ps ≡ before ++ (p ∷ behind) → All (IsPlain s) before → NotSo s p why → From ps (Err why)

  from_is : (ps : List (Piece AdsSymbolInfo)) → From ps (pieces_plain s.now ps)
  unfolding pieces_plain piece_plain
  from_is [] = plain_from (All-nil (IsPlain s))
  from_is (p ∷ ps) = by (piece_is p p.answer refl) (from_is ps)
    where
      on : {t : Result Unit Refusal} → IsPlain s p → From ps t → From (p ∷ ps) t
      on q (plain_from all) = plain_from (All-cons (IsPlain s) p ps q all)
      on q (first_from before behind x e all not) = first_from (p ∷ before) behind x (ap (λ (l : List (Piece AdsSymbolInfo)). p ∷ l) e) (All-cons (IsPlain s) p before q all) not

      by : {t : Result Unit Refusal} → Piecewise p t → From ps (pieces_plain s.now ps) → From (p ∷ ps) (and_then t (λ _. pieces_plain s.now ps))
      by (is_plain q) more = on q more
      by (not_plain not) more = first_from [] ps p refl (All-nil (IsPlain s)) not

  told_is : {t : Result Unit Refusal} → From (pieces (symbol_of Present) s) t → Told s t
  told_is (plain_from all) = plain (finishes s all) all
  told_is (first_from before behind p e all not) = first before behind p e all not

pub plain_meant : PlainMeant
unfolding plain_of
plain_meant s = told_is s (from_is s (pieces (symbol_of Present) s))
