-- The place that 19 tells lies inside an entry: proved.
use Rattle.std.proofs.Common.{ℕ, ◌+◌, ◌-◌, ◌<◌, ◌≤◌, ◌≡◌, refl, sym, ap, ◌∙◌, subst, Bool, true, false, List, [], ◌∷◌, ◌++◌, length, take, arith, Bor, Result, Ok, Err}
use Rattle.std.specs.Prelude.{slice_get, ltb}
use Rattle.std.specs.List.{All}
use Rattle.std.proofs.lemmas.List.{take_all}
use Rattle.std.proofs.lemmas.List.Elements.{All-head, All-rest}
use lib.Seq.{get_or-take}
use borrow.Author.Tests.{ltb-true, ltb-false}
use Rattle.le.specs.Le.{le4}
use Rattle.le.specs.Le as le
use Rattle.le.proofs.Laws.{le4_bytes4}
use Rattle.entry.proofs.Direct.{part_long, own_claim}
use Rattle.refusal.specs.declared.Mode.TheVariants.{Present}
use Rattle.refusal.specs.declared.Refusal.{Refusal}
use Rattle.refusal.specs.declared.Refusal.TheVariants.{NotPlain}
use Rattle.walk.specs.declared.Piece.{Piece}
use Rattle.walk.specs.Pieces.{pieces}
use Rattle.writing.specs.Layout.{entry_bytes}
use Rattle.writing.proofs.Entry.{length_entry}
use Rattle.symbol.specs.declared.AdsSymbolInfo.{AdsSymbolInfo}
use Rattle.symbol.specs.declared.writer.NewSymbol.{NewSymbol}
use Rattle.symbol.specs.Symbol.{symbol_of}
use Rattle.symbol.specs.Writing.{symbol_bytes, symbol_written}
use Rattle.symbol.specs.Again.{new_of}
use Rattle.symbol.proofs.Accepted.{accepted_is}
use Rattle.symbol.proofs.Header.{body_of}
use Rattle.plain.specs.Meaning.{own, Departs, IsPlain, NotSo, refused, unwritten, departs, Told, plain, first, IsInEntry, PlainPlaced}
use Rattle.plain.proofs.Own.{IsKnown, all_known}
use Rattle.plain.proofs.Meaning.{plain_meant}

-- the claim of bytes is that of their first ones
claim_of_first : (s : List ℕ) (k : ℕ) → 4 ≤ k → le4 (take k s) 0 ≡ le4 s 0
unfolding le4
claim_of_first s k h = simp (get_or-take k s 0 0 (omega arith), get_or-take k s 1 0 (omega arith), get_or-take k s 2 0 (omega arith), get_or-take k s 3 0 (omega arith))

-- what is written claims its own length
pub written_claim : (n : NewSymbol) (bytes : List ℕ) → symbol_written n ≡ Ok bytes → le4 bytes 0 ≡ length bytes
unfolding symbol_bytes entry_bytes
written_claim n bytes w =
    let a = accepted_is n bytes w in
    let long : length (entry_bytes (body_of n)) ≡ length (body_of n) + 4 = length_entry (body_of n) in
    let is : bytes ≡ entry_bytes (body_of n) = a.1 in
    let small = a.0.small in
    ap (λ (s : List ℕ). le4 s 0) is ∙ le4_bytes4 (length (body_of n) + 4) (body_of n) (omega (arith, small, long)) ∙ sym long ∙ ap length (sym is)

-- two lists that each claim their own length depart before the first of them ends
departs_within : (e bytes : List ℕ) (at : ℕ) → 4 ≤ length e → le4 e 0 ≡ length e → le4 bytes 0 ≡ length bytes → Departs e bytes at → (t : Bool) → ltb at (length e) ≡ t → at < length e
departs_within e bytes at four a b d true h = ltb-true at (length e) h
departs_within e bytes at four a b d false h =
    let l = ltb-false at (length e) h in
    let is : e ≡ take at bytes = sym (take_all at e l) ∙ d.before in
    let claim : length e ≡ length bytes = sym a ∙ ap (λ (s : List ℕ). le4 s 0) is ∙ claim_of_first bytes at (omega arith) ∙ b in
    let same : e ≡ bytes = is ∙ take_all at bytes (omega (arith, claim)) in
    absurd (d.there (ap (λ (s : List ℕ). slice_get s at) same))

pub among : (P : Piece AdsSymbolInfo → Type 0) (before behind : List (Piece AdsSymbolInfo)) (p : Piece AdsSymbolInfo) → All P (before ++ (p ∷ behind)) → P p
among P [] behind p h = All-head P p behind h
among P (b ∷ before) behind p h = among P before behind p (All-rest P _ _ _ refl h)

module _ (s : Bor (List ℕ)) (place : ℕ) where
  module _ (before behind : List (Piece AdsSymbolInfo)) (p : Piece AdsSymbolInfo) (e : pieces (symbol_of Present) s ≡ before ++ (p ∷ behind)) (all : All (IsPlain s) before) where
    known : IsKnown s p
    known = among (IsKnown s) before behind p (subst (λ (ps : List (Piece AdsSymbolInfo)). All (IsKnown s) ps) e (all_known s (length s.now) 0))

    in_entry : p.start ≤ place → place < p.start + le4 s.now p.start → IsInEntry s place
    in_entry a b = record { before = before; entry = p; behind = behind; among = e; plain_before = all; from = a; inside = b }

    by : {why : Refusal} → NotSo s p why → why ≡ NotPlain place → IsInEntry s place
    unfolding le.part
    by (refused {why} h) z = absurd (known.never place (h ∙ ap Err z))
    by (unwritten r why h w) z =
        let is : p.start ≡ place = cc in
        let o = known.own r h in
        in_entry (omega arith) (omega (arith, o.claims, o.room))
    by (departs r bytes at h w d) z =
        let is : p.start + at ≡ place = cc in
        let o = known.own r h in
        let size : p.end - p.start ≡ le4 s.now p.start = omega (arith, o.claims) in
        let long : length (own s p).now ≡ p.end - p.start = part_long s p.start (p.end - p.start) (omega (arith, o.room, o.within)) in
        let claim : le4 (own s p).now 0 ≡ le4 s.now p.start = own_claim s.now p.start (p.end - p.start) (omega (arith, o.room)) in
        let within = departs_within (own s p).now bytes at (omega (arith, long, o.room)) (claim ∙ sym size ∙ sym long) (written_claim (new_of r) bytes w) d (ltb at (length (own s p).now)) refl in
        in_entry (omega arith) (omega (arith, within, long, size))

  told_by : {t : Result Unit Refusal} → Told s t → t ≡ Err (NotPlain place) → IsInEntry s place
  told_by (plain end all) z = cc
  told_by (first before behind p {why} e all not) z = let is : why ≡ NotPlain place = cc in by before behind p e all not is

pub plain_placed : PlainPlaced
plain_placed s place h = told_by s place (plain_meant s) h
