-- What is told of an upload is its refusal, and true of the first entry that is not plain: proved.
use Rattle.std.proofs.Common.{ℕ, ◌+◌, ◌-◌, ◌<◌, ◌≡◌, refl, sym, ap, ◌∙◌, List, [], ◌∷◌, ◌++◌, length, drop, get_or, arith, Bor, Result, Ok, Err}
use Rattle.std.specs.Prelude.{Option, Some, None}
use Rattle.std.specs.List.{All}
use Rattle.std.proofs.lemmas.List.Elements.{All-nil, All-cons, All-head, All-tail, All-take, All-drop}
use Rattle.le.specs.Le.{le4}
use Rattle.le.specs.Le as le
use Rattle.entry.proofs.Direct.{part_long, own_claim}
use Rattle.part.specs.Outcome.{outcome}
use Rattle.refusal.specs.declared.Mode.TheVariants.{Present}
use Rattle.refusal.specs.declared.Refusal.{Refusal}
use Rattle.refusal.specs.declared.Refusal.TheVariants.{NotPlain}
use Rattle.walk.specs.declared.Piece.{Piece}
use Rattle.walk.specs.Pieces.{pieces}
use Rattle.symbol.specs.declared.AdsSymbolInfo.{AdsSymbolInfo}
use Rattle.symbol.specs.Symbol.{symbol_of}
use Rattle.symbol.specs.Writing.{symbol_written}
use Rattle.symbol.specs.Again.{new_of}
use Rattle.plain.specs.Plain.{departing, piece_plain, pieces_plain, plain_of}
use Rattle.plain.specs.Meaning.{own, IsPlain, Departs, Departing, nowhere, at_start, at_place}
use Rattle.plain.specs.Form.{HoldsBytes}
use Rattle.plain.proofs.Own.{IsOwn, IsKnown, all_known}
use Rattle.plain.proofs.Meaning.{departing_meant}
use Rattle.plain_report.specs.declared.Departure.{Departure}
use Rattle.plain_report.specs.declared.Fault.TheVariants.{Unread, Unwritten, Byte}
use Rattle.plain_report.specs.Departure.{part_at, fault_at, departure, first_of, departure_of}
use Rattle.plain_report.specs.Parts.{StandsAt}
use Rattle.plain_report.proofs.Parts.{named}
use Rattle.plain_report.specs.Meaning.{Tells, DepartureRefused, Wrong, unread, unwritten, another, First, none, first, DepartureMeant}

-- ---- the refusal

module _ (s : List ℕ) where
  module _ (p : Piece AdsSymbolInfo) (ps : List (Piece AdsSymbolInfo)) (more : Tells (pieces_plain s ps) (first_of s ps)) where
    abbrev e : List ℕ
    e = le.part s p.start (p.end - p.start)

    by_read : (r : AdsSymbolInfo) → p.answer ≡ Ok r → (t : Result Unit ℕ) → departing e r ≡ t → Tells (pieces_plain s (p ∷ ps)) (first_of s (p ∷ ps))
    unfolding pieces_plain piece_plain first_of
    by_read r a (Ok u) h = simp (a, h) more
    by_read r a (Err place) h = simp (a, h) refl

    tells_turn : (t : Result AdsSymbolInfo Refusal) → p.answer ≡ t → Tells (pieces_plain s (p ∷ ps)) (first_of s (p ∷ ps))
    unfolding pieces_plain piece_plain first_of
    tells_turn (Ok r) a = by_read r a (departing e r) refl
    tells_turn (Err why) a = simp a refl

  tells_from : (ps : List (Piece AdsSymbolInfo)) → Tells (pieces_plain s ps) (first_of s ps)
  unfolding pieces_plain first_of
  tells_from [] = refl
  tells_from (p ∷ ps) = tells_turn p ps (tells_from ps) p.answer refl

pub departure_refused : DepartureRefused
unfolding plain_of departure_of
departure_refused s = tells_from s.now (pieces (symbol_of Present) s)

-- ---- the entry

module _ (s : Bor (List ℕ)) where
  -- of a list of pieces
  data FirstOf (ps : List (Piece AdsSymbolInfo)) : Option Departure → Type 0 where
    none_of : All (IsPlain s) ps → FirstOf ps None
    one_of : (before behind : List (Piece AdsSymbolInfo)) (p : Piece AdsSymbolInfo) (d : Departure) → ps ≡ before ++ (p ∷ behind) → All (IsPlain s) before → Wrong s p d → FirstOf ps (Some d)

  fault_is : (p : Piece AdsSymbolInfo) (r : AdsSymbolInfo) (bytes : List ℕ) (at : ℕ) → symbol_written (new_of r) ≡ Ok bytes → fault_at r (own s p).now at ≡ Byte r.name at (part_at r at) (get_or (own s p).now at 0) (get_or bytes at 0)
  unfolding fault_at
  fault_is p r bytes at w = simp w

  refused_is : (p : Piece AdsSymbolInfo) (r : AdsSymbolInfo) (why : Refusal) (at : ℕ) → symbol_written (new_of r) ≡ Err why → fault_at r (own s p).now at ≡ Unwritten r.name why
  unfolding fault_at
  refused_is p r why at w = simp w

  on : (p : Piece AdsSymbolInfo) (ps : List (Piece AdsSymbolInfo)) {t : Option Departure} → IsPlain s p → FirstOf ps t → FirstOf (p ∷ ps) t
  on p ps q (none_of all) = none_of (All-cons (IsPlain s) p ps q all)
  on p ps q (one_of before behind x d e all wrong) = one_of (p ∷ before) behind x d (ap (λ (l : List (Piece AdsSymbolInfo)). p ∷ l) e) (All-cons (IsPlain s) p before q all) wrong

  here : (p : Piece AdsSymbolInfo) (ps : List (Piece AdsSymbolInfo)) (d : Departure) → Wrong s p d → FirstOf (p ∷ ps) (Some d)
  here p ps d wrong = one_of [] ps p d refl (All-nil (IsPlain s)) wrong

  -- the part that is named stands in the piece's own bytes
  stands : HoldsBytes s → (p : Piece AdsSymbolInfo) (r : AdsSymbolInfo) (bytes : List ℕ) (at : ℕ) → IsOwn s p r → symbol_written (new_of r) ≡ Ok bytes → Departs (own s p).now bytes at → StandsAt (own s p) at (part_at r at)
  unfolding le.part
  stands b p r bytes at o w d =
      let size : p.end - p.start ≡ le4 s.now p.start = omega (arith, o.claims) in
      let long : length (own s p).now ≡ p.end - p.start = part_long s p.start (p.end - p.start) (omega (arith, o.room, o.within)) in
      let claim : le4 (own s p).now 0 ≡ le4 s.now p.start = own_claim s.now p.start (p.end - p.start) (omega (arith, o.room)) in
      let holds : HoldsBytes (own s p) = All-take (λ b. b < 256) (p.end - p.start) (drop p.start s.now) (All-drop (λ b. b < 256) p.start s.now b) in
      named (own s p) r bytes at holds (claim ∙ sym size ∙ sym long) o.read w d

  read_is : HoldsBytes s → (p : Piece AdsSymbolInfo) (ps : List (Piece AdsSymbolInfo)) (r : AdsSymbolInfo) → IsOwn s p r → p.answer ≡ Ok r → {t : Result Unit ℕ} → Departing (own s p).now r t → FirstOf ps (first_of s.now ps)
      → FirstOf (p ∷ ps) (outcome t (λ _. first_of s.now ps) (λ place. Some (departure p.start r (own s p).now place)))
  read_is b p ps r o h (nowhere w) more = on p ps (record { read = r; is = h; written = w }) more
  read_is b p ps r o h (at_start why w) more =
      let start : p.start ≡ p.start + 0 = omega arith in
      let place : NotPlain p.start ≡ NotPlain (p.start + 0) = ap NotPlain start in
      here p ps _ (rw (refused_is p r why 0 w, ← place) (unwritten r why h w))
  read_is b p ps r o h (at_place bytes at w d) more = here p ps _ (rw (fault_is p r bytes at w) (another r bytes at (part_at r at) h w d (stands b p r bytes at o w d)))

  piece_is : HoldsBytes s → (p : Piece AdsSymbolInfo) (ps : List (Piece AdsSymbolInfo)) → IsKnown s p → (t : Result AdsSymbolInfo Refusal) → p.answer ≡ t → FirstOf ps (first_of s.now ps)
      → FirstOf (p ∷ ps) (outcome t
      (λ r. outcome (departing (le.part s.now p.start (p.end - p.start)) r) (λ _. first_of s.now ps) (λ place. Some (departure p.start r (le.part s.now p.start (p.end - p.start)) place)))
      (λ why. Some (record { start = p.start; why = why; fault = Unread })))
  unfolding le.part
  piece_is b p ps k (Ok r) h more = read_is b p ps r (k.own r h) h (departing_meant (own s p).now r) more
  piece_is b p ps k (Err why) h more = here p ps _ (unread why h)

  first_from : HoldsBytes s → (ps : List (Piece AdsSymbolInfo)) → All (IsKnown s) ps → FirstOf ps (first_of s.now ps)
  unfolding first_of
  first_from b [] k = none_of (All-nil (IsPlain s))
  first_from b (p ∷ ps) k = piece_is b p ps (All-head (IsKnown s) p ps k) p.answer refl (first_from b ps (All-tail (IsKnown s) p ps k))

  first_is : {t : Option Departure} → FirstOf (pieces (symbol_of Present) s) t → First s t
  first_is (none_of all) = none all
  first_is (one_of before behind p d e all wrong) = first before behind p d e all wrong

pub departure_meant : DepartureMeant
unfolding departure_of
departure_meant s b = first_is s (first_from s b (pieces (symbol_of Present) s) (all_known s (length s.now) 0))
