-- What stays of an upload s where t differs from it inside the entries at some places: proved.
use Rattle.std.proofs.Common.{ℕ, ◌-◌, ◌<◌, ◌≤◌, ◌≡◌, inl, inr, refl, sym, ap, subst, ◌∙◌, Bool, true, false, List, map, filter, filter_map, length, drop, arith, Bor, Option, Some, None, Result, Ok, Err, is_ok, option_map, if◌then◌else◌}
use Rattle.std.specs.Prelude.{ltb, eqb}
use Rattle.std.specs.List.{list_any}
use Rattle.std.proofs.lemmas.List.{length-take}
use Rattle.std.proofs.Common.{length-drop, min}
use borrow.Author.Tests.{lt-ltb, ltb-true, ltb-false}
use native.Mathlib.Nat.{add-zero}
use Rattle.le.specs.Le.{le4}
use Rattle.le.specs.Le as le
use Rattle.le.proofs.Laws.{not_both, part_part}
use Rattle.part.specs.Slice.{part}
use Rattle.part.specs.Outcome.{and_then}
use Rattle.refusal.specs.Refusal.{limit, figures_of}
use Rattle.refusal.specs.declared.Refusal.{Refusal}
use Rattle.refusal.specs.declared.Refusal.TheVariants.{TooLarge, ZeroEntryLength}
use Rattle.entry.specs.declared.Claimed.{Claimed}
use Rattle.entry.specs.Entry.{claim_at, claim_of}
use Rattle.entry.specs.DirectClaims.{IsClaimed, large as too_large, short as too_short, beyond as leads_beyond, below as too_low, whole}
use Rattle.entry.proofs.DirectClaims.{direct_claims}
use Rattle.entry.proofs.Direct.{own_claim}
use Rattle.entry.specs.Walk.{stands, steps}
use Rattle.entry.specs.Alike.{among, Reached, DiffersInside, IsWalkedAlike}
use Rattle.entry.proofs.Claims.{meets}
use Rattle.entry.proofs.Alike.{walked_alike, any_alike}
use Rattle.walk.specs.Mapped.{map_ok}
use Rattle.walk.specs.declared.Piece.{Piece}
use Rattle.walk.specs.Step.{parse_of, step_at}
use Rattle.walk.specs.Pieces.{piece_at, pieces, claim_there}
use Rattle.walk.proofs.Left.{piece_starts}
use Rattle.walk.proofs.Theorems.{pieces_are}
use Rattle.index.specs.Index.{starts, stopped, indexing}
use Rattle.index.specs.Steps.{is_record, gives, BySteps}
use Rattle.damage.specs.Others.{others}
use Rattle.damage.specs.Stays.{PiecesStay, IndexStays}
use Rattle.damage.specs.Salvaged.{Kept, Run, kept_of, run_of, kept_entries, dropped_runs, SalvageStays}
use Rattle.damage.proofs.Lists.{others_map, others_some, others_filter, map_alike, map-map, filter_map-map}

-- what a piece brings begins where the piece does
start_or : ℕ → Option Kept → ℕ
start_or other None = other
start_or other (Some k) = k.start

run_start_or : ℕ → Option Run → ℕ
run_start_or other None = other
run_start_or other (Some r) = r.start

module _ {R : Type 0} where
  kept_begins : (a : List ℕ) (start end : ℕ) (x : Result R Refusal) (k : Kept) → kept_of a start end x ≡ Some k → k.start ≡ start
  unfolding start_or
  kept_begins a start end (Ok r) k h = sym (ap (start_or start) h)
  kept_begins a start end (Err why) k h = sym (ap (start_or start) h)

  run_begins : (start end : ℕ) (x : Result R Refusal) (k : Run) → run_of start end x ≡ Some k → k.start ≡ start
  unfolding run_start_or
  run_begins start end (Ok r) k h = sym (ap (run_start_or start) h)
  run_begins start end (Err why) k h = sym (ap (run_start_or start) h)

-- by what is told of answers
module _ {R S : Type 0} (told : R → S) where
  told_ok : (x : Result R Refusal) → is_ok (map_ok told x) ≡ is_ok x
  told_ok (Ok r) = refl
  told_ok (Err why) = refl

  told_record : (x : Option (Result R Refusal)) → is_record (option_map (map_ok told) x) ≡ is_record x
  told_record None = refl
  told_record (Some (Ok r)) = refl
  told_record (Some (Err why)) = refl

  kept_alike : (a b : List ℕ) (start end : ℕ) (x y : Result R Refusal) → (is_ok x ≡ true → le.part a start (end - start) ≡ le.part b start (end - start)) → map_ok told x ≡ map_ok told y → kept_of a start end x ≡ kept_of b start end y
  kept_alike a b start end (Ok r) (Ok q) h e = ap (λ (bytes : List ℕ). Some (record { start = start; bytes = bytes })) (h refl)
  kept_alike a b start end (Err why) (Err other) h e = refl
  kept_alike a b start end (Ok r) (Err why) h e = absurd (let z : ◌≡◌ {A = ℕ} 0 1 = cc in omega arith)
  kept_alike a b start end (Err why) (Ok r) h e = absurd (let z : ◌≡◌ {A = ℕ} 0 1 = cc in omega arith)

  run_alike : (start end : ℕ) (x y : Result R Refusal) → map_ok told x ≡ map_ok told y → run_of start end x ≡ run_of start end y
  run_alike start end (Ok r) (Ok q) e = refl
  run_alike start end (Err why) (Err other) e = let is : why ≡ other = cc in ap (λ (w : Refusal). Some (record { start = start; long = end - start; number = (figures_of w).number })) is
  run_alike start end (Ok r) (Err why) e = absurd (let z : ◌≡◌ {A = ℕ} 0 1 = cc in omega arith)
  run_alike start end (Err why) (Ok r) e = absurd (let z : ◌≡◌ {A = ℕ} 0 1 = cc in omega arith)

-- what a direct parse takes for an entry is what is claimed, a header at least, and there
record IsTaken (header size : ℕ) (l : List ℕ) : Type 0 where
  claim : size ≡ le4 l 0
  long : header ≤ size
  there : size ≤ length l

taken_by : (header size : ℕ) (l : List ℕ) (c : Result ℕ Refusal) → IsClaimed header l c → c ≡ Ok size → IsTaken header size l
taken_by header size l c (too_large a) h = absurd (let z : ◌≡◌ {A = ℕ} 0 1 = cc in omega arith)
taken_by header size l c (too_short a b) h = absurd (let z : ◌≡◌ {A = ℕ} 0 1 = cc in omega arith)
taken_by header size l c (leads_beyond a b d) h = absurd (let z : ◌≡◌ {A = ℕ} 0 1 = cc in omega arith)
taken_by header size l c (too_low a b d g) h = absurd (let z : ◌≡◌ {A = ℕ} 0 1 = cc in omega arith)
taken_by header size l c (whole a b d g) h = let is : size ≡ le4 l 0 = cc in record { claim = is; long = omega (arith, is, g); there = omega (arith, is, d) }

-- bytes of one length are claimed alike, where they begin with the same number, and where they are too few
claims_by : (header : ℕ) (k l : List ℕ) → length k ≡ length l → le4 k 0 ≡ le4 l 0 → claim_of header k ≡ claim_of header l
unfolding claim_of
claims_by header k l h e = simp (h, e)

claims_short : (header : ℕ) (k l : List ℕ) → length k ≡ length l → length l < header → claim_of header k ≡ claim_of header l
unfolding claim_of
claims_short header k l h few = simp (h, lt-ltb (length l) header few)

module _ {R S : Type 0} (read : Bor (List ℕ) → Result R Refusal) (told : R → S) (s t : Bor (List ℕ)) (places : List ℕ) (d : DiffersInside s.now t.now places)
    (alike : (at size : ℕ) → (part s at size).now ≡ (part t at size).now → map_ok told (read (part s at size)) ≡ map_ok told (read (part t at size))) where
  abbrev w : IsWalkedAlike s.now t.now places
  w = walked_alike s.now t.now places d

  pub own : (at size : ℕ) → Reached s.now at → among places at ≡ false → (claim_at s.now at).size ≡ Some (Ok size) → (part s at size).now ≡ (part t at size).now
  unfolding le.part
  own at size (inl h) off c = w.own at size h off c
  own at size (inr h) off c = absurd (omega (arith, h, (meets s.now at size c).four))

  -- a direct parse of bytes from an entry's start on
  parse_claim : (at n : ℕ) (c : Result ℕ Refusal) → ((size : ℕ) → c ≡ Ok size → map_ok told (read (part (part s at n) 0 size)) ≡ map_ok told (read (part (part t at n) 0 size)))
      → map_ok told (and_then c (λ size. read (part (part s at n) 0 size))) ≡ map_ok told (and_then c (λ size. read (part (part t at n) 0 size)))
  parse_claim at n (Err why) h = refl
  parse_claim at n (Ok size) h = h size refl

  as_long : (at n : ℕ) (u : Bor (List ℕ)) → length (part u at n).now ≡ min n (length u.now - at)
  as_long at n u = length-take n (drop at u.now) ∙ ap (λ (k : ℕ). min n k) (length-drop at u.now)

  begins_with : (at size n : ℕ) (u : Bor (List ℕ)) → (claim_at u.now at).size ≡ Some (Ok size) → 4 ≤ n → le4 (part u at n).now 0 ≡ size
  unfolding le.part
  begins_with at size n u c enough = own_claim u.now at n enough ∙ (meets u.now at size c).claim

  inside : (at size n : ℕ) (u : Bor (List ℕ)) → size ≤ n → (part (part u at n) 0 size).now ≡ (part u at size).now
  unfolding le.part
  inside at size n u h = part_part u.now at n 0 size (omega (arith, h)) ∙ ap (λ (k : ℕ). le.part u.now k size) (add-zero at)

  module _ (header : ℕ) (four : 4 < header) (at size n : ℕ) (r : among (steps s.now) at ≡ true) (off : among places at ≡ false) (c : (claim_at s.now at).size ≡ Some (Ok size)) where
    other_claim : (claim_at t.now at).size ≡ Some (Ok size)
    other_claim = ap (λ (x : Claimed). x.size) (sym (w.claim at (inl r))) ∙ c

    as_long_both : length (part s at n).now ≡ length (part t at n).now
    as_long_both = as_long at n s ∙ ap (λ (k : ℕ). min n (k - at)) d.long ∙ sym (as_long at n t)

    claimed_by : (few : Bool) → ltb n 4 ≡ few → claim_of header (part s at n).now ≡ claim_of header (part t at n).now
    claimed_by true e = claims_short header (part s at n).now (part t at n).now as_long_both (omega (arith, as_long at n t, ltb-true n 4 e, four))
    claimed_by false e =
        let room : 4 ≤ n = ltb-false n 4 e in
        claims_by header (part s at n).now (part t at n).now as_long_both (begins_with at size n s c room ∙ sym (begins_with at size n t other_claim room))

    pub parse_alike : ((k : ℕ) → (part (part s at n) 0 k).now ≡ (part (part t at n) 0 k).now → map_ok told (read (part (part s at n) 0 k)) ≡ map_ok told (read (part (part t at n) 0 k)))
        → map_ok told (parse_of header read (part s at n)) ≡ map_ok told (parse_of header read (part t at n))
    parse_alike same =
        parse_claim at n (claim_of header (part s at n).now) (λ k e.
        let x = taken_by header k (part s at n).now (claim_of header (part s at n).now) (direct_claims header (part s at n).now) e in
        let room : 4 ≤ n = omega (arith, x.long, x.there, as_long at n s, four) in
        let is : size ≡ k = sym (x.claim ∙ begins_with at size n s c room) in
        let enough : size ≤ n = omega (arith, is, x.there, as_long at n s) in
        let bytes : (part (part s at n) 0 size).now ≡ (part (part t at n) 0 size).now = inside at size n s enough ∙ own at size (inl r) off c ∙ sym (inside at size n t enough) in
        same k (subst (λ (i : ℕ). (part (part s at n) 0 i).now ≡ (part (part t at n) 0 i).now) is bytes))
        ∙ ap (λ (x : Result ℕ Refusal). map_ok told (and_then x (λ k. read (part (part t at n) 0 k)))) (claimed_by (ltb n 4) refl)

  -- steps
  by_claim : (at : ℕ) (c : Option (Result ℕ Refusal)) → ((size : ℕ) → c ≡ Some (Ok size) → (part s at size).now ≡ (part t at size).now)
      → option_map (map_ok told) (option_map (λ claim. and_then claim (λ size. read (part s at size))) c) ≡ option_map (map_ok told) (option_map (λ claim. and_then claim (λ size. read (part t at size))) c)
  by_claim at None h = refl
  by_claim at (Some (Err why)) h = refl
  by_claim at (Some (Ok size)) h = ap Some (alike at size (h size refl))

  pub answer_alike : (at : ℕ) → Reached s.now at → among places at ≡ false → option_map (map_ok told) (step_at read s at).answer ≡ option_map (map_ok told) (step_at read t at).answer
  unfolding step_at
  answer_alike at r off =
      by_claim at (claim_at s.now at).size (λ size. own at size r off)
      ∙ ap (λ (c : Claimed). option_map (map_ok told) (option_map (λ claim. and_then claim (λ size. read (part t at size))) c.size)) (w.claim at r)

  pub cursor_alike : (at : ℕ) → Reached s.now at → (step_at read s at).cursor ≡ (step_at read t at).cursor
  unfolding step_at
  cursor_alike at r = ap (λ (c : Claimed). record { at = c.next }) (w.claim at r)

  -- pieces
  stands_both : (at : ℕ) → Reached s.now at → stands s.now at ≡ stands t.now at
  stands_both at r = ap (λ (c : Claimed). eqb c.next at) (w.claim at r)

  end_by : (at : ℕ) (b : Bool) → Reached s.now at → stands s.now at ≡ b → stands t.now at ≡ b → (piece_at read s at).end ≡ (piece_at read t at).end
  unfolding piece_at
  end_by at true r e f = simp (e, f) d.long
  end_by at false r e f = simp (e, f) (ap (λ (c : Claimed). c.next) (w.claim at r))

  pub end_alike : (at : ℕ) → Reached s.now at → (piece_at read s at).end ≡ (piece_at read t at).end
  end_alike at r = end_by at (stands s.now at) r refl (sym (stands_both at r))

  piece_claim : (at : ℕ) (c : Option (Result ℕ Refusal)) → ((size : ℕ) → c ≡ Some (Ok size) → (part s at size).now ≡ (part t at size).now)
      → map_ok told (and_then (claim_there c) (λ size. read (part s at size))) ≡ map_ok told (and_then (claim_there c) (λ size. read (part t at size)))
  piece_claim at None h = refl
  piece_claim at (Some (Err why)) h = refl
  piece_claim at (Some (Ok size)) h = alike at size (h size refl)

  piece_by : (at : ℕ) (b : Bool) → Reached s.now at → among places at ≡ false → stands s.now at ≡ b → stands t.now at ≡ b → map_ok told (piece_at read s at).answer ≡ map_ok told (piece_at read t at).answer
  unfolding piece_at
  piece_by at true r off e f = simp (e, f)
  piece_by at false r off e f =
      simp (e, f) (
      piece_claim at (claim_at s.now at).size (λ size. own at size r off)
      ∙ ap (λ (c : Claimed). map_ok told (and_then (claim_there c.size) (λ size. read (part t at size)))) (w.claim at r))

  pub piece_alike : (at : ℕ) → Reached s.now at → among places at ≡ false → map_ok told (piece_at read s at).answer ≡ map_ok told (piece_at read t at).answer
  piece_alike at r off = piece_by at (stands s.now at) r off refl (sym (stands_both at r))

  begins_both : (at : ℕ) → (piece_at read s at).start ≡ (piece_at read t at).start
  begins_both at = piece_starts read s at ∙ sym (piece_starts read t at)

  pieces_t : pieces read t ≡ map (piece_at read t) (steps s.now)
  pieces_t = pieces_are read t ∙ ap (λ (l : List ℕ). map (piece_at read t) l) (sym w.begin)

  -- a list that is made piece by piece is one that is made place by place
  by_place : {X : Type 0} (f : Piece R → X) → ((at : ℕ) → Reached s.now at → f (piece_at read s at) ≡ f (piece_at read t at)) → map f (pieces read s) ≡ map f (pieces read t)
  by_place f h =
      ap (λ l. map f l) (pieces_are read s) ∙ map-map f (piece_at read s) (steps s.now)
      ∙ map_alike (λ x. f (piece_at read s x)) (λ x. f (piece_at read t x)) (steps s.now) (λ x k. h x (inl k))
      ∙ sym (map-map f (piece_at read t) (steps s.now)) ∙ ap (λ l. map f l) (sym pieces_t)

  pub pieces_stay : {X : Type 0} (tells : Piece R → X) → ((at : ℕ) → Reached s.now at → among places at ≡ false → tells (piece_at read s at) ≡ tells (piece_at read t at)) → PiecesStay (pieces read) tells s t places
  pieces_stay tells h =
      record {
        starts = by_place (λ p. p.start) (λ at r. begins_both at);
        ends = by_place (λ p. p.end) end_alike;
        other = ap (λ l. map tells (others (λ p. p.start) places l)) (pieces_are read s)
            ∙ others_map places (λ p. p.start) tells (piece_at read s) (piece_at read t) (piece_starts read s) (piece_starts read t) (steps s.now) (λ x k off. h x (inl k) off)
            ∙ ap (λ l. map tells (others (λ p. p.start) places l)) (sym pieces_t);
      }

  -- what a salvage keeps and drops
  kept_at : Bor (List ℕ) → ℕ → Option Kept
  kept_at u x = kept_of u.now (piece_at read u x).start (piece_at read u x).end (piece_at read u x).answer

  run_at : Bor (List ℕ) → ℕ → Option Run
  run_at u x = run_of (piece_at read u x).start (piece_at read u x).end (piece_at read u x).answer

  -- the bytes of a piece that is accepted
  bytes_claim : (at : ℕ) → Reached s.now at → among places at ≡ false → (c : Option (Result ℕ Refusal)) → (claim_at s.now at).size ≡ c
      → is_ok (and_then (claim_there c) (λ size. read (part s at size))) ≡ true → le.part s.now at ((claim_at s.now at).next - at) ≡ le.part t.now at ((claim_at s.now at).next - at)
  unfolding le.part
  bytes_claim at r off None e k = absurd (not_both k refl)
  bytes_claim at r off (Some (Err why)) e k = absurd (not_both k refl)
  bytes_claim at r off (Some (Ok size)) e k =
      let n : (claim_at s.now at).next - at ≡ size = omega (arith, (meets s.now at size e).next) in
      rw n (own at size r off e)

  bytes_by : (at : ℕ) (b : Bool) → Reached s.now at → among places at ≡ false → stands s.now at ≡ b → is_ok (piece_at read s at).answer ≡ true
      → le.part s.now (piece_at read s at).start ((piece_at read s at).end - (piece_at read s at).start) ≡ le.part t.now (piece_at read s at).start ((piece_at read s at).end - (piece_at read s at).start)
  unfolding piece_at
  bytes_by at true r off e k = absurd (not_both (simp e at k) refl)
  bytes_by at false r off e k = simp e (bytes_claim at r off (claim_at s.now at).size refl (simp e at k))

  kept_same : (at : ℕ) → Reached s.now at → among places at ≡ false → kept_at s at ≡ kept_at t at
  unfolding kept_at
  kept_same at r off =
      kept_alike told s.now t.now (piece_at read s at).start (piece_at read s at).end (piece_at read s at).answer (piece_at read t at).answer (bytes_by at (stands s.now at) r off refl) (piece_alike at r off)
      ∙ rw (begins_both at, end_alike at r) refl

  run_same : (at : ℕ) → Reached s.now at → among places at ≡ false → run_at s at ≡ run_at t at
  unfolding run_at
  run_same at r off =
      run_alike told (piece_at read s at).start (piece_at read s at).end (piece_at read s at).answer (piece_at read t at).answer (piece_alike at r off)
      ∙ rw (begins_both at, end_alike at r) refl

  pub salvage_stays : SalvageStays (kept_entries read) (dropped_runs read) s t places
  unfolding kept_at run_at
  salvage_stays =
      record {
        entries = ap (λ l. others (λ e. e.start) places (filter_map (λ p. kept_of s.now p.start p.end p.answer) l)) (pieces_are read s)
            ∙ ap (λ l. others (λ e. e.start) places l) (filter_map-map (λ p. kept_of s.now p.start p.end p.answer) (piece_at read s) (steps s.now))
            ∙ others_some places (λ e. e.start) (kept_at s) (kept_at t)
            (λ x y h. kept_begins s.now (piece_at read s x).start (piece_at read s x).end (piece_at read s x).answer y h ∙ piece_starts read s x)
            (λ x y h. kept_begins t.now (piece_at read t x).start (piece_at read t x).end (piece_at read t x).answer y h ∙ piece_starts read t x)
            (steps s.now) (λ x k off. kept_same x (inl k) off)
            ∙ ap (λ l. others (λ e. e.start) places l) (sym (filter_map-map (λ p. kept_of t.now p.start p.end p.answer) (piece_at read t) (steps s.now)))
            ∙ ap (λ l. others (λ e. e.start) places (filter_map (λ p. kept_of t.now p.start p.end p.answer) l)) (sym pieces_t);
        runs = ap (λ l. others (λ r. r.start) places (filter_map (λ p. run_of p.start p.end p.answer) l)) (pieces_are read s)
            ∙ ap (λ l. others (λ r. r.start) places l) (filter_map-map (λ p. run_of p.start p.end p.answer) (piece_at read s) (steps s.now))
            ∙ others_some places (λ r. r.start) (run_at s) (run_at t)
            (λ x y h. run_begins (piece_at read s x).start (piece_at read s x).end (piece_at read s x).answer y h ∙ piece_starts read s x)
            (λ x y h. run_begins (piece_at read t x).start (piece_at read t x).end (piece_at read t x).answer y h ∙ piece_starts read t x)
            (steps s.now) (λ x k off. run_same x (inl k) off)
            ∙ ap (λ l. others (λ r. r.start) places l) (sym (filter_map-map (λ p. run_of p.start p.end p.answer) (piece_at read t) (steps s.now)))
            ∙ ap (λ l. others (λ r. r.start) places (filter_map (λ p. run_of p.start p.end p.answer) l)) (sym pieces_t);
      }

  -- the index
  module _ (by_steps : BySteps read) where
    stopped_both : stopped (pieces read s) ≡ stopped (pieces read t)
    stopped_both =
        by_steps.stopped_is s ∙ any_alike s.now t.now d.long (stands s.now) (stands t.now) (steps s.now) (λ x k. stands_both x (inl k))
        ∙ ap (λ (l : List ℕ). list_any (stands t.now) l) w.begin ∙ sym (by_steps.stopped_is t)

    gives_both : (at : ℕ) → Reached s.now at → among places at ≡ false → gives read s at ≡ gives read t at
    gives_both at r off = sym (told_record told (step_at read s at).answer) ∙ ap is_record (answer_alike at r off) ∙ told_record told (step_at read t at).answer

    starts_both : others (λ x. x) places (starts (pieces read s)) ≡ others (λ x. x) places (starts (pieces read t))
    starts_both =
        ap (λ (l : List ℕ). others (λ x. x) places l) (by_steps.starts_are s)
        ∙ others_filter places (gives read s) (gives read t) (steps s.now) (λ x k off. gives_both x (inl k) off)
        ∙ ap (λ (l : List ℕ). others (λ x. x) places (filter (gives read t) l)) w.begin
        ∙ ap (λ (l : List ℕ). others (λ x. x) places l) (sym (by_steps.starts_are t))

    index_t : indexing read t ≡ (if ltb limit (length s.now) then Err (TooLarge (length s.now)) else if stopped (pieces read s) then Err ZeroEntryLength else Ok (starts (pieces read t)))
    unfolding indexing
    index_t =
        ap (λ (b : Bool). if ltb limit (length t.now) then Err (TooLarge (length t.now)) else if b then Err ZeroEntryLength else Ok (starts (pieces read t))) (sym stopped_both)
        ∙ ap (λ (n : ℕ). if ltb limit n then Err (TooLarge n) else if stopped (pieces read s) then Err ZeroEntryLength else Ok (starts (pieces read t))) (sym d.long)

    refused_by : (b c : Bool) (why large : Refusal) (xs ys : List ℕ) → (if b then Err large else if c then Err ZeroEntryLength else Ok xs) ≡ Err why → (if b then Err large else if c then Err ZeroEntryLength else Ok ys) ≡ Err why
    refused_by true c why large xs ys h = cc
    refused_by false true why large xs ys h = cc
    refused_by false false why large xs ys h = absurd (let z : ◌≡◌ {A = ℕ} 0 1 = cc in omega arith)

    built_by : (b c : Bool) (large : Refusal) (zs xs ys : List ℕ) → (if b then Err large else if c then Err ZeroEntryLength else Ok xs) ≡ Ok zs → ((if b then Err large else if c then Err ZeroEntryLength else Ok ys) ≡ Ok ys) × (xs ≡ zs)
    built_by true c large zs xs ys h = absurd (let z : ◌≡◌ {A = ℕ} 0 1 = cc in omega arith)
    built_by false true large zs xs ys h = absurd (let z : ◌≡◌ {A = ℕ} 0 1 = cc in omega arith)
    built_by false false large zs xs ys h = (refl, cc)

    pub index_stays : IndexStays (indexing read) s t places
    unfolding indexing
    index_stays =
        record {
          refused = λ why h. index_t ∙ refused_by (ltb limit (length s.now)) (stopped (pieces read s)) why (TooLarge (length s.now)) (starts (pieces read s)) (starts (pieces read t)) h;
          built = λ xs h.
              let b = built_by (ltb limit (length s.now)) (stopped (pieces read s)) (TooLarge (length s.now)) xs (starts (pieces read s)) (starts (pieces read t)) h in
              (starts (pieces read t), index_t ∙ b.0, subst (λ (l : List ℕ). others (λ x. x) places l ≡ others (λ x. x) places (starts (pieces read t))) b.1 starts_both);
        }
