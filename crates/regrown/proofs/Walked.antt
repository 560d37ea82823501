-- What a walk over fit records tells, from what holds of each of their entries.
use Rattle.std.proofs.Common.{ℕ, zero, suc, ◌+◌, ◌-◌, ◌<◌, ◌≤◌, ◌≡◌, refl, ap, ◌∙◌, Bool, true, false, List, [], ◌∷◌, ◌++◌, length, take, arith, Bor, Result, length-append, length-take}
use native.Mathlib.Nat.{suc-add}
use mathlib.Core.List.{append_assoc, append-nil, map}
use lib.Dec.{ltb, leb, eqb}
use lib.Seq.{take-append-le, take-append-add, take-nil}
use Rattle.std.specs.Prelude.{Some, Ok, Err}
use borrow.Author.Tests.{le-leb, lt-leb, leb-true, leb-false, eqb-true, eqb-false}
use Rattle.le.specs.Le as le
use Rattle.le.proofs.Inside.{part_whole}
use Rattle.part.specs.Slice.{part}
use Rattle.refusal.specs.Refusal.{limit}
use Rattle.refusal.specs.declared.Refusal.{Refusal}
use Rattle.entry.specs.Entry.{claim_at, claimed}
use Rattle.entry.specs.Walk.{walk}
use Rattle.entry.proofs.Laws.{walk_on}
use Rattle.walk.specs.declared.Stepped.{Stepped}
use Rattle.walk.specs.Step.{step_at}
use Rattle.walk.specs.Theorems.{cursor_of}
use Rattle.regrown.specs.Tells.{tells}
use Rattle.regrown.specs.Regrown.{Tells, Entry, Refused, End, lying, grown, Grown, entry_of, upload, cut_figures, comes_back, cut_back}
use Rattle.regrown.proofs.Whole.{Whole, claim_end, claim_whole, length_cut, cut_refusal, cut_told, claim_cut, above}

module _ {R S : Type 0} (read : Bor (List ℕ) → Result R Refusal) (length_of : R → ℕ) (told : R → S) where
  abbrev pub entry : Bor (List ℕ) → ℕ → Stepped R
  entry e n = record { answer = Some (read e); cursor = record { at = n } }

  abbrev tell : Stepped R → Tells S
  tell = tells length_of told

  module _ (m : ℕ × ℕ) where
    moves : (s : Bor (List ℕ)) (at : ℕ) → cursor_of (step_at read s at) ≡ (claim_at s.now at).next
    unfolding step_at
    moves s at = refl

    abbrev pub told_from : List ℕ → ℕ → ℕ → List (Tells S)
    told_from s at n = map tell (walk (step_at read) cursor_of (lying m s) at n)

    pub tells_end : (s : List ℕ) (at n : ℕ) → length s ≤ at → told_from s at (suc n) ≡ End at ∷ []
    unfolding walk step_at
    tells_end s at n h = simp (le-leb (length s) at h, claim_end s at h)

    tells_on : (s : List ℕ) (at n next : ℕ) (t : Tells S) → at < length s → tell (step_at read (lying m s) at) ≡ t → (claim_at s at).next ≡ next → told_from s at (suc n) ≡ t ∷ told_from s next n
    tells_on s at n next t h e k =
        ap (map tell) (walk_on (step_at read) cursor_of moves (lying m s) at n (lt-leb (length s) at h)) ∙ simp (e, k)

    pub tells_entry : (p e q : List ℕ) (n : ℕ) (r : S) → Whole e → length (p ++ (e ++ q)) ≤ limit
        → ((own : Bor (List ℕ)) (n : ℕ) → own.now ≡ e → tell (entry own n) ≡ Entry r (length e) n)
        → told_from (p ++ (e ++ q)) (length p) (suc n) ≡ Entry r (length e) (length p + length e) ∷ told_from (p ++ (e ++ q)) (length p + length e) n
    unfolding step_at le.part
    tells_entry p e q n r w h each =
        let s : List ℕ = p ++ (e ++ q) in
        let c : claim_at s (length p) ≡ claimed (Some (Ok (length e))) (length p + length e) = claim_whole p e q w h in
        let len : length s ≡ length p + (length e + length q) = simp length-append in
        let own : Bor (List ℕ) = part (lying m s) (length p) (length e) in
        let b : own.now ≡ e = part_whole p e q in
        let t : tell (step_at read (lying m s) (length p)) ≡ Entry r (length e) (length p + length e) = simp c (each own (length p + length e) b) in
        tells_on s (length p) n (length p + length e) (Entry r (length e) (length p + length e)) (omega (arith, w.long)) t (ap (λ x. x.next) c)

    tells_cut : (p e : List ℕ) (k n : ℕ) → Whole e → 0 < k → k < length e → length p + k ≤ limit
        → told_from (p ++ take k e) (length p) (suc (suc n)) ≡ Refused (cut_figures (length p) k (length e)) (length p + k) ∷ End (length p + k) ∷ []
    unfolding step_at
    tells_cut p e k n w a b h =
        let s : List ℕ = p ++ take k e in
        let why : Refusal = cut_refusal (ltb k 4) (length p) k (length e) in
        let c : claim_at s (length p) ≡ claimed (Some (Err why)) (length p + k) = claim_cut p e k w a b h (ltb k 4) refl in
        let len : length s ≡ length p + k = length_cut p e k b in
        let t : tell (step_at read (lying m s) (length p)) ≡ Refused (cut_figures (length p) k (length e)) (length p + k) = simp c (ap (λ f. Refused f (length p + k)) (cut_told (ltb k 4) (length p) k (length e) refl)) in
        tells_on s (length p) (suc n) (length p + k) (Refused (cut_figures (length p) k (length e)) (length p + k)) (omega arith) t (ap (λ x. x.next) c) ∙ ap (λ (l : List (Tells S)). Refused (cut_figures (length p) k (length e)) (length p + k) ∷ l) (tells_end s (length p + k) n (omega arith))

    -- each entry of an upload within the limit is within it
    within : (p e rest : List ℕ) → length (p ++ (e ++ rest)) ≤ limit → length e ≤ limit
    within p e rest h = omega (arith, simp length-append at h)

    module _ {P : Type 0} (Fit : P → Type 0) (written : P → List ℕ) (meant : P → List ℕ → S)
        (each : (r : P) (extra : List ℕ) → Fit r → length (grown (written r) extra) ≤ limit
        → Whole (grown (written r) extra)
        × ((own : Bor (List ℕ)) (n : ℕ) → own.now ≡ grown (written r) extra → tell (entry own n) ≡ Entry (meant r extra) (length (grown (written r) extra)) n)) where
      abbrev G : Type 0
      G = Grown Fit

      abbrev entryG : G → List ℕ
      entryG = entry_of Fit written

      abbrev joined : List G → List ℕ
      joined = upload Fit written

      pub all_of : (p : List ℕ) (gs : List G) → length (p ++ joined gs) ≤ limit → (spare : ℕ) → told_from (p ++ joined gs) (length p) (suc (length gs + spare)) ≡ comes_back Fit written meant (length p) gs
      all_of p [] h spare = tells_end (p ++ []) (length p) (zero + spare) (simp append-nil (omega arith))
      all_of p (g ∷ gs) h spare =
          let f = each g.parts g.extra g.fit (within p (entryG g) (joined gs) h) in
          let ih = simp (append_assoc, length-append) at (all_of (p ++ entryG g) gs (rw append_assoc h) spare) in
          tells_entry p (entryG g) (joined gs) (suc (length gs) + spare) (meant g.parts g.extra) f.0 h f.1 ∙ simp (suc-add, ih)

      -- one entry of an upload that is cut: it is whole, or nothing of it is left, or it is cut itself
      cut_turn : (p : List ℕ) (g : G) (gs : List G) (k n : ℕ) → length (p ++ (entryG g ++ joined gs)) ≤ limit
          → ((m : ℕ) → told_from ((p ++ entryG g) ++ take m (joined gs)) (length (p ++ entryG g)) (suc n) ≡ cut_back Fit written meant (length (p ++ entryG g)) m gs)
          → (before : Bool) → leb (length (entryG g)) k ≡ before → (here : Bool) → eqb k 0 ≡ here
          → told_from (p ++ take k (entryG g ++ joined gs)) (length p) (suc (suc n)) ≡ cut_back Fit written meant (length p) k (g ∷ gs)
      unfolding cut_back
      cut_turn p g gs k n h on true b here z =
          let e : List ℕ = entryG g in
          let f = each g.parts g.extra g.fit (within p e (joined gs) h) in
          let m : length e + (k - length e) ≡ k = omega (arith, leb-true (length e) k b) in
          let t : take k (e ++ joined gs) ≡ e ++ take (k - length e) (joined gs) = rw m at (take-append-add e (joined gs) (k - length e)) in
          let l : length (p ++ (e ++ take (k - length e) (joined gs))) ≤ limit = simp (length-append, length-take) (omega (arith, simp length-append at h)) in
          let ih = simp (append_assoc, length-append) at (on (k - length e)) in
          simp (t, b) (tells_entry p e (take (k - length e) (joined gs)) (suc n) (meant g.parts g.extra) f.0 l f.1 ∙ simp ih)
      cut_turn p g gs k n h on false b true z =
          let o : k ≡ 0 = eqb-true k 0 z in
          let c : leb (length (entryG g)) 0 ≡ false = rw o at b in
          simp (o, c) (tells_end (p ++ []) (length p) (suc n) (simp append-nil (omega arith)))
      cut_turn p g gs k n h on false b false z =
          let e : List ℕ = entryG g in
          let f = each g.parts g.extra g.fit (within p e (joined gs) h) in
          let u : k < length e = leb-false (length e) k b in
          let t : take k (e ++ joined gs) ≡ take k e = take-append-le k e (joined gs) (omega arith) in
          let l : length p + k ≤ limit = omega (arith, simp length-append at h) in
          simp (t, b, z) (tells_cut p e k n f.0 (above k (eqb-false k 0 z)) u l)

      pub cut_of : (p : List ℕ) (gs : List G) → length (p ++ joined gs) ≤ limit → (k spare : ℕ) → told_from (p ++ take k (joined gs)) (length p) (suc (suc (length gs + spare))) ≡ cut_back Fit written meant (length p) k gs
      unfolding cut_back
      cut_of p [] h k spare = simp take-nil (tells_end (p ++ []) (length p) (suc (zero + spare)) (simp append-nil (omega arith)))
      cut_of p (g ∷ gs) h k spare =
          simp suc-add
          (cut_turn p g gs k (suc (length gs + spare)) h (λ m. cut_of (p ++ entryG g) gs (rw append_assoc h) m spare) (leb (length (entryG g)) k) refl (eqb k 0) refl)
