-- What splitting writes are the lines of the upload, and no others.
use Rattle.std.proofs.Common.{ℕ, zero, suc, ◌+◌, ◌-◌, ◌<◌, ◌≤◌, ◌≡◌, inl, inr, refl, sym, ap, ap₂, subst, ◌∙◌, Bool, true, false, List, [], ◌∷◌, ◌++◌, length, drop, append_assoc, length-drop, arith}
use Rattle.std.specs.Prelude.{leb, map, Ok, if◌then◌else◌}
use Rattle.std.specs.List.{flat_map, slice_range}
use Rattle.std.proofs.lemmas.List.{take_all}
use borrow.Author.Tests.{leb-true, leb-false, le-leb, eqb-true, eqb-false}
use Rattle.le.specs.Le.{le4}
use Rattle.hex.specs.Hex.{encode_upper}
use Rattle.refusal.specs.Refusal.{limit}
use Rattle.entry.specs.declared.Claimed.{Claimed}
use Rattle.entry.specs.Entry.{claim_at}
use Rattle.entry.specs.Walk.{stands, steps_from, steps}
use Rattle.entry.specs.Claims as claims
use Rattle.entry.proofs.Claims as met
use Rattle.captures.specs.Captures.{end_of, piece_at, piece_bytes, line, text_of, splitting}
use Rattle.captures.specs.Meaning.{Capitals, IsCut, Lines, done, entry, last, SplitMeant}
use Rattle.captures.proofs.Capitals.{capitals_are, are_capitals}
use Rattle.captures.proofs.Pieces.{split_large, split_within, within_limit, split_is}

pub line_first : (piece : List ℕ) (pieces : List (List ℕ)) → text_of (piece ∷ pieces) ≡ encode_upper piece ++ (10 ∷ text_of pieces)
unfolding text_of
line_first piece pieces = append_assoc (encode_upper piece) (10 ∷ []) (flat_map line pieces)

module _ (s : List ℕ) (small : length s ≤ limit) where
  abbrev text_at : ℕ → ℕ → List ℕ
  text_at at n = text_of (map (piece_at s) (steps_from s at n))

  none_after : (n at : ℕ) → length s ≤ at → text_at at n ≡ []
  unfolding steps_from text_of
  none_after zero at h = refl
  none_after (suc n) at h = simp (le-leb (length s) at h)

  -- all that is left
  all_left : (at : ℕ) → slice_range s at (length s) ≡ drop at s
  all_left at = take_all (length s - at) (drop at s) (omega (arith, length-drop at s))

  tail : (n at next : ℕ) → next ≡ length s → at < length s → IsCut s at → Lines s at (encode_upper (slice_range s at next) ++ (10 ∷ text_at next n))
  tail n at next e h cut =
      let piece : slice_range s at next ≡ drop at s = ap (slice_range s at) e ∙ all_left at in
      let none : text_at next n ≡ [] = none_after n next (omega (arith, e)) in
      let text : encode_upper (slice_range s at next) ++ (10 ∷ text_at next n) ≡ encode_upper (drop at s) ++ (10 ∷ []) =
      ap₂ (λ (x y : List ℕ). encode_upper x ++ (10 ∷ y)) piece none in
      subst (λ (t : List ℕ). Lines s at t) (sym text) (last h cut (are_capitals (drop at s)))

  -- where the walk stands a claim is 0
  stood : (at : ℕ) → at < length s → (c : Claimed) → claims.Claims s at c → c.next ≡ at → IsCut s at
  stood at h c (claims.ended a) f = absurd (omega arith)
  stood at h c (claims.large a b) f = absurd (omega arith)
  stood at h c (claims.short a b d) f = absurd (omega arith)
  stood at h c (claims.beyond a b d g) f = absurd (omega arith)
  stood at h c (claims.entry a b d g) f = inr (inl (omega arith))

  moved : (n at : ℕ) → at < length s → (c : Claimed) → claims.Claims s at c → (c.next ≡ at → ⊥) → ((next : ℕ) → at < next → next ≤ length s → Lines s next (text_at next n))
      → Lines s at (encode_upper (slice_range s at c.next) ++ (10 ∷ text_at c.next n))
  moved n at h c (claims.ended a) f on = absurd (omega arith)
  moved n at h c (claims.large a b) f on = absurd (omega (arith, small, b))
  moved n at h c (claims.short a b d) f on = tail n at (length s) refl h (inl (omega arith))
  moved n at h c (claims.beyond a b d g) f on = tail n at (length s) refl h (inr (inr (omega arith)))
  moved n at h c (claims.entry a b d g) f on =
      let some : le4 s at ≡ 0 → ⊥ = λ z. f (omega (arith, z)) in
      entry (omega arith) (omega arith) (omega arith) (are_capitals (slice_range s at (at + le4 s at))) (on (at + le4 s at) (omega arith) (omega arith))

  turn : (n at : ℕ) → at ≤ length s → ((next : ℕ) → at < next → next ≤ length s → Lines s next (text_at next n))
      → (end stand : Bool) → leb (length s) at ≡ end → stands s at ≡ stand
      → Lines s at (text_of (map (piece_at s) (if end then [] else at ∷ (if stand then [] else steps_from s (claim_at s at).next n))))
  unfolding text_of
  turn n at r on true stand e f =
      let is : length s ≡ at = omega (arith, leb-true (length s) at e) in
      subst (λ (k : ℕ). Lines s k []) is done
  turn n at r on false true e f =
      let h = leb-false (length s) at e in
      let cut = stood at h (claim_at s at) (met.claims s at) (eqb-true (claim_at s at).next at f) in
      let piece : piece_at s at ≡ drop at s = simp f (all_left at) in
      subst (λ (t : List ℕ). Lines s at t) (sym (line_first (piece_at s at) [] ∙ ap (λ (x : List ℕ). encode_upper x ++ (10 ∷ [])) piece)) (last h cut (are_capitals (drop at s)))
  turn n at r on false false e f =
      let h = leb-false (length s) at e in
      let m = moved n at h (claim_at s at) (met.claims s at) (eqb-false (claim_at s at).next at f) on in
      let is : end_of s at ≡ (claim_at s at).next = simp f in
      subst (λ (t : List ℕ). Lines s at t)
      (sym (line_first (piece_at s at) (map (piece_at s) (steps_from s (claim_at s at).next n)) ∙ ap (λ (k : ℕ). encode_upper (slice_range s at k) ++ (10 ∷ text_at (claim_at s at).next n)) is)) m

  from : (n at : ℕ) → at ≤ length s → length s - at ≤ n → Lines s at (text_at at n)
  unfolding steps_from text_of
  from zero at r h = let is : length s ≡ at = omega arith in subst (λ (k : ℕ). Lines s k []) is done
  from (suc n) at r h = turn n at r (λ next a b. from n next b (omega arith)) (leb (length s) at) (stands s at) refl refl

  pub are_lines : Lines s 0 (text_of (piece_bytes s))
  unfolding piece_bytes steps
  are_lines = from (length s) 0 (omega arith) (omega arith)

-- an upload has one text
module _ (s : List ℕ) where
  same_digits : {a b : List ℕ} {x y : List ℕ} → a ≡ b → Capitals a x → Capitals b y → x ≡ y
  same_digits {a} {b} {x} {y} e p q = capitals_are a x p ∙ ap encode_upper e ∙ sym (capitals_are b y q)

  not_cut : (at : ℕ) → at + 4 ≤ length s → 0 < le4 s at → at + le4 s at ≤ length s → IsCut s at → ⊥
  not_cut at a b d (inl x) = omega arith
  not_cut at a b d (inr (inl x)) = omega arith
  not_cut at a b d (inr (inr x)) = omega arith

  one_text : (at at' : ℕ) (t t' : List ℕ) → at ≡ at' → Lines s at t → Lines s at' t' → t ≡ t'
  one_text at at' t t' e done done = refl
  one_text at at' t t' e done (entry a b d p more) = absurd (omega arith)
  one_text at at' t t' e done (last a b p) = absurd (omega arith)
  one_text at at' t t' e (entry a b d p more) done = absurd (omega arith)
  one_text at at' t t' e (entry {digits = x} {more = m} a b d p more) (entry {digits = y} {more = k} a' b' d' q more') =
      let size = ap (le4 s) e in
      let next : at + le4 s at ≡ at' + le4 s at' = omega (arith, e, size) in
      ap₂ (λ (x y : List ℕ). x ++ (10 ∷ y)) (same_digits (ap₂ (slice_range s) e next) p q) (one_text (at + le4 s at) (at' + le4 s at') m k next more more')
  one_text at at' t t' e (entry a b d p more) (last a' cut q) = absurd (not_cut at a b d (subst (IsCut s) (sym e) cut))
  one_text at at' t t' e (last a cut p) done = absurd (omega arith)
  one_text at at' t t' e (last a cut p) (entry a' b d q more) = absurd (not_cut at' a' b d (subst (IsCut s) e cut))
  one_text at at' t t' e (last a cut p) (last a' cut' q) = ap (λ (x : List ℕ). x ++ (10 ∷ [])) (same_digits (ap (λ (k : ℕ). drop k s) e) p q)

written : (s text : List ℕ) → splitting s ≡ Ok text → Lines s 0 text
written s text h = subst (λ (t : List ℕ). Lines s 0 t) (split_is s text h) (are_lines s (within_limit s text h))

only : (s text : List ℕ) → length s ≤ limit → Lines s 0 text → splitting s ≡ Ok text
only s text small l = split_within s small ∙ ap (λ (t : List ℕ). Ok t) (one_text s 0 0 (text_of (piece_bytes s)) text refl (are_lines s small) l)

pub split_meant : SplitMeant
split_meant = record { too_large = split_large; within = λ s h. (text_of (piece_bytes s), split_within s h); written = written; only = only }
