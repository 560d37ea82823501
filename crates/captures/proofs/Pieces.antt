-- The pieces of an upload, by claims alone.
use Rattle.std.proofs.Common.{ℕ, zero, suc, ◌+◌, ◌-◌, ◌*◌, ◌<◌, ◌≤◌, ◌≡◌, refl, sym, ap, ap₂, ◌∙◌, Bool, true, false, List, [], ◌∷◌, ◌++◌, length, drop, arith, length-append, length-drop, append-nil, Bor}
use Rattle.std.specs.Prelude.{leb, ltb, map, Result, Ok, Err, if◌then◌else◌}
use Rattle.std.specs.List.{flat_map, slice_range, concat}
use Rattle.std.proofs.lemmas.List.{drop_all, take_all, length-map}
use Rattle.std.proofs.lemmas.List.Folds.{drop_split}
use borrow.Author.Tests.{leb-true, leb-false, eqb-false, lt-ltb, le-ltb, ltb-true, ltb-false}
use Rattle.hex.specs.Hex.{upper_digits, encode_upper}
use Rattle.hex.proofs.HexLemmas.{length-encode_with}
use Rattle.refusal.specs.Refusal.{limit}
use Rattle.refusal.specs.declared.Refusal.{Refusal}
use Rattle.refusal.specs.declared.Refusal.TheVariants.{TooLarge}
use Rattle.entry.specs.Entry.{claim_at}
use Rattle.entry.specs.Walk.{stands, steps_from, steps}
use Rattle.entry.proofs.Claims.{moves_on, moves_within}
use Rattle.walk.specs.declared.Piece.{Piece}
use Rattle.walk.specs.Pieces as walk
use Rattle.walk.proofs.Left.{piece_starts}
use Rattle.walk.proofs.Theorems.{pieces_are}
use Rattle.captures.specs.Captures.{end_of, piece_at, piece_bytes, line, text_of, splitting}

-- the lines of some pieces that a walker gives
unfoldable pub lines_of : {R : Type 0} → List ℕ → List (Piece R) → List ℕ
lines_of s ps = flat_map (λ p. line (slice_range s p.start p.end)) ps

pub line_then : {R : Type 0} (s : List ℕ) {left rest : List (Piece R)} {p : Piece R} → left ≡ p ∷ rest → lines_of s left ≡ line (slice_range s p.start p.end) ++ lines_of s rest
unfolding lines_of
line_then s turn = simp turn

pub no_line : {R : Type 0} (s : List ℕ) {left : List (Piece R)} → left ≡ [] → lines_of s left ≡ []
unfolding lines_of
no_line s turn = simp turn

-- a piece lies between its place and its end, whoever reads it
module _ {R : Type 0} (read : Bor (List ℕ) → Result R Refusal) (s : Bor (List ℕ)) where
  ends : (at : ℕ) (b : Bool) → stands s.now at ≡ b → (walk.piece_at read s at).end ≡ end_of s.now at
  unfolding walk.piece_at
  ends at true e = simp e
  ends at false e = simp e

  pub ends_at : (at : ℕ) → (walk.piece_at read s at).end ≡ end_of s.now at
  ends_at at = ends at (stands s.now at) refl

  same_line : (at : ℕ) → line (slice_range s.now (walk.piece_at read s at).start (walk.piece_at read s at).end) ≡ line (piece_at s.now at)
  same_line at = ap₂ (λ (a b : ℕ). line (slice_range s.now a b)) (piece_starts read s at) (ends_at at)

  same_lines : (places : List ℕ) → lines_of s.now (map (walk.piece_at read s) places) ≡ flat_map line (map (piece_at s.now) places)
  unfolding lines_of
  same_lines [] = refl
  same_lines (at ∷ places) = ap₂ (λ (x y : List ℕ). x ++ y) (same_line at) (same_lines places)

  pub lines_are : lines_of s.now (walk.pieces read s) ≡ text_of (piece_bytes s.now)
  unfolding text_of piece_bytes
  lines_are = ap (lines_of s.now) (pieces_are read s) ∙ same_lines (steps s.now)

  pub count_is : length (walk.pieces read s) ≡ length (steps s.now)
  count_is = ap length (pieces_are read s) ∙ length-map (steps s.now) (walk.piece_at read s)

-- ---- the pieces are the whole upload
module _ (s : List ℕ) where
  -- before the end a piece is at least a byte, and ends in the upload
  ends_by : (at : ℕ) → at < length s → (b : Bool) → stands s at ≡ b → (at < end_of s at) × (end_of s at ≤ length s)
  ends_by at h true e = simp e (h, omega arith)
  ends_by at h false e = simp e (omega (arith, moves_on s at h, eqb-false (claim_at s at).next at e), moves_within s at h)

  pub ends_in : (at : ℕ) → at < length s → (at < end_of s at) × (end_of s at ≤ length s)
  ends_in at h = ends_by at h (stands s at) refl

  whole_turn : (n at : ℕ) → length s - at ≤ suc n → ((at : ℕ) → length s - at ≤ n → concat (map (piece_at s) (steps_from s at n)) ≡ drop at s)
      → (end stand : Bool) → leb (length s) at ≡ end → stands s at ≡ stand
      → concat (map (piece_at s) (if end then [] else at ∷ (if stand then [] else steps_from s (claim_at s at).next n))) ≡ drop at s
  whole_turn n at p on true stand e f = sym (drop_all at s (leb-true (length s) at e))
  whole_turn n at p on false true e f =
      let h = leb-false (length s) at e in
      let z : piece_at s at ≡ drop at s = simp f (take_all (length s - at) (drop at s) (simp length-drop (omega arith))) in
      simp append-nil z
  whole_turn n at p on false false e f =
      let h = leb-false (length s) at e in
      let w = ends_in at h in
      let is : end_of s at ≡ (claim_at s at).next = simp f in
      ap (λ (l : List ℕ). piece_at s at ++ l) (on (claim_at s at).next (omega (arith, is, w.0)) ∙ ap (λ (k : ℕ). drop k s) (sym is))
      ∙ sym (drop_split s at (end_of s at) (omega (arith, w.0)))

  whole_from : (n at : ℕ) → length s - at ≤ n → concat (map (piece_at s) (steps_from s at n)) ≡ drop at s
  unfolding steps_from
  whole_from zero at p = sym (drop_all at s (omega arith))
  whole_from (suc n) at p = whole_turn n at p (whole_from n) (leb (length s) at) (stands s at) refl refl

  pub whole_is : concat (piece_bytes s) ≡ s
  unfolding piece_bytes steps
  whole_is = whole_from (length s) 0 (omega arith)

-- two digits for each byte, and LF for each piece
pub text_long : (pieces : List (List ℕ)) → length (text_of pieces) ≡ 2 * length (concat pieces) + length pieces
unfolding text_of
text_long [] = refl
text_long (b ∷ bs) =
    omega (arith, length-append (line b) (flat_map line bs), length-append (encode_upper b) (10 ∷ []), length-encode_with upper_digits b, length-append b (concat bs), text_long bs)

pub splits_long : (s : List ℕ) → length (text_of (piece_bytes s)) ≡ 2 * length s + length (steps s)
unfolding piece_bytes
splits_long s = omega (arith, text_long (piece_bytes s), ap length (whole_is s), length-map (steps s) (piece_at s))

few_from : (s : List ℕ) (n at : ℕ) → length (steps_from s at n) ≤ n
unfolding steps_from
few_from s zero at = omega arith
few_from s (suc n) at = by (leb (length s) at) (stands s at) (few_from s n (claim_at s at).next)
  where
    by : (end stand : Bool) → length (steps_from s (claim_at s at).next n) ≤ n → length (if end then [] else at ∷ (if stand then [] else steps_from s (claim_at s at).next n)) ≤ suc n
    by true stand h = omega arith
    by false true h = omega arith
    by false false h = omega arith

pub few_steps : (s : List ℕ) → length (steps s) ≤ length s
unfolding steps
few_steps s = few_from s (length s) 0

-- what splitting writes
pub split_large : (s : List ℕ) → limit < length s → splitting s ≡ Err (TooLarge (length s))
unfolding splitting
split_large s h = simp (lt-ltb limit (length s) h)

pub split_within : (s : List ℕ) → length s ≤ limit → splitting s ≡ Ok (text_of (piece_bytes s))
unfolding splitting
split_within s h = simp (le-ltb limit (length s) h)

-- what is written is within the limit, and these lines
pub within_limit : (s text : List ℕ) → splitting s ≡ Ok text → length s ≤ limit
within_limit s text h = by (ltb limit (length s)) refl
  where
    by : (b : Bool) → ltb limit (length s) ≡ b → length s ≤ limit
    by true e =
        let large : ◌≡◌ {A = Result (List ℕ) Refusal} (Err (TooLarge (length s))) (Ok text) = sym (split_large s (ltb-true limit (length s) e)) ∙ h in
        absurd (let z : ◌≡◌ {A = ℕ} 0 1 = cc in omega arith)
    by false e = ltb-false limit (length s) e

pub split_is : (s text : List ℕ) → splitting s ≡ Ok text → text_of (piece_bytes s) ≡ text
split_is s text h = let same : ◌≡◌ {A = Result (List ℕ) Refusal} (Ok (text_of (piece_bytes s))) (Ok text) = sym (split_within s (within_limit s text h)) ∙ h in cc
