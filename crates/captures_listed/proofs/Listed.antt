-- What is listed of a capture: proved.
use Rattle.std.proofs.Common.{ℕ, zero, suc, ◌+◌, ◌-◌, ◌*◌, ◌/◌, ◌%◌, ◌<◌, ◌≤◌, ◌≡◌, ◌⊎◌, inl, inr, refl, sym, ap, ap₂, ◌∙◌, Bool, true, false, List, [], ◌∷◌, ◌++◌, length, take, drop, length-drop, append-nil, arith, Result}
use Rattle.std.specs.Prelude.{leb, ltb, eqb, map, codes, slice_index, Ok, if◌then◌else◌}
use Rattle.std.specs.List.{flat_map, enumerate_from, slice_range, All}
use Rattle.std.proofs.Math.Seq.{length-take-le}
use Rattle.std.proofs.lemmas.List.Elements.{All-nil, All-cons}
use Rattle.std.proofs.lemmas.List.Splits.{slice_split_at}
use Rattle.std.proofs.lemmas.Bool.{cases_lt}
use borrow.Author.Tests.{leb-false, lt-ltb, le-ltb, ne_eqb}
use Rattle.hex.specs.Hex.{IsBytes, encode_with, upper_digits, encode_upper, decode_pairs}
use Rattle.hex.proofs.HexLemmas.{decode_of-encode_upper, length-encode_with, IsDigits-upper_digits}
use Rattle.refusal.specs.declared.Mode.{Mode}
use Rattle.refusal.specs.declared.Refusal.{Refusal}
use Rattle.entry.specs.Entry.{claim_at}
use Rattle.entry.specs.Walk.{stands, steps_from, steps}
use Rattle.refusal.specs.Refusal.{limit}
use Rattle.walk.specs.declared.Piece.{Piece}
use Rattle.walk.specs.Pieces as walk
use Rattle.walk.proofs.Left.{piece_starts}
use Rattle.walk.proofs.Theorems.{pieces_are}
use Rattle.symbol.specs.declared.AdsSymbolInfo.{AdsSymbolInfo}
use Rattle.symbol.specs.Symbol.{symbol_of}
use Rattle.listing.specs.Listing.{row, line_text, lines_text, listing, header, lying}
use Rattle.listing.specs.Meaning.{bad_row}
use Rattle.listing.proofs.Meaning.{listing_meant}
use Rattle.captures.specs.Captures.{end_of, piece_at, piece_bytes, lines, text_of, splitting}
use Rattle.captures.proofs.Pieces.{ends_at, ends_in, split_within}
use Rattle.captures.proofs.Spelt.{digit_is, not_end}
use Rattle.captures.proofs.Laid.{line_first}
use Rattle.captures.proofs.Trips.{bytes_take, bytes_drop}
use Rattle.captures_listed.specs.Listed.{LinesListed}
use Rattle.captures_listed.proofs.Alone.{row_alone, alone}

-- no digit is an LF, so a line is the digits before one
no_end : (v : ℕ) → v < 16 → eqb (slice_index upper_digits v) 10 ≡ false
no_end v h = ne_eqb (slice_index upper_digits v) 10 (not_end (slice_index upper_digits v) v (digit_is (slice_index upper_digits v) v (IsDigits-upper_digits v h)))

no_ends : (p : List ℕ) → IsBytes p → All (λ c. eqb c 10 ≡ false) (encode_upper p)
unfolding encode_with
no_ends [] h = All-nil _
no_ends (b ∷ p) h =
    let fits : b < 256 = h 0 in
    All-cons (λ c. eqb c 10 ≡ false) (slice_index upper_digits (b / 16)) (slice_index upper_digits (b % 16) ∷ encode_upper p) (no_end (b / 16) (omega arith))
    (All-cons (λ c. eqb c 10 ≡ false) (slice_index upper_digits (b % 16)) (encode_upper p) (no_end (b % 16) (omega arith)) (no_ends p (λ k. h (suc k))))

lines_first : (p : List ℕ) (ps : List (List ℕ)) → IsBytes p → lines (text_of (p ∷ ps)) ≡ encode_upper p ∷ lines (text_of ps)
lines_first p ps h = ap lines (line_first p ps) ∙ slice_split_at (λ c. eqb c 10) (encode_upper p) 10 (text_of ps) (no_ends p h) refl

-- the most bytes of a line that is listed
abbrev frame : ℕ
frame = 16384

-- the row of a piece in a line of its own
abbrev line_alone : ℕ → Piece AdsSymbolInfo → List ℕ
line_alone line p = if ltb frame (p.end - p.start) then bad_row line else row_alone line p

module _ (mode : Mode) (s : List ℕ) (bytes : IsBytes s) (small : length s ≤ limit) where
  abbrev whole : ℕ → Piece AdsSymbolInfo
  whole at = walk.piece_at (symbol_of mode) (lying s) at

  -- a line of no digits has no row
  no_rows : (n : ℕ) → lines_text mode n (lines (text_of [])) ≡ []
  unfolding text_of line_text decode_pairs walk.pieces_from
  no_rows n = refl

  own_bytes : (at : ℕ) → IsBytes (piece_at s at)
  own_bytes at = bytes_take (end_of s at - at) (drop at s) (bytes_drop at s bytes)

  long_of : (at : ℕ) → at < length s → length (piece_at s at) ≡ end_of s at - at
  long_of at h = let w = ends_in s at h in length-take-le (end_of s at - at) (drop at s) (omega (arith, length-drop at s, w.1))

  size_of : (at : ℕ) → at < length s → (whole at).end - (whole at).start ≡ length (piece_at s at)
  size_of at h = let e = ends_at (symbol_of mode) (lying s) at in let b = piece_starts (symbol_of mode) (lying s) at in let l = long_of at h in omega arith

  by_length : (n at : ℕ) → at < length s → ((frame < length (piece_at s at)) ⊎ (length (piece_at s at) ≤ frame)) → line_text mode n (encode_upper (piece_at s at)) ≡ line_alone n (whole at)
  by_length n at h (inl more) =
      let p : List ℕ = piece_at s at in
      let z = size_of at h in
      let t : ltb frame ((whole at).end - (whole at).start) ≡ true = lt-ltb frame ((whole at).end - (whole at).start) (omega arith) in
      listing_meant.long mode n (encode_upper p) (omega (arith, length-encode_with upper_digits p)) ∙ sym (simp t refl)
  by_length n at h (inr few) =
      let p : List ℕ = piece_at s at in
      let z = size_of at h in
      let t : ltb frame ((whole at).end - (whole at).start) ≡ false = le-ltb frame ((whole at).end - (whole at).start) (omega arith) in
      listing_meant.good mode n (encode_upper p) p (omega (arith, length-encode_with upper_digits p)) (decode_of-encode_upper p (own_bytes at))
      ∙ alone mode s small n at h ∙ sym (simp t refl)

  first_rows : (n at : ℕ) → at < length s → line_text mode n (encode_upper (piece_at s at)) ≡ line_alone n (whole at)
  first_rows n at h = by_length n at h (cases_lt frame (length (piece_at s at)))

  next : (n at : ℕ) (ps : List (List ℕ)) (rest : List ℕ) → at < length s → lines_text mode (n + 1) (lines (text_of ps)) ≡ rest
      → lines_text mode n (lines (text_of (piece_at s at ∷ ps))) ≡ line_alone n (whole at) ++ rest
  next n at ps rest h on = ap (lines_text mode n) (lines_first (piece_at s at) ps (own_bytes at)) ∙ ap₂ (λ (x y : List ℕ). x ++ y) (first_rows n at h) on

  abbrev rows : ℕ → List ℕ → List ℕ
  rows n places = flat_map (λ l. line_alone l.0 l.1) (enumerate_from n (map (walk.piece_at (symbol_of mode) (lying s)) places))

  turn : (k n at : ℕ) → ((n at : ℕ) → lines_text mode n (lines (text_of (map (piece_at s) (steps_from s at k)))) ≡ rows n (steps_from s at k)) → (end stand : Bool) → leb (length s) at ≡ end
      → lines_text mode n (lines (text_of (map (piece_at s) (if end then [] else at ∷ (if stand then [] else steps_from s (claim_at s at).next k)))))
      ≡ rows n (if end then [] else at ∷ (if stand then [] else steps_from s (claim_at s at).next k))
  turn k n at on true stand e = no_rows n
  turn k n at on false true e = next n at [] [] (leb-false (length s) at e) (no_rows (n + 1))
  turn k n at on false false e = next n at (map (piece_at s) (steps_from s (claim_at s at).next k)) (rows (n + 1) (steps_from s (claim_at s at).next k)) (leb-false (length s) at e) (on (n + 1) (claim_at s at).next)

  from : (k n at : ℕ) → lines_text mode n (lines (text_of (map (piece_at s) (steps_from s at k)))) ≡ rows n (steps_from s at k)
  unfolding steps_from
  from zero n at = no_rows n
  from (suc k) n at = turn k n at (from k) (leb (length s) at) (stands s at) refl

  all_rows : lines_text mode 1 (lines (text_of (piece_bytes s))) ≡ flat_map (λ l. line_alone l.0 l.1) (enumerate_from 1 (walk.pieces (symbol_of mode) (lying s)))
  unfolding piece_bytes steps
  all_rows = from (length s) 1 0 ∙ ap (λ ps. flat_map (λ l. line_alone l.0 l.1) (enumerate_from 1 ps)) (sym (pieces_are (symbol_of mode) (lying s)))

pub lines_listed : LinesListed
unfolding listing
lines_listed mode s text bytes small h =
    let same : ◌≡◌ {A = Result (List ℕ) Refusal} (Ok (text_of (piece_bytes s))) (Ok text) = sym (split_within s (omega arith)) ∙ h in
    let is : text_of (piece_bytes s) ≡ text = cc in
    record {
      alone = line_alone;
      is = record {
        same = λ line p four most. let t = le-ltb (p.end - p.start) 4 four in let u = le-ltb frame (p.end - p.start) most in simp (u, t) refl;
        few = λ line p less. let t = lt-ltb (p.end - p.start) 4 less in let u = le-ltb frame (p.end - p.start) (omega arith) in simp (u, t) refl;
        long = λ line p more. let u = lt-ltb frame (p.end - p.start) more in simp u refl;
      };
      lines = ap (λ (t : List ℕ). header ++ lines_text mode 1 (lines t)) (sym is) ∙ ap (λ (l : List ℕ). header ++ l) (all_rows mode s bytes small);
    }
