-- There and back.
use Rattle.std.proofs.Common.{ℕ, zero, suc, ◌+◌, ◌*◌, ◌/◌, ◌%◌, ◌<◌, ◌≤◌, ◌≡◌, sym, ap, ap₂, subst, ◌∙◌, List, [], ◌∷◌, ◌++◌, length, take, drop, get_or, append_assoc, append-nil, length-append, arith}
use Rattle.std.specs.Prelude.{slice_index}
use Rattle.std.specs.List.{slice_range}
use Rattle.std.proofs.lemmas.List.{drop_all, get_or-append-add, get_or_append_left}
use Rattle.std.proofs.lemmas.List.Folds.{drop_split}
use Rattle.std.proofs.Math.Seq.{drop-append_seam, take-append_seam}
use Rattle.le.specs.Le.{le4}
use Rattle.hex.specs.Hex.{IsBytes, encode_with, upper_digits, encode_upper}
use Rattle.hex.proofs.HexLemmas.{IsDigits-upper_digits}
use Rattle.captures.specs.Meaning.{Capitals, Lines, done, entry as lines_entry, last as lines_last, IsDigit, Spells, end, line as ended_line, byte, EntryLines, none, line, last, RoundTrips}
use Rattle.captures.proofs.Capitals.{capitals_are}
use Rattle.captures.proofs.Spelt.{digit_is, join_meant}
use Rattle.captures.proofs.Pieces.{within_limit}
use Rattle.captures.proofs.Laid.{split_meant}

-- ---- bytes
pub bytes_take : (n : ℕ) (s : List ℕ) → IsBytes s → IsBytes (take n s)
bytes_take zero s h k = omega arith
bytes_take (suc n) [] h k = omega arith
bytes_take (suc n) (b ∷ s) h zero = h 0
bytes_take (suc n) (b ∷ s) h (suc k) = bytes_take n s (λ k. h (suc k)) k

pub bytes_drop : (n : ℕ) (s : List ℕ) → IsBytes s → IsBytes (drop n s)
bytes_drop zero s h k = h k
bytes_drop (suc n) [] h k = omega arith
bytes_drop (suc n) (b ∷ s) h k = bytes_drop n s (λ k. h (suc k)) k

bytes_front : (s t : List ℕ) → IsBytes (s ++ t) → IsBytes s
bytes_front [] t h k = omega arith
bytes_front (b ∷ s) t h zero = h 0
bytes_front (b ∷ s) t h (suc k) = bytes_front s t (λ k. h (suc k)) k

bytes_behind : (s t : List ℕ) → IsBytes (s ++ t) → IsBytes t
bytes_behind [] t h = h
bytes_behind (b ∷ s) t h = bytes_behind s t (λ k. h (suc k))

-- ---- capitals spell their bytes
spells_upper : (own rest more : List ℕ) → IsBytes own → Spells rest more → Spells (encode_upper own ++ rest) (own ++ more)
unfolding encode_with
spells_upper [] rest more h s = s
spells_upper (b ∷ own) rest more h s =
    let fits : b < 256 = h 0 in
    let high : IsDigit (slice_index upper_digits (b / 16)) (b / 16) = digit_is (slice_index upper_digits (b / 16)) (b / 16) (IsDigits-upper_digits (b / 16) (omega arith)) in
    let low : IsDigit (slice_index upper_digits (b % 16)) (b % 16) = digit_is (slice_index upper_digits (b % 16)) (b % 16) (IsDigits-upper_digits (b % 16) (omega arith)) in
    let whole : b / 16 * 16 + b % 16 ≡ b = omega arith in
    subst (λ (v : ℕ). Spells (encode_upper (b ∷ own) ++ rest) (v ∷ (own ++ more))) whole (byte high low (spells_upper own rest more (λ k. h (suc k)) s))

capitals_spell : (own digits rest more : List ℕ) → Capitals own digits → IsBytes own → Spells rest more → Spells (digits ++ rest) (own ++ more)
capitals_spell own digits rest more c h s = subst (λ (d : List ℕ). Spells (d ++ rest) (own ++ more)) (sym (capitals_are own digits c)) (spells_upper own rest more h s)

-- ---- an upload, split and joined
module _ (s : List ℕ) (bytes : IsBytes s) where
  spells_lines : (at : ℕ) (text : List ℕ) → Lines s at text → Spells text (drop at s)
  spells_lines at text done = subst (λ (b : List ℕ). Spells [] b) (sym (drop_all (length s) s (omega arith))) end
  spells_lines at text (lines_entry {digits = d} {more = m} a b e c more) =
      let own : List ℕ = slice_range s at (at + le4 s at) in
      subst (λ (x : List ℕ). Spells (d ++ (10 ∷ m)) x) (sym (drop_split s at (at + le4 s at) (omega arith)))
      (capitals_spell own d (10 ∷ m) (drop (at + le4 s at) s) c (bytes_take _ (drop at s) (bytes_drop at s bytes)) (ended_line (spells_lines (at + le4 s at) m more)))
  spells_lines at text (lines_last {digits = d} a cut c) =
      subst (λ (x : List ℕ). Spells (d ++ (10 ∷ [])) x) (append-nil (drop at s)) (capitals_spell (drop at s) d (10 ∷ []) [] c (bytes_drop at s bytes) (ended_line end))

-- ---- lines, joined and split
entry_spells : (text bytes ended : List ℕ) → IsBytes bytes → EntryLines text bytes ended → Spells text bytes
entry_spells text bytes ended h none = end
entry_spells text bytes ended h (line {own = own} {digits = d} {text = t} {bytes = b} {ended = e} c four claim more) =
    capitals_spell own d (10 ∷ t) b c (bytes_front own b h) (ended_line (entry_spells t b e (bytes_behind own b h) more))
entry_spells text bytes ended h (last {own = own} {digits = d} c four claim) =
    subst (λ (x : List ℕ). Spells x own) (append-nil d) (subst (λ (x : List ℕ). Spells (d ++ []) x) (append-nil own) (capitals_spell own d [] [] c h end))

-- bytes that stand behind others, and before others
module _ (p own q : List ℕ) where
  abbrev all : List ℕ
  all = p ++ (own ++ q)

  byte_at : (k : ℕ) → k < length own → get_or all (length p + k) 0 ≡ get_or own k 0
  byte_at k h = get_or-append-add p (own ++ q) k 0 ∙ get_or_append_left own q 0 k h

  claim_there : 4 ≤ length own → le4 all (length p) ≡ le4 own 0
  unfolding le4
  claim_there h =
      let a = byte_at 0 (omega arith) in
      let b = byte_at 1 (omega arith) in
      let c = byte_at 2 (omega arith) in
      let d = byte_at 3 (omega arith) in
      let z : get_or all (length p) 0 ≡ get_or own 0 0 = ap (λ (k : ℕ). get_or all k 0) (omega arith) ∙ a in
      omega (arith, z, b, c, d)

  entry_at : (digits ended : List ℕ) → Capitals own digits → 4 ≤ length own → le4 own 0 ≡ length own → Lines ((p ++ own) ++ q) (length (p ++ own)) ended → Lines all (length p) (digits ++ (10 ∷ ended))
  entry_at digits ended c four claim more =
      let size : le4 all (length p) ≡ length own = claim_there four ∙ claim in
      let long : length all ≡ length p + (length own + length q) = omega (arith, length-append p (own ++ q), length-append own q) in
      let next : length (p ++ own) ≡ length p + le4 all (length p) = omega (arith, length-append p own, size) in
      let piece : slice_range all (length p) (length p + le4 all (length p)) ≡ own =
      ap₂ (λ (k : ℕ) (l : List ℕ). take k l) (omega (arith, size)) (drop-append_seam p (own ++ q)) ∙ take-append_seam own q in
      lines_entry (omega (arith, long, four)) (omega (arith, size, four)) (omega (arith, size, long)) (subst (λ (l : List ℕ). Capitals l digits) (sym piece) c)
      (subst (λ (k : ℕ). Lines all k ended) next (subst (λ (l : List ℕ). Lines l (length (p ++ own)) ended) (append_assoc p own q) more))

nothing_behind : (p : List ℕ) → Lines (p ++ []) (length p) []
nothing_behind p = subst (λ (l : List ℕ). Lines l (length p) []) (sym (append-nil p)) done

entry_lines : (text bytes ended : List ℕ) → EntryLines text bytes ended → (p : List ℕ) → Lines (p ++ bytes) (length p) ended
entry_lines text bytes ended none p = nothing_behind p
entry_lines text bytes ended (line {own = own} {digits = d} {text = t} {bytes = b} {ended = e} c four claim more) p =
    entry_at p own b d e c four claim (entry_lines t b e more (p ++ own))
entry_lines text bytes ended (last {own = own} {digits = d} c four claim) p =
    subst (λ (l : List ℕ). Lines (p ++ l) (length p) (d ++ (10 ∷ []))) (append-nil own) (entry_at p own [] d [] c four claim (nothing_behind (p ++ own)))

pub round_trips : RoundTrips
round_trips = record {
  upload = λ s text b h. join_meant.within text s (spells_lines s b 0 text (split_meant.written s text h)) (within_limit s text h);
  lines = λ text bytes ended b small l. (join_meant.within text bytes (entry_spells text bytes ended b l) small, split_meant.only bytes ended small (entry_lines text bytes ended l []));
}
