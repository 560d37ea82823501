-- A piece in a line of its own.
use Rattle.std.proofs.Common.{ℕ, zero, suc, ◌+◌, ◌-◌, ◌<◌, ◌≤◌, ◌≡◌, ◌⊎◌, inl, inr, refl, sym, ap, ap₂, ◌∙◌, Bool, true, false, List, [], ◌∷◌, ◌++◌, length, take, drop, length-drop, append-nil, arith, Bor}
use Rattle.std.specs.Prelude.{ltb, codes, Option, Some, None, Result, Ok, Err, if◌then◌else◌}
use Rattle.std.specs.List.{flat_map, slice_range}
use Rattle.std.proofs.Math.Seq.{length-take-le}
use Rattle.std.proofs.lemmas.List.{take_all}
use Rattle.std.proofs.lemmas.Bool.{cases_lt}
use borrow.Author.Tests.{eq-eqb, ne_eqb, lt-ltb, le-ltb, eqb-true}
use Rattle.le.specs.Le.{le4}
use Rattle.le.specs.Le as le
use Rattle.part.specs.Slice.{part}
use Rattle.refusal.specs.Refusal.{limit, figures_of}
use Rattle.refusal.specs.declared.Mode.{Mode}
use Rattle.refusal.specs.declared.Refusal.{Refusal}
use Rattle.refusal.specs.declared.Refusal.TheVariants.{TooShort, EntryLengthMismatch, ZeroEntryLength}
use Rattle.entry.specs.declared.Claimed.{Claimed}
use Rattle.entry.specs.Entry.{claim_at}
use Rattle.entry.specs.Walk.{stands}
use Rattle.entry.specs.Claims as claims
use Rattle.entry.proofs.Claims as met
use Rattle.entry.proofs.Direct.{own_claim}
use Rattle.walk.specs.declared.Piece.{Piece}
use Rattle.walk.specs.Pieces.{piece_at, pieces_from, pieces}
use Rattle.walk.proofs.Left.{one_left, none_left}
use Rattle.symbol.specs.declared.AdsSymbolInfo.{AdsSymbolInfo}
use Rattle.symbol.specs.Symbol.{symbol_of}
use Rattle.listing.specs.Row.{refusal_row}
use Rattle.listing.specs.Listing.{answer_row, row, lying}
use Rattle.listing.proofs.Anywhere.{row_of}
use Rattle.captures.specs.Captures as captures
use Rattle.captures.proofs.Pieces.{ends_at}

-- ---- what stands at a place, by the bytes
module _ {R : Type 0} (read : Bor (List ℕ) → Result R Refusal) (s : Bor (List ℕ)) (at : ℕ) (h : at < length s.now) (small : length s.now ≤ limit) where
  abbrev made : ℕ → Result R Refusal → Piece R
  made end answer = record { start = at; end = end; answer = answer }

  few_at : length s.now - at < 4 → piece_at read s at ≡ made (length s.now) (Err (TooShort (at + 4) (length s.now)))
  unfolding piece_at
  few_at few = by (claim_at s.now at) refl (met.claims s.now at)
    where
      by : (c : Claimed) → claim_at s.now at ≡ c → claims.Claims s.now at c → piece_at read s at ≡ made (length s.now) (Err (TooShort (at + 4) (length s.now)))
      by c e (claims.ended a) = absurd (omega arith)
      by c e (claims.large a b) = absurd (omega arith)
      by c e (claims.short a b d) = let n = ne_eqb (length s.now) at (omega arith) in simp (e, n) refl
      by c e (claims.beyond a b d g) = absurd (omega arith)
      by c e (claims.entry a b d g) = absurd (omega arith)

  zero_at : 4 ≤ length s.now - at → le4 s.now at ≡ 0 → piece_at read s at ≡ made (length s.now) (Err ZeroEntryLength)
  unfolding piece_at
  zero_at four nought = by (claim_at s.now at) refl (met.claims s.now at)
    where
      by : (c : Claimed) → claim_at s.now at ≡ c → claims.Claims s.now at c → piece_at read s at ≡ made (length s.now) (Err ZeroEntryLength)
      by c e (claims.ended a) = absurd (omega arith)
      by c e (claims.large a b) = absurd (omega arith)
      by c e (claims.short a b d) = absurd (omega arith)
      by c e (claims.beyond a b d g) = absurd (omega arith)
      by c e (claims.entry a b d g) = let n = eq-eqb (at + le4 s.now at) at (omega arith) in simp (e, n) refl

  beyond_at : 4 ≤ length s.now - at → length s.now - at < le4 s.now at → piece_at read s at ≡ made (length s.now) (Err (EntryLengthMismatch (le4 s.now at) (length s.now - at)))
  unfolding piece_at
  beyond_at four more = by (claim_at s.now at) refl (met.claims s.now at)
    where
      by : (c : Claimed) → claim_at s.now at ≡ c → claims.Claims s.now at c → piece_at read s at ≡ made (length s.now) (Err (EntryLengthMismatch (le4 s.now at) (length s.now - at)))
      by c e (claims.ended a) = absurd (omega arith)
      by c e (claims.large a b) = absurd (omega arith)
      by c e (claims.short a b d) = absurd (omega arith)
      by c e (claims.beyond a b d g) = let n = ne_eqb (length s.now) at (omega arith) in simp (e, n) refl
      by c e (claims.entry a b d g) = absurd (omega arith)

  entry_at : 4 ≤ length s.now - at → 0 < le4 s.now at → le4 s.now at ≤ length s.now - at → piece_at read s at ≡ made (at + le4 s.now at) (read (part s at (le4 s.now at)))
  unfolding piece_at
  entry_at four some there = by (claim_at s.now at) refl (met.claims s.now at)
    where
      by : (c : Claimed) → claim_at s.now at ≡ c → claims.Claims s.now at c → piece_at read s at ≡ made (at + le4 s.now at) (read (part s at (le4 s.now at)))
      by c e (claims.ended a) = absurd (omega arith)
      by c e (claims.large a b) = absurd (omega arith)
      by c e (claims.short a b d) = absurd (omega arith)
      by c e (claims.beyond a b d g) = absurd (omega arith)
      by c e (claims.entry a b d g) = let n = ne_eqb (at + le4 s.now at) at (omega arith) in simp (e, n) refl

-- the row of a piece in a line of its own, if it is a frame
abbrev pub row_alone : ℕ → Piece AdsSymbolInfo → List ℕ
row_alone line p = if ltb (p.end - p.start) 4 then refusal_row line 0 (record { number = 2; expected = 4; got = p.end - p.start }) ++ codes "\n" else answer_row line 0 p.answer ++ codes "\n"

module _ (mode : Mode) (s : List ℕ) (small : length s ≤ limit) (n : ℕ) where
  abbrev pub whole : ℕ → Piece AdsSymbolInfo
  whole at = piece_at (symbol_of mode) (lying s) at

  -- bytes that are a single piece have a single row
  one_row : (p : List ℕ) (q : Piece AdsSymbolInfo) → 0 < length p → piece_at (symbol_of mode) (lying p) 0 ≡ q → q.end ≡ length p → flat_map (row n) (pieces (symbol_of mode) (lying p)) ≡ row n q
  one_row p q h is end =
      let first : Piece AdsSymbolInfo = piece_at (symbol_of mode) (lying p) 0 in
      let all : length p ≡ length p - 0 = omega arith in
      let none : pieces_from (symbol_of mode) (lying p) first.end (length p - first.end) ≡ [] =
      none_left (symbol_of mode) (lying p) first.end (length p - first.end) (omega (arith, ap (λ (q : Piece AdsSymbolInfo). q.end) is, end)) in
      ap (λ (k : ℕ). flat_map (row n) (pieces_from (symbol_of mode) (lying p) 0 k)) all
      ∙ ap (flat_map (row n)) (one_left (symbol_of mode) (lying p) 0 h)
      ∙ ap (λ (l : List (Piece AdsSymbolInfo)). row n first ++ flat_map (row n) l) none ∙ append-nil (row n first) ∙ ap (row n) is

  -- the piece of the whole upload at a place, and its bytes by themselves
  abbrev pub Alone : ℕ → Type 0
  Alone at = flat_map (row n) (pieces (symbol_of mode) (lying (captures.piece_at s at))) ≡ row_alone n (whole at)

  by_piece : (at : ℕ) (q : Piece AdsSymbolInfo) → whole at ≡ q → flat_map (row n) (pieces (symbol_of mode) (lying (slice_range s at q.end))) ≡ row_alone n q → Alone at
  by_piece at q w h =
      let end : captures.end_of s at ≡ q.end = sym (ends_at (symbol_of mode) (lying s) at) ∙ ap (λ (q : Piece AdsSymbolInfo). q.end) w in
      ap (λ (e : ℕ). flat_map (row n) (pieces (symbol_of mode) (lying (slice_range s at e)))) end ∙ h ∙ sym (ap (row_alone n) w)

  long_of : (at end : ℕ) → end ≤ length s → length (slice_range s at end) ≡ end - at
  long_of at end h = length-take-le (end - at) (drop at s) (omega (arith, length-drop at s))

  -- the row of fewer than 4 bytes
  few_row : (p : List ℕ) (k : ℕ) → 0 < length p → length p < 4 → length p ≡ k → flat_map (row n) (pieces (symbol_of mode) (lying p)) ≡ refusal_row n 0 (record { number = 2; expected = 4; got = k }) ++ codes "\n"
  unfolding row
  few_row p k some few is =
      one_row p _ some (few_at (symbol_of mode) (lying p) 0 some (omega arith) (omega arith)) refl
      ∙ ap (λ (g : ℕ). refusal_row n 0 (record { number = 2; expected = 4; got = g }) ++ codes "\n") is

  few_case : (at : ℕ) → at < length s → length s - at < 4 → Alone at
  few_case at h few =
      let p : List ℕ = slice_range s at (length s) in
      let long : length p ≡ length s - at = long_of at (length s) (omega arith) in
      let t = lt-ltb (length s - at) 4 few in
      by_piece at _ (few_at (symbol_of mode) (lying s) at h (omega arith) few) (few_row p (length s - at) (omega (arith, long)) (omega (arith, long)) long ∙ sym (simp t refl))

  -- a claim is the same in the piece alone
  claim_of : (at end : ℕ) → end ≤ length s → 4 ≤ end - at → le4 (slice_range s at end) 0 ≡ le4 s at
  unfolding le.part
  claim_of at end h four = own_claim s at (end - at) four

  zero_case : (at : ℕ) → at < length s → 4 ≤ length s - at → le4 s at ≡ 0 → Alone at
  unfolding row
  zero_case at h four nought =
      let p : List ℕ = slice_range s at (length s) in
      let long : length p ≡ length s - at = long_of at (length s) (omega arith) in
      let claim : le4 p 0 ≡ 0 = claim_of at (length s) (omega arith) four ∙ nought in
      let t = le-ltb (length s - at) 4 four in
      by_piece at _ (zero_at (symbol_of mode) (lying s) at h (omega arith) four nought)
      (one_row p _ (omega (arith, long)) (zero_at (symbol_of mode) (lying p) 0 (omega (arith, long)) (omega (arith, long)) (omega (arith, long)) claim) refl ∙ sym (simp t refl))

  beyond_case : (at : ℕ) → at < length s → 4 ≤ length s - at → length s - at < le4 s at → Alone at
  unfolding row
  beyond_case at h four more =
      let p : List ℕ = slice_range s at (length s) in
      let long : length p ≡ length s - at = long_of at (length s) (omega arith) in
      let claim : le4 p 0 ≡ le4 s at = claim_of at (length s) (omega arith) four in
      let left : length p - 0 ≡ length s - at = omega (arith, long) in
      let t = le-ltb (length s - at) 4 four in
      by_piece at _ (beyond_at (symbol_of mode) (lying s) at h (omega arith) four more)
      (one_row p _ (omega (arith, long)) (beyond_at (symbol_of mode) (lying p) 0 (omega (arith, long)) (omega (arith, long)) (omega (arith, long)) (omega (arith, claim, left))) refl
      ∙ ap₂ (λ (a b : ℕ). refusal_row n 0 (record { number = 3; expected = a; got = b }) ++ codes "\n") claim left ∙ sym (simp t refl))

  entry_case : (at : ℕ) → at < length s → 4 ≤ length s - at → 0 < le4 s at → le4 s at ≤ length s - at → Alone at
  unfolding row
  entry_case at h four some there = by (cases_lt (le4 s at) 4)
    where
      by : ((le4 s at < 4) ⊎ (4 ≤ le4 s at)) → Alone at
      by (inl few) =
          let p : List ℕ = slice_range s at (at + le4 s at) in
          let long : length p ≡ at + le4 s at - at = long_of at (at + le4 s at) (omega arith) in
          let t = lt-ltb (at + le4 s at - at) 4 (omega arith) in
          by_piece at _ (entry_at (symbol_of mode) (lying s) at h (omega arith) four some there)
          (few_row p (at + le4 s at - at) (omega (arith, long)) (omega (arith, long)) long ∙ sym (simp t refl))
      by (inr many) =
          let p : List ℕ = slice_range s at (at + le4 s at) in
          let long : length p ≡ at + le4 s at - at = long_of at (at + le4 s at) (omega arith) in
          let claim : le4 p 0 ≡ le4 s at = claim_of at (at + le4 s at) (omega arith) (omega arith) in
          let size : le4 p 0 ≡ length p = omega (arith, claim, long) in
          let own : take (le4 p 0) p ≡ take (le4 s at) (drop at s) =
          take_all (le4 p 0) p (omega (arith, size)) ∙ ap (λ (k : ℕ). take k (drop at s)) (omega arith) in
          let t = le-ltb (at + le4 s at - at) 4 (omega arith) in
          by_piece at _ (entry_at (symbol_of mode) (lying s) at h (omega arith) four some there)
          (one_row p _ (omega (arith, long)) (entry_at (symbol_of mode) (lying p) 0 (omega (arith, long)) (omega (arith, long)) (omega (arith, long)) (omega (arith, claim)) (omega (arith, size))) (omega (arith, size))
          ∙ ap (λ (l : List ℕ). answer_row n 0 (symbol_of mode (record { ref_ptr = (0, 0); now = l })) ++ codes "\n") own
          ∙ ap (λ (l : List ℕ). l ++ codes "\n") (row_of mode n 0 (0, 0) (part (lying s) at (le4 s at))) ∙ sym (simp t refl))

  pub alone : (at : ℕ) → at < length s → Alone at
  alone at h = few (cases_lt (length s - at) 4)
    where
      there : 4 ≤ length s - at → ((le4 s at < 1) ⊎ (1 ≤ le4 s at)) → ((length s - at < le4 s at) ⊎ (le4 s at ≤ length s - at)) → Alone at
      there four (inl nought) b = zero_case at h four (omega arith)
      there four (inr some) (inl more) = beyond_case at h four more
      there four (inr some) (inr room) = entry_case at h four (omega arith) room

      few : ((length s - at < 4) ⊎ (4 ≤ length s - at)) → Alone at
      few (inl less) = few_case at h less
      few (inr four) = there four (cases_lt (le4 s at) 1) (cases_lt (length s - at) (le4 s at))
