-- What the index's loops cite.
use Rattle.std.proofs.Common.{ℕ, ◌+◌, ◌<◌, ◌≤◌, ◌≡◌, refl, sym, ap, ◌∙◌, Bool, true, false, List, [], ◌∷◌, length, arith, Bor, Result}
use Rattle.std.proofs.Math.ListN.{set, length-set}
use Rattle.std.specs.Prelude.{All, is_ok, Ok, Err, if◌then◌else◌}
use Rattle.std.proofs.lemmas.List.{length-map}
use Rattle.std.proofs.lemmas.List.Sums.{length-filter, count_by-le-length}
use Rattle.std.proofs.lemmas.List.Elements.{All-weaker, All-head, All-rest}
use borrow.Author.Tests.{le-ltb, lt-ltb}
use Rattle.refusal.specs.declared.Refusal.{Refusal}
use Rattle.refusal.specs.declared.Refusal.TheVariants.{TooLarge, ZeroEntryLength}
use Rattle.refusal.specs.Refusal.{limit}
use Rattle.le.specs.Put.{put}
use Rattle.le.proofs.Laws.{put_one, put_then, put_none}
use Rattle.walk.specs.declared.Piece.{Piece}
use Rattle.walk.specs.Pieces.{pieces}
use Rattle.walk.proofs.Left.{few_pieces, all_inside}
use Rattle.index.specs.Index.{accepts, starts, stopped, tally_of, indexing}

-- a slot written, and those behind it
pub put_turn : (l : List ℕ) (n a : ℕ) (xs : List ℕ) → n < length l → put (set l n a) (n + 1) xs ≡ put l n (a ∷ xs)
put_turn l n a xs h = ap (λ (x : List ℕ). put x (n + 1) xs) (put_one l n a (omega arith)) ∙ put_then l n (a ∷ []) (n + 1) xs refl (omega arith)

-- no more entries are accepted than there are pieces
pub few_starts : {R : Type 0} (ps : List (Piece R)) → length (starts ps) ≤ length ps
unfolding starts
few_starts ps = simp (length-map, length-filter) (count_by-le-length accepts ps)

pub all_small : {R : Type 0} (read : Bor (List ℕ) → Result R Refusal) (s : Bor (List ℕ)) → length s.now ≤ limit → All (λ p. p.start ≤ limit) (pieces read s)
all_small read s h = All-weaker (λ p. p.start < length s.now) (λ p. p.start ≤ limit) (λ p q. omega arith) (pieces read s) (all_inside read s (length s.now) 0)

-- what is left, behind a piece that is accepted and behind one that is not
module _ {R : Type 0} (left rest : List (Piece R)) (p : Piece R) (turn : left ≡ p ∷ rest) where
  pub starts_ok : is_ok p.answer ≡ true → starts left ≡ p.start ∷ starts rest
  unfolding starts
  starts_ok e = simp (turn, e)

  pub starts_err : is_ok p.answer ≡ false → starts left ≡ starts rest
  unfolding starts
  starts_err e = simp (turn, e)

pub starts_none : {R : Type 0} (left : List (Piece R)) → left ≡ [] → starts left ≡ []
unfolding starts
starts_none left e = simp e

-- what the loop that writes keeps
pub record Kept {R : Type 0} (old slots : List ℕ) (count : ℕ) (all : List ℕ) (left : List (Piece R)) : Type 0 where
  pub written : put slots count (starts left) ≡ put old 0 all
  pub room : count + length (starts left) ≤ length slots
  pub small : All (λ p. p.start ≤ limit) left

module _ {R : Type 0} {old slots all : List ℕ} {count : ℕ} {left rest : List (Piece R)} (p : Piece R) (turn : left ≡ p ∷ rest) (k : Kept old slots count all left) where
  pub kept_ok : is_ok p.answer ≡ true → Kept old (set slots count p.start) (count + 1) all rest
  kept_ok e =
      let s = starts_ok left rest p turn e in
      let l : count < length slots = omega (arith, k.room, ap length s) in
      record {
        written = put_turn slots count p.start (starts rest) l ∙ ap (put slots count) (sym s) ∙ k.written;
        room = simp length-set (omega (arith, k.room, ap length s));
        small = All-rest (λ p. p.start ≤ limit) p rest left turn k.small;
      }

  pub kept_err : is_ok p.answer ≡ false → Kept old slots count all rest
  kept_err e =
      let s = starts_err left rest p turn e in
      record {
        written = ap (put slots count) (sym s) ∙ k.written;
        room = omega (arith, k.room, ap length s);
        small = All-rest (λ p. p.start ≤ limit) p rest left turn k.small;
      }

  pub room_ok : is_ok p.answer ≡ true → count < length slots
  room_ok e = omega (arith, k.room, ap length (starts_ok left rest p turn e))

pub kept_end : {R : Type 0} {old slots all : List ℕ} {count : ℕ} {left : List (Piece R)} → left ≡ [] → Kept old slots count all left → slots ≡ put old 0 all
kept_end {R} {old} {slots} {all} {count} {left} e k = sym (ap (put slots count) (starts_none left e) ∙ put_none slots count) ∙ k.written

-- index building, by what was counted
pub index_large : {R : Type 0} (read : Bor (List ℕ) → Result R Refusal) (s : Bor (List ℕ)) → limit < length s.now → indexing read s ≡ Err (TooLarge (length s.now))
unfolding indexing
index_large read s h = simp (lt-ltb limit (length s.now) h)

-- a count is an answer of the tally
tallied_by : {R : Type 0} (ps : List (Piece R)) (b : Bool) → stopped ps ≡ b → (n : ℕ) → (if b then Err ZeroEntryLength else Ok (length (starts ps))) ≡ Ok n → (stopped ps ≡ false) × (length (starts ps) ≡ n)
tallied_by ps true e n h = cc
tallied_by ps false e n h = (e, cc)

pub tallied : {R : Type 0} (ps : List (Piece R)) (n : ℕ) → Ok n ≡ tally_of ps → (stopped ps ≡ false) × (length (starts ps) ≡ n)
unfolding tally_of
tallied ps n h = tallied_by ps (stopped ps) refl n (sym h)

refused_by : {R : Type 0} (ps : List (Piece R)) (b : Bool) → stopped ps ≡ b → (why : Refusal) → (if b then Err ZeroEntryLength else Ok (length (starts ps))) ≡ Err why → (stopped ps ≡ true) × (why ≡ ZeroEntryLength)
refused_by ps true e why h = (e, cc)
refused_by ps false e why h = cc

module _ {R : Type 0} (read : Bor (List ℕ) → Result R Refusal) (s : Bor (List ℕ)) (small : length s.now ≤ limit) where
  -- within the limit all goes by whether a piece is refused with 10
  index_by : (b : Bool) → stopped (pieces read s) ≡ b → indexing read s ≡ (if b then Err ZeroEntryLength else Ok (starts (pieces read s)))
  unfolding indexing
  index_by b e = simp (le-ltb limit (length s.now) small) (ap (λ (b : Bool). if b then Err ZeroEntryLength else Ok (starts (pieces read s))) e)

  pub index_zero : stopped (pieces read s) ≡ true → indexing read s ≡ Err ZeroEntryLength
  index_zero e = index_by true e

  pub index_starts : stopped (pieces read s) ≡ false → indexing read s ≡ Ok (starts (pieces read s))
  index_starts e = index_by false e

  pub index_stopped : (why : Refusal) → Err why ≡ tally_of (pieces read s) → indexing read s ≡ Err why
  unfolding tally_of
  index_stopped why e = let r = refused_by (pieces read s) (stopped (pieces read s)) refl why (sym e) in index_zero r.0 ∙ ap Err (sym r.1)
