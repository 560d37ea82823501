-- The theorems, proved.
use Rattle.std.proofs.Common.{ℕ, zero, suc, ◌+◌, ◌<◌, ◌≤◌, ◌≡◌, refl, sym, ap, ◌∙◌, Bool, true, false, List, [], ◌∷◌, length, arith, Bor}
use Rattle.std.specs.Prelude.{leb, map, Option, Some, None, Result, Ok, Err, if◌then◌else◌}
use Rattle.std.specs.Option.{option_map}
use borrow.Author.Tests.{le-ltb, eqb-true, eqb-false}
use Rattle.le.specs.Le.{le4}
use Rattle.part.specs.Slice.{part}
use Rattle.part.specs.Outcome.{and_then}
use Rattle.refusal.specs.Refusal.{limit}
use Rattle.refusal.specs.declared.Refusal.{Refusal}
use Rattle.entry.specs.Entry.{claim_at, claim_of}
use Rattle.entry.specs.declared.Claimed.{Claimed}
use Rattle.entry.specs.Walk.{stands, steps_from, steps, OneWalk}
use Rattle.entry.specs.Claims.{Claims, ended, large, short, beyond, entry}
use Rattle.entry.proofs.Claims.{meets, claims}
use Rattle.entry.proofs.Direct.{part_long, claims_own, own_again}
use Rattle.entry.proofs.Laws.{one_walk}
use Rattle.walk.specs.Step.{step_at}
use Rattle.walk.specs.Pieces.{piece_at, pieces_from, claim_there}
use Rattle.walk.proofs.Left.{none_left, piece_starts}
use Rattle.walk.specs.Theorems.{cursor_of, Reads, PiecesAreSteps, PiecesTellSteps, IsAsStep, ParsesAlone}

module _ {R : Type 0} (read : Bor (List ℕ) → Result R Refusal) where
  pub walk_is : OneWalk (step_at read) cursor_of
  unfolding step_at
  walk_is = one_walk (step_at read) cursor_of (λ s at. refl)

  end_stands : (s : Bor (List ℕ)) (at : ℕ) → stands s.now at ≡ true → (piece_at read s at).end ≡ length s.now
  unfolding piece_at
  end_stands s at f = simp f

  end_moves : (s : Bor (List ℕ)) (at : ℕ) → stands s.now at ≡ false → (piece_at read s at).end ≡ (claim_at s.now at).next
  unfolding piece_at
  end_moves s at f = simp f

  -- the pieces are those at the places where steps begin
  turn : (s : Bor (List ℕ)) (at most : ℕ) → ((at : ℕ) → pieces_from read s at most ≡ map (piece_at read s) (steps_from s.now at most))
      → (end stand : Bool) → leb (length s.now) at ≡ end → stands s.now at ≡ stand
      → (if end then [] else piece_at read s at ∷ pieces_from read s (piece_at read s at).end most)
      ≡ map (piece_at read s) (if end then [] else at ∷ (if stand then [] else steps_from s.now (claim_at s.now at).next most))
  turn s at most on true stand e f = refl
  turn s at most on false true e f = ap (λ l. piece_at read s at ∷ l) (none_left read s (piece_at read s at).end most (omega (arith, end_stands s at f)))
  turn s at most on false false e f = ap (λ l. piece_at read s at ∷ l) (simp (end_moves s at f) (on (claim_at s.now at).next))

  from : (s : Bor (List ℕ)) (at most : ℕ) → pieces_from read s at most ≡ map (piece_at read s) (steps_from s.now at most)
  unfolding pieces_from steps_from
  from s at zero = refl
  from s at (suc most) = turn s at most (λ at. from s at most) (leb (length s.now) at) (stands s.now at) refl refl

  pub pieces_are : PiecesAreSteps read
  unfolding steps
  pieces_are s = from s 0 (length s.now)

  module _ (header : ℕ) (length_of : R → ℕ) (four : 4 < header)
      (long : (e : Bor (List ℕ)) (r : R) → read e ≡ Ok r → length_of r ≡ length e.now)
      (room : (e : Bor (List ℕ)) (r : R) → read e ≡ Ok r → header ≤ length e.now)
      (s : Bor (List ℕ)) (at : ℕ) (r : R) where
    by_claim : (c : Option (Result ℕ Refusal)) → (claim_at s.now at).size ≡ c → option_map (λ claim. and_then claim (λ size. read (part s at size))) c ≡ Some (Ok r) → Reads header read length_of s at r
    unfolding step_at
    by_claim None e h = cc
    by_claim (Some (Err why)) e h = cc
    by_claim (Some (Ok size)) e h =
        let own : Bor (List ℕ) = part s at size in
        let m = meets s.now at size e in
        let l : length own.now ≡ size = part_long s at size m.room in
        let is : read own ≡ Ok r = cc in
        let n : length_of r ≡ size = long own r is ∙ l in
        let there : header ≤ size = omega (arith, room own r is, l) in
        let c = claims_own header s at size m (omega arith) there in
        let a = own_again header s at size m (omega arith) there in
        record {
          moves = m.next ∙ ap (λ (k : ℕ). at + k) (sym n);
          answers = simp (n, c, a, is);
        }

    pub reads : (step_at read s at).answer ≡ Some (Ok r) → Reads header read length_of s at r
    unfolding step_at
    reads h = by_claim (claim_at s.now at).size refl h

  answered : (s : Bor (List ℕ)) (at : ℕ) → at < length s.now → (c : Claimed) → Claims s.now at c
      → option_map (λ claim. and_then claim (λ size. read (part s at size))) c.size ≡ Some (and_then (claim_there c.size) (λ size. read (part s at size)))
  answered s at h c (ended a) = absurd (omega arith)
  answered s at h c (large a b) = refl
  answered s at h c (short a b d) = refl
  answered s at h c (beyond a b d e) = refl
  answered s at h c (entry a b d e) = refl

  by_stand : (s : Bor (List ℕ)) (at : ℕ) → at < length s.now → (b : Bool) → stands s.now at ≡ b → IsAsStep read s at
  unfolding step_at piece_at
  by_stand s at h true e = record {
    begins = piece_starts read s at;
    moves = λ m. absurd (omega (arith, eqb-true (claim_at s.now at).next at e));
    stays = λ m. simp e (refl, refl);
  }
  by_stand s at h false e = record {
    begins = piece_starts read s at;
    moves = λ m. simp e (answered s at h (claim_at s.now at) (claims s.now at), refl);
    stays = λ m. absurd (eqb-false (claim_at s.now at).next at e m);
  }

  pub pieces_tell : PiecesTellSteps read
  pieces_tell s at h = by_stand s at h (stands s.now at) refl

  module _ (header : ℕ) (four : 4 < header) (s : Bor (List ℕ)) (small : length s.now ≤ limit) (long : header ≤ le4 s.now 0) (there : le4 s.now 0 ≤ length s.now) where
    met : (c : Claimed) → Claims s.now 0 c → c.size ≡ Some (Ok (le4 s.now 0))
    met c (ended a) = absurd (omega arith)
    met c (large a b) = absurd (omega arith)
    met c (short a b d) = absurd (omega arith)
    met c (beyond a b d e) = absurd (omega arith)
    met c (entry a b d e) = refl

    claimed_whole : claim_of header s.now ≡ Ok (le4 s.now 0)
    unfolding claim_of
    claimed_whole = simp (le-ltb limit (length s.now) small, le-ltb (length s.now) header (omega arith), le-ltb (length s.now) (le4 s.now 0) there, le-ltb (le4 s.now 0) header long)

    pub behind_unread : ParsesAlone read header s
    behind_unread =
        let size : ℕ = le4 s.now 0 in
        let m = meets s.now 0 size (met (claim_at s.now 0) (claims s.now 0)) in
        record {
          alone = simp (claimed_whole, claims_own header s 0 size m (omega arith) long, own_again header s 0 size m (omega arith) long);
          reads = simp claimed_whole;
        }
