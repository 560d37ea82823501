-- Accepted entries, wherever they stand: what a step tells of each, and what the walk and a salvage make of nothing but such entries.
use Rattle.std.proofs.Common.{ℕ, zero, suc, ◌+◌, ◌-◌, ◌<◌, ◌≤◌, ◌≡◌, refl, sym, ap, ◌∙◌, Bool, true, false, List, [], ◌∷◌, ◌++◌, length, arith, Bor, Result, length-append, append_assoc}
use native.Mathlib.Nat.{suc-add}
use mathlib.Core.List.{append-nil}
use Rattle.std.specs.Prelude.{Option, Some, None, Ok, Err, is_ok}
use borrow.Author.Tests.{ne_eqb}
use Rattle.le.specs.Le as le
use Rattle.le.proofs.Inside.{part_whole}
use Rattle.le.proofs.Laws.{not_both}
use Rattle.part.specs.Slice.{part}
use Rattle.part.specs.Outcome.{and_then}
use Rattle.refusal.specs.Refusal.{limit}
use Rattle.refusal.specs.declared.Refusal.{Refusal}
use Rattle.entry.specs.Entry.{claim_at}
use Rattle.entry.specs.Walk.{stands}
use Rattle.entry.proofs.Claims.{Meets, meets}
use Rattle.entry.proofs.Direct.{part_long, own_claim}
use Rattle.walk.specs.Mapped.{map_ok}
use Rattle.walk.specs.Step.{step_at}
use Rattle.walk.specs.Pieces.{piece_at, pieces_from, claim_there}
use Rattle.walk.proofs.Left.{one_left, none_left}
use Rattle.regrown.specs.Regrown.{Tells, Entry, End, lying}
use Rattle.regrown.specs.Tells.{tells}
use Rattle.regrown.proofs.Whole.{Whole, claim_whole}
use Rattle.regrown.proofs.Walked.{told_from, tells_end, tells_entry}
use Rattle.salvage.specs.Salvage.{kept, dropped}

pub back_of : {R S : Type 0} (told : R → S) (t : Result R Refusal) (x : S) → map_ok told t ≡ Ok x → (r : R) × (t ≡ Ok r) × (told r ≡ x)
back_of told (Ok r) x h = (r, refl, cc)
back_of told (Err why) x h = cc

module _ {R S : Type 0} (read : Bor (List ℕ) → Result R Refusal) (length_of : R → ℕ) (told : R → S) (header : ℕ) (four : 4 < header)
    (long : (e : Bor (List ℕ)) (r : R) → read e ≡ Ok r → length_of r ≡ length e.now)
    (room : (e : Bor (List ℕ)) (r : R) → read e ≡ Ok r → header ≤ length e.now)
    (alike : (e f : Bor (List ℕ)) → e.now ≡ f.now → map_ok told (read e) ≡ map_ok told (read f)) where
  -- the bytes of an entry that claims just these and that is accepted wherever it lies
  pub record Good : Type 0 where
    pub bytes : List ℕ
    pub whole : Whole bytes
    pub tells : S
    pub reads : (e : Bor (List ℕ)) → e.now ≡ bytes → (r : R) × (read e ≡ Ok r) × (told r ≡ tells)

  -- an accepted place of an upload: the claim there, and the record
  pub record Here (s : Bor (List ℕ)) (at : ℕ) : Type 0 where
    pub size : ℕ
    pub back : R
    pub claim : (claim_at s.now at).size ≡ Some (Ok size)
    pub is : read (part s at size) ≡ Ok back

  module _ (s : Bor (List ℕ)) (at : ℕ) where
    module _ (x : Here s at) where
      pub met : Meets s.now at x.size
      met = meets s.now at x.size x.claim

      pub own_long : length (part s at x.size).now ≡ x.size
      own_long = part_long s at x.size met.room

      pub large : 4 < x.size
      large = omega (arith, room (part s at x.size) x.back x.is, own_long)

      pub moves : stands s.now at ≡ false
      moves = ne_eqb (claim_at s.now at).next at (λ (z : (claim_at s.now at).next ≡ at). omega (arith, met.next, z, large))

      pub told_here : tells length_of told (step_at read s at) ≡ Entry (told x.back) x.size (at + x.size)
      unfolding step_at
      told_here =
          let l : length_of x.back ≡ x.size = long (part s at x.size) x.back x.is ∙ own_long in
          simp (x.claim, met.next, x.is, l)

      pub piece_here : piece_at read s at ≡ record { start = at; end = at + x.size; answer = Ok x.back }
      unfolding piece_at
      piece_here = simp moves (simp (x.claim, met.next, x.is))

      unfoldable pub good_here : Good
      unfolding le.part
      good_here = record {
        bytes = (part s at x.size).now;
        whole = record { claims = own_claim s.now at x.size (omega (arith, large)) ∙ met.claim ∙ sym own_long; long = omega (arith, large, own_long) };
        tells = told x.back;
        reads = λ e h. back_of told (read e) (told x.back) (alike e (part s at x.size) h ∙ ap (map_ok told) x.is);
      }

    by_read : (size : ℕ) (t : Result R Refusal) → (claim_at s.now at).size ≡ Some (Ok size) → read (part s at size) ≡ t → is_ok t ≡ true → Here s at
    by_read size (Ok r) e h k = record { size = size; back = r; claim = e; is = h }
    by_read size (Err why) e h k = absurd (not_both k refl)

    by_claim : (c : Option (Result ℕ Refusal)) → (claim_at s.now at).size ≡ c → is_ok (and_then (claim_there c) (λ size. read (part s at size))) ≡ true → Here s at
    by_claim None e k = absurd (not_both k refl)
    by_claim (Some (Err why)) e k = absurd (not_both k refl)
    by_claim (Some (Ok size)) e k = by_read size (read (part s at size)) e refl k

    by_stand : (b : Bool) → stands s.now at ≡ b → is_ok (piece_at read s at).answer ≡ true → Here s at
    unfolding piece_at
    by_stand true e k = absurd (not_both k (simp e))
    by_stand false e k = by_claim (claim_at s.now at).size refl (simp e at k)

    pub here : is_ok (piece_at read s at).answer ≡ true → Here s at
    here k = by_stand (stands s.now at) refl k

  -- entries one after another, and what is told of them from a place on
  unfoldable pub joined : List Good → List ℕ
  joined [] = []
  joined (g ∷ gs) = g.bytes ++ joined gs

  unfoldable pub laid : ℕ → List Good → List (Tells S)
  laid at [] = End at ∷ []
  laid at (g ∷ gs) = Entry g.tells (length g.bytes) (at + length g.bytes) ∷ laid (at + length g.bytes) gs

  module _ (m : ℕ × ℕ) where
    -- the walk over nothing but accepted entries tells their records, and then the end
    pub walk_laid : (p : List ℕ) (gs : List Good) → length (p ++ joined gs) ≤ limit → (spare : ℕ) → told_from read length_of told m (p ++ joined gs) (length p) (suc (length gs + spare)) ≡ laid (length p) gs
    unfolding joined laid
    walk_laid p [] h spare = tells_end read length_of told m (p ++ []) (length p) (zero + spare) (simp append-nil (omega arith))
    walk_laid p (g ∷ gs) h spare =
        let each : (own : Bor (List ℕ)) (n : ℕ) → own.now ≡ g.bytes → tells length_of told (record { answer = Some (read own); cursor = record { at = n } }) ≡ Entry g.tells (length g.bytes) n =
        λ own n e. let b = g.reads own e in let l : length_of b.0 ≡ length g.bytes = long own b.0 b.1 ∙ ap length e in simp (b.1, l, b.2) in
        let ih = simp (append_assoc, length-append) at (walk_laid (p ++ g.bytes) gs (rw append_assoc h) spare) in
        tells_entry read length_of told m p g.bytes (joined gs) (suc (length gs) + spare) g.tells g.whole h each ∙ simp (suc-add, ih)

    -- a place where an accepted entry stands is accepted, and the entry is its piece
    module _ (p : List ℕ) (g : Good) (q : List ℕ) (h : length (p ++ (g.bytes ++ q)) ≤ limit) where
      abbrev all : Bor (List ℕ)
      all = lying m (p ++ (g.bytes ++ q))

      own_there : (part all (length p) (length g.bytes)).now ≡ g.bytes
      unfolding le.part
      own_there = part_whole p g.bytes q

      pub there : Here all (length p)
      there =
          let b = g.reads (part all (length p) (length g.bytes)) own_there in
          record { size = length g.bytes; back = b.0; claim = ap (λ c. c.size) (claim_whole p g.bytes q g.whole h); is = b.1 }

      before : length p < length all.now
      before = simp length-append (omega (arith, g.whole.long))

      -- what is left there is the entry's piece, and what is left behind it
      pub left_there : pieces_from read all (length p) (length all.now - length p) ≡ record { start = length p; end = length p + length g.bytes; answer = Ok there.back } ∷ pieces_from read all (length p + length g.bytes) (length all.now - (length p + length g.bytes))
      unfolding there
      left_there =
          let e = piece_here all (length p) there in
          rw e at (one_left read all (length p) before)

      kept_there : kept all.now (pieces_from read all (length p) (length all.now - length p)) ≡ g.bytes ++ kept all.now (pieces_from read all (length p + length g.bytes) (length all.now - (length p + length g.bytes)))
      unfolding kept
      kept_there =
          let n : length p + length g.bytes - length p ≡ length g.bytes = omega arith in
          rw left_there (simp (n, part_whole p g.bytes q))

      dropped_there : dropped (pieces_from read all (length p) (length all.now - length p)) ≡ dropped (pieces_from read all (length p + length g.bytes) (length all.now - (length p + length g.bytes)))
      unfolding dropped
      dropped_there = rw left_there refl

    -- a salvage of nothing but accepted entries keeps all of them and drops nothing
    pub all_kept : (p : List ℕ) (gs : List Good) → length (p ++ joined gs) ≤ limit → kept (p ++ joined gs) (pieces_from read (lying m (p ++ joined gs)) (length p) (length (p ++ joined gs) - length p)) ≡ joined gs
    unfolding joined kept
    all_kept p [] h = rw (none_left read (lying m (p ++ [])) (length p) (length (p ++ []) - length p) (simp append-nil (omega arith))) refl
    all_kept p (g ∷ gs) h =
        let ih = simp (append_assoc, length-append p g.bytes) at (all_kept (p ++ g.bytes) gs (rw append_assoc h)) in
        kept_there p g (joined gs) h ∙ ap (λ (l : List ℕ). g.bytes ++ l) ih

    pub none_dropped : (p : List ℕ) (gs : List Good) → length (p ++ joined gs) ≤ limit → dropped (pieces_from read (lying m (p ++ joined gs)) (length p) (length (p ++ joined gs) - length p)) ≡ []
    unfolding joined dropped
    none_dropped p [] h = rw (none_left read (lying m (p ++ [])) (length p) (length (p ++ []) - length p) (simp append-nil (omega arith))) refl
    none_dropped p (g ∷ gs) h =
        let ih = simp (append_assoc, length-append p g.bytes) at (none_dropped (p ++ g.bytes) gs (rw append_assoc h)) in
        dropped_there p g (joined gs) h ∙ ih
