-- What stands in a block is read wherever the block stands, whatever follows it.
use Rattle.std.proofs.Common.{◌≡◌, ℕ, zero, suc, ◌+◌, ◌-◌, ◌*◌, ◌<◌, ◌≤◌, Bool, true, false, List, ◌∷◌, ◌++◌, length, take, drop, get_or, Ok, Err, Result, refl, sym, ap, ap₂, ◌∙◌, arith, length-append, length-drop, Bor}
use Rattle.std.specs.Prelude.{Some, None, Option, eqb, ltb, bit_and, if◌then◌else◌}
use native.Mathlib.Nat.{zero-add}
use lib.Seq.{length-take-le, take-append-le, drop-append-le}
use lib.ListN.{get_or-append}
use borrow.Author.Tests.{eqb-true, le-ltb, lt-ltb}
use Rattle.std.specs.Bool.{beq}
use Rattle.std.specs.Cmp.{booleans_Decides}
use Rattle.le.specs.Le.{le2, le4, has}
use Rattle.part.specs.Slice.{part, after}
use Rattle.part.proofs.Slice.{after_after}
use Rattle.part.specs.Outcome.{outcome}
use Rattle.refusal.specs.EndBytes.{ended}
use Rattle.refusal.specs.declared.Refusal.{Refusal}
use Rattle.refusal.specs.declared.Refusal.TheVariants.{BadBlock}
use Rattle.refactor.specs.declared.AdsRefactorInfo.{AdsRefactorInfo}
use Rattle.refactor.specs.Refactor.{mask, follower, first_of, listed, chained, ends_from}
use Rattle.refactor.specs.Block.{is_good, good_of, by_good, exact}
use Rattle.refactor.specs.Told.{Told, told_of, told, BlocksRead}

-- the length at the start of some bytes, and the record that it places
abbrev pub n_of : Bor (List ℕ) → ℕ
n_of s = le2 s.now 4

abbrev pub here : Bor (List ℕ) → AdsRefactorInfo × Bor (List ℕ)
here s = (record { refactor_count = bit_and (le4 s.now 0) mask; next_refactor_info = has (le4 s.now 0) follower; name = part s 6 (n_of s) }, after s (n_of s + 7))

pub first_here : (s : Bor (List ℕ)) → n_of s + 7 ≤ length s.now → first_of s ≡ Ok (here s)
unfolding first_of
first_here s h = simp (le-ltb (length s.now) 7 (omega arith), le-ltb (length s.now) (n_of s + 7) h)

pub fits : (s : Bor (List ℕ)) (p : AdsRefactorInfo × Bor (List ℕ)) → first_of s ≡ Ok p → n_of s + 7 ≤ length s.now
unfolding first_of
fits s p h = grind arith

pub is_here : (s : Bor (List ℕ)) (p : AdsRefactorInfo × Bor (List ℕ)) → first_of s ≡ Ok p → here s ≡ p
is_here s p h = let e : ◌≡◌ {A = Result (AdsRefactorInfo × Bor (List ℕ)) Refusal} (Ok (here s)) (Ok p) = sym (first_here s (fits s p h)) ∙ h in cc

-- a good one: it is there, tells rightly whether another follows, with nothing else packed, and has its end byte
pub record IsGood (s next : Bor (List ℕ)) (follows : Bool) : Type 0 where
  pub there : n_of s + 7 ≤ length s.now
  pub next_is : (here s).1 ≡ next
  pub packed : le4 s.now 0 ≡ (here s).0.refactor_count
  pub followed : (here s).0.next_refactor_info ≡ follows
  pub end : get_or s.now (6 + n_of s) 0 ≡ 0

-- its name has the length that it says
pub length_name : (s : Bor (List ℕ)) → n_of s + 7 ≤ length s.now → length (here s).0.name.now ≡ n_of s
length_name s h = length-take-le (n_of s) (drop 6 s.now) (simp length-drop (omega arith))

pub good_here : (s next : Bor (List ℕ)) (follows : Bool) → good_of s follows ≡ Some next → IsGood s next follows
unfolding good_of
good_here s next follows h = by_first (first_of s) refl h
  where
    by_first : (w : Result (AdsRefactorInfo × Bor (List ℕ)) Refusal) → first_of s ≡ w → outcome w (λ p. if is_good s p.0 follows then Some p.1 else None) (λ why. None) ≡ Some next → IsGood s next follows
    by_first (Err why) e k = cc
    by_first (Ok p) e k = by_packed (eqb (le4 s.now 0) p.0.refactor_count) refl (beq p.0.next_refactor_info follows) refl (eqb (get_or s.now (6 + length p.0.name.now) 0) 0) refl k
      where
        by_packed : (a : Bool) → eqb (le4 s.now 0) p.0.refactor_count ≡ a → (b : Bool) → beq p.0.next_refactor_info follows ≡ b → (c : Bool) → eqb (get_or s.now (6 + length p.0.name.now) 0) 0 ≡ c
            → (if (if a then if b then c else false else false) then Some p.1 else None) ≡ Some next → IsGood s next follows
        by_packed true a true b true c l =
            let t = fits s p e in
            let i = is_here s p e in
            let n : length p.0.name.now ≡ n_of s = ap (λ q. length q.0.name.now) (sym i) ∙ length_name s t in
            record {
              there = t;
              next_is = ap (λ q. q.1) i ∙ cc l;
              packed = eqb-true _ _ a ∙ ap (λ q. q.0.refactor_count) (sym i);
              followed = ap (λ q. q.0.next_refactor_info) i ∙ (booleans_Decides _ _).0 b;
              end = ap (λ (k : ℕ). get_or s.now (6 + k) 0) (sym n) ∙ eqb-true _ _ c;
            }
        by_packed true a true b false c l = cc
        by_packed true a false b z c l = cc
        by_packed false a y b z c l = cc

-- bytes that begin as others do
module _ (s b : Bor (List ℕ)) (more : List ℕ) (e : s.now ≡ b.now ++ more) where
  byte : (k : ℕ) → k < length b.now → get_or s.now k 0 ≡ get_or b.now k 0
  byte k h = ap (λ (l : List ℕ). get_or l k 0) e ∙ get_or-append b.now more 0 k h

  rest_now : (k : ℕ) → k ≤ length b.now → drop k s.now ≡ drop k b.now ++ more
  rest_now k h = ap (drop k) e ∙ drop-append-le k b.now more h

  part_now : (k n : ℕ) → k + n ≤ length b.now → take n (drop k s.now) ≡ take n (drop k b.now)
  part_now k n h = ap (take n) (rest_now k (omega arith)) ∙ take-append-le n (drop k b.now) more (simp length-drop (omega arith))

  longer : length s.now ≡ length b.now + length more
  longer = ap length e ∙ length-append b.now more

  -- what is there at the start of the one is at the start of the other, and the rest of the one begins as the rest of the other
  module _ (there : n_of b + 7 ≤ length b.now) where
    same_n : n_of s ≡ n_of b
    unfolding le2
    same_n = ap₂ (λ (x y : ℕ). x + y * 256) (byte 4 (omega arith)) (byte 5 (omega arith))

    same_packed : le4 s.now 0 ≡ le4 b.now 0
    unfolding le4
    same_packed = rw (byte 0 (omega arith), byte 1 (omega arith), byte 2 (omega arith), byte 3 (omega arith)) refl

    there_too : n_of s + 7 ≤ length s.now
    there_too = let n = same_n in let l = longer in omega (arith, n, l)

    same_told : told_of (here s).0 ≡ told_of (here b).0
    same_told = rw (same_n, same_packed) (ap (λ (x : List ℕ). record { count = bit_and (le4 b.now 0) mask; followed = has (le4 b.now 0) follower; name = x }) (part_now 6 (n_of b) (omega arith)))

    same_rest : (here s).1.now ≡ (here b).1.now ++ more
    same_rest = rw same_n (rest_now (n_of b + 7) there)

    same_end : get_or s.now (6 + n_of s) 0 ≡ get_or b.now (6 + n_of b) 0
    same_end = rw same_n (byte (6 + n_of b) (omega arith))

    same_length : n_of s + 7 + length (here b).1.now ≡ length b.now
    same_length = rw same_n (ap (λ (m : ℕ). n_of b + 7 + m) (length-drop (n_of b + 7) b.now) ∙ omega arith)

-- a turn of a list, and of a chain and its end bytes: one that another follows, and the last
pub listed_here : (s : Bor (List ℕ)) (left : ℕ) → n_of s + 7 ≤ length s.now → listed s (suc left) ≡ (here s).0 ∷ listed (here s).1 left
unfolding listed
listed_here s left h = simp (first_here s h)

chain_on : (s : Bor (List ℕ)) (c f : ℕ) → n_of s + 7 ≤ length s.now → (here s).0.next_refactor_info ≡ true → 0 < f → chained s c f ≡ chained (here s).1 (c + 1) (f - 1)
unfolding chained
chain_on s c zero h k l = absurd (omega arith)
chain_on s c (suc f) h k l = simp (first_here s h, k) (ap (chained (here s).1 (c + 1)) (omega arith))

chain_last : (s : Bor (List ℕ)) (c f : ℕ) → n_of s + 7 ≤ length s.now → (here s).0.next_refactor_info ≡ false → 0 < f → chained s c f ≡ Ok (c + 1, (here s).1)
unfolding chained
chain_last s c zero h k l = absurd (omega arith)
chain_last s c (suc f) h k l = simp (first_here s h, k)

one_zero : (x : ℕ × ℕ) (more : List (ℕ × ℕ)) → x.1 ≡ 0 → ended (x ∷ more) ≡ ended more
unfolding ended
one_zero x more h = simp h

ends_on : (s : Bor (List ℕ)) (at f : ℕ) → n_of s + 7 ≤ length s.now → (here s).0.next_refactor_info ≡ true → get_or s.now (6 + n_of s) 0 ≡ 0 → 0 < f
    → ended (ends_from s at f) ≡ ended (ends_from (here s).1 (at + (6 + n_of s) + 1) (f - 1))
unfolding ends_from
ends_on s at zero h k z l = absurd (omega arith)
ends_on s at (suc f) h k z l = simp (first_here s h, k, length_name s h) (one_zero (at + (6 + n_of s), get_or s.now (6 + n_of s) 0) (ends_from (here s).1 (at + (6 + n_of s) + 1) f) z ∙ ap (λ (m : ℕ). ended (ends_from (here s).1 (at + (6 + n_of s) + 1) m)) (omega arith))

ends_last : (s : Bor (List ℕ)) (at f : ℕ) → n_of s + 7 ≤ length s.now → (here s).0.next_refactor_info ≡ false → get_or s.now (6 + n_of s) 0 ≡ 0 → 0 < f → ended (ends_from s at f) ≡ Ok tt
unfolding ends_from ended
ends_last s at zero h k z l = absurd (omega arith)
ends_last s at (suc f) h k z l = simp (first_here s h, k, length_name s h, z)

-- so many records, with the chain that they are from any fuel on
record Run (left : ℕ) (b s : Bor (List ℕ)) : Type 0 where
  tells : told (listed s left) ≡ told (listed b left)
  long : length (listed s left) ≡ left
  small : left ≤ length b.now
  chain : (c f : ℕ) → 0 < left → left ≤ f → chained s c f ≡ Ok (c + left, after s (length b.now))
  ends_zero : (at f : ℕ) → 0 < left → left ≤ f → ended (ends_from s at f) ≡ Ok tt

run_none : (s b : Bor (List ℕ)) → Run 0 b s
unfolding listed
run_none s b = record { tells = refl; long = refl; small = omega arith; chain = λ c f h k. absurd (omega arith); ends_zero = λ at f h k. absurd (omega arith) }

by_left : (s b : Bor (List ℕ)) (left : ℕ) → n_of s + 7 ≤ length s.now → (here s).0.next_refactor_info ≡ ltb 0 left → (left ≡ 0 → length (here b).1.now ≡ 0) → n_of s + 7 + length (here b).1.now ≡ length b.now
    → Run left (here b).1 (here s).1 → (c f : ℕ) → 0 < suc left → suc left ≤ f → chained s c f ≡ Ok (c + suc left, after s (length b.now))
by_left s b zero t g z l r c f h k =
    let m : n_of s + 7 ≡ length b.now = omega (arith, z refl, l) in
    chain_last s c f t g (omega arith) ∙ ap₂ (λ (x y : ℕ). Ok (x, after s y)) (omega arith) m
by_left s b (suc left) t g z l r c f h k =
    chain_on s c f t (g ∙ lt-ltb 0 (suc left) (omega arith)) (omega arith) ∙ r.chain (c + 1) (f - 1) (omega arith) (omega arith)
    ∙ ap₂ (λ (x : ℕ) (y : Bor (List ℕ)). Ok (x, y)) (omega arith) (after_after s (n_of s + 7) (length (here b).1.now) ∙ ap (after s) l)

by_ends : (s b : Bor (List ℕ)) (left : ℕ) → n_of s + 7 ≤ length s.now → (here s).0.next_refactor_info ≡ ltb 0 left → get_or s.now (6 + n_of s) 0 ≡ 0
    → Run left (here b).1 (here s).1 → (at f : ℕ) → 0 < suc left → suc left ≤ f → ended (ends_from s at f) ≡ Ok tt
by_ends s b zero t g z r at f h k = ends_last s at f t g z (omega arith)
by_ends s b (suc left) t g z r at f h k =
    ends_on s at f t (g ∙ lt-ltb 0 (suc left) (omega arith)) z (omega arith) ∙ r.ends_zero (at + (6 + n_of s) + 1) (f - 1) (omega arith) (omega arith)

run_more : (s b : Bor (List ℕ)) (more : List ℕ) (left : ℕ) → s.now ≡ b.now ++ more → IsGood b (here b).1 (ltb 0 left) → (left ≡ 0 → length (here b).1.now ≡ 0)
    → Run left (here b).1 (here s).1 → Run (suc left) b s
run_more s b more left e g z r =
    let t = there_too s b more e g.there in
    let w : (here s).0.next_refactor_info ≡ ltb 0 left = ap (λ (x : ℕ). has x follower) (same_packed s b more e g.there) ∙ g.followed in
    let l = same_length s b more e g.there in
    let n = same_n s b more e g.there in
    record {
      tells = simp (listed_here s left t, listed_here b left g.there) (ap₂ (λ (x : Told) (xs : List Told). x ∷ xs) (same_told s b more e g.there) r.tells);
      long = simp (listed_here s left t) (ap suc r.long);
      small = let m = r.small in omega (arith, m, l, n);
      chain = by_left s b left t w z l r;
      ends_zero = by_ends s b left t w (same_end s b more e g.there ∙ g.end) r;
    }

nothing_left : (x count : ℕ) → ◌≡◌ {A = Result Unit Refusal} (if eqb x 0 then Ok tt else Err (BadBlock count count)) (Ok tt) → x ≡ 0
nothing_left x count h = grind arith

pub exact_none : (b : Bor (List ℕ)) (count : ℕ) → exact b count 0 ≡ Ok tt → length b.now ≡ 0
unfolding exact
exact_none b count h = nothing_left (length b.now) count h

pub exact_more : (b : Bor (List ℕ)) (count left : ℕ) → exact b count (suc left) ≡ Ok tt → IsGood b (here b).1 (ltb 0 left) × (exact (here b).1 count left ≡ Ok tt)
unfolding exact
exact_more b count left h = by_first (good_of b (ltb 0 left)) refl h
  where
    by_first : (w : Option (Bor (List ℕ))) → good_of b (ltb 0 left) ≡ w → by_good w (λ next. exact next count left) (Err (BadBlock count (count - suc left))) ≡ Ok tt
        → IsGood b (here b).1 (ltb 0 left) × (exact (here b).1 count left ≡ Ok tt)
    by_first None e k = cc
    by_first (Some next) e k =
        let g = good_here b next (ltb 0 left) e in
        (record { there = g.there; next_is = refl; packed = g.packed; followed = g.followed; end = g.end }, ap (λ (q : Bor (List ℕ)). exact q count left) g.next_is ∙ k)

run_of : (left count : ℕ) (b s : Bor (List ℕ)) (more : List ℕ) → exact b count left ≡ Ok tt → s.now ≡ b.now ++ more → Run left b s
run_of zero count b s more h e = run_none s b
run_of (suc left) count b s more h e =
    let g = exact_more b count left h in
    run_more s b more left e g.0
    (λ z. exact_none (here b).1 count (ap (exact (here b).1 count) (sym z) ∙ g.1))
    (run_of left count (here b).1 (here s).1 more g.1 (same_rest s b more e g.0.there))

pub blocks_read : BlocksRead
blocks_read count b s more h e =
    let r = run_of count count b s more h e in
    let l : length s.now ≡ length b.now + length more = ap length e ∙ length-append b.now more in
    let f : count ≤ length s.now = let m = r.small in omega (arith, m, l) in
    record { tells = r.tells; long = r.long; chain = λ k. r.chain 0 (length s.now) k f ∙ ap (λ (x : ℕ). Ok (x, after s (length b.now))) (zero-add count); ended = λ k place. r.ends_zero place (length s.now) k f }
