-- What stands in a block is read wherever the block stands, whatever follows it.
use Rattle.std.proofs.Common.{◌≡◌, ℕ, zero, suc, ◌+◌, ◌-◌, ◌<◌, ◌≤◌, Bool, true, false, List, [], ◌∷◌, ◌++◌, length, take, drop, get_or, Ok, Err, Result, refl, sym, ap, ap₂, ◌∙◌, arith, length-append, length-drop, Bor}
use Rattle.std.specs.Prelude.{None, Option, eqb, if◌then◌else◌}
use lib.Seq.{length-take-le, take-append-le, drop-append-le}
use lib.ListN.{get_or-append}
use borrow.Author.Tests.{le-ltb}
use Rattle.part.specs.Slice.{part, after}
use Rattle.part.proofs.Slice.{after_after, after_zero}
use Rattle.part.specs.Outcome.{outcome, and_then}
use Rattle.refusal.specs.EndBytes.{ended}
use Rattle.refusal.specs.declared.Refusal.{Refusal}
use Rattle.refusal.specs.declared.Refusal.TheVariants.{BadBlock}
use Rattle.attribute.specs.declared.AdsAttribute.{AdsAttribute}
use Rattle.attribute.specs.Attribute.{first_of, stopped, ends}
use Rattle.attribute.specs.Block.{good_of, exact}
use Rattle.attribute.specs.Told.{Told, told_of, IsRead, BlocksRead}
use Rattle.attribute.proofs.Laws.{listed_more, listed_none, after_more, after_none}

-- the two lengths at the start of some bytes, and the attribute that they place
abbrev pub n_of : Bor (List ℕ) → ℕ
n_of s = get_or s.now 0 0

abbrev pub v_of : Bor (List ℕ) → ℕ
v_of s = get_or s.now 1 0

abbrev pub here : Bor (List ℕ) → AdsAttribute × Bor (List ℕ)
here s = (record { name = part s 2 (n_of s); value = part s (n_of s + 3) (v_of s) }, after s (n_of s + v_of s + 4))

pub first_here : (s : Bor (List ℕ)) → n_of s + v_of s + 4 ≤ length s.now → first_of s ≡ Ok (here s)
unfolding first_of
first_here s h = simp (le-ltb (length s.now) 4 (omega arith), le-ltb (length s.now) (n_of s + v_of s + 4) h)

pub fits : (s : Bor (List ℕ)) (p : AdsAttribute × Bor (List ℕ)) → first_of s ≡ Ok p → n_of s + v_of s + 4 ≤ length s.now
unfolding first_of
fits s p h = grind arith

pub is_here : (s : Bor (List ℕ)) (p : AdsAttribute × Bor (List ℕ)) → first_of s ≡ Ok p → here s ≡ p
is_here s p h = let e : ◌≡◌ {A = Result (AdsAttribute × Bor (List ℕ)) Refusal} (Ok (here s)) (Ok p) = sym (first_here s (fits s p h)) ∙ h in cc

-- a good one: it is there, with its end bytes
pub record IsGood (s next : Bor (List ℕ)) : Type 0 where
  pub there : n_of s + v_of s + 4 ≤ length s.now
  pub next_is : (here s).1 ≡ next
  pub name : get_or s.now (2 + n_of s) 0 ≡ 0
  pub value : get_or s.now (n_of s + 3 + v_of s) 0 ≡ 0

pub two_ended : (x y : ℕ × ℕ) → ended (x ∷ y ∷ []) ≡ Ok tt → (x.1 ≡ 0) × (y.1 ≡ 0)
unfolding ended
two_ended x y h = grind arith

pub two_zero : (x y : ℕ × ℕ) (more : List (ℕ × ℕ)) → x.1 ≡ 0 → y.1 ≡ 0 → ended (x ∷ y ∷ more) ≡ ended more
unfolding ended
two_zero x y more h k = simp (h, k)

-- its name and value have the lengths that it says
pub length_name : (s : Bor (List ℕ)) → n_of s + v_of s + 4 ≤ length s.now → length (here s).0.name.now ≡ n_of s
length_name s h = length-take-le (n_of s) (drop 2 s.now) (simp length-drop (omega arith))

pub length_value : (s : Bor (List ℕ)) → n_of s + v_of s + 4 ≤ length s.now → length (here s).0.value.now ≡ v_of s
length_value s h = length-take-le (v_of s) (drop (n_of s + 3) s.now) (simp length-drop (omega arith))

-- the end bytes of the first, and then those of the others
pub ends_here : (s : Bor (List ℕ)) (at left : ℕ) → n_of s + v_of s + 4 ≤ length s.now
    → ends s at (suc left) ≡ (at + (2 + n_of s), get_or s.now (2 + n_of s) 0) ∷ (at + (2 + n_of s + 1 + v_of s), get_or s.now (2 + n_of s + 1 + v_of s) 0) ∷ ends (here s).1 (at + (2 + n_of s + 1 + v_of s) + 1) left
unfolding ends
ends_here s at left h = simp (first_here s h, length_name s h, length_value s h)

pub good_here : (s next : Bor (List ℕ)) → good_of s ≡ Ok next → IsGood s next
unfolding good_of ends
good_here s next h = by_first (first_of s) refl h
  where
    by_first : (w : Result (AdsAttribute × Bor (List ℕ)) Refusal) → first_of s ≡ w → and_then w (λ p. and_then (ended (ends s 0 1)) (λ _. Ok p.1)) ≡ Ok next → IsGood s next
    by_first (Err why) e k = cc
    by_first (Ok p) e k = by_ends (ended (ends s 0 1)) refl k
      where
        by_ends : (t : Result Unit Refusal) → ended (ends s 0 1) ≡ t → and_then t (λ _. Ok p.1) ≡ Ok next → IsGood s next
        by_ends (Err why) f l = cc
        by_ends (Ok u) f l =
            let t = fits s p e in
            let z = two_ended _ _ (sym (ap ended (ends_here s 0 0 t)) ∙ f) in
            record { there = t; next_is = ap (λ q. q.1) (is_here s p e) ∙ cc l; name = z.0; value = ap (λ (k : ℕ). get_or s.now k 0) (omega arith) ∙ z.1 }

-- bytes that begin as others do
module _ (s b : Bor (List ℕ)) (more : List ℕ) (e : s.now ≡ b.now ++ more) where
  byte : (k : ℕ) → k < length b.now → get_or s.now k 0 ≡ get_or b.now k 0
  byte k h = ap (λ (l : List ℕ). get_or l k 0) e ∙ get_or-append b.now more 0 k h

  rest_now : (k : ℕ) → k ≤ length b.now → drop k s.now ≡ drop k b.now ++ more
  rest_now k h = ap (drop k) e ∙ drop-append-le k b.now more h

  part_now : (k n : ℕ) → k + n ≤ length b.now → take n (drop k s.now) ≡ take n (drop k b.now)
  part_now k n h = ap (take n) (rest_now k (omega arith)) ∙ take-append-le n (drop k b.now) more (simp length-drop (omega arith))

  longer : length s.now ≡ length b.now + length more
  longer = ap length e ∙ length-append b.now more

  -- what is there at the start of the one is at the start of the other, and the rest of the one begins as the rest of the other
  module _ (there : n_of b + v_of b + 4 ≤ length b.now) where
    same_n : n_of s ≡ n_of b
    same_n = byte 0 (omega arith)

    same_v : v_of s ≡ v_of b
    same_v = byte 1 (omega arith)

    pub there_too : n_of s + v_of s + 4 ≤ length s.now
    there_too = let n = same_n in let v = same_v in let l = longer in omega (arith, n, v, l)

    pub same_told : told_of (here s).0 ≡ told_of (here b).0
    same_told = rw (same_n, same_v) (ap₂ (λ (x y : List ℕ). record { name = x; value = y }) (part_now 2 (n_of b) (omega arith)) (part_now (n_of b + 3) (v_of b) (omega arith)))

    pub same_rest : (here s).1.now ≡ (here b).1.now ++ more
    same_rest = rw (same_n, same_v) (rest_now (n_of b + v_of b + 4) there)

either_none : (b : Bool) (x : Option Refusal) → x ≡ None → (if b then None else x) ≡ None
either_none true x h = refl
either_none false x h = h

stopped_here : (s : Bor (List ℕ)) (left : ℕ) → n_of s + v_of s + 4 ≤ length s.now → stopped (here s).1 left ≡ None → stopped s (suc left) ≡ None
unfolding stopped
stopped_here s left h k = simp (first_here s h) (either_none (eqb (length (here s).1.now) 0) (stopped (here s).1 left) k)

-- so many, and the attribute before them
read_more : (s b : Bor (List ℕ)) (more : List ℕ) (left : ℕ) → s.now ≡ b.now ++ more → IsGood b (here b).1 → IsRead left (here b).1 (here s).1 → IsRead (suc left) b s
read_more s b more left e g r =
    let t = there_too s b more e g.there in
    let f = first_here s t in
    let n : get_or s.now (2 + n_of s) 0 ≡ 0 = ap (λ (k : ℕ). get_or s.now (2 + k) 0) (same_n s b more e g.there) ∙ byte s b more e (2 + n_of b) (omega (arith, g.there)) ∙ g.name in
    let v : get_or s.now (2 + n_of s + 1 + v_of s) 0 ≡ 0 =
    ap₂ (λ (k m : ℕ). get_or s.now (2 + k + 1 + m) 0) (same_n s b more e g.there) (same_v s b more e g.there) ∙ ap (λ (k : ℕ). get_or s.now k 0) (omega arith)
    ∙ byte s b more e (n_of b + 3 + v_of b) (omega (arith, g.there)) ∙ g.value in
    let k : n_of s + v_of s + 4 + length (here b).1.now ≡ length b.now =
    ap₂ (λ (k m : ℕ). k + m + 4 + length (here b).1.now) (same_n s b more e g.there) (same_v s b more e g.there) ∙ ap (λ (m : ℕ). n_of b + v_of b + 4 + m) (length-drop (n_of b + v_of b + 4) b.now) ∙ omega (arith, g.there) in
    record {
      tells = simp (listed_more s left (here s) f, listed_more b left (here b) (first_here b g.there)) (ap₂ (λ (x : Told) (xs : List Told). x ∷ xs) (same_told s b more e g.there) r.tells);
      long = simp (listed_more s left (here s) f) (ap suc r.long);
      rest = after_more s left (here s) f ∙ r.rest ∙ after_after s (n_of s + v_of s + 4) (length (here b).1.now) ∙ ap (after s) k;
      whole = stopped_here s left t r.whole;
      ended = λ at. ap ended (ends_here s at left t) ∙ two_zero _ _ _ n v ∙ r.ended (at + (2 + n_of s + 1 + v_of s) + 1);
    }

read_none : (s b : Bor (List ℕ)) → length b.now ≡ 0 → IsRead 0 b s
unfolding stopped ends ended
read_none s b h = record {
  tells = simp (listed_none s, listed_none b) refl;
  long = simp (listed_none s) refl;
  rest = after_none s ∙ after_zero s ∙ ap (after s) (sym h);
  whole = refl;
  ended = λ at. refl;
}

pub nothing_left : (x count : ℕ) → ◌≡◌ {A = Result Unit Refusal} (if eqb x 0 then Ok tt else Err (BadBlock count count)) (Ok tt) → x ≡ 0
nothing_left x count h = grind arith

pub exact_none : (b : Bor (List ℕ)) (count : ℕ) → exact b count 0 ≡ Ok tt → length b.now ≡ 0
unfolding exact
exact_none b count h = nothing_left (length b.now) count h

pub exact_more : (b : Bor (List ℕ)) (count left : ℕ) → exact b count (suc left) ≡ Ok tt → IsGood b (here b).1 × (exact (here b).1 count left ≡ Ok tt)
unfolding exact
exact_more b count left h = by_good (good_of b) refl h
  where
    by_good : (w : Result (Bor (List ℕ)) Refusal) → good_of b ≡ w → outcome w (λ next. exact next count left) (λ why. Err (BadBlock count (count - suc left))) ≡ Ok tt → IsGood b (here b).1 × (exact (here b).1 count left ≡ Ok tt)
    by_good (Err why) e k = cc
    by_good (Ok next) e k =
        let g = good_here b next e in
        (record { there = g.there; next_is = refl; name = g.name; value = g.value }, ap (λ (q : Bor (List ℕ)). exact q count left) g.next_is ∙ k)

read_of : (left count : ℕ) (b s : Bor (List ℕ)) (more : List ℕ) → exact b count left ≡ Ok tt → s.now ≡ b.now ++ more → IsRead left b s
read_of zero count b s more h e = read_none s b (exact_none b count h)
read_of (suc left) count b s more h e =
    let g = exact_more b count left h in
    read_more s b more left e g.0 (read_of left count (here b).1 (here s).1 more g.1 (same_rest s b more e g.0.there))

pub blocks_read : BlocksRead
blocks_read count b s more h e = read_of count count b s more h e
