-- Why a list of attributes ends: proved.
use Rattle.std.proofs.Common.{◌≡◌, ◌⊎◌, ℕ, zero, suc, ◌<◌, Bool, true, false, List, length, Ok, Err, Result, refl, ap, ◌∙◌, inl, inr, arith, Bor}
use Rattle.std.specs.Prelude.{eqb, None, Some, if◌then◌else◌}
use borrow.Author.Tests.{eqb-true}
use Rattle.refusal.specs.declared.Refusal.{Refusal}
use Rattle.attribute.specs.declared.AdsAttribute.{AdsAttribute}
use Rattle.attribute.specs.Attribute.{first_of, listed, after_listed, stopped}
use Rattle.attribute.specs.Stopped.{WhyItEnds, all, at_end, refused, AttributesStopped}
use Rattle.attribute.proofs.Laws.{listed_more, listed_stop, listed_none, after_more, after_stop, after_none, nothing_listed, nothing_after, some_left}

stopped_none : (s : Bor (List ℕ)) → stopped s 0 ≡ None
unfolding stopped
stopped_none s = refl

stopped_there : (s : Bor (List ℕ)) (n : ℕ) (why : Refusal) → first_of s ≡ Err why → stopped s (suc n) ≡ Some why
unfolding stopped
stopped_there s n why e = rw e refl

stopped_on : (s : Bor (List ℕ)) (n : ℕ) (p : AdsAttribute × Bor (List ℕ)) → first_of s ≡ Ok p → (b : Bool) → eqb (length p.1.now) 0 ≡ b → stopped s (suc n) ≡ (if b then None else stopped p.1 n)
unfolding stopped
stopped_on s n p e b h = rw (e, h) refl

-- where none is listed, all the bytes are left
none_taken : (s : Bor (List ℕ)) (n : ℕ) (w : Result (AdsAttribute × Bor (List ℕ)) Refusal) → first_of s ≡ w → length (listed s n) ≡ 0 → after_listed s n ≡ s
none_taken s zero w e h = after_none s
none_taken s (suc n) (Err why) e h = after_stop s n why e
none_taken s (suc n) (Ok p) e h = absurd (let l : length (listed s (suc n)) ≡ suc (length (listed p.1 n)) = ap (λ (x : List AdsAttribute). length x) (listed_more s n p e) in omega arith)

module _ (s : Bor (List ℕ)) (n : ℕ) (p : AdsAttribute × Bor (List ℕ)) (e : first_of s ≡ Ok p) where
  long : length (listed s (suc n)) ≡ suc (length (listed p.1 n))
  long = ap (λ (x : List AdsAttribute). length x) (listed_more s n p e)

  left : length (after_listed s (suc n)).now ≡ length (after_listed p.1 n).now
  left = ap (λ (x : Bor (List ℕ)). length x.now) (after_more s n p e)

  more_behind : (length (listed p.1 n) ≡ 0) ⊎ (0 < length (after_listed p.1 n).now) → 0 < length p.1.now → 0 < length (after_listed s (suc n)).now
  more_behind (inl h) k = let l = left in let m = ap (λ (x : Bor (List ℕ)). length x.now) (none_taken p.1 n (first_of p.1) refl h) in omega (arith, l, m)
  more_behind (inr h) k = let l = left in omega (arith, l)

  behind : eqb (length p.1.now) 0 ≡ false → WhyItEnds p.1 n → WhyItEnds s (suc n)
  behind b (all l t) = all (long ∙ ap suc l) (stopped_on s n p e false b ∙ t)
  behind b (at_end l m z t) = at_end (let k = long in omega (arith, k)) (let k = long in omega (arith, k)) (left ∙ z) (stopped_on s n p e false b ∙ t)
  behind b (refused why l o f t) =
      refused why (let k = long in omega (arith, k)) (inr (more_behind o (some_left (length p.1.now) b))) (ap first_of (after_more s n p e) ∙ f) (stopped_on s n p e false b ∙ t)

  by_left : (b : Bool) → eqb (length p.1.now) 0 ≡ b → WhyItEnds p.1 n → WhyItEnds s (suc n)
  by_left false b on = behind b on
  by_left true b on =
      let z = eqb-true (length p.1.now) 0 b in
      let one : length (listed s (suc n)) ≡ 1 = long ∙ ap (λ (x : List AdsAttribute). suc (length x)) (nothing_listed p.1 n z) in
      let none = left ∙ ap (λ (x : Bor (List ℕ)). length x.now) (nothing_after p.1 n z) ∙ z in
      by_count n one none (stopped_on s n p e true b)
    where
      by_count : (m : ℕ) → length (listed s (suc m)) ≡ 1 → length (after_listed s (suc m)).now ≡ 0 → stopped s (suc m) ≡ None → WhyItEnds s (suc m)
      by_count zero one none t = all one t
      by_count (suc m) one none t = at_end (omega (arith, one)) (omega (arith, one)) none t

by_first : (s : Bor (List ℕ)) (n : ℕ) (w : Result (AdsAttribute × Bor (List ℕ)) Refusal) → first_of s ≡ w → ((q : Bor (List ℕ)) → WhyItEnds q n) → WhyItEnds s (suc n)
by_first s n (Ok p) e on = by_left s n p e (eqb (length p.1.now) 0) refl (on p.1)
by_first s n (Err why) e on =
    let l : length (listed s (suc n)) ≡ 0 = ap (λ (x : List AdsAttribute). length x) (listed_stop s n why e) in
    refused why (omega (arith, l)) (inl l) (ap first_of (after_stop s n why e) ∙ e) (stopped_there s n why e)

pub attributes_stopped : AttributesStopped
attributes_stopped s zero = all (ap (λ (x : List AdsAttribute). length x) (listed_none s)) (stopped_none s)
attributes_stopped s (suc n) = by_first s n (first_of s) refl (λ q. attributes_stopped q n)
