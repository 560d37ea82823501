-- Where records lie, what a chain has, and what an answer to a number means: proved.
use Rattle.std.proofs.Common.{◌≡◌, ℕ, zero, suc, ◌+◌, ◌≤◌, Bool, true, false, List, [], ◌∷◌, ◌++◌, length, Ok, Err, Result, refl, sym, ap, ◌∙◌, subst, arith, length-drop, Bor}
use Rattle.std.specs.Prelude.{ltb}
use borrow.Author.Tests.{lt-ltb}
use Rattle.part.specs.Slice.{part}
use Rattle.part.specs.End.{IsEnd, IsString, rest_at}
use Rattle.refusal.specs.declared.Refusal.{Refusal}
use Rattle.refusal.proofs.ByNumber.{numbers_meant}
use Rattle.refactor.specs.declared.AdsRefactorInfo.{AdsRefactorInfo}
use Rattle.refactor.specs.Refactor.{first_of, listed, chained}
use Rattle.refactor.specs.Inside.{RefactorsLie, AreInside, RefactorsInside, IsChain, ChainsCounted, RefactorsShown}
use Rattle.part.proofs.Slice.{end_after, string_in}
use Rattle.refactor.proofs.Again.{n_of, here, fits, first_here, length_name, listed_here}

pub listed_none : (s : Bor (List ℕ)) → listed s 0 ≡ []
unfolding listed
listed_none s = refl

pub listed_stop : (s : Bor (List ℕ)) (left : ℕ) (why : Refusal) → first_of s ≡ Err why → listed s (suc left) ≡ []
unfolding listed
listed_stop s left why e = rw e refl

-- the record at the start of an entry's last bytes, and those after it
module _ (e s : Bor (List ℕ)) (a : IsEnd e s) (there : n_of s + 7 ≤ length s.now) where
  pub refactor_name : IsString e (rest_at e s + 6) (here s).0.name
  refactor_name =
      let n = length_name s there in
      string_in e s (here s).0.name 6 a (ap (part s 6) (sym n)) (omega (arith, n, there))

  pub refactor_next : rest_at e (here s).1 ≡ rest_at e s + 6 + length (here s).0.name.now + 1
  refactor_next = let n = length_name s there in omega (arith, n, there, a.within, length-drop (n_of s + 7) s.now)

  pub refactor_rest : IsEnd e (here s).1
  refactor_rest = end_after (n_of s + 7) there a

  more_inside : (left : ℕ) → AreInside e (here s).1 left → AreInside e s (suc left)
  more_inside left i = record {
    end = i.end;
    lie = rw (listed_here s left there) (refactor_name, subst (λ k. RefactorsLie e k (listed (here s).1 left) i.end) refactor_next i.lie);
    whole = i.whole;
  }

inside_by : (e s : Bor (List ℕ)) (left : ℕ) → IsEnd e s → (w : Result (AdsRefactorInfo × Bor (List ℕ)) Refusal) → first_of s ≡ w
    → ((q : Bor (List ℕ)) → IsEnd e q → AreInside e q left) → AreInside e s (suc left)
inside_by e s left a (Err why) h ih = record { end = rest_at e s; lie = rw (listed_stop s left why h) refl; whole = omega arith }
inside_by e s left a (Ok p) h ih = let t = fits s p h in more_inside e s a t left (ih (here s).1 (refactor_rest e s a t))

pub refactors_inside : RefactorsInside
refactors_inside e s zero a = record { end = rest_at e s; lie = rw (listed_none s) refl; whole = omega arith }
refactors_inside e s (suc left) a = inside_by e s left a (first_of s) refl (λ q b. refactors_inside e q left b)

-- each tells a follower exactly where others stand behind it
abbrev Followed : List AdsRefactorInfo → Type 0
Followed all = (before behind : List AdsRefactorInfo) (r : AdsRefactorInfo) → all ≡ before ++ (r ∷ behind) → r.next_refactor_info ≡ ltb 0 (length behind)

follow_none : Followed []
follow_none [] behind r e = cc
follow_none (y ∷ before) behind r e = cc

follow_more : (x : AdsRefactorInfo) (all : List AdsRefactorInfo) → x.next_refactor_info ≡ ltb 0 (length all) → Followed all → Followed (x ∷ all)
follow_more x all h rest [] behind r e =
    let a : x ≡ r = cc in
    let b : all ≡ behind = cc in
    ap (λ (y : AdsRefactorInfo). y.next_refactor_info) (sym a) ∙ h ∙ ap (λ (l : List AdsRefactorInfo). ltb 0 (length l)) b
follow_more x all h rest (y ∷ before) behind r e = rest before behind r (cc)

-- a chain after so many records
record Counted (e s : Bor (List ℕ)) (c n : ℕ) (rest : Bor (List ℕ)) : Type 0 where
  count : ℕ
  is : n ≡ c + count
  chain : IsChain e s count rest

module _ (e s : Bor (List ℕ)) (a : IsEnd e s) (t : n_of s + 7 ≤ length s.now) where
  counted_last : (c : ℕ) → (here s).0.next_refactor_info ≡ false → Counted e s c (c + 1) (here s).1
  counted_last c f =
      let l : listed s 1 ≡ (here s).0 ∷ [] = listed_here s 0 t ∙ ap (λ (x : List AdsRefactorInfo). (here s).0 ∷ x) (listed_none (here s).1) in
      record {
        count = 1;
        is = refl;
        chain = record {
          some = omega arith;
          long = ap length l;
          followed = rw l (follow_more (here s).0 [] f follow_none);
          lie = rw l (refactor_name e s a t, sym (refactor_next e s a t));
          after_it = refactor_rest e s a t;
        };
      }

  counted_more : (c n : ℕ) (rest : Bor (List ℕ)) → (here s).0.next_refactor_info ≡ true → Counted e (here s).1 (c + 1) n rest → Counted e s c n rest
  counted_more c n rest f r =
      let i = r.chain in
      let l = listed_here s r.count t in
      record {
        count = suc r.count;
        is = let e = r.is in omega arith;
        chain = record {
          some = omega arith;
          long = ap length l ∙ ap suc i.long;
          followed = rw l (follow_more (here s).0 (listed (here s).1 r.count) (f ∙ sym (lt-ltb 0 _ (omega (arith, i.some, i.long)))) i.followed);
          lie = rw l (refactor_name e s a t, subst (λ k. RefactorsLie e k (listed (here s).1 r.count) (rest_at e rest)) (refactor_next e s a t) i.lie);
          after_it = i.after_it;
        };
      }

  by_follower : (c f n : ℕ) (rest : Bor (List ℕ)) → (b : Bool) → (here s).0.next_refactor_info ≡ b → chained s c (suc f) ≡ Ok (n, rest)
      → (chained (here s).1 (c + 1) f ≡ Ok (n, rest) → Counted e (here s).1 (c + 1) n rest) → Counted e s c n rest
  unfolding chained
  by_follower c f n rest true g h more = counted_more c n rest g (more (simp (first_here s t, g) at h))
  by_follower c f n rest false g h more =
      let k : ◌≡◌ {A = Result (ℕ × Bor (List ℕ)) Refusal} (Ok (c + 1, (here s).1)) (Ok (n, rest)) = simp (first_here s t, g) at h in
      let w : ◌≡◌ {A = ℕ × Bor (List ℕ)} (c + 1, (here s).1) (n, rest) = cc in
      subst (λ (x : ℕ × Bor (List ℕ)). Counted e s c x.0 x.1) w (counted_last c g)

by_first : (e s : Bor (List ℕ)) (c f n : ℕ) (rest : Bor (List ℕ)) → IsEnd e s → (w : Result (AdsRefactorInfo × Bor (List ℕ)) Refusal) → first_of s ≡ w → chained s c (suc f) ≡ Ok (n, rest)
    → ((q : Bor (List ℕ)) (d : ℕ) → IsEnd e q → chained q d f ≡ Ok (n, rest) → Counted e q d n rest) → Counted e s c n rest
unfolding chained
by_first e s c f n rest a (Err why) g h more = absurd (let z : ◌≡◌ {A = ℕ} 0 1 = cc (simp g at h) in omega arith)
by_first e s c f n rest a (Ok p) g h more =
    let t = fits s p g in
    by_follower e s a t c f n rest (here s).0.next_refactor_info refl h (more (here s).1 (c + 1) (refactor_rest e s a t))

counted : (f : ℕ) (e s : Bor (List ℕ)) (c n : ℕ) (rest : Bor (List ℕ)) → IsEnd e s → chained s c f ≡ Ok (n, rest) → Counted e s c n rest
unfolding chained
counted zero e s c n rest a h = absurd (let z : ◌≡◌ {A = ℕ} 0 1 = cc in omega arith)
counted (suc f) e s c n rest a h = by_first e s c f n rest a (first_of s) refl h (λ q d b g. counted f e q d n rest b g)

pub chains_counted : ChainsCounted
chains_counted e s count rest a h =
    let r = counted (length s.now) e s 0 count rest a h in
    let same : r.count ≡ count = let i = r.is in omega arith in
    subst (λ x. IsChain e s x rest) same r.chain

pub refactors_shown : RefactorsShown
refactors_shown all number = numbers_meant all number
