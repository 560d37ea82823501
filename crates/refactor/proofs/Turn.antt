-- A turn of a chain.
use Rattle.std.proofs.Common.{◌≡◌, ℕ, ◌+◌, ◌-◌, ◌≤◌, Bool, List, [], ◌∷◌, get_or, length, Ok, Err, Result, true, false, arith, Bor, zero, suc, refl, ap, ◌∙◌, subst, ◌<◌}
use Rattle.std.proofs.lemmas.Grind.{common_steps}
use Rattle.std.specs.Prelude.{Option, Some, None}
use Rattle.refusal.specs.EndBytes.{ended}
use Rattle.refusal.proofs.EndBytes.{ended_passed, ended_refused, ended_none}
use Rattle.refusal.specs.declared.Refusal.{Refusal}
use Rattle.refusal.specs.declared.Refusal.TheVariants.{TooShort}
use Rattle.refactor.specs.declared.AdsRefactorInfo.{AdsRefactorInfo}
use Rattle.refactor.specs.Refactor.{first_of, chained, ends_from, turn}

-- a record that is read lies inside the bytes that it was read from, with its end byte
pub room : (s : Bor (List ℕ)) (p : AdsRefactorInfo × Bor (List ℕ)) → first_of s ≡ Ok p → length s.now ≡ length p.0.name.now + 7 + length p.1.now
unfolding first_of
room s p h = grind (arith, common_steps)

-- so many bytes there are at most: the count that is left of them stays above the bytes that are left
pub goes_on : (s : Bor (List ℕ)) (c n : ℕ) (p : AdsRefactorInfo × Bor (List ℕ)) → first_of s ≡ Ok p → p.0.next_refactor_info ≡ true → c + length s.now ≤ n
    → chained s c (n - c) ≡ chained p.1 (c + 1) (n - (c + 1))
unfolding chained
goes_on s c n p h f k = let r = room s p h in grind (arith)

pub is_last : (s : Bor (List ℕ)) (c n : ℕ) (p : AdsRefactorInfo × Bor (List ℕ)) → first_of s ≡ Ok p → p.0.next_refactor_info ≡ false → c + length s.now ≤ n
    → chained s c (n - c) ≡ Ok (c + 1, p.1)
unfolding chained
is_last s c n p h f k = let r = room s p h in grind (arith)

of_nothing : (s : Bor (List ℕ)) (n c : ℕ) → n - c ≡ 0 → c + length s.now ≤ n → first_of s ≡ Err (TooShort 7 0)
unfolding first_of
of_nothing s n c e k = let z : length s.now ≡ 0 = omega arith in rw z refl

refused_by : (s : Bor (List ℕ)) (c f : ℕ) (why : Refusal) → first_of s ≡ Err why → (f ≡ 0 → first_of s ≡ Err (TooShort 7 0)) → chained s c f ≡ Err why
unfolding chained
refused_by s c zero why h k = let e = k refl in let same : TooShort 7 0 ≡ why = cc in rw same refl
refused_by s c (suc f) why h k = rw h refl

pub is_refused : (s : Bor (List ℕ)) (c n : ℕ) (why : Refusal) → first_of s ≡ Err why → c + length s.now ≤ n → chained s c (n - c) ≡ Err why
is_refused s c n why h k = refused_by s c (n - c) why h (λ e. of_nothing s n c e k)

pub ends_refused : (s : Bor (List ℕ)) (at f : ℕ) (why : Refusal) → first_of s ≡ Err why → ends_from s at f ≡ []
unfolding ends_from
ends_refused s at zero why h = refl
ends_refused s at (suc f) why h = rw h refl

-- a turn of the end bytes: what it tells of the end bytes from here on, where so many records are behind
pub ends_go_on : (s : Bor (List ℕ)) (at c n : ℕ) (p : AdsRefactorInfo × Bor (List ℕ)) → first_of s ≡ Ok p → p.0.next_refactor_info ≡ true → c + length s.now ≤ n
    → ends_from s at (n - c) ≡ (at + (6 + length p.0.name.now), get_or s.now (6 + length p.0.name.now) 0) ∷ ends_from p.1 (at + (6 + length p.0.name.now) + 1) (n - (c + 1))
unfolding ends_from
ends_go_on s at c n p h f k = let r = room s p h in grind arith

pub ends_last : (s : Bor (List ℕ)) (at c n : ℕ) (p : AdsRefactorInfo × Bor (List ℕ)) → first_of s ≡ Ok p → p.0.next_refactor_info ≡ false → c + length s.now ≤ n
    → ends_from s at (n - c) ≡ (at + (6 + length p.0.name.now), get_or s.now (6 + length p.0.name.now) 0) ∷ []
unfolding ends_from
ends_last s at c n p h f k = let r = room s p h in grind arith

module _ (s : Bor (List ℕ)) (at c n : ℕ) where
  abbrev all : Result Unit Refusal
  all = ended (ends_from s at (n - c))

  pub record Goes (next : Bor (List ℕ)) (place : ℕ) : Type 0 where
    pub same : all ≡ ended (ends_from next place (n - (c + 1)))
    pub moved : place + length next.now ≡ at + length s.now
    pub shorter : length next.now < length s.now

  abbrev Tells : Result (Option (Bor (List ℕ) × ℕ)) Refusal → Type 0
  Tells (Err why) = all ≡ Err why
  Tells (Ok None) = all ≡ Ok tt
  Tells (Ok (Some q)) = Goes q.0 q.1

  module _ (h : c + length s.now ≤ n) where
    unread : (why : Refusal) → first_of s ≡ Err why → Tells (turn s at)
    unfolding turn
    unread why e = simp e (rw (ends_refused s at (n - c) why e) ended_none)

    module _ (p : AdsRefactorInfo × Bor (List ℕ)) (e : first_of s ≡ Ok p) where
      abbrev end : ℕ × ℕ
      end = (at + (6 + length p.0.name.now), get_or s.now (6 + length p.0.name.now) 0)

      bad : (why : Refusal) → ended (end ∷ []) ≡ Err why → (b : Bool) → p.0.next_refactor_info ≡ b → Tells (turn s at)
      unfolding turn
      bad why f true g = simp (e, f) (ap ended (ends_go_on s at c n p e g h) ∙ ended_refused end _ why f)
      bad why f false g = simp (e, f) (ap ended (ends_last s at c n p e g h) ∙ f)

      passed : ended (end ∷ []) ≡ Ok tt → (b : Bool) → p.0.next_refactor_info ≡ b → Tells (turn s at)
      unfolding turn
      passed f true g = simp (e, f, g) (record {
        same = ap ended (ends_go_on s at c n p e g h) ∙ ended_passed end _ f;
        moved = let r = room s p e in omega arith;
        shorter = let r = room s p e in omega arith;
      })
      passed f false g = simp (e, f, g) (ap ended (ends_last s at c n p e g h) ∙ f)

      by_end : (t : Result Unit Refusal) → ended (end ∷ []) ≡ t → Tells (turn s at)
      by_end (Ok u) f = passed f p.0.next_refactor_info refl
      by_end (Err why) f = bad why f p.0.next_refactor_info refl

    by_first : (w : Result (AdsRefactorInfo × Bor (List ℕ)) Refusal) → first_of s ≡ w → Tells (turn s at)
    by_first (Ok p) e = by_end p e (ended (end p e ∷ [])) refl
    by_first (Err why) e = unread why e

    tells : (t : Result (Option (Bor (List ℕ) × ℕ)) Refusal) → turn s at ≡ t → Tells t
    tells t e = subst Tells e (by_first (first_of s) refl)

pub goes_further : (s : Bor (List ℕ)) (at c n : ℕ) (next : Bor (List ℕ)) (place : ℕ) → turn s at ≡ Ok (Some (next, place)) → c + length s.now ≤ n → Goes s at c n next place
goes_further s at c n next place e h = tells s at c n h (Ok (Some (next, place))) e

pub ends_here : (s : Bor (List ℕ)) (at c n : ℕ) → turn s at ≡ Ok None → c + length s.now ≤ n → ended (ends_from s at (n - c)) ≡ Ok tt
ends_here s at c n e h = tells s at c n h (Ok None) e

pub is_bad : (s : Bor (List ℕ)) (at c n : ℕ) (why : Refusal) → turn s at ≡ Err why → c + length s.now ≤ n → ended (ends_from s at (n - c)) ≡ Err why
is_bad s at c n why e h = tells s at c n h (Err why) e

pub end_passes : (place byte : ℕ) → byte ≡ 0 → ended ((place, byte) ∷ []) ≡ Ok tt
unfolding ended
end_passes place byte h = simp h

pub nothing_ended : (s : Bor (List ℕ)) (at : ℕ) → ended (ends_from s at 0) ≡ Ok tt
unfolding ends_from ended
nothing_ended s at = refl

-- where there are no bytes, there is none
pub nothing_first : (s : Bor (List ℕ)) → length s.now ≡ 0 → first_of s ≡ Err (TooShort 7 0)
unfolding first_of
nothing_first s h = rw h refl
