-- Wrong versions are shut out: by two entries of five bytes, of which one becomes another.
use Rattle.std.proofs.Common.{ℕ, ◌≡◌, inl, inr, refl, sym, ap, subst, Bool, true, false, List, [], ◌∷◌, length, get_or, set, arith, Option, Some, None, Result, Ok, Err}
use Rattle.std.specs.Prelude.{eqb}
use borrow.Author.Tests.{eqb-true, eqb-false}
use lib.Seq.{get_or-set_other}
use Rattle.le.specs.Le.{le4}
use Rattle.refusal.specs.declared.Refusal.{Refusal}
use Rattle.entry.specs.Entry.{claim_at, claim_of}
use Rattle.entry.specs.Walk.{steps, steps_from}
use Rattle.entry.proofs.Alike.{among_cases}
use Rattle.le.proofs.Laws.{not_both}
use Rattle.entry.specs.Alike.{among, IsWhole, DiffersInside}
use Rattle.walk.specs.declared.Stepped.{Stepped}
use Rattle.walk.specs.Step.{step_at}
use Rattle.walk.specs.Pieces.{piece_at, pieces_from}
use Rattle.damage.specs.ShutsOut.{marked, DamageShutsOut}

abbrev good : List ℕ
good = 5 ∷ 0 ∷ 0 ∷ 0 ∷ 1 ∷ 5 ∷ 0 ∷ 0 ∷ 0 ∷ 1 ∷ []

whole : (p : ℕ) → (p ≡ 0) → IsWhole good p
unfolding le4 claim_at steps steps_from
whole p e = subst (IsWhole good) (sym e) (record { reached = refl; four = omega arith; some = omega arith; there = omega arith })

whole_next : (p : ℕ) → (p ≡ 5) → IsWhole good p
unfolding le4 claim_at steps steps_from
whole_next p e = subst (IsWhole good) (sym e) (record { reached = refl; four = omega arith; some = omega arith; there = omega arith })

one_of : (x p : ℕ) → among (x ∷ []) p ≡ true → p ≡ x
one_of x p h = elim (among_cases x [] p h) [ inl e ↦ sym e | inr k ↦ absurd (not_both k refl) ]

other_byte : (at v k : ℕ) (b : Bool) → eqb k at ≡ b → (b ≡ true → ⊥) → get_or good k 0 ≡ get_or (set good at v) k 0
other_byte at v k true e off = absurd (off refl)
other_byte at v k false e off = sym (get_or-set_other good at k v 0 (λ h. eqb-false k at e h))

first_differs : DiffersInside good (set good 4 0) (0 ∷ [])
unfolding le4
first_differs = record {
  long = refl;
  whole = λ p q. whole p (one_of 0 p q);
  alike = λ k l off. other_byte 4 0 k (eqb k 4) refl (λ e. let is : k ≡ 4 = eqb-true k 4 e in off 0 refl (omega (arith, is)) (omega (arith, is)));
}

next_differs : DiffersInside good (set good 9 2) (5 ∷ [])
unfolding le4
next_differs = record {
  long = refl;
  whole = λ p q. whole_next p (one_of 5 p q);
  alike = λ k l off. other_byte 9 2 k (eqb k 9) refl (λ e. let is : k ≡ 9 = eqb-true k 9 e in off 5 refl (omega (arith, is)) (omega (arith, is)));
}

-- the tenth byte that an answer gives
tenth : Option (Result (List ℕ) Refusal) → ℕ
tenth None = 0
tenth (Some (Ok own)) = get_or own 9 0
tenth (Some (Err why)) = 0

pub damage_shuts_out : DamageShutsOut
unfolding marked tenth le4 claim_at claim_of steps steps_from step_at piece_at pieces_from
damage_shuts_out = record {
  ends = λ stay.
      let e : ◌≡◌ {A = ℕ} 5 10 = (stay (0, 0) good (set good 4 0) (0 ∷ []) first_differs).goes 0 (inl refl) in
      omega arith;
  past = λ stay.
      let e : ◌≡◌ {A = ℕ} 1 2 = ap (λ (x : Stepped (List ℕ)). tenth x.answer) ((stay (0, 0) good (set good 9 2) (5 ∷ []) next_differs).other 0 (inl refl) refl) in
      omega arith;
  parse = λ stay.
      let e : ◌≡◌ {A = ℕ} 1 2 = ap (λ (x : Result (List ℕ) Refusal). tenth (Some x)) (stay (0, 0) good (set good 9 2) (5 ∷ []) next_differs 0 5 10 refl refl refl) in
      omega arith;
  next = λ stay.
      let e : ◌≡◌ {A = ℕ} 1 0 = ap length ((stay (0, 0) good (set good 4 0) (0 ∷ []) first_differs).entries) in
      omega arith;
}
