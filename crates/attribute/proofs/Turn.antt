-- A turn of the end bytes.
use Rattle.std.proofs.Common.{◌≡◌, ℕ, ◌+◌, ◌-◌, ◌<◌, List, [], ◌∷◌, ◌++◌, length, Ok, Err, Result, arith, Bor, refl, ap, ◌∙◌, subst}
use Rattle.std.specs.Prelude.{Option, Some, None}
use Rattle.refusal.specs.EndBytes.{ended}
use Rattle.refusal.specs.declared.Refusal.{Refusal}
use Rattle.attribute.specs.declared.AdsAttribute.{AdsAttribute}
use Rattle.attribute.specs.Attribute.{first_of, ends_of, next_place, ends, turn}
use Rattle.attribute.proofs.Room.{room}

-- of two end bytes and others, where both pass, and where one does not
two_passed : (x y : ℕ × ℕ) (more : List (ℕ × ℕ)) → ended (x ∷ y ∷ []) ≡ Ok tt → ended (x ∷ y ∷ more) ≡ ended more
unfolding ended
two_passed x y more h = grind arith

two_refused : (x y : ℕ × ℕ) (more : List (ℕ × ℕ)) (why : Refusal) → ended (x ∷ y ∷ []) ≡ Err why → ended (x ∷ y ∷ more) ≡ Err why
unfolding ended
two_refused x y more why h = grind arith

ended_nothing : ended [] ≡ Ok tt
unfolding ended
ended_nothing = refl

module _ (s : Bor (List ℕ)) (at left : ℕ) (some : 0 < left) where
  ends_on : (p : AdsAttribute × Bor (List ℕ)) → first_of s ≡ Ok p → ends s at left ≡ ends_of s at p.0 ++ ends p.1 (next_place at p.0) (left - 1)
  unfolding ends
  ends_on p h = grind arith

  ends_stop : (why : Refusal) → first_of s ≡ Err why → ends s at left ≡ []
  unfolding ends
  ends_stop why h = grind arith

-- what a turn tells of the end bytes of so many from here on
module _ (s : Bor (List ℕ)) (at left : ℕ) where
  abbrev all : Result Unit Refusal
  all = ended (ends s at left)

  pub record Goes (next : Bor (List ℕ)) (place : ℕ) : Type 0 where
    pub same : all ≡ ended (ends next place (left - 1))
    pub moved : place + length next.now ≡ at + length s.now

  abbrev Tells : Result (Option (Bor (List ℕ) × ℕ)) Refusal → Type 0
  Tells (Err why) = all ≡ Err why
  Tells (Ok None) = all ≡ Ok tt
  Tells (Ok (Some q)) = Goes q.0 q.1

  module _ (some : 0 < left) where
    unread : (why : Refusal) → first_of s ≡ Err why → Tells (turn s at)
    unfolding turn
    unread why e = simp e (ap ended (ends_stop s at left some why e) ∙ ended_nothing)

    by_end : (p : AdsAttribute × Bor (List ℕ)) → first_of s ≡ Ok p → (t : Result Unit Refusal) → ended (ends_of s at p.0) ≡ t → Tells (turn s at)
    unfolding turn
    by_end p e (Ok u) f = simp (e, f) (record { same = ap ended (ends_on s at left some p e) ∙ two_passed _ _ _ f; moved = let r = room s p e in omega arith })
    by_end p e (Err why) f = simp (e, f) (ap ended (ends_on s at left some p e) ∙ two_refused _ _ _ why f)

    by_first : (w : Result (AdsAttribute × Bor (List ℕ)) Refusal) → first_of s ≡ w → Tells (turn s at)
    by_first (Ok p) e = by_end p e (ended (ends_of s at p.0)) refl
    by_first (Err why) e = unread why e

    tells : (t : Result (Option (Bor (List ℕ) × ℕ)) Refusal) → turn s at ≡ t → Tells t
    tells t e = subst Tells e (by_first (first_of s) refl)

pub goes_further : (s : Bor (List ℕ)) (at left : ℕ) (next : Bor (List ℕ)) (place : ℕ) → turn s at ≡ Ok (Some (next, place)) → 0 < left → Goes s at left next place
goes_further s at left next place e h = tells s at left h (Ok (Some (next, place))) e

pub ends_here : (s : Bor (List ℕ)) (at left : ℕ) → turn s at ≡ Ok None → 0 < left → ended (ends s at left) ≡ Ok tt
ends_here s at left e h = tells s at left h (Ok None) e

pub is_bad : (s : Bor (List ℕ)) (at left : ℕ) (why : Refusal) → turn s at ≡ Err why → 0 < left → ended (ends s at left) ≡ Err why
is_bad s at left why e h = tells s at left h (Err why) e

pub none_left : (s : Bor (List ℕ)) (at left : ℕ) → left ≡ 0 → ended (ends s at left) ≡ Ok tt
unfolding ends
none_left s at left h = rw h ended_nothing
