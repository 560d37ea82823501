-- An attribute in the two modes: proved.
use Rattle.std.proofs.Common.{◌≡◌, ℕ, ◌+◌, ◌≤◌, Bool, true, false, List, [], ◌∷◌, length, get_or, Ok, Err, Result, refl, sym, ap, ◌∙◌, subst, arith, Bor}
use native.Mathlib.Nat.{zero-add}
use lib.Dec.{ltb}
use Rattle.part.specs.Outcome.{and_then}
use Rattle.refusal.specs.Refusal.{limit}
use Rattle.refusal.specs.EndBytes.{ended}
use Rattle.refusal.specs.EndsMeant.{AllZero}
use Rattle.refusal.specs.declared.Mode.TheVariants.{Present, Checked}
use Rattle.refusal.specs.declared.Refusal.{Refusal}
use Rattle.refusal.proofs.EndsMeant.{zero_passes, passed_zero, first_refused}
use Rattle.attribute.specs.declared.AdsAttribute.{AdsAttribute}
use Rattle.attribute.specs.Attribute.{first_of, ends, alone}
use Rattle.attribute.specs.Modes.{end_bytes, Modes, TestedFirst, AttributesModes}
use Rattle.attribute.proofs.Again.{n_of, v_of, here, fits, is_here, ends_here, length_name, length_value}

-- the end bytes that are looked at are those of the attribute that is here
ends_are : (s : Bor (List ℕ)) → n_of s + v_of s + 4 ≤ length s.now → ends s 0 1 ≡ end_bytes s.now (here s).0
unfolding ends
ends_are s there = ends_here s 0 0 there ∙ rw (length_name s there, length_value s there) (at_places (2 + n_of s) (2 + n_of s + 1 + v_of s) (n_of s + 3 + v_of s) (omega arith))
  where
    at_places : (n v w : ℕ) → v ≡ w → ◌≡◌ {A = List (ℕ × ℕ)} ((0 + n, get_or s.now n 0) ∷ (0 + v, get_or s.now v 0) ∷ []) ((n, get_or s.now n 0) ∷ (w, get_or s.now w 0) ∷ [])
    at_places n v w e = rw (zero-add n, zero-add v, e) refl

-- where what the present mode accepts is tested by its end bytes
module _ {A : Type 0} (ends : A → List (ℕ × ℕ)) where
  abbrev pub tested : A → Result A Refusal
  tested a = and_then (ended (ends a)) (λ _. Ok a)

  by_test : (b : A) (t : Result Unit Refusal) → ended (ends b) ≡ t → (a : A) → and_then t (λ _. Ok b) ≡ Ok a → (◌≡◌ {A = Result A Refusal} (Ok b) (Ok a)) × AllZero (ends a)
  by_test b (Err why) e a h = cc
  by_test b (Ok u) e a h = let same : b ≡ a = cc in (h, subst (λ c. AllZero (ends c)) same (passed_zero (ends b) e))

  pub in_modes : (checked present : Result A Refusal) → checked ≡ and_then present tested → Modes ends checked present
  in_modes checked (Ok b) is = record {
    ended = λ a h. by_test b (ended (ends b)) refl a (sym is ∙ h);
    agree = λ a p z.
        let same : b ≡ a = cc in
        is ∙ ap (λ (t : Result Unit Refusal). and_then t (λ _. Ok b)) (zero_passes (ends b) (subst (λ c. AllZero (ends c)) (sym same) z)) ∙ p;
    refused_alike = λ why p. cc;
    first = λ a e p i.
        let same : b ≡ a = cc in
        is ∙ ap (λ (t : Result Unit Refusal). and_then t (λ _. Ok b)) (ap (λ c. ended (ends c)) same ∙ ap ended i.among ∙ first_refused i.before i.behind e i.zero i.not);
  }
  in_modes checked (Err y) is = record {
    ended = λ a h. let z : ◌≡◌ {A = Result A Refusal} (Err y) (Ok a) = sym is ∙ h in cc;
    agree = λ a p z. cc;
    refused_alike = λ why p. is ∙ p;
    first = λ a e p i. cc;
  }

-- what is tested before it is read
passed : {A : Type 0} (t : Result Unit Refusal) (p : Result A Refusal) (a : A) → and_then t (λ _. p) ≡ Ok a → (t ≡ Ok tt) × (p ≡ Ok a)
passed (Ok u) p a h = (refl, h)
passed (Err why) p a h = cc

pub tested_first : {A : Type 0} (ends : List (ℕ × ℕ)) (checked present : Result A Refusal) → checked ≡ and_then (ended ends) (λ _. present) → TestedFirst ends checked present
tested_first ends checked present m = record {
  alike = λ z. m ∙ ap (λ (t : Result Unit Refusal). and_then t (λ _. present)) (zero_passes ends z);
  first = λ b f. m ∙ ap (λ (t : Result Unit Refusal). and_then t (λ _. present)) (ap ended f.among ∙ first_refused f.before f.behind b f.zero f.not);
  read = λ a h. let p = passed (ended ends) present a (sym m ∙ h) in (passed_zero ends p.0, p.1);
}

checked_is : (s : Bor (List ℕ)) (t : Bool) → ltb limit (length s.now) ≡ t → (w : Result (AdsAttribute × Bor (List ℕ)) Refusal) → first_of s ≡ w
    → alone Checked s ≡ and_then (alone Present s) (tested (end_bytes s.now))
checked_is s true l w f = simp l
checked_is s false l (Err why) f = simp (l, f)
checked_is s false l (Ok p) f =
    let t = fits s p f in
    let g : first_of s ≡ Ok (here s) = f ∙ ap Ok (sym (is_here s p f)) in
    simp (l, g, ends_are s t)

pub attributes_modes : AttributesModes
attributes_modes s = in_modes (end_bytes s.now) (alone Checked s) (alone Present s) (checked_is s (ltb limit (length s.now)) refl (first_of s) refl)
