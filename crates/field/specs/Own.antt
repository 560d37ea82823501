-- docs/FORMAT.md, "Refusals": no refusal of the reader is 10, which is the walk's alone.
use Rattle.std.proofs.Common.{ℕ, zero, suc, ◌≡◌, refl, Bool, List, length, arith, Bor}
use Rattle.std.specs.Prelude.{false, eqb, Option, Some, None, Result, Ok, Err, if◌then◌else◌}
use Rattle.part.specs.Outcome.{outcome}
use Rattle.refusal.specs.EndBytes.{ended, in_mode}
use Rattle.refusal.specs.declared.Mode.{Mode}
use Rattle.refusal.specs.declared.Mode.TheVariants.{Present, Checked}
use Rattle.refusal.specs.declared.Refusal.{Refusal}
use Rattle.walk.specs.Zero.{is_zero}
use Rattle.walk.proofs.Own.{ended_own}
use Rattle.attribute.specs.declared.AdsAttribute.{AdsAttribute}
use Rattle.attribute.specs.Attribute.{first_of, stopped}
use Rattle.field.specs.declared.front.Front.{Front}
use Rattle.field.specs.Front.{front_of}
use Rattle.field.specs.Tail.{attributes_of, complete, tail_of}

first_own : (s : Bor (List ℕ)) (why : Refusal) → first_of s ≡ Err why → is_zero why ≡ false
unfolding first_of
first_own s why h = grind arith

stop_by : (s : Bor (List ℕ)) (n : ℕ) (why : Refusal) (w : Result (AdsAttribute × Bor (List ℕ)) Refusal) → first_of s ≡ w
    → ((q : Bor (List ℕ)) → stopped q n ≡ Some why → is_zero why ≡ false)
    → outcome w (λ p. if eqb (length p.1.now) 0 then None else stopped p.1 n) Some ≡ Some why → is_zero why ≡ false
stop_by s n why (Ok p) e ih h = grind (arith, ih p.1)
stop_by s n why (Err x) e ih h = grind (arith, first_own s x e)

stopped_own : (s : Bor (List ℕ)) (n : ℕ) (why : Refusal) → stopped s n ≡ Some why → is_zero why ≡ false
unfolding stopped
stopped_own s zero why h = cc
stopped_own s (suc n) why h = stop_by s n why (first_of s) refl (λ q. stopped_own q n why) h

attributes_own : (s : Bor (List ℕ)) (flagged : Bool) (why : Refusal) → (attributes_of s flagged).1 ≡ Some why → is_zero why ≡ false
unfolding attributes_of
attributes_own s flagged why h = grind (arith, stopped_own)

complete_own : (o : Option Refusal) (why : Refusal) → complete o ≡ Err why → o ≡ Some why
complete_own None why h = cc
complete_own (Some x) why h = cc

in_mode_own : (mode : Mode) (ends : List (ℕ × ℕ)) (why : Refusal) → in_mode mode (ended ends) ≡ Err why → is_zero why ≡ false
in_mode_own Present ends why h = cc
in_mode_own Checked ends why h = ended_own ends why h

pub front_own : (mode : Mode) (e : Bor (List ℕ)) (why : Refusal) → front_of mode e ≡ Err why → is_zero why ≡ false
unfolding front_of
front_own mode e why h = grind (arith, in_mode_own)

pub tail_own : (mode : Mode) (f : Front) (s : Bor (List ℕ)) (why : Refusal) → tail_of mode f s ≡ Err why → is_zero why ≡ false
unfolding tail_of
tail_own mode f s why h = grind (arith, in_mode_own, complete_own, attributes_own)
