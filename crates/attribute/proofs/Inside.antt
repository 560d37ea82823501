-- Where listed attributes lie: proved.
use Rattle.std.proofs.Common.{◌≡◌, ℕ, zero, suc, ◌+◌, ◌≤◌, List, length, Ok, Err, Result, refl, sym, ap, subst, arith, length-drop, Bor}
use Rattle.part.specs.Slice.{part}
use Rattle.part.specs.End.{IsEnd, IsString, rest_at}
use Rattle.part.proofs.Slice.{end_after, string_in, string_at}
use Rattle.refusal.specs.declared.Refusal.{Refusal}
use Rattle.attribute.specs.declared.AdsAttribute.{AdsAttribute}
use Rattle.attribute.specs.Attribute.{first_of, listed, after_listed}
use Rattle.attribute.specs.Inside.{AttributesLie, AreInside, AttributesInside}
use Rattle.attribute.proofs.Again.{n_of, v_of, here, fits, first_here, length_name, length_value}
use Rattle.attribute.proofs.Laws.{listed_more, listed_none, listed_stop, after_more, after_none, after_stop}

-- the attribute at the start of an entry's last bytes, and those after it
module _ (e s : Bor (List ℕ)) (a : IsEnd e s) (there : n_of s + v_of s + 4 ≤ length s.now) where
  pub attribute_name : IsString e (rest_at e s + 2) (here s).0.name
  attribute_name =
      let n = length_name s there in
      string_in e s (here s).0.name 2 a (ap (part s 2) (sym n)) (omega (arith, n, there))

  pub attribute_value : IsString e (rest_at e s + 2 + length (here s).0.name.now + 1) (here s).0.value
  attribute_value =
      let n = length_name s there in
      let v = length_value s there in
      string_at e (here s).0.value (rest_at e s + (n_of s + 3)) (rest_at e s + 2 + length (here s).0.name.now + 1) (omega (arith, n))
      (string_in e s (here s).0.value (n_of s + 3) a (ap (part s (n_of s + 3)) (sym v)) (omega (arith, v, there)))

  pub attribute_next : rest_at e (here s).1 ≡ rest_at e s + 2 + length (here s).0.name.now + 1 + length (here s).0.value.now + 1
  attribute_next =
      let n = length_name s there in
      let v = length_value s there in
      omega (arith, n, v, there, a.within, length-drop (n_of s + v_of s + 4) s.now)

  pub attribute_rest : IsEnd e (here s).1
  attribute_rest = end_after (n_of s + v_of s + 4) there a

  more_inside : (left : ℕ) → AreInside e (here s).1 left → AreInside e s (suc left)
  more_inside left i =
      let q : Bor (List ℕ) = (here s).1 in
      let f = first_here s there in
      let next = subst (λ k. AttributesLie e k (listed q left) (rest_at e (after_listed q left))) attribute_next i.lie in
      record {
        lie = rw (listed_more s left (here s) f, after_more s left (here s) f) (attribute_name, attribute_value, next);
        rest = rw (after_more s left (here s) f) i.rest;
      }

inside_by : (e s : Bor (List ℕ)) (left : ℕ) → IsEnd e s → (w : Result (AdsAttribute × Bor (List ℕ)) Refusal) → first_of s ≡ w
    → ((q : Bor (List ℕ)) → IsEnd e q → AreInside e q left) → AreInside e s (suc left)
inside_by e s left a (Err why) h ih = record { lie = rw (listed_stop s left why h, after_stop s left why h) refl; rest = rw (after_stop s left why h) a }
inside_by e s left a (Ok p) h ih = let t = fits s p h in more_inside e s a t left (ih (here s).1 (attribute_rest e s a t))

pub attributes_inside : AttributesInside
attributes_inside e s zero a = record { lie = rw (listed_none s, after_none s) refl; rest = rw (after_none s) a }
attributes_inside e s (suc left) a = inside_by e s left a (first_of s) refl (λ q b. attributes_inside e q left b)
