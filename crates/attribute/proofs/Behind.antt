-- The end bytes that are looked at are the bytes behind the strings.
use Rattle.std.proofs.Common.{◌≡◌, ℕ, zero, suc, ◌+◌, ◌<◌, Bool, true, false, List, [], ◌∷◌, ◌++◌, length, get_or, Ok, Err, Result, refl, sym, ap, ap₂, ◌∙◌, arith, Bor}
use Rattle.std.specs.Prelude.{eqb, if◌then◌else◌}
use Rattle.std.specs.List.{All}
use Rattle.std.proofs.lemmas.List.{get_or-drop}
use Rattle.std.proofs.lemmas.List.Elements.{All-nil, All-cons}
use Rattle.part.specs.End.{IsEnd, IsString, rest_at}
use Rattle.part.specs.Outcome.{and_then}
use Rattle.refusal.specs.EndBytes.{ended}
use Rattle.refusal.specs.declared.Refusal.{Refusal}
use Rattle.refusal.specs.declared.Refusal.TheVariants.{EndByte}
use Rattle.attribute.specs.declared.AdsAttribute.{AdsAttribute}
use Rattle.attribute.specs.Attribute.{first_of, listed, ends}
use Rattle.attribute.specs.Inside.{AttributesLie}
use Rattle.attribute.specs.Behind.{byte_behind, bytes_behind}
use Rattle.attribute.proofs.Again.{n_of, v_of, here, fits, first_here, ends_here, length_name, length_value}
use Rattle.attribute.proofs.Inside.{attribute_name, attribute_value, attribute_next, attribute_rest}
use Rattle.attribute.proofs.Laws.{listed_more}

-- one list of end bytes after another
pub ended_both : (xs ys : List (ℕ × ℕ)) → ended (xs ++ ys) ≡ and_then (ended xs) (λ _. ended ys)
unfolding ended
ended_both [] ys = refl
ended_both (x ∷ xs) ys = by_zero (ended_both xs ys) (eqb x.1 0)
  where
    by_zero : ended (xs ++ ys) ≡ and_then (ended xs) (λ _. ended ys) → (b : Bool) → (if b then ended (xs ++ ys) else Err (EndByte x.0 x.1)) ≡ and_then (if b then ended xs else Err (EndByte x.0 x.1)) (λ _. ended ys)
    by_zero h true = h
    by_zero h false = refl

module _ (e : Bor (List ℕ)) where
  pub string_behind : (q : Bor (List ℕ)) (at : ℕ) → IsString e at q → byte_behind e q ≡ (at + length q.now, get_or e.now (at + length q.now) 0)
  string_behind q at i = ap (λ (k : ℕ). (k, get_or e.now k 0)) (omega (arith, ap (λ (q : Bor (List ℕ)). q.ref_ptr.1) i.is))

  -- counted from an entry's last bytes, or from its start
  pub end_is : (s q : Bor (List ℕ)) (k at : ℕ) → IsEnd e s → IsString e at q → at + length q.now ≡ rest_at e s + k → (rest_at e s + k, get_or s.now k 0) ≡ byte_behind e q
  end_is s q k at a i h =
      ap (λ (x : ℕ). (rest_at e s + k, x)) (ap (λ (q : Bor (List ℕ)). get_or q.now k 0) a.is ∙ get_or-drop (rest_at e s) e.now k 0)
      ∙ ap (λ (x : ℕ). (x, get_or e.now x 0)) (sym h) ∙ sym (string_behind q at i)

  ends_by : (s : Bor (List ℕ)) (left : ℕ) → IsEnd e s → (w : Result (AdsAttribute × Bor (List ℕ)) Refusal) → first_of s ≡ w
      → ((q : Bor (List ℕ)) → IsEnd e q → ends q (rest_at e q) left ≡ bytes_behind e (listed q left)) → ends s (rest_at e s) (suc left) ≡ bytes_behind e (listed s (suc left))
  unfolding ends listed bytes_behind
  ends_by s left a (Err why) f on = simp f
  ends_by s left a (Ok p) f on =
      let t = fits s p f in
      let n = length_name s t in
      let v = length_value s t in
      let q : AdsAttribute × Bor (List ℕ) = here s in
      let name = end_is s q.0.name (2 + n_of s) (rest_at e s + 2) a (attribute_name e s a t) (omega (arith, n)) in
      let value = end_is s q.0.value (2 + n_of s + 1 + v_of s) (rest_at e s + 2 + length q.0.name.now + 1) a (attribute_value e s a t) (omega (arith, n, v)) in
      let next : rest_at e s + (2 + n_of s + 1 + v_of s) + 1 ≡ rest_at e q.1 = omega (arith, n, v, attribute_next e s a t) in
      ends_here s (rest_at e s) left t
      ∙ ap₂ (λ (x y : ℕ × ℕ). x ∷ y ∷ ends q.1 (rest_at e s + (2 + n_of s + 1 + v_of s) + 1) left) name value
      ∙ ap (λ (l : List (ℕ × ℕ)). byte_behind e q.0.name ∷ byte_behind e q.0.value ∷ l) (ap (λ (k : ℕ). ends q.1 k left) next ∙ on q.1 (attribute_rest e s a t))
      ∙ sym (ap (bytes_behind e) (listed_more s left q (first_here s t)))

  pub ends_behind : (s : Bor (List ℕ)) (left : ℕ) → IsEnd e s → ends s (rest_at e s) left ≡ bytes_behind e (listed s left)
  unfolding ends listed bytes_behind
  ends_behind s zero a = refl
  ends_behind s (suc left) a = ends_by s left a (first_of s) refl (λ q b. ends_behind q left b)

  -- each of them is a byte of the entry
  abbrev pub IsThere : ℕ × ℕ → Type 0
  IsThere b = b.0 < length e.now

  pub string_there : (q : Bor (List ℕ)) (at : ℕ) → IsString e at q → IsThere (byte_behind e q)
  string_there q at i = omega (arith, ap (λ (q : Bor (List ℕ)). q.ref_ptr.1) i.is, i.within)

  pub all_there : (at : ℕ) (all : List AdsAttribute) (to : ℕ) → AttributesLie e at all to → All IsThere (bytes_behind e all)
  unfolding bytes_behind
  all_there at [] to i = All-nil IsThere
  all_there at (a ∷ all) to i =
      All-cons IsThere (byte_behind e a.name) (byte_behind e a.value ∷ bytes_behind e all) (string_there a.name (at + 2) i.0)
      (All-cons IsThere (byte_behind e a.value) (bytes_behind e all) (string_there a.value (at + 2 + length a.name.now + 1) i.1)
      (all_there (at + 2 + length a.name.now + 1 + length a.value.now + 1) all to i.2))
