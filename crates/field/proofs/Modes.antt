-- A field in the two modes: proved.
use Rattle.std.proofs.Common.{ℕ, ◌+◌, ◌-◌, ◌<◌, ◌≤◌, ◌≡◌, refl, sym, ap, ap₂, ◌∙◌, Bool, true, false, List, [], ◌∷◌, ◌++◌, length, get_or, min, Ok, Err, Result, arith, Bor}
use Rattle.std.specs.Prelude.{leb, ltb, if◌then◌else◌}
use Rattle.std.specs.List.{All}
use Rattle.std.proofs.lemmas.List.Elements.{All-nil, All-cons, All-append}
use borrow.Author.Tests.{leb-true, leb-false, lt-ltb}
use Rattle.le.specs.Le.{le2, le4, has}
use Rattle.part.specs.Slice.{after}
use Rattle.part.specs.End.{rest_at}
use Rattle.part.specs.Outcome.{and_then}
use Rattle.refusal.specs.EndBytes.{ended}
use Rattle.refusal.specs.declared.Mode.TheVariants.{Present, Checked}
use Rattle.refusal.specs.declared.Refusal.{Refusal}
use Rattle.attribute.specs.declared.AdsAttribute.{AdsAttribute}
use Rattle.attribute.specs.Attribute.{listed, after_listed}
use Rattle.attribute.specs.Behind.{bytes_behind}
use Rattle.attribute.proofs.Behind.{IsThere, ended_both, ends_behind, all_there}
use Rattle.attribute.proofs.Laws.{listed_none, listed_again}
use Rattle.attribute.proofs.Modes.{tested_first}
use Rattle.field.specs.declared.AdsFieldInfo.{AdsFieldInfo}
use Rattle.field.specs.Front.{with_strings, front_of, HasStrings}
use Rattle.field.specs.Field.{field_of}
use Rattle.field.specs.Within.{shown}
use Rattle.field.specs.Placed.{attributes_at, attributes_there}
use Rattle.field.specs.Modes.{strings_end, string_bytes, attributes_met, end_bytes, FieldsModes}
use Rattle.field.proofs.Within.{accepted_is, record_is, list_is, within}
use Rattle.field.proofs.Tested.{strings_tested, attributes_tested, list_whole, read_is}
use Rattle.field.proofs.Placed.{placed}

-- one test after another
either : {B : Type 0} (x y : Result Unit Refusal) (z : Result B Refusal) → and_then x (λ _. and_then y (λ _. z)) ≡ and_then (and_then x (λ _. y)) (λ _. z)
either (Ok u) y z = refl
either (Err why) y z = refl

module _ (e : Bor (List ℕ)) (h : HasStrings e) where
  abbrev r : AdsFieldInfo
  r = record_is e h

  -- the attributes that stand behind their place are those of the record
  abbrev there_by : Bool → List AdsAttribute
  there_by b = if b then listed (after e (attributes_at e.now + 2)) (le2 e.now (attributes_at e.now)) else []

  room : (flagged : Bool) (left : ℕ) → (if flagged then leb 2 left else false) ≡ true → 2 ≤ left
  room true left h = leb-true 2 left h
  room false left h = cc

  pub attributes_are : attributes_met e ≡ shown r
  attributes_are =
      let p = placed e h in
      by (attributes_there e.now) refl p.attributes p.count
    where
      by : (b : Bool) → attributes_there e.now ≡ b → r.attributes.bytes ≡ after e (min (attributes_at e.now + (if b then 2 else 0)) (length e.now))
          → r.attributes.count ≡ (if b then length (listed r.attributes.bytes (le2 e.now (attributes_at e.now))) else 0) → there_by b ≡ shown r
      by true y b c =
          let l : 2 ≤ length e.now - attributes_at e.now = room (has (le4 e.now 28) 0x1000) (length e.now - attributes_at e.now) y in
          let m : min (attributes_at e.now + 2) (length e.now) ≡ attributes_at e.now + 2 = omega (arith, l) in
          ap (λ (s : Bor (List ℕ)). listed s (le2 e.now (attributes_at e.now))) (sym (b ∙ ap (after e) m))
          ∙ sym (ap (listed r.attributes.bytes) c ∙ listed_again r.attributes.bytes (le2 e.now (attributes_at e.now)))
      by false y b c = sym (ap (listed r.attributes.bytes) c ∙ listed_none r.attributes.bytes)

  abbrev met : List (ℕ × ℕ)
  met = string_bytes e.now ++ bytes_behind e (attributes_met e)

  abbrev end_at : ℕ → ℕ × ℕ
  end_at k = (k, get_or e.now k 0)

  three_there : (x y z : ℕ × ℕ) → IsThere e x → IsThere e y → IsThere e z → All (IsThere e) (x ∷ y ∷ z ∷ [])
  three_there x y z a b c = All-cons (IsThere e) x (y ∷ z ∷ []) a (All-cons (IsThere e) y (z ∷ []) b (All-cons (IsThere e) z [] c (All-nil (IsThere e))))

  met_there : All (IsThere e) met
  met_there =
      let attributes = all_there e (rest_at e r.attributes.bytes) (shown r) (rest_at e (after_listed r.attributes.bytes r.attributes.count)) (within e h).attributes in
      let behind : All (IsThere e) (bytes_behind e (attributes_met e)) = rw attributes_are attributes in
      let name : 42 + le2 e.now 32 < length e.now = omega (arith, h.strings) in
      let type : 42 + le2 e.now 32 + 1 + le2 e.now 34 < length e.now = omega (arith, h.strings) in
      let comment : 42 + le2 e.now 32 + 1 + le2 e.now 34 + 1 + le2 e.now 36 < length e.now = omega (arith, h.strings) in
      All-append (IsThere e) (string_bytes e.now) (bytes_behind e (attributes_met e))
      (three_there (end_at (42 + le2 e.now 32)) (end_at (42 + le2 e.now 32 + 1 + le2 e.now 34)) (end_at (42 + le2 e.now 32 + 1 + le2 e.now 34 + 1 + le2 e.now 36)) name type comment) behind

  -- the two tests are that of all end bytes that are met
  tests_are : and_then (strings_tested e Checked) (λ _. attributes_tested e) ≡ ended met
  unfolding with_strings
  tests_are =
      ap (λ (l : List (ℕ × ℕ)). and_then (strings_tested e Checked) (λ _. ended l)) (ends_behind e r.attributes.bytes r.attributes.count (list_is e h).place ∙ sym (ap (bytes_behind e) attributes_are))
      ∙ sym (ended_both (string_bytes e.now) (bytes_behind e (attributes_met e)))

  checked_there : field_of Checked e ≡ and_then (ended met) (λ _. field_of Present e)
  checked_there =
      read_is e Checked h ∙ either (strings_tested e Checked) (attributes_tested e) (and_then (list_whole e) (λ _. Ok r))
      ∙ ap₂ (λ (x : Result Unit Refusal) (y : Result AdsFieldInfo Refusal). and_then x (λ _. y)) tests_are (sym (read_is e Present h))

module _ (e : Bor (List ℕ)) where
  abbrev met_by : Bool → List (ℕ × ℕ)
  met_by b = if b then string_bytes e.now ++ bytes_behind e (attributes_met e) else []

  early_by : (b : Bool) → ltb (length e.now) 42 ≡ b → length e.now < strings_end e.now → field_of Checked e ≡ field_of Present e
  unfolding field_of front_of
  early_by true x l = simp x
  early_by false x l = simp (x, lt-ltb (length e.now) (strings_end e.now) l)

  has_strings : leb (strings_end e.now) (length e.now) ≡ true → HasStrings e
  has_strings h = let l = leb-true (strings_end e.now) (length e.now) h in record { header = omega (arith, l); strings = l }

  checked_by : (b : Bool) → leb (strings_end e.now) (length e.now) ≡ b → field_of Checked e ≡ and_then (ended (met_by b)) (λ _. field_of Present e)
  unfolding ended
  checked_by true h = checked_there e (has_strings h)
  checked_by false h = early_by (ltb (length e.now) 42) refl (leb-false (strings_end e.now) (length e.now) h)

  pub checked_is : field_of Checked e ≡ and_then (ended (end_bytes e)) (λ _. field_of Present e)
  checked_is = checked_by (leb (strings_end e.now) (length e.now)) refl

  there_by_room : (b : Bool) → leb (strings_end e.now) (length e.now) ≡ b → All (IsThere e) (met_by b)
  there_by_room true h = met_there e (has_strings h)
  there_by_room false h = All-nil (IsThere e)

pub fields_modes : FieldsModes
fields_modes e =
    record {
      there = there_by_room e (leb (strings_end e.now) (length e.now)) refl;
      tested = tested_first (end_bytes e) (field_of Checked e) (field_of Present e) (checked_is e);
      told = λ mode r c. let a = accepted_is mode e r c in attributes_are e a.strings ∙ ap shown a.is;
    }
