-- What is read of an entry that has a header and strings: a test of the strings, a test of the attributes, and whether one was refused.
use Rattle.std.proofs.Common.{ℕ, ◌+◌, ◌≡◌, refl, ap, ◌∙◌, List, length, Ok, Err, Result, Bor}
use borrow.Author.Tests.{le-ltb}
use Rattle.le.specs.Le.{le2, has}
use Rattle.part.specs.Outcome.{and_then}
use Rattle.refusal.specs.EndBytes.{ended, in_mode}
use Rattle.refusal.specs.declared.Mode.{Mode}
use Rattle.refusal.specs.declared.Refusal.{Refusal}
use Rattle.field.specs.declared.AdsFieldInfo.{AdsFieldInfo}
use Rattle.field.specs.declared.front.Front.{Front}
use Rattle.field.specs.Front.{strings_ended, front_of, front_by_header, HasStrings}
use Rattle.layout.specs.Layout.{guid_of}
use Rattle.field.specs.Tail.{type_guid_flag, sections_of, complete, attribute_ends, tail_of}
use Rattle.field.specs.Field.{joined, behind_items, field_of}
use Rattle.field.proofs.Within.{tail_at, record_is}

front_then : {A B : Type 0} (x : Result Unit Refusal) (f : A) (next : A → Result B Refusal) → and_then (and_then x (λ _. Ok f)) next ≡ and_then x (λ _. next f)
front_then (Ok u) f next = refl
front_then (Err why) f next = refl

tail_then : {A B : Type 0} (y c : Result Unit Refusal) (t : A) (of : A → B) → and_then (and_then y (λ _. and_then c (λ _. Ok t))) (λ t. Ok (of t)) ≡ and_then y (λ _. and_then c (λ _. Ok (of t)))
tail_then (Ok u) (Ok v) t of = refl
tail_then (Ok u) (Err why) t of = refl
tail_then (Err why) c t of = refl

module _ (e : Bor (List ℕ)) where
  abbrev n : ℕ
  n = le2 e.now 32

  abbrev t : ℕ
  t = le2 e.now 34

  abbrev k : ℕ
  k = le2 e.now 36

  abbrev f : Front
  f = front_by_header e

  abbrev pub strings_tested : Mode → Result Unit Refusal
  strings_tested mode = strings_ended mode e.now n t k

  abbrev pub attributes_tested : Result Unit Refusal
  attributes_tested = ended (attribute_ends f.length (tail_at f (behind_items f)).attributes)

  abbrev pub list_whole : Result Unit Refusal
  list_whole = complete (sections_of f (guid_of (behind_items f) (has f.flags.0 type_guid_flag)).1).1

  pub read_is : (mode : Mode) → (h : HasStrings e) → field_of mode e ≡ and_then (strings_tested mode) (λ _. and_then (in_mode mode attributes_tested) (λ _. and_then list_whole (λ _. Ok (record_is e h))))
  unfolding field_of front_of tail_of
  read_is mode h =
      simp (le-ltb (length e.now) 42 h.header, le-ltb (length e.now) (45 + n + t + k) h.strings)
      (front_then (strings_tested mode) f (λ x. and_then (tail_of mode x (behind_items x)) (λ y. Ok (joined x y)))
      ∙ ap (λ (r : Result AdsFieldInfo Refusal). and_then (strings_tested mode) (λ _. r)) (tail_then (in_mode mode attributes_tested) list_whole (tail_at f (behind_items f)) (λ y. joined f y)))
