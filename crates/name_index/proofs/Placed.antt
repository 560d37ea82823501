-- An entry is found by the name that it carries exactly where that name stands at the kind's places, by which halving goes.
use Rattle.std.proofs.Common.{ℕ, ◌≡◌, refl, sym, ap, ◌∙◌, Bool, false, List, length, Bor, Result, if◌then◌else◌}
use Rattle.std.specs.Prelude.{Option, Some, None, Ok, Err, ltb, ok_or}
use Rattle.std.specs.Option.{option_map}
use Rattle.std.specs.List.{find as first_of}
use Rattle.part.specs.Slice as slice
use Rattle.part.specs.Outcome.{and_then}
use Rattle.refusal.specs.Refusal.{limit}
use Rattle.refusal.specs.declared.Refusal.{Refusal}
use Rattle.refusal.specs.declared.Refusal.TheVariants.{TooLarge, NameNotFound}
use Rattle.names.specs.Names.{same_name}
use Rattle.entry.specs.Entry.{claim_at}
use Rattle.walk.specs.Step.{step_at}
use Rattle.index.specs.Steps.{is_record, gives}
use Rattle.name_order.specs.declared.places.NamePlaces.{NamePlaces}
use Rattle.name_order.specs.Order.{name_at}
use Rattle.named.specs.Named.{TellsName}
use Rattle.named.proofs.Told.{told_there}
use Rattle.name_find.specs.Find as by_record

module _ {R : Type 0} (w : NamePlaces) (read : Bor (List ℕ) → Result R Refusal) where
  -- a step from here gives a record, and that name stands there
  unfoldable pub is_named : Bor (List ℕ) → List ℕ → ℕ → Bool
  is_named s name at = if gives read s at then same_name (name_at w s.now at) name else false

  unfoldable pub find_indexed : Bor (List ℕ) → List ℕ → List ℕ → Result ℕ Refusal
  find_indexed s slots name =
      if ltb limit (length s.now) then Err (TooLarge (length s.now))
      else ok_or (first_of (is_named s name) slots) NameNotFound

module _ {R : Type 0} (w : NamePlaces) (name_of : R → List ℕ) (read : Bor (List ℕ) → Result R Refusal)
    (told : (e : Bor (List ℕ)) (r : R) → read e ≡ Ok r → TellsName w e.now (name_of r)) (s : Bor (List ℕ)) (name : List ℕ) where
  own : (at size : ℕ) (t : Result R Refusal) → read (slice.part s at size) ≡ t → by_record.has_name name_of name (Some t) ≡ (if is_record (Some t) then same_name (name_at w s.now at) name else false)
  own at size (Err why) e = refl
  own at size (Ok r) e = ap (λ (l : List ℕ). same_name l name) (told_there w s at size (name_of r) (told (slice.part s at size) r e))

  pub named_alike : (at : ℕ) → by_record.is_named name_of read s name at ≡ is_named w read s name at
  unfolding is_named by_record.is_named step_at
  named_alike at = by (claim_at s.now at).size
    where
      by : (c : Option (Result ℕ Refusal)) → by_record.has_name name_of name (option_map (λ claim. and_then claim (λ size. read (slice.part s at size))) c) ≡ (if is_record (option_map (λ claim. and_then claim (λ size. read (slice.part s at size))) c) then same_name (name_at w s.now at) name else false)
      by None = refl
      by (Some (Err why)) = refl
      by (Some (Ok size)) = own at size (read (slice.part s at size)) refl

  pub found_alike : (slots : List ℕ) → by_record.find_indexed name_of read s slots name ≡ find_indexed w read s slots name
  unfolding find_indexed by_record.find_indexed
  found_alike slots =
      let tests : by_record.is_named name_of read s name ≡ is_named w read s name = λ i at. named_alike at i in
      ap (λ (t : ℕ → Bool). if ltb limit (length s.now) then Err (TooLarge (length s.now)) else ok_or (first_of t slots) NameNotFound) tests
