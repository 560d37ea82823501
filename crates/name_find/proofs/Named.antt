-- What has_name says of a record, and in which case the name is typed.
use Rattle.std.proofs.Common.{◌≡◌, refl, sym, true, List, ℕ, Result}
use Rattle.std.specs.Prelude.{Option, Some, None, Ok, Err}
use Rattle.refusal.specs.declared.Refusal.{Refusal}
use Rattle.names.specs.Names.{same_name}
use Rattle.names.proofs.Laws.{same_either}
use Rattle.index.specs.Steps.{is_record}
use Rattle.name_find.specs.Find.{has_name}

module _ {R : Type 0} (name_of : R → List ℕ) where
  pub same_of : (name : List ℕ) (r : R) → has_name name_of name (Some (Ok r)) ≡ true → same_name (name_of r) name ≡ true
  same_of name r h = h

  -- a record has a name in one case as in another
  pub answer_either : (name typed : List ℕ) → same_name name typed ≡ true → (t : Option (Result R Refusal)) → has_name name_of typed t ≡ has_name name_of name t
  answer_either name typed same None = refl
  answer_either name typed same (Some (Err why)) = refl
  answer_either name typed same (Some (Ok r)) = sym (same_either name typed (name_of r) same)

  -- what has a name is a record
  pub named_record : (name : List ℕ) (t : Option (Result R Refusal)) → has_name name_of name t ≡ true → is_record t ≡ true
  named_record name None h = h
  named_record name (Some (Err why)) h = h
  named_record name (Some (Ok r)) h = refl
