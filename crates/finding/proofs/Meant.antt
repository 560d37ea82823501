-- What is found by a name is the first entry that has it.
use Rattle.std.proofs.Common.{ℕ, ◌<◌, ◌≤◌, ◌≡◌, refl, sym, ap, subst, ◌∙◌, Bool, true, false, List, length, Bor, if◌then◌else◌}
use Rattle.std.specs.Prelude.{ltb, Result, Ok, Err}
use borrow.Author.Tests.{ltb-false}
use Rattle.part.specs.Outcome.{and_then}
use Rattle.refusal.specs.Refusal.{limit}
use Rattle.refusal.specs.declared.Mode.{Mode}
use Rattle.refusal.specs.declared.Refusal.{Refusal}
use Rattle.refusal.specs.declared.Refusal.TheVariants.{TooLarge}
use Rattle.names.proofs.Meaning.{same_by_letters}
use Rattle.walk.specs.Step.{step_at}
use Rattle.walk.proofs.Back.{steps_back}
use Rattle.name_find.specs.Find.{find}
use Rattle.name_find.proofs.Meaning.{found_is_first_of}
use Rattle.report.specs.declared.Upload.{Upload}
use Rattle.finding.specs.declared.Found.{Found}
use Rattle.finding.specs.Find.{entry_at, named}
use Rattle.finding.specs.Meaning.{IsFirst, NamedMeant}

small_of : (b : Bool) (n m : ℕ) (large : Refusal) (y : Result ℕ Refusal) (at : ℕ) → ltb n m ≡ b → (if b then Err large else y) ≡ Ok at → m ≤ n
small_of true n m large y at e h = cc
small_of false n m large y at e h = ltb-false n m e

module _ {R : Type 0} (header : ℕ) (read : Mode → Bor (List ℕ) → Result R Refusal) (length_of : R → ℕ) (name_of : R → List ℕ) (four : 4 < header)
    (long : (mode : Mode) (e : Bor (List ℕ)) (r : R) → read mode e ≡ Ok r → length_of r ≡ length e.now)
    (room : (mode : Mode) (e : Bor (List ℕ)) (r : R) → read mode e ≡ Ok r → header ≤ length e.now) where
  small : (mode : Mode) (s : Bor (List ℕ)) (name : List ℕ) (at : ℕ) → find name_of (read mode) s name ≡ Ok at → length s.now ≤ limit
  unfolding find
  small mode s name at h = small_of (ltb limit (length s.now)) limit (length s.now) (TooLarge (length s.now)) _ at refl h

  -- the step at a place that is found gives an entry that has the name
  record Given (u : Upload) (name : List ℕ) (place : ℕ) : Type 0 where
    pub entry : R
    pub answered : named name_of read u name ≡ Ok (record { at = place; entry = entry })
    pub first_there : IsFirst header read length_of name_of u name (record { at = place; entry = entry })

  given : (u : Upload) (name : List ℕ) (place : ℕ) → find name_of (read u.mode) u.bytes name ≡ Ok place → Given u name place
  unfolding named
  given u name place h =
      let f = (found_is_first_of header read length_of name_of four long room).walk u.mode u.bytes name place h in
      let is = steps_back (read u.mode) header length_of four (long u.mode) u.bytes place f.has.entry (small u.mode u.bytes name place h) f.has.alone in
      record {
        entry = f.has.entry;
        answered = ap (λ r. and_then r (λ at. entry_at at (step_at (read u.mode) u.bytes at).answer)) h ∙ ap (entry_at place) is;
        first_there = record { first = f; given = is; letters = (same_by_letters (name_of f.has.entry) name).0 f.has.named };
      }

  -- a name that finding refuses is not answered
  not_both : (u : Upload) (name : List ℕ) (f : Found R) (why : Refusal) → find name_of (read u.mode) u.bytes name ≡ Err why → named name_of read u name ≡ Ok f → ⊥
  unfolding named
  not_both u name f why e h =
      let k : Err why ≡ Ok f = sym (ap (λ r. and_then r (λ at. entry_at at (step_at (read u.mode) u.bytes at).answer)) e) ∙ h in
      cc

  first_by : (u : Upload) (name : List ℕ) (f : Found R) (r : Result ℕ Refusal) → find name_of (read u.mode) u.bytes name ≡ r → named name_of read u name ≡ Ok f → IsFirst header read length_of name_of u name f
  first_by u name f (Ok place) e h =
      let g = given u name place e in
      let same : record { at = place; entry = g.entry } ≡ f = cc (g.answered, h) in
      subst (IsFirst header read length_of name_of u name) same g.first_there
  first_by u name f (Err why) e h = absurd (not_both u name f why e h)

  pub named_meant_of : NamedMeant header read length_of name_of
  unfolding named
  named_meant_of = record {
    first = λ u name f h. first_by u name f (find name_of (read u.mode) u.bytes name) refl h;
    there = λ u name at h.
        let g = given u name at h in
        record { found = record { at = at; entry = g.entry }; is = g.answered; there = refl };
    refused = λ u name why h. ap (λ r. and_then r (λ at. entry_at at (step_at (read u.mode) u.bytes at).answer)) h;
  }
