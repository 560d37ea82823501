-- What finding means: proved.
use Rattle.std.proofs.Common.{ℕ, ◌<◌, ◌≤◌, ◌≡◌, refl, sym, ap, ◌∙◌, Bool, true, false, List, [], ◌∷◌, ◌++◌, length, Bor, if◌then◌else◌}
use Rattle.std.specs.Prelude.{ltb, ◌||◌, filter, take, Option, Some, None, Result, Ok, Err, ok_or}
use Rattle.std.specs.List.{find as first_of, list_any}
use Rattle.std.proofs.lemmas.List.Elements.{All-nil, All-cons, All-head, All-tail}
use borrow.Author.Tests.{le-ltb, ltb-false, lt-ltb}
use Rattle.le.proofs.Laws.{not_both}
use Rattle.refusal.specs.Refusal.{limit}
use Rattle.refusal.specs.declared.Mode.{Mode}
use Rattle.refusal.specs.declared.Refusal.{Refusal}
use Rattle.refusal.specs.declared.Refusal.TheVariants.{TooLarge, ZeroEntryLength, NameNotFound}
use Rattle.names.specs.Names.{same_name}
use Rattle.entry.specs.Walk.{stands, steps}
use Rattle.walk.specs.Step.{step_at}
use Rattle.walk.proofs.Theorems.{reads}
use Rattle.walk.proofs.Back.{steps_back}
use Rattle.index.specs.Steps.{gives, BySteps}
use Rattle.index.proofs.Meaning.{built}
use Rattle.name_find.specs.Find.{has_name, is_named, find, find_indexed}
use Rattle.name_find.specs.Meaning.{HasName, Nowhere, Finds, Answers, FoundIsFirst, RefusedIsNowhere, FindMeant, AnyCase, SameFind}
use Rattle.name_find.proofs.Named.{same_of, answer_either, named_record}

-- the first of some places that passes a test
record IsFirst (test : ℕ → Bool) (places : List ℕ) (at : ℕ) : Type 0 where
  before : List ℕ
  behind : List ℕ
  among : places ≡ before ++ (at ∷ behind)
  passes : test at ≡ true
  none : list_any test before ≡ false

module _ (test : ℕ → Bool) (other : Refusal) where
  first_is : (places : List ℕ) (at : ℕ) → ok_or (first_of test places) other ≡ Ok at → IsFirst test places at
  first_is [] at h = cc
  first_is (x ∷ more) at h = turn (first_is more at) (test x) refl h
    where
      turn : (ok_or (first_of test more) other ≡ Ok at → IsFirst test more at) → (t : Bool) → test x ≡ t → ok_or (if t then Some x else first_of test more) other ≡ Ok at → IsFirst test (x ∷ more) at
      turn on true e k = let x-at : x ≡ at = cc in record { before = []; behind = more; among = ap (λ (y : ℕ). y ∷ more) x-at; passes = rw x-at at e; none = refl }
      turn on false e k =
          let r = on k in
          record { before = x ∷ r.before; behind = r.behind; among = ap (λ (m : List ℕ). x ∷ m) r.among; passes = r.passes; none = simp e r.none }

  -- what is not found stands nowhere
  nowhere : (places : List ℕ) (why : Refusal) → ok_or (first_of test places) other ≡ Err why → list_any test places ≡ false
  nowhere [] why h = refl
  nowhere (x ∷ more) why h = turn (nowhere more why) (test x) h
    where
      turn : (ok_or (first_of test more) other ≡ Err why → list_any test more ≡ false) → (t : Bool) → ok_or (if t then Some x else first_of test more) other ≡ Err why → (t || list_any test more) ≡ false
      turn on true k = cc
      turn on false k = on k

  -- the first that passes, where none before it does; and where none does, none is found
  first_at : (before behind : List ℕ) (at : ℕ) → list_any test before ≡ false → test at ≡ true → first_of test (before ++ (at ∷ behind)) ≡ Some at
  first_at [] behind at h e = simp e
  first_at (x ∷ before) behind at h e = turn (λ k. first_at before behind at k e) (test x) h
    where
      turn : (list_any test before ≡ false → first_of test (before ++ (at ∷ behind)) ≡ Some at) → (t : Bool) → (t || list_any test before) ≡ false → (if t then Some x else first_of test (before ++ (at ∷ behind))) ≡ Some at
      turn on true k = absurd (not_both refl k)
      turn on false k = on k

  first_none : (places : List ℕ) → list_any test places ≡ false → first_of test places ≡ None
  first_none [] h = refl
  first_none (x ∷ more) h = turn (first_none more) (test x) h
    where
      turn : (list_any test more ≡ false → first_of test more ≡ None) → (t : Bool) → (t || list_any test more) ≡ false → (if t then Some x else first_of test more) ≡ None
      turn on true k = absurd (not_both refl k)
      turn on false k = on k

within : (b : Bool) (large : Refusal) (y : Result ℕ Refusal) (at : ℕ) → (if b then Err large else y) ≡ Ok at → y ≡ Ok at
within true large y at h = cc
within false large y at h = h

small_of : (b : Bool) (n m : ℕ) (large : Refusal) (y : Result ℕ Refusal) (at : ℕ) → ltb n m ≡ b → (if b then Err large else y) ≡ Ok at → m ≤ n
small_of true n m large y at e h = cc
small_of false n m large y at e h = ltb-false n m e

-- the first of those that pass a weaker test
module _ (test weaker : ℕ → Bool) (passes : (at : ℕ) → test at ≡ true → weaker at ≡ true) where
  first_filter : (places : List ℕ) → first_of test (filter weaker places) ≡ first_of test places
  first_filter [] = refl
  first_filter (x ∷ more) = turn (first_filter more) (test x) (weaker x) refl refl
    where
      turn : first_of test (filter weaker more) ≡ first_of test more → (t w : Bool) → test x ≡ t → weaker x ≡ w → first_of test (if w then x ∷ filter weaker more else filter weaker more) ≡ (if t then Some x else first_of test more)
      turn on true true e f = simp e
      turn on false true e f = simp e on
      turn on true false e f = absurd (not_both (passes x e) f)
      turn on false false e f = on

-- of what reading an entry's own bytes gives, and the name that a record carries
module _ {R : Type 0} (read : Mode → Bor (List ℕ) → Result R Refusal) (name_of : R → List ℕ) where
  abbrev pub walked : Mode → Bor (List ℕ) → List ℕ → Result ℕ Refusal
  walked mode = find name_of (read mode)

  abbrev pub indexed : Mode → Bor (List ℕ) → List ℕ → List ℕ → Result ℕ Refusal
  indexed mode = find_indexed name_of (read mode)

  -- the case that a name is typed in makes no difference
  module _ (mode : Mode) (s : Bor (List ℕ)) (name typed : List ℕ) (same : same_name name typed ≡ true) where
    either : is_named name_of (read mode) s typed ≡ is_named name_of (read mode) s name
    unfolding is_named
    either = λ i at. answer_either name_of name typed same (step_at (read mode) s at).answer i

    walked_either : find name_of (read mode) s typed ≡ find name_of (read mode) s name
    unfolding find
    walked_either = simp either

    indexed_either : (slots : List ℕ) → find_indexed name_of (read mode) s slots typed ≡ find_indexed name_of (read mode) s slots name
    unfolding find_indexed
    indexed_either slots = simp either

  pub any_case_of : AnyCase walked indexed
  any_case_of = record { walk = walked_either; index = λ mode s slots name typed same. indexed_either mode s name typed same slots }

  named_gives : (mode : Mode) (s : Bor (List ℕ)) (name : List ℕ) (at : ℕ) → is_named name_of (read mode) s name at ≡ true → gives (read mode) s at ≡ true
  unfolding is_named
  named_gives mode s name at = named_record name_of name (step_at (read mode) s at).answer

  pub same_find_of : ((mode : Mode) → BySteps (read mode)) → SameFind walked indexed read
  unfolding find find_indexed
  same_find_of by_steps mode s old new n w name =
      let steps_are = by_steps mode in
      let b = built (read mode) s old new n w in
      let slots : take n new ≡ filter (gives (read mode) s) (steps s.now) = b.first ∙ steps_are.starts_are s in
      let none : list_any (stands s.now) (steps s.now) ≡ false = sym (steps_are.stopped_is s) ∙ b.none_stood in
      simp (le-ltb limit (length s.now) b.small, none, slots, first_filter (is_named name_of (read mode) s name) (gives (read mode) s) (named_gives mode s name) (steps s.now))

-- of a kind of entry
module _ {R : Type 0} (header : ℕ) (read : Mode → Bor (List ℕ) → Result R Refusal) (length_of : R → ℕ) (name_of : R → List ℕ) where
  module _ (four : 4 < header)
      (long : (mode : Mode) (e : Bor (List ℕ)) (r : R) → read mode e ≡ Ok r → length_of r ≡ length e.now)
      (room : (mode : Mode) (e : Bor (List ℕ)) (r : R) → read mode e ≡ Ok r → header ≤ length e.now) where
    module _ (mode : Mode) (s : Bor (List ℕ)) (name : List ℕ) where
      -- the record of a place with a name is what its entry gives when it is read by itself
      pub has_of : (at : ℕ) → is_named name_of (read mode) s name at ≡ true → HasName header read length_of name_of mode s name at
      unfolding is_named
      has_of at h = by (step_at (read mode) s at).answer refl h
        where
          by : (t : Option (Result R Refusal)) → (step_at (read mode) s at).answer ≡ t → has_name name_of name t ≡ true → HasName header read length_of name_of mode s name at
          by None e h = absurd (not_both h refl)
          by (Some (Err why)) e h = absurd (not_both h refl)
          by (Some (Ok entry)) e h =
              let r = reads (read mode) header length_of four (long mode) (room mode) s at entry e in
              record { entry = entry; alone = r.answers; named = same_of name_of name entry h }

      -- and a place with a name is a step that gives its record
      pub named_of : (at : ℕ) → length s.now ≤ limit → HasName header read length_of name_of mode s name at → is_named name_of (read mode) s name at ≡ true
      unfolding is_named
      named_of at small h = simp (steps_back (read mode) header length_of four (long mode) s at h.entry small h.alone) h.named

      nowhere_of : (places : List ℕ) → length s.now ≤ limit → list_any (is_named name_of (read mode) s name) places ≡ false → Nowhere header read length_of name_of mode s name places
      nowhere_of [] small h = All-nil _
      nowhere_of (x ∷ more) small h = turn (nowhere_of more small) (is_named name_of (read mode) s name x) refl h
        where
          turn : (list_any (is_named name_of (read mode) s name) more ≡ false → Nowhere header read length_of name_of mode s name more) → (t : Bool) → is_named name_of (read mode) s name x ≡ t → (t || list_any (is_named name_of (read mode) s name) more) ≡ false → Nowhere header read length_of name_of mode s name (x ∷ more)
          turn on true e k = absurd (not_both refl k)
          turn on false e k = All-cons (λ at. ¬ HasName header read length_of name_of mode s name at) x more (λ has. not_both (named_of x small has) e) (on k)

      none_named : (places : List ℕ) → Nowhere header read length_of name_of mode s name places → list_any (is_named name_of (read mode) s name) places ≡ false
      none_named [] h = refl
      none_named (x ∷ more) h = turn (none_named more (All-tail (λ at. ¬ HasName header read length_of name_of mode s name at) x more h)) (is_named name_of (read mode) s name x) refl
        where
          turn : list_any (is_named name_of (read mode) s name) more ≡ false → (t : Bool) → is_named name_of (read mode) s name x ≡ t → (t || list_any (is_named name_of (read mode) s name) more) ≡ false
          turn on true e = absurd (All-head (λ at. ¬ HasName header read length_of name_of mode s name at) x more h (has_of x e))
          turn on false e = on

      finds : (places : List ℕ) (other : Refusal) (at : ℕ) → length s.now ≤ limit → ok_or (first_of (is_named name_of (read mode) s name) places) other ≡ Ok at → Finds header read length_of name_of mode s name places at
      finds places other at small h =
          let f = first_is (is_named name_of (read mode) s name) other places at h in
          record { before = f.before; behind = f.behind; among = f.among; has = has_of at f.passes; first = nowhere_of f.before small f.none }

      answers : (places : List ℕ) (other : Refusal) (r : Result ℕ Refusal) → r ≡ (if ltb limit (length s.now) then Err (TooLarge (length s.now)) else ok_or (first_of (is_named name_of (read mode) s name) places) other) → Answers header read length_of name_of mode s name places other r
      answers places other r e = record {
        too_large = λ large. e ∙ simp (lt-ltb limit (length s.now) large);
        found = λ at small f. e ∙ simp (le-ltb limit (length s.now) small, f.among, first_at (is_named name_of (read mode) s name) other f.before f.behind at (none_named f.before f.first) (named_of at small f.has));
        nowhere = λ small none. e ∙ simp (le-ltb limit (length s.now) small, first_none (is_named name_of (read mode) s name) other places (none_named places none));
      }

    walked_first : (mode : Mode) (s : Bor (List ℕ)) (name : List ℕ) (at : ℕ) → find name_of (read mode) s name ≡ Ok at → Finds header read length_of name_of mode s name (steps s.now) at
    unfolding find
    walked_first mode s name at h = finds mode s name (steps s.now) _ at (small_of (ltb limit (length s.now)) limit (length s.now) (TooLarge (length s.now)) _ at refl h) (within (ltb limit (length s.now)) (TooLarge (length s.now)) _ at h)

    indexed_first : (mode : Mode) (s : Bor (List ℕ)) (slots name : List ℕ) (at : ℕ) → find_indexed name_of (read mode) s slots name ≡ Ok at → Finds header read length_of name_of mode s name slots at
    unfolding find_indexed
    indexed_first mode s slots name at h = finds mode s name slots _ at (small_of (ltb limit (length s.now)) limit (length s.now) (TooLarge (length s.now)) _ at refl h) (within (ltb limit (length s.now)) (TooLarge (length s.now)) _ at h)

    pub found_is_first_of : FoundIsFirst header read length_of name_of (walked read name_of) (indexed read name_of)
    found_is_first_of = record { walk = walked_first; index = indexed_first }

    walked_nowhere : (mode : Mode) (s : Bor (List ℕ)) (name : List ℕ) (why : Refusal) → length s.now ≤ limit → find name_of (read mode) s name ≡ Err why → Nowhere header read length_of name_of mode s name (steps s.now)
    unfolding find
    walked_nowhere mode s name why small h = nowhere_of mode s name (steps s.now) small (nowhere (is_named name_of (read mode) s name) _ (steps s.now) why (simp (le-ltb limit (length s.now) small) at h))

    indexed_nowhere : (mode : Mode) (s : Bor (List ℕ)) (slots name : List ℕ) (why : Refusal) → length s.now ≤ limit → find_indexed name_of (read mode) s slots name ≡ Err why → Nowhere header read length_of name_of mode s name slots
    unfolding find_indexed
    indexed_nowhere mode s slots name why small h = nowhere_of mode s name slots small (nowhere (is_named name_of (read mode) s name) _ slots why (simp (le-ltb limit (length s.now) small) at h))

    pub refused_is_nowhere_of : RefusedIsNowhere header read length_of name_of (walked read name_of) (indexed read name_of)
    refused_is_nowhere_of = record { walk = walked_nowhere; index = indexed_nowhere }

    walked_meant : (mode : Mode) (s : Bor (List ℕ)) (name : List ℕ) (other : Refusal) → (if list_any (stands s.now) (steps s.now) then ZeroEntryLength else NameNotFound) ≡ other → Answers header read length_of name_of mode s name (steps s.now) other (find name_of (read mode) s name)
    unfolding find
    walked_meant mode s name other e = answers mode s name (steps s.now) other (find name_of (read mode) s name) (simp e)

    indexed_meant : (mode : Mode) (s : Bor (List ℕ)) (slots name : List ℕ) → Answers header read length_of name_of mode s name slots NameNotFound (find_indexed name_of (read mode) s slots name)
    unfolding find_indexed
    indexed_meant mode s slots name = answers mode s name slots NameNotFound (find_indexed name_of (read mode) s slots name) refl

    pub find_meant_of : FindMeant header read length_of name_of (walked read name_of) (indexed read name_of)
    find_meant_of = record {
      stood = λ mode s name e. walked_meant mode s name ZeroEntryLength (simp e);
      walk = λ mode s name e. walked_meant mode s name NameNotFound (simp e);
      index = indexed_meant;
    }
