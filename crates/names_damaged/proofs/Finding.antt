-- What is found by its name where another upload differs inside some entries: proved, for any kind of entry that has a name.
use Rattle.std.proofs.Common.{ℕ, zero, suc, ◌<◌, ◌≤◌, ◌≡◌, inl, inr, subst, refl, sym, ap, ◌∙◌, Bool, true, false, List, [], ◌∷◌, ◌++◌, length, take, drop, filter, arith, Bor, Option, Some, None, Result, Ok, Err, option_map, ok_or, if◌then◌else◌}
use Rattle.std.specs.Prelude.{ltb, eqb, All}
use Rattle.std.specs.List.{find as first_of, list_any}
use Rattle.std.specs.List.Sorted.{IsPermutation}
use Rattle.std.proofs.lemmas.List.Elements.{All-nil, All-cons, All-head, All-tail}
use Rattle.std.proofs.lemmas.List.Sorted.{All-permutation}
use borrow.Author.Tests.{le-ltb}
use Rattle.le.specs.Le.{le2, part}
use Rattle.le.proofs.Laws.{not_both}
use Rattle.part.specs.Slice as slice
use Rattle.refusal.specs.Refusal.{limit}
use Rattle.refusal.specs.declared.Mode.{Mode}
use Rattle.refusal.specs.declared.Refusal.{Refusal}
use Rattle.refusal.specs.declared.Refusal.TheVariants.{TooLarge, ZeroEntryLength, NameNotFound}
use Rattle.names.specs.Names.{same_name}
use Rattle.entry.specs.declared.Claimed.{Claimed}
use Rattle.entry.specs.Walk.{stands, steps}
use Rattle.entry.specs.Alike.{among, DiffersInside, IsWalkedAlike}
use Rattle.entry.proofs.Alike.{among_cases, among_first, among_rest, any_alike, walked_alike}
use Rattle.walk.specs.Mapped.{map_ok}
use Rattle.walk.specs.Step.{step_at}
use Rattle.index.specs.Index.{indexing}
use Rattle.index.specs.Steps.{gives, BySteps}
use Rattle.index.proofs.Meaning.{built}
use Rattle.damage.proofs.Stays as stays
use Rattle.damage.proofs.Theorems.{stays_anywhere_of}
use Rattle.name_order.specs.declared.places.NamePlaces.{NamePlaces}
use Rattle.named.specs.Named.{TellsName}
use Rattle.name_find.specs.Find.{has_name, is_named, find, find_indexed}
use Rattle.name_find.specs.Meaning.{HasName, Finds}
use Rattle.name_find.proofs.Meaning.{has_of, found_is_first_of, same_find_of}
use Rattle.name_index.specs.Index.{name_indexing, Halves}
use Rattle.name_index.proofs.Meaning.{before_order, within_limit, is_index, same_halved_of}
use Rattle.names_damaged.specs.Finding.{AreBuilt, built as built_of, SameThere, HalvesThere, FindingStays}

-- the first of some places that passes one test, or another that agrees with it there
first_alike : (f g : ℕ → Bool) (l : List ℕ) → ((x : ℕ) → among l x ≡ true → f x ≡ g x) → first_of f l ≡ first_of g l
first_alike f g [] h = refl
first_alike f g (x ∷ l) h = simp (h x (among_first x l), first_alike f g l (λ y k. h y (among_rest x l y k)))

-- it is the first of one place, or of none
first_alone : (f : ℕ → Bool) (l : List ℕ) → (k : ℕ) × (first_of f (take 1 (drop k l)) ≡ first_of f l)
first_alone f [] = (0, refl)
first_alone f (x ∷ l) = by (f x) refl (first_alone f l)
  where
    by : (b : Bool) → f x ≡ b → (k : ℕ) × (first_of f (take 1 (drop k l)) ≡ first_of f l) → (k : ℕ) × (first_of f (take 1 (drop k (x ∷ l))) ≡ first_of f (x ∷ l))
    by true e on = (0, simp e)
    by false e on = (suc on.0, simp e on.1)

-- places that are among others
among_take : (n : ℕ) (l : List ℕ) (x : ℕ) → among (take n l) x ≡ true → among l x ≡ true
among_take zero [] x h = h
among_take (suc n) [] x h = h
among_take zero (y ∷ l) x h = absurd (not_both h refl)
among_take (suc n) (y ∷ l) x h = elim (among_cases y (take n l) x h) [ inl e ↦ subst (λ (z : ℕ). among (y ∷ l) z ≡ true) e (among_first y l) | inr k ↦ among_rest y l x (among_take n l x k) ]

among_drop : (n : ℕ) (l : List ℕ) (x : ℕ) → among (drop n l) x ≡ true → among l x ≡ true
among_drop zero l x h = h
among_drop (suc n) [] x h = h
among_drop (suc n) (y ∷ l) x h = among_rest y l x (among_drop n l x h)

among_filter : (test : ℕ → Bool) (l : List ℕ) (x : ℕ) → among (filter test l) x ≡ true → among l x ≡ true
among_filter test [] x h = h
among_filter test (y ∷ l) x h = by (test y) h (among_filter test l x)
  where
    by : (b : Bool) → among (if b then y ∷ filter test l else filter test l) x ≡ true → (among (filter test l) x ≡ true → among l x ≡ true) → among (y ∷ l) x ≡ true
    by true h on = elim (among_cases y (filter test l) x h) [ inl e ↦ subst (λ (z : ℕ). among (y ∷ l) z ≡ true) e (among_first y l) | inr k ↦ among_rest y l x (on k) ]
    by false h on = among_rest y l x (on h)

among_middle : (before : List ℕ) (at : ℕ) (behind : List ℕ) → among (before ++ (at ∷ behind)) at ≡ true
among_middle [] at behind = among_first at behind
among_middle (x ∷ before) at behind = among_rest x (before ++ (at ∷ behind)) at (among_middle before at behind)

-- what is so of each place of a list
each_of : (P : ℕ → Type 0) (l : List ℕ) → ((x : ℕ) → among l x ≡ true → P x) → All P l
each_of P [] h = All-nil P
each_of P (x ∷ l) h = All-cons P x l (h x (among_first x l)) (each_of P l (λ y k. h y (among_rest x l y k)))

of_each : (P : ℕ → Type 0) (l : List ℕ) (x : ℕ) → All P l → among l x ≡ true → P x
of_each P [] x a h = absurd (not_both h refl)
of_each P (y ∷ l) x a h = elim (among_cases y l x h) [ inl e ↦ subst P e (All-head P y l a) | inr k ↦ of_each P l x (All-tail P y l a) k ]

moved_among : (l moved within : List ℕ) → IsPermutation l moved → ((x : ℕ) → among l x ≡ true → among within x ≡ true) → (x : ℕ) → among moved x ≡ true → among within x ≡ true
moved_among l moved within p h x = of_each (λ y. among within y ≡ true) moved x (All-permutation (λ y. among within y ≡ true) l moved p (each_of (λ y. among within y ≡ true) l h))

-- the answer where nothing is too large
only_not_found : (o : Option ℕ) (why : Refusal) → ok_or o NameNotFound ≡ Err why → why ≡ NameNotFound
only_not_found None why h = let e : NameNotFound ≡ why = cc in sym e
only_not_found (Some at) why h = absurd (let z : ◌≡◌ {A = ℕ} 0 1 = cc in omega arith)

-- what a step finds of a name, by the name in its answer
answer_named : List ℕ → Option (Result (List ℕ) Refusal) → Bool
answer_named name None = false
answer_named name (Some (Err why)) = false
answer_named name (Some (Ok own)) = same_name own name

module _ {R S : Type 0} (header : ℕ) (w : NamePlaces) (read : Mode → Bor (List ℕ) → Result R Refusal) (length_of : R → ℕ) (name_of : R → List ℕ) (told : R → S)
    (four : 4 < header)
    (long : (mode : Mode) (e : Bor (List ℕ)) (r : R) → read mode e ≡ Ok r → length_of r ≡ length e.now)
    (room : (mode : Mode) (e : Bor (List ℕ)) (r : R) → read mode e ≡ Ok r → header ≤ length e.now)
    (by_steps : (mode : Mode) → BySteps (read mode))
    (named : (mode : Mode) (e : Bor (List ℕ)) (r : R) → read mode e ≡ Ok r → TellsName w e.now (name_of r))
    (alike : (mode : Mode) (e f : Bor (List ℕ)) → e.now ≡ f.now → map_ok told (read mode e) ≡ map_ok told (read mode f)) where
  abbrev walked : Mode → Bor (List ℕ) → List ℕ → Result ℕ Refusal
  walked mode = find name_of (read mode)

  abbrev indexed : Mode → Bor (List ℕ) → List ℕ → List ℕ → Result ℕ Refusal
  indexed mode = find_indexed name_of (read mode)

  abbrev halves_of : Mode → Bor (List ℕ) → List ℕ → List ℕ → Result ℕ Refusal → Type 0
  halves_of mode = Halves w (read mode) name_of

  abbrev Has : Mode → Bor (List ℕ) → List ℕ → ℕ → Type 0
  Has = HasName header read length_of name_of

  answer_name : (name : List ℕ) (x : Option (Result R Refusal)) → answer_named name (option_map (map_ok name_of) x) ≡ has_name name_of name x
  unfolding answer_named
  answer_name name None = refl
  answer_name name (Some (Err why)) = refl
  answer_name name (Some (Ok r)) = refl

  -- an entry has the same name wherever it lies
  names_by : (mode : Mode) (e f : Bor (List ℕ)) (x y : Result R Refusal) → read mode e ≡ x → read mode f ≡ y → e.now ≡ f.now → map_ok told x ≡ map_ok told y → map_ok name_of x ≡ map_ok name_of y
  names_by mode e f (Ok r) (Ok q) h k same is =
      ap Ok ((named mode e r h).is ∙ ap (λ (l : List ℕ). part l w.name (le2 l w.length)) same ∙ sym (named mode f q k).is)
  names_by mode e f (Err why) (Err other) h k same is = let a : why ≡ other = cc in ap Err a
  names_by mode e f (Ok r) (Err why) h k same is = absurd (let z : ◌≡◌ {A = ℕ} 0 1 = cc in omega arith)
  names_by mode e f (Err why) (Ok r) h k same is = absurd (let z : ◌≡◌ {A = ℕ} 0 1 = cc in omega arith)

  names_alike : (mode : Mode) (e f : Bor (List ℕ)) → e.now ≡ f.now → map_ok name_of (read mode e) ≡ map_ok name_of (read mode f)
  names_alike mode e f same = names_by mode e f (read mode e) (read mode f) refl refl same (alike mode e f same)

  -- a place that has not the name passes no test for it
  not_named : (mode : Mode) (s : Bor (List ℕ)) (name : List ℕ) (p : ℕ) → (Has mode s name p → ⊥) → is_named name_of (read mode) s name p ≡ false
  not_named mode s name p none = by (is_named name_of (read mode) s name p) refl
    where
      by : (b : Bool) → is_named name_of (read mode) s name p ≡ b → b ≡ false
      by true e = absurd (none (has_of header read length_of name_of four long room mode s name p e))
      by false e = refl

  -- the slots of an index and of a name index are places of the walk
  module _ (mode : Mode) (s : Bor (List ℕ)) where
    slots_reached : {a : List ℕ} → AreBuilt (indexing (read mode) s) a → (x : ℕ) → among a x ≡ true → among (steps s.now) x ≡ true
    slots_reached (built_of {old} {new} {n} h) x k =
        let is = (built (read mode) s old new n h).first ∙ (by_steps mode).starts_are s in
        among_filter (gives (read mode) s) (steps s.now) x (ap (λ (l : List ℕ). among l x) (sym is) ∙ k)

    ordered_reached : {a : List ℕ} → AreBuilt (name_indexing w (read mode) s) a → (x : ℕ) → among a x ≡ true → among (steps s.now) x ≡ true
    ordered_reached (built_of {old} {new} {n} h) =
        moved_among (filter (gives (read mode) s) (steps s.now)) (take n new) (steps s.now) (is_index w (read mode) (by_steps mode) s old new n h).same (among_filter (gives (read mode) s) (steps s.now))

    small_of : {a : List ℕ} → AreBuilt (name_indexing w (read mode) s) a → length s.now ≤ limit
    small_of (built_of {old} {new} {n} h) = within_limit w (read mode) (by_steps mode) s old new n h

    -- what is found through an index, and by halving through a name index, is what is found without one
    as_without : (name : List ℕ) {a : List ℕ} → AreBuilt (indexing (read mode) s) a → indexed mode s a name ≡ walked mode s name
    as_without name (built_of {old} {new} {n} h) = same_find_of read name_of by_steps mode s old new n h name

    as_halved : (name : List ℕ) {a : List ℕ} (r : Result ℕ Refusal) → AreBuilt (name_indexing w (read mode) s) a → halves_of mode s a name r → r ≡ walked mode s name
    as_halved name r (built_of {old} {new} {n} h) halves =
        let p = before_order w (read mode) (by_steps mode) s old new n h in
        (same_halved_of w (read mode) (by_steps mode) name_of (named mode) s old new n h old p.mid n p.built name r halves).1

    -- and so is what is found from slot to slot through a name index
    one_slot : (slots name : List ℕ) → (k : ℕ) × (indexed mode s slots name ≡ indexed mode s (take 1 (drop k slots)) name)
    unfolding find_indexed
    one_slot slots name =
        let f = first_alone (is_named name_of (read mode) s name) slots in
        (f.0, ap (λ (o : Option ℕ). if ltb limit (length s.now) then Err (TooLarge (length s.now)) else ok_or o NameNotFound) (sym f.1))

    as_ordered : (name : List ℕ) {a : List ℕ} → AreBuilt (name_indexing w (read mode) s) a → indexed mode s a name ≡ walked mode s name
    as_ordered name {a} x = as_halved name (indexed mode s a name) x (record { one = one_slot a name; ordered = λ o. refl })

  module _ (mode : Mode) (s t : Bor (List ℕ)) (places name : List ℕ) (d : DiffersInside s.now t.now places)
      (none_s : (p : ℕ) → among places p ≡ true → Has mode s name p → ⊥) (none_t : (p : ℕ) → among places p ≡ true → Has mode t name p → ⊥) where
    abbrev both : IsWalkedAlike s.now t.now places
    both = walked_alike s.now t.now places d

    named_other : (at : ℕ) → among (steps s.now) at ≡ true → among places at ≡ false → is_named name_of (read mode) s name at ≡ is_named name_of (read mode) t name at
    unfolding is_named
    named_other at h off =
        sym (answer_name name (step_at (read mode) s at).answer)
        ∙ ap (answer_named name) (stays.answer_alike (read mode) name_of s t places d (λ at' size e. names_alike mode (slice.part s at' size) (slice.part t at' size) e) at (inl h) off)
        ∙ answer_name name (step_at (read mode) t at).answer

    named_by : (at : ℕ) (b : Bool) → among places at ≡ b → among (steps s.now) at ≡ true → is_named name_of (read mode) s name at ≡ is_named name_of (read mode) t name at
    named_by at true e h = not_named mode s name at (none_s at e) ∙ sym (not_named mode t name at (none_t at e))
    named_by at false e h = named_other at h e

    named_alike : (at : ℕ) → among (steps s.now) at ≡ true → is_named name_of (read mode) s name at ≡ is_named name_of (read mode) t name at
    named_alike at h = named_by at (among places at) refl h

    same_stood : list_any (stands s.now) (steps s.now) ≡ list_any (stands t.now) (steps t.now)
    same_stood =
        any_alike s.now t.now d.long (stands s.now) (stands t.now) (steps s.now) (λ x k. ap (λ (c : Claimed). eqb c.next x) (both.claim x (inl k)))
        ∙ ap (λ (l : List ℕ). list_any (stands t.now) l) both.begin

    -- an answer by the length, and what is found
    answer_by : Refusal → ℕ → Option ℕ → Result ℕ Refusal
    answer_by other n o = if ltb limit n then Err (TooLarge n) else ok_or o other

    find_alike : walked mode s name ≡ walked mode t name
    unfolding find answer_by
    find_alike =
        ap (λ (n : ℕ). answer_by (if list_any (stands s.now) (steps s.now) then ZeroEntryLength else NameNotFound) n (first_of (is_named name_of (read mode) s name) (steps s.now))) d.long
        ∙ ap (λ (o : Option ℕ). answer_by (if list_any (stands s.now) (steps s.now) then ZeroEntryLength else NameNotFound) (length t.now) o)
        (first_alike (is_named name_of (read mode) s name) (is_named name_of (read mode) t name) (steps s.now) named_alike ∙ ap (λ (l : List ℕ). first_of (is_named name_of (read mode) t name) l) both.begin)
        ∙ ap (λ (b : Bool). answer_by (if b then ZeroEntryLength else NameNotFound) (length t.now) (first_of (is_named name_of (read mode) t name) (steps t.now))) same_stood

    -- through slots that are places of the first's walk
    slots_alike : (slots : List ℕ) → ((x : ℕ) → among slots x ≡ true → among (steps s.now) x ≡ true) → indexed mode t slots name ≡ indexed mode s slots name
    unfolding find_indexed answer_by
    slots_alike slots h =
        ap (λ (n : ℕ). answer_by NameNotFound n (first_of (is_named name_of (read mode) t name) slots)) (sym d.long)
        ∙ ap (λ (o : Option ℕ). answer_by NameNotFound (length s.now) o) (sym (first_alike (is_named name_of (read mode) s name) (is_named name_of (read mode) t name) slots (λ x k. named_alike x (h x k))))

    elsewhere : (at : ℕ) (b : Bool) → among places at ≡ b → Has mode s name at → among places at ≡ false
    elsewhere at true e h = absurd (none_s at e h)
    elsewhere at false e h = e

    -- a step of the first that has the name is the same in the second
    same_there : (at : ℕ) → among (steps s.now) at ≡ true → Has mode s name at → SameThere header w read length_of name_of told mode s t places at
    same_there at r h =
        let off = elsewhere at (among places at) refl h in
        let stay = stays_anywhere_of length_of told header four (read mode) (by_steps mode) (long mode) (alike mode) in
        record { reached = r; elsewhere = off; same = (stay.step s t places d).other at (inl r) off }

    found_there : (at : ℕ) → walked mode s name ≡ Ok at → SameThere header w read length_of name_of told mode s t places at
    found_there at h =
        let f = (found_is_first_of header read length_of name_of four long room).walk mode s name at h in
        same_there at (ap (λ (l : List ℕ). among l at) f.among ∙ among_middle f.before at f.behind) f.has

    -- by halving in the second through the name index of the first
    module _ {a : List ℕ} (x : AreBuilt (name_indexing w (read mode) s) a) (r : Result ℕ Refusal) (halves : halves_of mode t a name r) where
      abbrev one : List ℕ
      one = take 1 (drop halves.one.0 a)

      one_reached : (y : ℕ) → among one y ≡ true → among (steps s.now) y ≡ true
      one_reached y k = ordered_reached mode s x y (among_drop halves.one.0 a y (among_take 1 (drop halves.one.0 a) y k))

      through_one : r ≡ indexed mode s one name
      through_one = halves.one.1 ∙ slots_alike one one_reached

      finds_first : (at : ℕ) → r ≡ Ok at → Finds header read length_of name_of mode s name one at
      finds_first at h = (found_is_first_of header read length_of name_of four long room).index mode s one name at (sym through_one ∙ h)

      finds_second : (at : ℕ) → r ≡ Ok at → Finds header read length_of name_of mode t name one at
      finds_second at h = (found_is_first_of header read length_of name_of four long room).index mode t one name at (sym halves.one.1 ∙ h)

      refused_so : (why : Refusal) → r ≡ Err why → why ≡ NameNotFound
      unfolding find_indexed
      refused_so why h = only_not_found (first_of (is_named name_of (read mode) s name) one) why (sym (through_one ∙ simp (le-ltb limit (length s.now) (small_of mode s x))) ∙ h)

      halved_there : HalvesThere header w read length_of name_of told walked indexed halves_of mode s t places a name r
      halved_there = record {
        first = λ at h. (finds_first at h).has;
        second = λ at h. (finds_second at h).has;
        there = λ at h.
            let f = finds_first at h in
            same_there at (one_reached at (ap (λ (l : List ℕ). among l at) f.among ∙ among_middle f.before at f.behind)) f.has;
        refused = refused_so;
        ordered = λ o. halves.ordered o ∙ slots_alike a (ordered_reached mode s x) ∙ as_ordered mode s name x;
      }

  pub finding_stays_of : FindingStays header w read length_of name_of told walked indexed halves_of
  finding_stays_of mode s t places name d none_s none_t =
      let same = find_alike mode s t places name d none_s none_t in
      record {
        walk = same;
        own = λ a b x y. as_without mode s name x ∙ same ∙ sym (as_without mode t name y);
        crossed = λ a x. slots_alike mode s t places name d none_s none_t a (slots_reached mode s x);
        there = found_there mode s t places name d none_s none_t;
        halved = λ a b x y q r h k. as_halved mode s name q x h ∙ same ∙ sym (as_halved mode t name r y k);
        halved_crossed = λ a x r h. halved_there mode s t places name d none_s none_t x r h;
      }
