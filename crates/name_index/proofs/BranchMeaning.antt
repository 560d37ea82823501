-- What the branch of a text is: proved.
use Rattle.std.proofs.Common.{ℕ, ◌<◌, ◌≤◌, ◌≡◌, refl, sym, ap, subst, ◌∙◌, Bool, true, false, List, [], ◌∷◌, ◌++◌, length, take, drop, get_or, Bor, Result, if◌then◌else◌}
use Rattle.std.specs.Prelude.{Option, Some, None, Ok, Err, All, filter}
use Rattle.std.proofs.lemmas.List.Elements.{All-nil, All-cons, All-head, All-tail}
use Rattle.std.specs.Prelude.{ltb, ok_or}
use Rattle.std.specs.List.{find as first_of}
use Rattle.std.specs.Option.{option_map}
use Rattle.std.specs.List.Sorted.{IsPermutation, IsSortedBy}
use Rattle.std.proofs.lemmas.List.{take-append-drop}
use Rattle.std.proofs.lemmas.List.Kept.{IsSortedBy-filter}
use Rattle.std.proofs.lemmas.List.Sorted.{IsPermutation-refl, IsPermutation-sym, IsPermutation-trans, IsPermutation-cons, IsPermutation-middle}
use Rattle.std.proofs.Math.Seq.{take-append_seam}
use borrow.Author.Tests.{le-ltb, lt-ltb, ltb-true, ltb-false}
use Rattle.le.proofs.Laws.{not_both}
use Rattle.part.specs.Slice as slice
use Rattle.part.specs.Outcome.{and_then}
use Rattle.refusal.specs.Refusal.{limit}
use Rattle.refusal.specs.declared.Refusal.{Refusal}
use Rattle.refusal.specs.declared.Refusal.TheVariants.{NameNotFound}
use Rattle.names.specs.Names.{same_name}
use Rattle.names.proofs.Laws.{same_folded, folded_long}
use Rattle.names.proofs.Meaning.{same_by_letters}
use Rattle.entry.specs.Entry.{claim_at}
use Rattle.entry.specs.Walk.{steps}
use Rattle.writing.specs.Writing.{answer, Writes}
use Rattle.walk.specs.Step.{parse_of, step_at}
use Rattle.walk.proofs.Theorems.{reads}
use Rattle.walk.proofs.Back.{steps_back}
use Rattle.index.specs.Steps.{is_record, gives, BySteps}
use Rattle.name_order.specs.declared.places.NamePlaces.{NamePlaces}
use Rattle.name_order.specs.Order.{name_at, goes_first}
use Rattle.name_order.specs.Branch.{begins_at}
use Rattle.name_order.specs.Sorted.{placed, in_order}
use Rattle.name_order.proofs.Order.{places_weak}
use Rattle.name_order.proofs.Branches.{sorted_branch, run_of}
use Rattle.name_order.proofs.Letters.{in_name_order}
use Rattle.named.specs.Named.{TellsName}
use Rattle.named.proofs.Told.{told_there}
use Rattle.name_index.specs.Index.{name_indexing, Halves}
use Rattle.name_index.specs.Branching.{in_branch, branching}
use Rattle.name_index.specs.BranchMeaning.{HasName, Halved, too_large, not_found, found, HasBranch, Picks, done, picked, passed, InIndex, NamedMeant, BranchMeant, BranchInIndex}
use Rattle.name_index.proofs.Placed.{is_named, named_alike, found_alike}
use Rattle.name_index.proofs.Halving.{find_large, find_within}
use Rattle.name_index.proofs.Branching.{begins_so, of_the_name, branching_large, branching_within, run_filter}
use Rattle.name_index.proofs.Meaning.{named_gives, named_so, untouched, slots_are, within_limit, is_index}

-- of a list that is two, each
module _ (P : ℕ → Type 0) where
  all_right : (xs ys : List ℕ) → All P (xs ++ ys) → All P ys
  all_right [] ys h = h
  all_right (x ∷ xs) ys h = all_right xs ys (All-tail P x (xs ++ ys) h)

  all_left : (xs ys : List ℕ) → All P (xs ++ ys) → All P xs
  all_left [] ys h = All-nil P
  all_left (x ∷ xs) ys h = All-cons P x xs (All-head P x (xs ++ ys) h) (all_left xs ys (All-tail P x (xs ++ ys) h))

all_pass : (test : ℕ → Bool) (xs : List ℕ) → All (λ x. test x ≡ true) xs → filter test xs ≡ xs
all_pass test [] h = refl
all_pass test (x ∷ xs) h = simp (All-head (λ x. test x ≡ true) x xs h) (ap (λ (l : List ℕ). x ∷ l) (all_pass test xs (All-tail (λ x. test x ≡ true) x xs h)))

-- what passes in a list that is put in order is what passes in it, rearranged
module _ (first : ℕ → ℕ → Bool) (test : ℕ → Bool) where
  filter_placed : (x : ℕ) (ys : List ℕ) → IsPermutation (filter test (x ∷ ys)) (filter test (placed first x ys))
  unfolding placed
  filter_placed x [] = IsPermutation-refl _
  filter_placed x (y ∷ ys) = by (filter_placed x ys) (first y x)
    where
      turn : (s t : Bool) (f p : List ℕ) → IsPermutation (if s then x ∷ f else f) p → IsPermutation (if s then x ∷ (if t then y ∷ f else f) else (if t then y ∷ f else f)) (if t then y ∷ p else p)
      turn true true f p on = IsPermutation-trans _ _ _ (IsPermutation-sym _ _ (IsPermutation-middle (y ∷ []) x f)) (IsPermutation-cons y (x ∷ f) p on)
      turn true false f p on = on
      turn false true f p on = IsPermutation-cons y f p on
      turn false false f p on = on

      by : IsPermutation (filter test (x ∷ ys)) (filter test (placed first x ys)) → (b : Bool) → IsPermutation (filter test (x ∷ y ∷ ys)) (filter test (if b then y ∷ placed first x ys else x ∷ y ∷ ys))
      by on false = IsPermutation-refl _
      by on true = turn (test x) (test y) (filter test ys) (filter test (placed first x ys)) on

  filter_order : (xs : List ℕ) → IsPermutation (filter test xs) (filter test (in_order first xs))
  unfolding in_order
  filter_order [] = IsPermutation-refl _
  filter_order (x ∷ xs) = IsPermutation-trans _ _ _ (by (test x) (filter_order xs)) (filter_placed x (in_order first xs))
    where
      by : (t : Bool) → IsPermutation (filter test xs) (filter test (in_order first xs)) → IsPermutation (if t then x ∷ filter test xs else filter test xs) (if t then x ∷ filter test (in_order first xs) else filter test (in_order first xs))
      by true on = IsPermutation-cons x _ _ on
      by false on = on

filter_inner : (outer inner : ℕ → Bool) → ((x : ℕ) → outer x ≡ true → inner x ≡ true) → (xs : List ℕ) → filter outer (filter inner xs) ≡ filter outer xs
filter_inner outer inner h [] = refl
filter_inner outer inner h (x ∷ xs) = by (inner x) refl (outer x) refl (filter_inner outer inner h xs)
  where
    by : (i : Bool) → inner x ≡ i → (o : Bool) → outer x ≡ o → filter outer (filter inner xs) ≡ filter outer xs → filter outer (if i then x ∷ filter inner xs else filter inner xs) ≡ (if o then x ∷ filter outer xs else filter outer xs)
    by true e true q on = simp q (ap (λ (l : List ℕ). x ∷ l) on)
    by true e false q on = simp q on
    by false e true q on = absurd (not_both (h x q) e)
    by false e false q on = on

both_true : (g n : Bool) → (if g then n else false) ≡ true → (g ≡ true) × (n ≡ true)
both_true true n h = (refl, h)
both_true false n h = absurd (not_both h refl)

module _ {R : Type 0} (w : NamePlaces) (header : ℕ) (read : Bor (List ℕ) → Result R Refusal) (length_of : R → ℕ) (name_of : R → List ℕ)
    (four : 4 < header)
    (long : (e : Bor (List ℕ)) (r : R) → read e ≡ Ok r → length_of r ≡ length e.now)
    (room : (e : Bor (List ℕ)) (r : R) → read e ≡ Ok r → header ≤ length e.now)
    (told : (e : Bor (List ℕ)) (r : R) → read e ≡ Ok r → TellsName w e.now (name_of r)) where
  module _ (s : Bor (List ℕ)) where
    -- an entry that a step gives, with its name
    record Given (at : ℕ) : Type 0 where
      entry : R
      answers : (step_at read s at).answer ≡ Some (Ok entry)
      name : name_of entry ≡ name_at w s.now at

    given_own : (at size : ℕ) → (claim_at s.now at).size ≡ Some (Ok size) → (t : Result R Refusal) → read (slice.part s at size) ≡ t → is_record (Some t) ≡ true → Given at
    unfolding step_at
    given_own at size e (Ok r) q h = record {
      entry = r;
      answers = ap (option_map (λ (claim : Result ℕ Refusal). and_then claim (λ size. read (slice.part s at size)))) e ∙ ap (λ (t : Result R Refusal). Some t) q;
      name = told_there w s at size (name_of r) (told (slice.part s at size) r q);
    }
    given_own at size e (Err why) q h = absurd (not_both h refl)

    given : (at : ℕ) → gives read s at ≡ true → Given at
    unfolding step_at
    given at = by (claim_at s.now at).size refl
      where
        by : (c : Option (Result ℕ Refusal)) → (claim_at s.now at).size ≡ c → is_record (option_map (λ (claim : Result ℕ Refusal). and_then claim (λ size. read (slice.part s at size))) c) ≡ true → Given at
        by None e h = absurd (not_both h refl)
        by (Some (Err why)) e h = absurd (not_both h refl)
        by (Some (Ok size)) e h = given_own at size e (read (slice.part s at size)) refl h

    has_branch : (text : List ℕ) (at : ℕ) → in_branch w read s text at ≡ true → HasBranch header read length_of name_of s text at
    unfolding in_branch
    has_branch text at h =
        let b = both_true (gives read s at) (begins_at w s.now text at) h in
        let k = given at b.0 in
        record {
          entry = k.entry;
          alone = (reads read header length_of four long room s at k.entry k.answers).answers;
          front = take (length text) (name_of k.entry);
          behind = drop (length text) (name_of k.entry);
          name = sym (take-append-drop (length text) (name_of k.entry));
          same = (same_by_letters (take (length text) (name_of k.entry)) text).0 (ap (λ (n : List ℕ). same_name (take (length text) n) text) k.name ∙ b.1);
        }

    has_name : (name : List ℕ) (at : ℕ) → is_named w read s name at ≡ true → HasName header read length_of name_of s name at
    has_name name at h =
        let k = given at (named_gives w read s name at h) in
        record {
          entry = k.entry;
          alone = (reads read header length_of four long room s at k.entry k.answers).answers;
          same = (same_by_letters (name_of k.entry) name).0 (ap (λ (n : List ℕ). same_name n name) k.name ∙ named_so w read s name at h);
        }

    module _ (small : length s.now ≤ limit) where
      -- the entry that is read by itself is what the step gives
      gives_back : (at : ℕ) (entry : R) → parse_of header read (slice.part s at (length_of entry)) ≡ Ok entry → (gives read s at ≡ true) × (name_of entry ≡ name_at w s.now at)
      gives_back at entry h =
          let a = steps_back read header length_of four long s at entry small h in
          let g : gives read s at ≡ true = ap is_record a in
          let k = given at g in
          let same : k.entry ≡ entry = let x = sym k.answers ∙ a in cc in
          (g, ap name_of (sym same) ∙ k.name)

      branch_has : (text : List ℕ) (at : ℕ) → HasBranch header read length_of name_of s text at → in_branch w read s text at ≡ true
      branch_has text at h =
          let b = gives_back at h.entry h.alone in
          let same : same_name h.front text ≡ true = (same_by_letters h.front text).1 h.same in
          let long_front : length h.front ≡ length text = sym (folded_long h.front) ∙ ap length (same_folded h.front text same) ∙ folded_long text in
          let cut : take (length text) (name_at w s.now at) ≡ h.front = ap (take (length text)) (sym b.1 ∙ h.name) ∙ ap (λ (n : ℕ). take n (h.front ++ h.behind)) (sym long_front) ∙ take-append_seam h.front h.behind in
          begins_so w read s text at (ap (λ (n : List ℕ). same_name n text) cut ∙ same) ∙ b.0

      name_has : (name : List ℕ) (at : ℕ) → HasName header read length_of name_of s name at → is_named w read s name at ≡ true
      name_has name at h =
          let b = gives_back at h.entry h.alone in
          of_the_name w read s name at (ap (λ (n : List ℕ). same_name n name) (sym b.1) ∙ (same_by_letters (name_of h.entry) name).1 h.same) ∙ b.0

      picks : (text places : List ℕ) → Picks header read length_of name_of s text places (filter (in_branch w read s text) places)
      picks text [] = done
      picks text (x ∷ places) = by (picks text places) (in_branch w read s text x) refl
        where
          by : Picks header read length_of name_of s text places (filter (in_branch w read s text) places) → (t : Bool) → in_branch w read s text x ≡ t → Picks header read length_of name_of s text (x ∷ places) (if t then x ∷ filter (in_branch w read s text) places else filter (in_branch w read s text) places)
          by on true e = picked (has_branch text x e) on
          by on false e = passed (λ h. not_both (branch_has text x h) e) on

      picks_is : (text places run : List ℕ) → Picks header read length_of name_of s text places run → run ≡ filter (in_branch w read s text) places
      picks_is text [] [] done = refl
      picks_is text [] (y ∷ run) p = elim p [ ]
      picks_is text (x ∷ places) (y ∷ run) (picked h on) = simp (branch_has text x h) (ap (λ (l : List ℕ). x ∷ l) (picks_is text places run on))
      picks_is text (x ∷ places) run (passed n on) = by (in_branch w read s text x) refl (picks_is text places run on)
        where
          by : (t : Bool) → in_branch w read s text x ≡ t → run ≡ filter (in_branch w read s text) places → run ≡ (if t then x ∷ filter (in_branch w read s text) places else filter (in_branch w read s text) places)
          by true e k = absurd (n (has_branch text x e))
          by false e k = k

  -- through one slot, or none
  one_found : (s : Bor (List ℕ)) (slots name : List ℕ) (k : ℕ) → length s.now ≤ limit → (rest : List ℕ) → rest ≡ drop k slots
      → Halved header read length_of name_of s slots name (ok_or (first_of (is_named w read s name) (take 1 rest)) NameNotFound)
  one_found s slots name k small [] e = not_found small
  one_found s slots name k small (x ∷ rest) e = by (is_named w read s name x) refl
    where
      by : (t : Bool) → is_named w read s name x ≡ t → Halved header read length_of name_of s slots name (ok_or (if t then Some x else None) NameNotFound)
      by true h = found small (run_of slots (x ∷ rest) k 1 e) (has_name s name x h)
      by false h = not_found small

  halved_of : (s : Bor (List ℕ)) (slots name : List ℕ) (r : Result ℕ Refusal) → Halves w read name_of s slots name r → Halved header read length_of name_of s slots name r
  halved_of s slots name r h = by (ltb limit (length s.now)) refl
    where
      by : (t : Bool) → ltb limit (length s.now) ≡ t → Halved header read length_of name_of s slots name r
      by true e =
          let large = ltb-true limit (length s.now) e in
          subst (Halved header read length_of name_of s slots name) (sym (h.one.1 ∙ found_alike w name_of read told s name (take 1 (drop h.one.0 slots)) ∙ find_large w read s (take 1 (drop h.one.0 slots)) name large)) (too_large large)
      by false e =
          let small = ltb-false limit (length s.now) e in
          subst (Halved header read length_of name_of s slots name) (sym (h.one.1 ∙ found_alike w name_of read told s name (take 1 (drop h.one.0 slots)) ∙ find_within w read s (take 1 (drop h.one.0 slots)) name small)) (one_found s slots name h.one.0 small (drop h.one.0 slots) refl)

  pub named_meant_of : NamedMeant w header read length_of name_of
  named_meant_of = record {
    is = λ s name at h. has_name s name at (sym (named_alike w name_of read told s name at) ∙ h);
    only = λ s name at small h. named_alike w name_of read told s name at ∙ name_has s small name at h;
    halved = halved_of;
  }

  pub branch_meant_of : BranchMeant w header read length_of name_of
  branch_meant_of s slots text old new r h = record {
    too_large = λ large. h.said ∙ ap (λ (x : Result (List ℕ) Refusal). answer x (length old)) (branching_large w read s slots text large);
    some = λ small. (filter (in_branch w read s text) slots, picks s small text slots);
    too_few = λ run small p few.
        let e : branching w read s slots text ≡ Ok run = branching_within w read s slots text small ∙ ap (λ (l : List ℕ). Ok l) (sym (picks_is s small text slots run p)) in
        h.said ∙ ap (λ (x : Result (List ℕ) Refusal). answer x (length old)) e ∙ simp (lt-ltb (length old) (length run) few);
    enough = λ run small p fits.
        let e : branching w read s slots text ≡ Ok run = branching_within w read s slots text small ∙ ap (λ (l : List ℕ). Ok l) (sym (picks_is s small text slots run p)) in
        let wrote : Writes (Ok run) old new r = subst (λ (x : Result (List ℕ) Refusal). Writes x old new r) e h in
        (wrote.said ∙ simp (le-ltb (length old) (length run) fits), wrote.left ∙ simp (le-ltb (length old) (length run) fits));
    refused = λ why e. untouched (branching w read s slots text) (subst (Writes (branching w read s slots text) old new) e h);
  }

  module _ (steps_are : BySteps read) (s : Bor (List ℕ)) (old new : List ℕ) (n : ℕ) (h : Writes (name_indexing w read s) old new (Ok n)) (small : length s.now ≤ limit) (text : List ℕ) where
    inner : (at : ℕ) → in_branch w read s text at ≡ true → gives read s at ≡ true
    unfolding in_branch
    inner at e = (both_true (gives read s at) (begins_at w s.now text at) e).0

    moved : IsPermutation (filter (in_branch w read s text) (steps s.now)) (filter (in_branch w read s text) (take n new))
    moved =
        let order = filter_order (goes_first w s.now) (in_branch w read s text) (filter (gives read s) (steps s.now)) in
        let plain : filter (in_branch w read s text) (filter (gives read s) (steps s.now)) ≡ filter (in_branch w read s text) (steps s.now) = filter_inner (in_branch w read s text) (gives read s) inner (steps s.now) in
        let slots : filter (in_branch w read s text) (in_order (goes_first w s.now) (filter (gives read s) (steps s.now))) ≡ filter (in_branch w read s text) (take n new) = ap (filter (in_branch w read s text)) (sym (slots_are w read steps_are s old new n h)) in
        subst (λ (l : List ℕ). IsPermutation l (filter (in_branch w read s text) (take n new))) plain (subst (IsPermutation (filter (in_branch w read s text) (filter (gives read s) (steps s.now)))) slots order)

    in_index : InIndex header read length_of name_of s w (take n new) text
    in_index =
        let i = is_index w read steps_are s old new n h in
        let b = sorted_branch w s.now text (take n new) i.ordered.sorted in
        let each : All (λ at. in_branch w read s text at ≡ true) b.0 =
        λ k d l. begins_so w read s text (get_or b.0 k d) (b.1.each k d l) ∙ all_left (λ at. gives read s at ≡ true) b.0 b.1.behind (all_right (λ at. gives read s at ≡ true) b.1.before (b.0 ++ b.1.behind) (subst (All (λ at. gives read s at ≡ true)) b.1.is i.ordered.records)) k d l in
        let same : filter (in_branch w read s text) (take n new) ≡ b.0 = run_filter w read s (take n new) text b.0 b.1 ∙ all_pass (in_branch w read s text) b.0 each in
        let asked : branching w read s (take n new) text ≡ Ok b.0 = branching_within w read s (take n new) text small ∙ ap (λ (l : List ℕ). Ok l) same in
        record {
          run = b.0;
          neighbours = record { before = b.1.before; behind = b.1.behind; is = b.1.is };
          in_order = in_name_order w s.now b.0 (subst (IsSortedBy (goes_first w s.now)) same (IsSortedBy-filter (goes_first w s.now) (places_weak w s.now) (in_branch w read s text) (take n new) i.ordered.sorted));
          all = filter (in_branch w read s text) (steps s.now);
          every = picks s small text (steps s.now);
          same = subst (IsPermutation (filter (in_branch w read s text) (steps s.now))) same moved;
          asked = λ lent out q a. subst (λ (x : Result (List ℕ) Refusal). Writes x lent out q) asked a;
          halved = λ lent out q a. subst (λ (x : Result (List ℕ) Refusal). Writes x lent out q) asked (a.ordered i.ordered.sorted);
        }

  pub branch_in_index_of : BySteps read → BranchInIndex w header read length_of name_of
  branch_in_index_of steps_are s old new n h text = in_index steps_are s old new n h (within_limit w read steps_are s old new n h) text
