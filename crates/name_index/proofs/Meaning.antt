-- What a name index means: proved.
use Rattle.std.proofs.Common.{ℕ, zero, suc, get_or, ◌<◌, ◌≤◌, ◌≡◌, refl, sym, ap, subst, ◌∙◌, Bool, true, false, List, [], ◌∷◌, ◌++◌, length, take, drop, arith, Bor, Result, if◌then◌else◌}
use Rattle.std.specs.Prelude.{Ok, Err, ltb, filter}
use Rattle.std.specs.declared.cmp.Ordering.{Ordering}
use Rattle.std.specs.declared.cmp.Ordering.TheVariants.{Less, Equal, Greater}
use Rattle.std.specs.Ordering.{nat_cmp, ordering_then, is_lt}
use Rattle.std.specs.List.{find as first_of, list_any, All}
use Rattle.std.specs.List.Sorted.{IsPermutation, IsSortedBy}
use Rattle.std.proofs.lemmas.Cmp.{tied_back, ranked}
use Rattle.std.proofs.lemmas.List.Sorted.{All-permutation, IsStrictWeakOrder-by_number, sum_by-IsPermutation}
use Rattle.std.proofs.lemmas.List.Sums.{length-filter}
use borrow.Author.Tests.{ltb-false, le-ltb, lt-ltb}
use Rattle.le.proofs.Laws.{not_both}
use Rattle.refusal.specs.Refusal.{limit}
use Rattle.refusal.specs.declared.Mode.TheVariants.{Present}
use Rattle.refusal.specs.declared.Refusal.{Refusal}
use Rattle.refusal.specs.declared.Refusal.TheVariants.{OutputTooSmall}
use Rattle.names.specs.Names.{same_name}
use Rattle.entry.specs.Walk.{stands, steps}
use Rattle.writing.specs.Writing.{answer, Writes}
use Rattle.walk.specs.Mapped.{map_ok}
use Rattle.walk.specs.Pieces.{pieces}
use Rattle.index.specs.Index.{starts, indexing}
use Rattle.index.specs.Steps.{gives, BySteps}
use Rattle.index.specs.Meaning.{Ascends, next, needed, IsIndex}
use Rattle.index.proofs.Laws.{index_large, index_zero, index_starts}
use Rattle.index.proofs.Meaning.{built, index_meant_of, starts_ascend_of}
use Rattle.name_order.specs.declared.places.NamePlaces.{NamePlaces}
use Rattle.name_order.specs.Order.{name_at, name_cmp, start_cmp, goes_first}
use Rattle.name_order.specs.Sorted.{in_order}
use Rattle.name_order.proofs.Order.{names_total, places_weak, places_one}
use Rattle.name_order.proofs.Sorted.{mark, Lowest, Rises, none, more, order_moves, order_rises, order_is, sorted_of}
use Rattle.name_order.proofs.Least.{first_least, one_least}
use Rattle.name_order.proofs.Meaning.{same_cmp}
use Rattle.name_order.proofs.Letters.{in_name_order, name_order_sorted}
use Rattle.named.specs.Named.{TellsName}
use Rattle.name_find.specs.Find as by_record
use Rattle.name_find.proofs.Meaning.{same_find_of}
use Rattle.name_index.specs.Index.{name_indexing, Halves}
use Rattle.name_index.specs.Meaning.{IsNameIndex, NameIndexMeant, SameHalved}
use Rattle.name_index.proofs.Building.{Plainly, plainly, order_long}
use Rattle.name_index.proofs.Placed.{is_named, find_indexed, found_alike}

-- each that passes a test passes it
all_filtered : (test : ℕ → Bool) (xs : List ℕ) → All (λ x. test x ≡ true) (filter test xs)
all_filtered test [] = λ k d h. absurd (omega arith)
all_filtered test (x ∷ xs) = by (test x) refl (all_filtered test xs)
  where
    more_so : test x ≡ true → All (λ y. test y ≡ true) (filter test xs) → (k d : ℕ) → k < length (x ∷ filter test xs) → test (get_or (x ∷ filter test xs) k d) ≡ true
    more_so e on zero d h = e
    more_so e on (suc k) d h = on k d (omega arith)

    by : (t : Bool) → test x ≡ t → All (λ y. test y ≡ true) (filter test xs) → All (λ y. test y ≡ true) (if t then x ∷ filter test xs else filter test xs)
    by true e on = more_so e on
    by false e on = on

-- places that ascend are in the order of numbers
lowest_of : (x least : ℕ) (xs : List ℕ) → x < least → Ascends least xs → Lowest ltb x xs
lowest_of x least [] h a = none
lowest_of x least (y ∷ ys) h (next k a) = let l : x ≤ y = omega arith in let m : x < suc y = omega arith in more (le-ltb y x l) (lowest_of x (suc y) ys m a)

rises_of : (least : ℕ) (xs : List ℕ) → Ascends least xs → Rises ltb xs
rises_of least [] a = none
rises_of least (x ∷ xs) (next k a) = let m : x < suc x = omega arith in more (lowest_of x (suc x) xs m a) (rises_of (suc x) xs a)

-- a refusal leaves the slots
untouched_by : {old new : List ℕ} (xs : List ℕ) {why : Refusal} (b : Bool) (x : Refusal) (n : ℕ)
    → ◌≡◌ {A = Result ℕ Refusal} (Err why) (if b then Err x else Ok n) → new ≡ (if b then old else xs) → new ≡ old
untouched_by xs true x n e l = l
untouched_by xs false x n e l = absurd (let z : ◌≡◌ {A = ℕ} 0 1 = cc in omega arith)

pub untouched : {old new : List ℕ} {why : Refusal} (w : Result (List ℕ) Refusal) → Writes w old new (Err why) → new ≡ old
untouched {old} (Ok xs) w = untouched_by (xs ++ drop (length xs) old) (ltb (length old) (length xs)) _ _ w.said w.left
untouched (Err x) w = w.left

module _ {R : Type 0} (w : NamePlaces) (read : Bor (List ℕ) → Result R Refusal) (s : Bor (List ℕ)) (name : List ℕ) where
  named_parts : (g n : Bool) → (if g then n else false) ≡ true → (g ≡ true) × (n ≡ true)
  named_parts true n h = (refl, h)
  named_parts false n h = absurd (not_both h refl)

  pub named_gives : (at : ℕ) → is_named w read s name at ≡ true → gives read s at ≡ true
  unfolding is_named
  named_gives at h = (named_parts (gives read s at) (same_name (name_at w s.now at) name) h).0

  pub named_so : (at : ℕ) → is_named w read s name at ≡ true → same_name (name_at w s.now at) name ≡ true
  unfolding is_named
  named_so at h = (named_parts (gives read s at) (same_name (name_at w s.now at) name) h).1

  alike : (at : ℕ) → is_named w read s name at ≡ true → name_cmp (name_at w s.now at) name ≡ Equal
  alike at h = same_cmp (name_at w s.now at) name (named_so at h)

  -- of two places with the name the one with the lower number goes first
  agrees : (x y : ℕ) → is_named w read s name x ≡ true → is_named w read s name y ≡ true → goes_first w s.now y x ≡ false → x ≤ y
  unfolding start_cmp
  agrees x y p q h =
      let level : name_cmp (name_at w s.now y) (name_at w s.now x) ≡ Equal = names_total.congr (name_at w s.now y) name (name_at w s.now x) (alike y q) ∙ tied_back names_total (name_at w s.now x) name (alike x p) in
      by (nat_cmp y x) refl (ap (λ (r : Ordering). is_lt (ordering_then r (nat_cmp y x))) (sym level) ∙ h)
    where
      by : (r : Ordering) → r ≡ nat_cmp y x → is_lt r ≡ false → x ≤ y
      by Less e k = absurd (not_both refl k)
      by Equal e k = let m : y ≡ x = ranked y x Equal e in omega arith
      by Greater e k = let m : x < y = ranked y x Greater e in omega arith

  numbers_agree : (x y : ℕ) → is_named w read s name x ≡ true → is_named w read s name y ≡ true → ltb y x ≡ false → x ≤ y
  numbers_agree x y p q h = ltb-false y x h

  -- the first with the name is the same place in either order
  same_first : (xs : List ℕ) → Ascends 0 xs → first_of (is_named w read s name) (in_order (goes_first w s.now) xs) ≡ first_of (is_named w read s name) xs
  same_first xs a =
      one_least (is_named w read s name) (in_order (goes_first w s.now) xs) xs (λ v. sum_by-IsPermutation (mark v) xs (in_order (goes_first w s.now) xs) (order_moves (goes_first w s.now) xs)) _ _
      (first_least (is_named w read s name) (goes_first w s.now) (places_weak w s.now) agrees (in_order (goes_first w s.now) xs) (order_rises (goes_first w s.now) (places_weak w s.now) xs))
      (first_least (is_named w read s name) ltb (IsStrictWeakOrder-by_number (λ (x : ℕ). x)) numbers_agree xs (rises_of 0 xs a))

  same_found : (xs : List ℕ) → Ascends 0 xs → find_indexed w read s (in_order (goes_first w s.now) xs) name ≡ find_indexed w read s xs name
  unfolding find_indexed
  same_found xs a = simp (same_first xs a)

module _ {R : Type 0} (w : NamePlaces) (read : Bor (List ℕ) → Result R Refusal) (steps_are : BySteps read) where
  module _ (s : Bor (List ℕ)) (old new : List ℕ) (n : ℕ) where
    pub before_order : Writes (name_indexing w read s) old new (Ok n) → Plainly (in_order (goes_first w s.now)) (order_long (goes_first w s.now)) (indexing read s) old new n
    unfolding name_indexing
    before_order h = plainly (in_order (goes_first w s.now)) (order_long (goes_first w s.now)) (indexing read s) old new n h

    plain_is : (p : Plainly (in_order (goes_first w s.now)) (order_long (goes_first w s.now)) (indexing read s) old new n) → IsIndex read s old p.mid n
    plain_is p = (index_meant_of read steps_are s old p.mid (Ok n) p.built).built n refl

    -- the slots are the steps that give a record, put in order
    pub slots_are : Writes (name_indexing w read s) old new (Ok n) → take n new ≡ in_order (goes_first w s.now) (filter (gives read s) (steps s.now))
    slots_are h = let p = before_order h in p.first ∙ ap (in_order (goes_first w s.now)) (plain_is p).holds

    -- an upload above the limit has none
    pub within_limit : Writes (name_indexing w read s) old new (Ok n) → length s.now ≤ limit
    within_limit h = (built read s old (before_order h).mid n (before_order h).built).small

    pub is_index : Writes (name_indexing w read s) old new (Ok n) → IsNameIndex w read s old new n
    is_index h =
        let p = before_order h in
        let i = plain_is p in
        let e : take n new ≡ in_order (goes_first w s.now) (filter (gives read s) (steps s.now)) = slots_are h in
        let m : IsPermutation (filter (gives read s) (steps s.now)) (take n new) = subst (IsPermutation (filter (gives read s) (steps s.now))) (sym e) (order_moves (goes_first w s.now) (filter (gives read s) (steps s.now))) in
        let up : IsSortedBy (goes_first w s.now) (take n new) = sorted_of (goes_first w s.now) (take n new) (subst (Rises (goes_first w s.now)) (sym e) (order_rises (goes_first w s.now) (places_weak w s.now) (filter (gives read s) (steps s.now)))) in
        record {
          counts = i.counts;
          fits = p.room;
          same = m;
          in_order = in_name_order w s.now (take n new) up;
          ordered = record {
            sorted = up;
            records = All-permutation (λ at. gives read s at ≡ true) (filter (gives read s) (steps s.now)) (take n new) m (all_filtered (gives read s) (steps s.now));
          };
          only = λ other moved up. order_is (goes_first w s.now) (places_weak w s.now) (places_one w s.now) (filter (gives read s) (steps s.now)) other moved (name_order_sorted w s.now other up) ∙ sym e;
          behind = p.rest ∙ i.behind;
        }

  number_is : (s : Bor (List ℕ)) → length (in_order (goes_first w s.now) (starts (pieces read s))) ≡ needed read s
  number_is s = order_long (goes_first w s.now) (starts (pieces read s)) ∙ ap length (steps_are.starts_are s) ∙ length-filter (gives read s) (steps s.now)

  -- the answer where the upload is within the limit and no step stands, by whether the slots are too few
  answered : (s : Bor (List ℕ)) (old new : List ℕ) (r : Result ℕ Refusal) → Writes (name_indexing w read s) old new r → length s.now ≤ limit → list_any (stands s.now) (steps s.now) ≡ false
      → r ≡ (if ltb (length old) (needed read s) then Err (OutputTooSmall (needed read s) (length old)) else Ok (needed read s))
  unfolding name_indexing
  answered s old new r h small calm = h.said ∙ simp (index_starts read s small (steps_are.stopped_is s ∙ calm), number_is s)

  pub name_index_meant_of : NameIndexMeant w read
  unfolding name_indexing
  name_index_meant_of s old new r h =
      record {
        too_large = λ large. h.said ∙ ap (λ (x : Result (List ℕ) Refusal). answer (map_ok (in_order (goes_first w s.now)) x) (length old)) (index_large read s large);
        zero_claim = λ small stood. h.said ∙ ap (λ (x : Result (List ℕ) Refusal). answer (map_ok (in_order (goes_first w s.now)) x) (length old)) (index_zero read s small (steps_are.stopped_is s ∙ stood));
        too_few = λ small calm few. answered s old new r h small calm ∙ simp (lt-ltb (length old) (needed read s) few);
        enough = λ small calm fits. answered s old new r h small calm ∙ simp (le-ltb (length old) (needed read s) fits);
        built = λ n e. is_index s old new n (subst (Writes (name_indexing w read s) old new) e h);
        refused = λ why e. untouched (name_indexing w read s) (subst (Writes (name_indexing w read s) old new) e h);
      }

  module _ (name_of : R → List ℕ) (told : (e : Bor (List ℕ)) (r : R) → read e ≡ Ok r → TellsName w e.now (name_of r)) where
    halved_as : (s : Bor (List ℕ)) (old new : List ℕ) (n : ℕ) → Writes (name_indexing w read s) old new (Ok n) → (lent plain : List ℕ) (m : ℕ) → Writes (indexing read s) lent plain (Ok m)
        → (name : List ℕ) (r : Result ℕ Refusal) → Halves w read name_of s (take n new) name r → r ≡ by_record.find_indexed name_of read s (take m plain) name
    halved_as s old new n h lent plain m v name r halves =
        let holds : take m plain ≡ filter (gives read s) (steps s.now) = ((index_meant_of read steps_are s lent plain (Ok m) v).built m refl).holds in
        let a : Ascends 0 (take m plain) = subst (Ascends 0) (sym (built read s lent plain m v).first) (starts_ascend_of read steps_are s) in
        let alike = found_alike w name_of read told s name in
        halves.ordered (is_index s old new n h).ordered
        ∙ alike (take n new)
        ∙ ap (λ (l : List ℕ). find_indexed w read s l name) (slots_are s old new n h ∙ ap (in_order (goes_first w s.now)) (sym holds))
        ∙ same_found w read s name (take m plain) a
        ∙ sym (alike (take m plain))

    pub same_halved_of : SameHalved w read name_of
    same_halved_of s old new n h lent plain m v name r halves =
        let e = halved_as s old new n h lent plain m v name r halves in
        (e, e ∙ same_find_of (λ mode. read) name_of (λ mode. steps_are) Present s lent plain m v name)
