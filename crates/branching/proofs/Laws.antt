-- The starts in the order of their names, by what the name index writes into slots that are enough.
use Rattle.std.proofs.Common.{ℕ, ◌≤◌, ◌≡◌, refl, sym, ap, subst, ◌∙◌, Bool, true, false, List, [], length, take, drop, drop_of_length-le, append-nil, ◌++◌, ◌/◌, arith, Result, if◌then◌else◌}
use Rattle.std.specs.Prelude.{Ok, Err, IfErr, ltb, filter}
use Rattle.std.specs.Result.{IsErrAnd}
use Rattle.std.specs.List.Sorted.{IsSortedBy}
use Rattle.std.proofs.lemmas.List.{take_all}
use Rattle.std.proofs.lemmas.List.Sums.{length-filter, count_by-le-length}
use borrow.Author.Tests.{ltb-true, ltb-false, le-ltb}
use Rattle.refusal.specs.Refusal.{limit}
use Rattle.refusal.specs.declared.Refusal.{Refusal}
use Rattle.refusal.specs.declared.Refusal.TheVariants.{TooLarge, ZeroEntryLength}
use Rattle.writing.specs.Writing.{Writes}
use Rattle.walk.specs.Mapped.{map_ok}
use Rattle.walk.specs.Pieces.{pieces}
use Rattle.symbol.specs.Symbol.{symbol_of}
use Rattle.index.specs.Index.{indexing, stopped, starts}
use Rattle.index.proofs.Laws.{index_large}
use Rattle.name_order.specs.Order.{goes_first}
use Rattle.name_order.specs.Sorted.{in_order}
use Rattle.name_order.proofs.Order.{places_weak}
use Rattle.name_order.proofs.Sorted.{sorted_of, order_rises}
use Rattle.named.specs.Kinds.{symbol_places}
use Rattle.name_index.specs.Index.{name_indexing}
use Rattle.name_index.specs.Branching.{in_branch, branching, HalvesBranch}
use Rattle.name_index.proofs.Building.{order_long, wrote, front}
use Rattle.name_index.proofs.Branching.{branching_within}
use Rattle.room.specs.Room.{least, room_for}
use Rattle.room.proofs.Bounds.{starts_room}
use Rattle.report.specs.declared.Upload.{Upload}
use Rattle.branching.specs.declared.NoOrder.{NoOrder}
use Rattle.branching.specs.declared.NoOrder.TheVariants.{Refused, Memory}
use Rattle.branching.specs.Ordered.{IfRefused, by_name, branch, refused, sorted}

-- an error that is handed on
pub passed_on : {T : Type 0} (r : Result T NoOrder) (e : NoOrder) (P : NoOrder → Type 0) → IsErrAnd r (λ x. x ≡ e) → P e → IfErr r P
passed_on (Ok t) e P h p = tt
passed_on (Err x) e P h p = subst P (sym h) p

pub if_refused : (P Q : Refusal → Type 0) → ((why : Refusal) → P why → Q why) → (e : NoOrder) → IfRefused e P → IfRefused e Q
if_refused P Q h (Refused why) p = h why p
if_refused P Q h Memory p = tt

-- what is written into slots that are enough stands in front there
pub front_is : (w : Result (List ℕ) Refusal) (old new : List ℕ) (n : ℕ) → Writes w old new (Ok n) → w ≡ Ok (take n new)
front_is w old new n h = let r = wrote (λ xs. xs) (λ xs. refl) w old new n h in r.is ∙ ap (λ (l : List ℕ). Ok l) (sym (front (λ xs. xs) (λ xs. refl) w old new n h))

-- a refusal is that of what is written, where the slots are enough
pub refused_is : (w : Result (List ℕ) Refusal) (old new : List ℕ) (why : Refusal) → ((xs : List ℕ) → w ≡ Ok xs → length xs ≤ length old) → Writes w old new (Err why) → w ≡ Err why
refused_is (Err y) old new why fits h = let s = h.said in cc
refused_is (Ok xs) old new why fits h = let b = le-ltb (length old) (length xs) (fits xs refl) in absurd (let e : ◌≡◌ {A = Result ℕ Refusal} (Err why) (Ok (length xs)) = h.said ∙ simp b in cc)

-- the front of a list whose every place was lent
pub cut : (n long : ℕ) (new old : List ℕ) → length new ≡ length old → length old ≡ long → take n (take long (new ++ drop (length new) old)) ≡ take n new
cut n long new old e f =
    let none : drop (length new) old ≡ [] = drop_of_length-le old {i = length new} (omega arith) in
    let whole : take long new ≡ new = take_all long new (omega arith) in
    ap (λ (l : List ℕ). take n (take long (new ++ l))) none ∙ ap (λ (l : List ℕ). take n (take long l)) (append-nil new) ∙ ap (take n) whole

module _ (u : Upload) where
  abbrev pub goes : ℕ → ℕ → Bool
  goes = goes_first symbol_places u.bytes.now

  -- of how many bytes an upload with a name index is, and what stands there
  record Named (xs : List ℕ) : Type 0 where
    small : length u.bytes.now ≤ limit
    is : xs ≡ in_order goes (starts (pieces (symbol_of u.mode) u.bytes))

  named_of : (xs : List ℕ) → by_name u ≡ Ok xs → Named xs
  unfolding by_name name_indexing indexing
  named_of xs = by (ltb limit (length u.bytes.now)) refl (stopped (pieces (symbol_of u.mode) u.bytes))
    where
      by : (large : Bool) → ltb limit (length u.bytes.now) ≡ large → (stop : Bool)
          → map_ok (in_order goes) (if large then Err (TooLarge (length u.bytes.now)) else if stop then Err ZeroEntryLength else Ok (starts (pieces (symbol_of u.mode) u.bytes))) ≡ Ok xs → Named xs
      by true e stop h = cc
      by false e true h = cc
      by false e false h = record { small = ltb-false limit (length u.bytes.now) e; is = cc }

  pub named_small : (xs : List ℕ) → by_name u ≡ Ok xs → length u.bytes.now ≤ limit
  named_small xs h = (named_of xs h).small

  pub named_long : (xs : List ℕ) → by_name u ≡ Ok xs → length xs ≤ length u.bytes.now / 33
  named_long xs h = omega (arith, ap length (named_of xs h).is, order_long goes (starts (pieces (symbol_of u.mode) u.bytes)), starts_room u.mode u.bytes)

  room_is : (room : ℕ) → room_for (length u.bytes.now) ≡ Ok room → room ≡ length u.bytes.now / 33
  unfolding room_for
  room_is room = by (ltb limit (length u.bytes.now))
    where
      by : (large : Bool) → (if large then Err (TooLarge (length u.bytes.now)) else Ok (length u.bytes.now / least)) ≡ Ok room → room ≡ length u.bytes.now / 33
      by true h = cc
      by false h = cc

  pub named_sorted : (xs : List ℕ) → by_name u ≡ Ok xs → IsSortedBy goes xs
  named_sorted xs h = subst (IsSortedBy goes) (sym (named_of xs h).is) (sorted_of goes _ (order_rises goes (places_weak symbol_places u.bytes.now) (starts (pieces (symbol_of u.mode) u.bytes))))

  -- an upload that has no room has no name index
  pub roomless : (why : Refusal) → room_for (length u.bytes.now) ≡ Err why → by_name u ≡ Err why
  unfolding by_name name_indexing room_for
  roomless why = by (ltb limit (length u.bytes.now)) refl
    where
      by : (large : Bool) → ltb limit (length u.bytes.now) ≡ large → (if large then Err (TooLarge (length u.bytes.now)) else Ok (length u.bytes.now / least)) ≡ Err why → map_ok (in_order goes) (indexing (symbol_of u.mode) u.bytes) ≡ Err why
      by true e h = ap (map_ok (in_order goes)) (index_large (symbol_of u.mode) u.bytes (ltb-true limit (length u.bytes.now) e)) ∙ (let same : TooLarge (length u.bytes.now) ≡ why = cc in ap (λ (w : Refusal). Err w) same)
      by false e h = cc

  -- into as many slots as there is room for
  pub built : (old new : List ℕ) (n : ℕ) → Writes (name_indexing symbol_places (symbol_of u.mode) u.bytes) old new (Ok n) → by_name u ≡ Ok (take n new)
  unfolding by_name
  built old new n h = front_is _ old new n h

  pub unbuilt : (old new : List ℕ) (room : ℕ) (why : Refusal) → room_for (length u.bytes.now) ≡ Ok room → length old ≡ room → Writes (name_indexing symbol_places (symbol_of u.mode) u.bytes) old new (Err why) → by_name u ≡ Err why
  unfolding by_name
  unbuilt old new room why r l h = refused_is _ old new why (λ xs e. omega (arith, named_long xs e, room_is room r, l)) h

  -- those of some starts whose names begin with a text
  abbrev pub begin_so : List ℕ → List ℕ → List ℕ
  begin_so text xs = filter (in_branch symbol_places (symbol_of u.mode) u.bytes text) xs

  module _ (text xs : List ℕ) (named : by_name u ≡ Ok xs) where
    pub branching_is : branching symbol_places (symbol_of u.mode) u.bytes xs text ≡ Ok (begin_so text xs)
    branching_is = branching_within symbol_places (symbol_of u.mode) u.bytes xs text (named_small xs named)

    fits : length (begin_so text xs) ≤ length xs
    fits = omega (arith, length-filter (in_branch symbol_places (symbol_of u.mode) u.bytes text) xs, count_by-le-length (in_branch symbol_places (symbol_of u.mode) u.bytes text) xs)

    pub branched : (old new : List ℕ) (n : ℕ) → HalvesBranch symbol_places (symbol_of u.mode) u.bytes xs text old new (Ok n) → branch u text ≡ Ok (take n new)
    unfolding branch
    branched old new n h = ap (map_ok (filter (in_branch symbol_places (symbol_of u.mode) u.bytes text))) named ∙ sym branching_is ∙ front_is _ old new n (h.ordered (named_sorted xs named))

    pub never_refused : (old new : List ℕ) (why : Refusal) → length xs ≤ length old → HalvesBranch symbol_places (symbol_of u.mode) u.bytes xs text old new (Err why) → ⊥
    never_refused old new why l h =
        let e : branching symbol_places (symbol_of u.mode) u.bytes xs text ≡ Err why = refused_is _ old new why (λ ys k. let same : ys ≡ begin_so text xs = let m = branching_is in cc in omega (arith, fits, ap length same, l)) (h.ordered (named_sorted xs named)) in
        let m = branching_is in cc

  pub no_branch : (text : List ℕ) (why : Refusal) → by_name u ≡ Err why → branch u text ≡ Err why
  unfolding branch
  no_branch text why h = ap (map_ok (filter (in_branch symbol_places (symbol_of u.mode) u.bytes text))) h

  pub all_sorted : (xs all : List ℕ) → by_name u ≡ Ok xs → all ≡ xs ++ refused u → sorted u ≡ Ok all
  unfolding sorted
  all_sorted xs all h e = ap (map_ok (λ (l : List ℕ). l ++ refused u)) h ∙ ap (λ (l : List ℕ). Ok l) (sym e)

  pub none_sorted : (why : Refusal) → by_name u ≡ Err why → sorted u ≡ Err why
  unfolding sorted
  none_sorted why h = ap (map_ok (λ (l : List ℕ). l ++ refused u)) h
