-- Every piece is told once: A's in their order, B's in another.
use Rattle.std.proofs.Common.{ℕ, ◌+◌, ◌≤◌, ◌≡◌, inl, inr, refl, sym, ap, subst, ◌∙◌, List, [], ◌∷◌, ◌++◌, length, drop, map, arith}
use Rattle.std.specs.Prelude.{Option, Some, None, slice_get}
use Rattle.std.specs.List.{flat_map, filter_map, cons_option, enumerate_from}
use Rattle.std.specs.List.Sorted.{IsPermutation}
use Rattle.std.proofs.lemmas.Bool.{cases_lt}
use Rattle.std.proofs.lemmas.List.Elements.{filter_map-append}
use Rattle.std.proofs.lemmas.List.Sorted.{IsPermutation-append_right}
use Rattle.pairing.specs.declared.pieces.Piece.{Piece}
use Rattle.pairing.specs.declared.pairs.Pair.{Pair}
use Rattle.pairing.specs.Pairs.{Partners, partners_of, alone, behind, told_one, told, pairs_of}
use Rattle.pairing.specs.Rows.{piece_numbered, row_of, rows_of}
use Rattle.pairing.proofs.Lists.{drop_step, drop_next, get_past, kept_flat, numbers, numbers_long, all_got, In, here, later, here_is, Apart, none, more, same_parts}
use Rattle.pairing.proofs.Kept.{Names, Mutual, both_ways}

abbrev Partnering : Type 0
Partnering = List (Option ℕ)

-- A's column, in numbers
alone_ours : (k : ℕ) (xs : Partnering) → filter_map (λ x. x.a) (alone k xs) ≡ []
unfolding alone
alone_ours k [] = refl
alone_ours k (Some i ∷ xs) = refl
alone_ours k (None ∷ xs) = alone_ours (k + 1) xs

behind_ours : (m : Option ℕ) (ys : Partnering) → filter_map (λ x. x.a) (behind m ys) ≡ []
behind_ours None ys = refl
behind_ours (Some j) ys = alone_ours (j + 1) (drop (j + 1) ys)

told_ours : (ys : Partnering) (k : ℕ) (xs : Partnering) → filter_map (λ x. x.a) (flat_map (λ x. told_one ys x.0 x.1) (enumerate_from k xs)) ≡ numbers k xs
told_ours ys k [] = refl
told_ours ys k (m ∷ xs) =
    let rest : List Pair = flat_map (λ x. told_one ys x.0 x.1) (enumerate_from (k + 1) xs) in
    ap (λ (l : List ℕ). k ∷ l) (filter_map-append (λ x. x.a) (behind m ys) rest ∙ ap (λ (l : List ℕ). l ++ filter_map (λ x. x.a) rest) (behind_ours m ys) ∙ told_ours ys (k + 1) xs)

-- a column of pieces is that of their numbers
module _ (ps qs : List Piece) where
  column_a : (xs : List Pair) → filter_map (λ r. r.a) (map (row_of ps qs) xs) ≡ filter_map (slice_get ps) (filter_map (λ x. x.a) xs)
  column_a [] = refl
  column_a (x ∷ xs) = by x.a (column_a xs)
    where
      by : (m : Option ℕ) → filter_map (λ r. r.a) (map (row_of ps qs) xs) ≡ filter_map (slice_get ps) (filter_map (λ x. x.a) xs)
          → cons_option (piece_numbered ps m) (filter_map (λ r. r.a) (map (row_of ps qs) xs)) ≡ filter_map (slice_get ps) (cons_option m (filter_map (λ x. x.a) xs))
      by None e = e
      by (Some k) e = ap (cons_option (slice_get ps k)) e

  column_b : (xs : List Pair) → filter_map (λ r. r.b) (map (row_of ps qs) xs) ≡ filter_map (slice_get qs) (filter_map (λ x. x.b) xs)
  column_b [] = refl
  column_b (x ∷ xs) = by x.b (column_b xs)
    where
      by : (m : Option ℕ) → filter_map (λ r. r.b) (map (row_of ps qs) xs) ≡ filter_map (slice_get qs) (filter_map (λ x. x.b) xs)
          → cons_option (piece_numbered qs m) (filter_map (λ r. r.b) (map (row_of ps qs) xs)) ≡ filter_map (slice_get qs) (cons_option m (filter_map (λ x. x.b) xs))
      by None e = e
      by (Some k) e = ap (cons_option (slice_get qs k)) e

-- B's column, in numbers: what it has alone first, and then behind each partner
run : ℕ → Partnering → List ℕ
run k xs = filter_map (λ x. x.b) (alone k xs)

block : Partnering → ℕ → List ℕ
block ys j = j ∷ filter_map (λ x. x.b) (alone (j + 1) (drop (j + 1) ys))

abbrev named : Partnering → List ℕ
named xs = filter_map (λ m. m) xs

held : ℕ → Partnering → List ℕ
held k [] = []
held k (None ∷ xs) = held (k + 1) xs
held k (Some i ∷ xs) = k ∷ held (k + 1) xs

told_theirs : (ys : Partnering) (k : ℕ) (xs : Partnering) → filter_map (λ x. x.b) (flat_map (λ x. told_one ys x.0 x.1) (enumerate_from k xs)) ≡ flat_map (block ys) (named xs)
unfolding block
told_theirs ys k [] = refl
told_theirs ys k (None ∷ xs) = told_theirs ys (k + 1) xs
told_theirs ys k (Some j ∷ xs) =
    let rest : List Pair = flat_map (λ x. told_one ys x.0 x.1) (enumerate_from (k + 1) xs) in
    let first : List Pair = alone (j + 1) (drop (j + 1) ys) in
    ap (λ (l : List ℕ). j ∷ l) (filter_map-append (λ x. x.b) first rest ∙ ap (λ (l : List ℕ). filter_map (λ x. x.b) first ++ l) (told_theirs ys (k + 1) xs))

runs : (ys : Partnering) (k : ℕ) (xs : Partnering) → drop k ys ≡ xs → numbers k xs ≡ run k xs ++ flat_map (block ys) (held k xs)
unfolding run block held alone
runs ys k [] e = refl
runs ys k (None ∷ xs) e = ap (λ (l : List ℕ). k ∷ l) (runs ys (k + 1) xs (drop_next k ys e))
runs ys k (Some i ∷ xs) e =
    ap (λ (l : List ℕ). k ∷ l)
    (runs ys (k + 1) xs (drop_next k ys e) ∙ ap (λ (l : Partnering). filter_map (λ x. x.b) (alone (k + 1) l) ++ flat_map (block ys) (held (k + 1) xs)) (sym (drop_next k ys e)))

-- those of B that have partners, and those that are partners of A's
record Held (all : Partnering) (k j : ℕ) : Type 0 where
  above : k ≤ j
  by : ℕ
  is : slice_get all j ≡ Some (Some by)

record Named (all : Partnering) (k j : ℕ) : Type 0 where
  by : ℕ
  above : k ≤ by
  is : slice_get all by ≡ Some (Some j)

module _ (all : Partnering) where
  held_in : (k : ℕ) (xs : Partnering) (j : ℕ) → drop k all ≡ xs → In j (held k xs) → Held all k j
  unfolding held
  held_in k [] j e h = elim h [ ]
  held_in k (None ∷ xs) j e h = let d = held_in (k + 1) xs j (drop_next k all e) h in record { above = omega (arith, d.above); by = d.by; is = d.is }
  held_in k (Some i ∷ xs) j e here = record { above = omega arith; by = i; is = (drop_step k all e).0 }
  held_in k (Some i ∷ xs) j e (later h) = let d = held_in (k + 1) xs j (drop_next k all e) h in record { above = omega (arith, d.above); by = d.by; is = d.is }

  in_held : (k : ℕ) (xs : Partnering) (j i : ℕ) → drop k all ≡ xs → k ≤ j → slice_get all j ≡ Some (Some i) → In j (held k xs)
  unfolding held
  in_held k [] j i e h g = let p = get_past k j all e h in cc
  in_held k (None ∷ xs) j i e h g =
      elim (cases_lt k j) [
        | inl l ↦ in_held (k + 1) xs j i (drop_next k all e) (omega (arith, l)) g
        | inr m ↦ let s = (drop_step k all e).0 in let same : j ≡ k = omega (arith, m) in let t : slice_get all j ≡ slice_get all k = ap (slice_get all) same in cc
      ]
  in_held k (Some o ∷ xs) j i e h g =
      elim (cases_lt k j) [
        | inl l ↦ later (in_held (k + 1) xs j i (drop_next k all e) (omega (arith, l)) g)
        | inr m ↦ let same : j ≡ k = omega (arith, m) in here_is same
      ]

  held_apart : (k : ℕ) (xs : Partnering) → drop k all ≡ xs → Apart (held k xs)
  unfolding held
  held_apart k [] e = none
  held_apart k (None ∷ xs) e = held_apart (k + 1) xs (drop_next k all e)
  held_apart k (Some i ∷ xs) e = more (λ h. let d = (held_in (k + 1) xs k (drop_next k all e) h).above in omega (arith, d)) (held_apart (k + 1) xs (drop_next k all e))

  named_in : (k : ℕ) (xs : Partnering) (j : ℕ) → drop k all ≡ xs → In j (named xs) → Named all k j
  named_in k [] j e h = elim h [ ]
  named_in k (None ∷ xs) j e h = let d = named_in (k + 1) xs j (drop_next k all e) h in record { by = d.by; above = omega (arith, d.above); is = d.is }
  named_in k (Some i ∷ xs) j e here = record { by = k; above = omega arith; is = (drop_step k all e).0 }
  named_in k (Some i ∷ xs) j e (later h) = let d = named_in (k + 1) xs j (drop_next k all e) h in record { by = d.by; above = omega (arith, d.above); is = d.is }

  in_named : (k : ℕ) (xs : Partnering) (j i : ℕ) → drop k all ≡ xs → k ≤ i → slice_get all i ≡ Some (Some j) → In j (named xs)
  in_named k [] j i e h g = let p = get_past k i all e h in cc
  in_named k (None ∷ xs) j i e h g =
      elim (cases_lt k i) [
        | inl l ↦ in_named (k + 1) xs j i (drop_next k all e) (omega (arith, l)) g
        | inr m ↦ let s = (drop_step k all e).0 in let same : i ≡ k = omega (arith, m) in let t : slice_get all i ≡ slice_get all k = ap (slice_get all) same in cc
      ]
  in_named k (Some o ∷ xs) j i e h g =
      elim (cases_lt k i) [
        | inl l ↦ later (in_named (k + 1) xs j i (drop_next k all e) (omega (arith, l)) g)
        | inr m ↦ let s = (drop_step k all e).0 in let same : i ≡ k = omega (arith, m) in let t : slice_get all i ≡ slice_get all k = ap (slice_get all) same in let one : j ≡ o = cc in here_is one
      ]

  named_apart : (others : Partnering) → Names all others → (k : ℕ) (xs : Partnering) → drop k all ≡ xs → Apart (named xs)
  named_apart others n k [] e = none
  named_apart others n k (None ∷ xs) e = named_apart others n (k + 1) xs (drop_next k all e)
  named_apart others n k (Some j ∷ xs) e =
      more
      (λ h.
      let d = named_in (k + 1) xs j (drop_next k all e) h in
      let a : slice_get others j ≡ Some (Some d.by) = n d.by j d.is in
      let b : slice_get others j ≡ Some (Some k) = n k j (drop_step k all e).0 in
      let same : d.by ≡ k = cc in
      omega (arith, d.above, same))
      (named_apart others n (k + 1) xs (drop_next k all e))

module _ (ps qs : List Piece) where
  abbrev p : Partners
  p = partners_of ps qs

  m : Mutual (length ps) (length qs) p
  m = both_ways ps qs

  pub ours : filter_map (λ r. r.a) (rows_of ps qs) ≡ ps
  unfolding rows_of pairs_of told
  ours =
      column_a ps qs (pairs_of p)
      ∙ ap (filter_map (slice_get ps))
      (filter_map-append (λ x. x.a) (alone 0 p.of_b) (told p.of_a p.of_b) ∙ ap (λ (l : List ℕ). l ++ filter_map (λ x. x.a) (told p.of_a p.of_b)) (alone_ours 0 p.of_b) ∙ told_ours p.of_b 0 p.of_a ∙ numbers_long 0 p.of_a ps m.long_a)
      ∙ all_got ps 0 ps refl

  abbrev parts : ℕ → List Piece
  parts j = filter_map (slice_get qs) (block p.of_b j)

  their_column : filter_map (λ r. r.b) (rows_of ps qs) ≡ filter_map (slice_get qs) (run 0 p.of_b) ++ flat_map parts (named p.of_a)
  unfolding rows_of pairs_of told run
  their_column =
      column_b ps qs (pairs_of p)
      ∙ ap (filter_map (slice_get qs)) (filter_map-append (λ x. x.b) (alone 0 p.of_b) (told p.of_a p.of_b) ∙ ap (λ (l : List ℕ). run 0 p.of_b ++ l) (told_theirs p.of_b 0 p.of_a))
      ∙ filter_map-append (slice_get qs) (run 0 p.of_b) (flat_map (block p.of_b) (named p.of_a))
      ∙ ap (λ (l : List Piece). filter_map (slice_get qs) (run 0 p.of_b) ++ l) (kept_flat (block p.of_b) (slice_get qs) (named p.of_a))

  in_order : qs ≡ filter_map (slice_get qs) (run 0 p.of_b) ++ flat_map parts (held 0 p.of_b)
  in_order =
      sym (all_got qs 0 qs refl)
      ∙ ap (filter_map (slice_get qs)) (sym (numbers_long 0 p.of_b qs m.long_b) ∙ runs p.of_b 0 p.of_b refl)
      ∙ filter_map-append (slice_get qs) (run 0 p.of_b) (flat_map (block p.of_b) (held 0 p.of_b))
      ∙ ap (λ (l : List Piece). filter_map (slice_get qs) (run 0 p.of_b) ++ l) (kept_flat (block p.of_b) (slice_get qs) (held 0 p.of_b))

  moved : IsPermutation (flat_map parts (held 0 p.of_b)) (flat_map parts (named p.of_a))
  moved =
      same_parts parts (held 0 p.of_b) (named p.of_a) (held_apart p.of_b 0 p.of_b refl) (named_apart p.of_a p.of_b m.there 0 p.of_a refl)
      (λ j h. let d = held_in p.of_b 0 p.of_b j refl h in in_named p.of_a 0 p.of_a j d.by refl (omega arith) (m.back j d.by d.is))
      (λ j h. let d = named_in p.of_a 0 p.of_a j refl h in in_held p.of_b 0 p.of_b j d.by refl (omega arith) (m.there d.by j d.is))

  pub theirs : IsPermutation qs (filter_map (λ r. r.b) (rows_of ps qs))
  theirs =
      let q : IsPermutation (filter_map (slice_get qs) (run 0 p.of_b) ++ flat_map parts (held 0 p.of_b)) (filter_map (slice_get qs) (run 0 p.of_b) ++ flat_map parts (named p.of_a))
      = IsPermutation-append_right (filter_map (slice_get qs) (run 0 p.of_b)) _ _ moved in
      subst (λ (l : List Piece). IsPermutation l (filter_map (λ r. r.b) (rows_of ps qs))) (sym in_order)
      (subst (IsPermutation (filter_map (slice_get qs) (run 0 p.of_b) ++ flat_map parts (held 0 p.of_b))) (sym their_column) q)
