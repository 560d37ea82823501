-- What B has alone stands in the rows right behind what stands before it in B: proved.
use Rattle.std.proofs.Common.{ℕ, ◌+◌, ◌≡◌, refl, sym, ap, subst, ◌∙◌, List, [], ◌∷◌, ◌++◌, length, drop, map, arith}
use Rattle.std.specs.Prelude.{Option, Some, None, slice_get}
use Rattle.std.specs.List.{flat_map, enumerate_from}
use Rattle.std.proofs.lemmas.Option.{slice_get_within}
use Rattle.pairing.specs.declared.pieces.Piece.{Piece}
use Rattle.pairing.specs.declared.pairs.Pair.{Pair}
use Rattle.pairing.specs.declared.rows.Row.{Row}
use Rattle.pairing.specs.Pairs.{Partners, partners_of, alone, behind, told_one, told, pairs_of}
use Rattle.pairing.specs.Rows.{piece_numbered, row_of, rows_of}
use Rattle.pairing.specs.Told.{AreInPlace, IsBehindIn, IsInPlace}
use Rattle.pairing.proofs.Kept.{both_ways}
use Rattle.pairing.proofs.Lists.{got}

module _ (ps qs : List Piece) where
  abbrev row_before : Option Pair → Option Row
  row_before None = None
  row_before (Some x) = Some (row_of ps qs x)

  -- the next number in B
  abbrev Next : Option Pair → ℕ → Type 0
  Next None k = k ≡ 0
  Next (Some x) k = (j : ℕ) × ((x.b ≡ Some j) × (k ≡ j + 1))

  in_place : (before : Option Pair) (k : ℕ) → Next before k → (q : Option Piece) → slice_get qs k ≡ q → IsInPlace qs (row_before before) None q
  in_place None k n None e = tt
  in_place (Some x) k n None e = tt
  in_place None k n (Some q) e = ap (slice_get qs) (sym n) ∙ e
  in_place (Some x) k n (Some q) e =
      let j : ℕ = n.0 in
      let g = got qs j (omega (arith, n.1.1, slice_get_within qs k q e)) in
      subst (λ (o : Option ℕ). IsBehindIn qs (piece_numbered qs o) q) (sym n.1.0)
      (subst (λ (o : Option Piece). IsBehindIn qs o q) (sym g.is) (record { number = j; is = g.is; next = ap (slice_get qs) (sym n.1.1) ∙ e }))

  alone_on : (before : Option Pair) (k : ℕ) (xs : List (Option ℕ)) (rest : List Pair) → Next before k → ((last : Option Pair) → AreInPlace qs (row_before last) (map (row_of ps qs) rest))
      → AreInPlace qs (row_before before) (map (row_of ps qs) (alone k xs ++ rest))
  unfolding alone
  alone_on before k [] rest n on = on before
  alone_on before k (Some i ∷ xs) rest n on = on before
  alone_on before k (None ∷ xs) rest n on =
      (in_place before k n (slice_get qs k) refl, alone_on (Some (record { a = None; b = Some k })) (k + 1) xs rest (k, (refl, refl)) on)

  behind_on : (ys : List (Option ℕ)) (k : ℕ) (m : Option ℕ) (rest : List Pair) → ((last : Option Pair) → AreInPlace qs (row_before last) (map (row_of ps qs) rest))
      → AreInPlace qs (Some (row_of ps qs (record { a = Some k; b = m }))) (map (row_of ps qs) (behind m ys ++ rest))
  behind_on ys k None rest on = on (Some (record { a = Some k; b = None }))
  behind_on ys k (Some j) rest on = alone_on (Some (record { a = Some k; b = Some j })) (j + 1) (drop (j + 1) ys) rest (j, (refl, refl)) on

  told_on : (ys : List (Option ℕ)) (k : ℕ) (xs : List (Option ℕ)) → k + length xs ≡ length ps → (before : Option Pair)
      → AreInPlace qs (row_before before) (map (row_of ps qs) (flat_map (λ x. told_one ys x.0 x.1) (enumerate_from k xs)))
  told_on ys k [] l before = tt
  told_on ys k (m ∷ xs) l before =
      let g = got ps k (omega (arith, l)) in
      let rest : List Pair = flat_map (λ x. told_one ys x.0 x.1) (enumerate_from (k + 1) xs) in (
        subst (λ (o : Option Piece). IsInPlace qs (row_before before) o (piece_numbered qs m)) (sym g.is) tt,
        behind_on ys k m rest (told_on ys (k + 1) xs (omega (arith, l))),
      )

  abbrev p : Partners
  p = partners_of ps qs

  pub in_its_place : AreInPlace qs None (rows_of ps qs)
  unfolding rows_of pairs_of told
  in_its_place = alone_on None 0 p.of_b (told p.of_a p.of_b) refl (told_on p.of_b 0 p.of_a (omega (arith, (both_ways ps qs).long_a)))
