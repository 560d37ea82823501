-- What is counted, and what is written of it.
use Rattle.std.proofs.Common.{◌≡◌, ℕ, ◌+◌, ◌-◌, ◌≤◌, Bool, true, false, List, [], ◌∷◌, ◌++◌, codes, refl, ◌∙◌, cond, arith}
use Rattle.std.specs.Prelude.{◌^◌, ◌&&◌, min, not, is_some, None}
use Rattle.std.specs.Fmt.{digits}
use Rattle.std.specs.List.{sum_by}
use Rattle.std.proofs.lemmas.List.Sums.{sum_by-cons}
use Rattle.wording.specs.Wording.{grouped, grouped_by, many, bytes, figure, refusal_text}
use Rattle.sections.specs.Parts.{part_text}
use Rattle.values.specs.Shown.{value_json}
use Rattle.report.specs.Tallies.{at_most}
use Rattle.pairing.specs.declared.pieces.Shift.TheVariants.{Later}
use Rattle.comparison.specs.declared.counts.Counted.{Counted}
use Rattle.pairing.specs.declared.rows.Row.{Row}
use Rattle.pairing.specs.Rows.{is_alike, is_unmoved, shift_in, name_else}
use Rattle.comparison.specs.Moved.{moved_on}
use Rattle.comparison.specs.Counts.{nothing, added, counted, counted_on, counted_text}
use Rattle.comparison.specs.Json.{moved_line, side_by, name_text, front_text, difference_json, parts_json}
use Rattle.comparison.specs.Meant.{CountsMeant, TextsMeant}

added_is : (n : ℕ) (is_one : Bool) → n ≤ 2 ^ 64 - 1 → added n is_one ≡ min (n + cond is_one 1 0) (2 ^ 64 - 1)
added_is n true few = refl
added_is n false few = omega (arith, few)

-- a number that grows with each row
module _ (field : Counted → ℕ) (test : Row → Bool) (step : (c : Counted) (r : Row) → field (counted c r) ≡ added (field c) (test r)) where
  grows : (c : Counted) (rows : List Row) → field c ≤ 2 ^ 64 - 1 → field (counted_on c rows) ≡ min (field c + sum_by (λ r. cond (test r) 1 0) rows) (2 ^ 64 - 1)
  unfolding counted_on
  grows c [] few = omega (arith, few)
  grows c (r ∷ rows) few =
      let s = step c r ∙ added_is (field c) (test r) few in
      let g = grows (counted c r) rows (omega (arith, s)) in
      omega (arith, s, g, sum_by-cons (λ r. cond (test r) 1 0) r rows)

  from_none : (rows : List Row) → field nothing ≡ 0 → field (counted_on nothing rows) ≡ at_most (sum_by (λ r. cond (test r) 1 0) rows)
  from_none rows z = let g = grows nothing rows (omega (arith, z)) in omega (arith, g, z)

pub counts_meant : CountsMeant
unfolding counted
counts_meant = record {
  in_a = λ rows. from_none (λ c. c.in_a) (λ r. is_some r.a) (λ c r. refl) rows refl;
  in_b = λ rows. from_none (λ c. c.in_b) (λ r. is_some r.b) (λ c r. refl) rows refl;
  alike = λ rows. from_none (λ c. c.alike) (λ r. is_alike r.a r.b) (λ c r. refl) rows refl;
  different = λ rows. from_none (λ c. c.different) (λ r. is_some r.a && is_some r.b && not (is_alike r.a r.b)) (λ c r. refl) rows refl;
  only_in_a = λ rows. from_none (λ c. c.only_in_a) (λ r. is_some r.a && not (is_some r.b)) (λ c r. refl) rows refl;
  only_in_b = λ rows. from_none (λ c. c.only_in_b) (λ r. is_some r.b && not (is_some r.a)) (λ c r. refl) rows refl;
  moved = λ rows. from_none (λ c. c.moved) (λ r. is_some r.a && is_some r.b && not (is_unmoved (shift_in r.a r.b))) (λ c r. refl) rows refl;
}

moved_by : ℕ → ℕ → ℕ → List ℕ
moved_by before a b = moved_line (moved_on (Later before) a b)

pub texts_meant : TextsMeant
unfolding counted_text moved_line front_text grouped grouped_by many bytes digits moved_by parts_json difference_json part_text value_json figure refusal_text
texts_meant = record {
  counted = refl;
  later = λ p q a b. (λ i. moved_by 0 (a i) (b i)) ∙ refl;
  earlier = λ p q a b. (λ i. moved_by 7 (a i) (b i)) ∙ refl;
  back = λ p q a b. (λ i. moved_by 7 (a i) (b i)) ∙ refl;
  on = λ p q a b. (λ i. moved_by 7 (a i) (b i)) ∙ refl;
  in_both = λ p q own other a b. λ i. codes "{\"name\":" ++ (name_text (name_else (name_else None (b i)) (a i)) ++ (codes ",\"a\":" ++ (side_by p.place (a i) ++ (codes ",\"b\":" ++ (side_by q.place (b i) ++ codes ",\"parts\":[")))));
  only_in_b = λ q why b. λ i. codes "{\"name\":" ++ (name_text (name_else None (b i)) ++ (codes ",\"a\":" ++ (codes "null" ++ (codes ",\"b\":" ++ (side_by q.place (b i) ++ codes ",\"parts\":[")))));
  no_parts = refl;
  two_parts = refl;
  refusal = refl;
}
