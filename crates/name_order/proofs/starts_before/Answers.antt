use Rattle.std.proofs.Common.{ℕ, nat_eq, eqb-true, ◌-◌, drop, refl, [], ◌∷◌, ◌+◌, ◌/◌, ◌≡◌, ◌<◌, ◌≤◌, ◌∙◌, sym, ap, true, false, List, length, get_or, arith, rules, length-take, length-drop}
use Rattle.std.specs.Ordering.{is_lt}
use Rattle.le.proofs.Laws.{not_both}
use Rattle.name_order.specs.Order.{name_cmp, named_before}
use Rattle.name_order.specs.Halving.{halved}
use Rattle.name_order.proofs.Order.{places_parted}
use Rattle.name_order.proofs.Halving.{went_behind, went_before, ended, parted}
use Rattle.name_order.proofs.starts_before.Goals as goal

some_left : (xs : List ℕ) → nat_eq (length xs) 0 ≡ false → 0 < length xs
some_left [] h = absurd (not_both refl h)
some_left (x ∷ xs) h = omega arith

none_left : (xs : List ℕ) → nat_eq (length xs) 0 ≡ true → length xs ≡ 0
none_left xs h = eqb-true (length xs) 0 h

pub loop-rest-preserved-then-is_lt : goal.loop-rest-preserved-then-is_lt
loop-rest-preserved-then-is_lt c =
    let before = named_before c.args.places c.args.bytes.now c.args.name.now in
    let some : 0 < length c.loop-rest.rest.now = some_left c.loop-rest.rest.now (sym c.is_empty.ensures ∙ c.loop-rest-test.true) in
    let t : before (get_or c.loop-rest.rest.now (length c.loop-rest.rest.now / 2) 0) ≡ true =
    ap (λ (n : List ℕ). is_lt (name_cmp n c.args.name.now)) (sym c.name_at.ensures) ∙ ap is_lt (sym c.compare_names.ensures) ∙ sym c.is_lt.ensures ∙ c.if-is_lt.true in
    record {
      left = went_behind before c.loop-rest.before c.loop-rest.rest.now c.args.starts.now some t c.loop-rest.invariant.left;
      fits = omega (arith, c.loop-rest.invariant.fits, length-take (length c.loop-rest.rest.now - (length c.loop-rest.rest.now / 2 + 1)) (drop (length c.loop-rest.rest.now / 2 + 1) c.loop-rest.rest.now), length-drop (length c.loop-rest.rest.now / 2 + 1) c.loop-rest.rest.now);
    }

pub loop-rest-preserved : goal.loop-rest-preserved
loop-rest-preserved c =
    let before = named_before c.args.places c.args.bytes.now c.args.name.now in
    let some : 0 < length c.loop-rest.rest.now = some_left c.loop-rest.rest.now (sym c.is_empty.ensures ∙ c.loop-rest-test.true) in
    let t : before (get_or c.loop-rest.rest.now (length c.loop-rest.rest.now / 2) 0) ≡ false =
    ap (λ (n : List ℕ). is_lt (name_cmp n c.args.name.now)) (sym c.name_at.ensures) ∙ ap is_lt (sym c.compare_names.ensures) ∙ sym c.is_lt.ensures ∙ c.if-is_lt.false in
    record {
      left = went_before before c.loop-rest.before c.loop-rest.rest.now c.args.starts.now some t c.loop-rest.invariant.left;
      fits = omega (arith, c.loop-rest.invariant.fits, length-take (length c.loop-rest.rest.now / 2) c.loop-rest.rest.now);
    }

pub returns-clause-value : goal.returns-clause-value
returns-clause-value c =
    let none : length c.loop-rest.rest.now ≡ 0 = none_left c.loop-rest.rest.now (sym c.is_empty.ensures ∙ c.loop-rest-test.false) in
    ended (named_before c.args.places c.args.bytes.now c.args.name.now) c.loop-rest.before c.loop-rest.rest.now c.args.starts.now none c.loop-rest.invariant.left

pub returns-clause-parted : goal.returns-clause-parted
returns-clause-parted c = λ up.
    let before = named_before c.args.places c.args.bytes.now c.args.name.now in
    let none : length c.loop-rest.rest.now ≡ 0 = none_left c.loop-rest.rest.now (sym c.is_empty.ensures ∙ c.loop-rest-test.false) in
    let is : c.loop-rest.before ≡ halved before c.args.starts.now = ended before c.loop-rest.before c.loop-rest.rest.now c.args.starts.now none c.loop-rest.invariant.left in
    rw is (parted before (length c.args.starts.now) c.args.starts.now (omega arith) (places_parted c.args.places c.args.bytes.now c.args.name.now c.args.starts.now up))
