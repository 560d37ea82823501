use Rattle.std.proofs.Common.{◌+◌, ◌≡◌, List, length, refl, ap, sym, ◌∙◌, arith}
use Rattle.attribute.specs.Attribute.{left}
use Rattle.attribute.specs.declared.AdsAttribute.{AdsAttribute}
use Rattle.attribute.proofs.Laws.{listed_most}
use Rattle.sections.specs.Sections.{attribute_parts, cut_all, seen}
use Rattle.sections.proofs.Cutting.{attribute_turn}
use Rattle.sections.proofs.Cutter.cut_attributes.Goals as goal

pub loop-one-init : goal.loop-one-init
loop-one-init c =
    let most = listed_most c.args.symbol.now.attributes.bytes c.args.symbol.now.attributes.count in
    simp c.into_iter-one-iterator.ensures.into_iter_gives (record { can = tt; ends = tt; going = refl; few = omega (arith, most) })

pub loop-one-preserved : goal.loop-one-preserved
loop-one-preserved c =
    let step = c.in-Some.ensures.steps.0 in
    let more = ap (λ (xs : List AdsAttribute). length xs) step in
    let next : c.saturating_add-number.result ≡ c.loop-one.number + 1 = grind (arith, more) in
    record {
      can = tt;
      ends = tt;
      going = attribute_turn c.loop-one.number c.saturating_add-number.result c.in-Some.one (left c.next.new.self) (seen c.loop-one.self) (seen c.cut.new.self) c.saturating_add.result next (grind (arith, c.cut.ensures.left_fits)) c.in_ok-cut.ensures.value
          ∙ ap (λ (xs : List AdsAttribute). cut_all (attribute_parts c.loop-one.number xs) (seen c.loop-one.self)) (sym step)
          ∙ c.loop-one.invariant.going;
      few = omega (arith, more, next, c.loop-one.invariant.few);
    }
