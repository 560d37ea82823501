use Rattle.std.proofs.Common.{ap, ◌∙◌, Ok}
use Rattle.std.specs.Prelude.{Option, Some, None, ok_or}
use Rattle.std.proofs.lemmas.Iterator.Consumers.{nth_from_yields_List}
use Rattle.refusal.specs.declared.Refusal.TheVariants.{NoSuchNumber}
use Rattle.attribute.specs.declared.AdsAttribute.{AdsAttribute}
use Rattle.attribute.proofs.Left.{all_given}
use Rattle.walk.specs.Mapped.{map_ok}
use Rattle.places.specs.Places.{attribute_places}
use Rattle.places.proofs.Attributes.{given_before}
use Rattle.places.proofs.attribute_numbered.Goals as goal

pub attribute_before-requires : goal.attribute_before-requires
attribute_before-requires c = let r = c.in-Some.ensures.ran in given_before c.args.own c.args.all r.1.0 c.nth.new.self r.0 c.in-Some.attribute c.requires r.1.1 r.1.2

pub returns-in-Some : goal.returns-in-Some
returns-in-Some c =
    ap Ok c.attribute_before.ensures
    ∙ ap (λ (o : Option AdsAttribute). map_ok (attribute_places c.args.own) (ok_or o (NoSuchNumber c.args.all.count c.args.number))) (nth_from_yields_List (Some c.in-Some.attribute) _ _ c.in-Some.ensures.ran (all_given c.args.all))

pub returns-in-None : goal.returns-in-None
returns-in-None c =
    ap (λ (o : Option AdsAttribute). map_ok (attribute_places c.args.own) (ok_or o (NoSuchNumber c.args.all.count c.args.number))) (nth_from_yields_List None _ _ c.in-None.ensures.ran (all_given c.args.all))
