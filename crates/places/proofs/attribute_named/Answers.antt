use Rattle.std.proofs.Common.{ap, ◌∙◌, rules, Ok}
use borrow.Author.Tests.{tests}
use Rattle.std.specs.Cmp.Lexicographic.{pointwise}
use Rattle.std.specs.Prelude.{Option, Some, None, nat_eq, ok_or}
use Rattle.std.proofs.lemmas.Iterator.Search.{find_from_yields_List}
use Rattle.refusal.specs.declared.Refusal.TheVariants.{NameNotFound}
use Rattle.attribute.specs.declared.AdsAttribute.{AdsAttribute}
use Rattle.attribute.proofs.Left.{all_given}
use Rattle.walk.specs.Mapped.{map_ok}
use Rattle.places.specs.Places.{attribute_places}
use Rattle.places.proofs.Attributes.{given_before}
use Rattle.places.proofs.attribute_named.Goals as goal

pub attribute_before-requires : goal.attribute_before-requires
attribute_before-requires c = let r = c.in-Some.ensures.ran in given_before c.args.own c.args.all r.2.0 c.find.new.self r.0 c.in-Some.attribute c.requires r.2.1 r.2.2

pub returns-in-Some : goal.returns-in-Some
returns-in-Some c =
    ap Ok c.attribute_before.ensures
    ∙ ap (λ (o : Option AdsAttribute). map_ok (attribute_places c.args.own) (ok_or o NameNotFound))
    (find_from_yields_List (λ a. pointwise nat_eq a.name.now c.args.name.now) _ _ (Some c.in-Some.attribute) c.in-Some.ensures.ran (all_given c.args.all) (λ x b q k. search (rules, tests)))

pub returns-in-None : goal.returns-in-None
returns-in-None c =
    ap (λ (o : Option AdsAttribute). map_ok (attribute_places c.args.own) (ok_or o NameNotFound))
    (find_from_yields_List (λ a. pointwise nat_eq a.name.now c.args.name.now) _ _ None c.in-None.ensures.ran (all_given c.args.all) (λ x b q k. search (rules, tests)))
