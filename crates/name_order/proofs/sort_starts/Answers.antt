use Rattle.std.proofs.Common.{rules, of_calls}
use Rattle.std.proofs.lemmas.Fn.{always_returns_same}
use Rattle.name_order.specs.Order.{goes_first}
use Rattle.name_order.proofs.Order.{places_weak, places_one}
use Rattle.name_order.proofs.Sorted.{order_is}
use Rattle.name_order.proofs.sort_starts.Goals as goal

pub returns : goal.returns
returns c = order_is (goes_first c.args.places c.args.bytes.now) (places_weak _ _) (places_one _ _) _ _ c.sort_unstable_by.ensures.permutation (c.sort_unstable_by.ensures.sorted (goes_first c.args.places c.args.bytes.now) (places_weak _ _) (always_returns_same _ _ _ (λ a r f k. search (rules, of_calls))))
