use Rattle.std.proofs.Common.{rules, of_calls}
use Rattle.std.proofs.lemmas.Fn.{always_returns_same}
use Rattle.std.specs.Ordering.{is_lt}
use Rattle.name_order.proofs.Sorted.{order_is}
use Rattle.pairing.specs.Pairs.{number_order}
use Rattle.pairing.proofs.Orders.{number_weak, number_one}
use Rattle.pairing.proofs.pairs.sort_by_name.Goals as goal

pub returns : goal.returns
returns c =
    order_is (λ i j. is_lt (number_order c.args.pieces.now i j)) (number_weak _) (number_one _) _ _ c.sort_unstable_by.ensures.permutation
    (c.sort_unstable_by.ensures.sorted (λ i j. is_lt (number_order c.args.pieces.now i j)) (number_weak _) (always_returns_same _ _ _ (λ a r f k. search (rules, of_calls))))
