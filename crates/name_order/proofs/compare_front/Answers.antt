use Rattle.std.proofs.Common.{ℕ, List, ap, ◌∙◌, take, length}
use Rattle.std.proofs.lemmas.List.{take_min}
use Rattle.name_order.specs.Order.{name_cmp}
use Rattle.name_order.specs.Branch.{front_cmp}
use Rattle.name_order.proofs.compare_front.Goals as goal

pub returns : goal.returns
unfolding front_cmp
returns c = c.compare_names.ensures ∙ ap (λ (l : List ℕ). name_cmp l c.args.text.now) (ap (λ (n : ℕ). take n c.args.name.now) c.min.ensures ∙ take_min (length c.args.text.now) c.args.name.now)
