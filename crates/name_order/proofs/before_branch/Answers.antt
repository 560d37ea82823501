use Rattle.std.proofs.Common.{rules, of_calls}
use Rattle.std.proofs.lemmas.Fn.{always_returns_same}
use Rattle.name_order.specs.Branch.{is_before}
use Rattle.name_order.proofs.Branches.{before_parted}
use Rattle.name_order.proofs.before_branch.Goals as goal

pub returns-clause-parted : goal.returns-clause-parted
returns-clause-parted c = λ up. c.partition_point.ensures.partitioned (is_before c.args.places c.args.bytes.now c.args.text.now) (always_returns_same _ _ _ (λ a r f k. search (rules, of_calls))) (before_parted c.args.places c.args.bytes.now c.args.text.now c.args.starts.now up)
