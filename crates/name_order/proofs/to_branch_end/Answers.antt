use Rattle.std.proofs.Common.{rules, of_calls}
use Rattle.std.proofs.lemmas.Fn.{always_returns_same}
use Rattle.name_order.specs.Branch.{is_no_further}
use Rattle.name_order.proofs.Branches.{no_further_parted}
use Rattle.name_order.proofs.to_branch_end.Goals as goal

pub returns-clause-parted : goal.returns-clause-parted
returns-clause-parted c = λ up. c.partition_point.ensures.partitioned (is_no_further c.args.places c.args.bytes.now c.args.text.now) (always_returns_same _ _ _ (λ a r f k. search (rules, of_calls))) (no_further_parted c.args.places c.args.bytes.now c.args.text.now c.args.starts.now up)
