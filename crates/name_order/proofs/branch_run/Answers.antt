use Rattle.name_order.proofs.Branches.{run_of, branch_at, rest_is}
use Rattle.name_order.proofs.branch_run.Goals as goal

pub returns : goal.returns
returns c = record {
  among = run_of c.args.starts.now _ c.before_branch.result c.to_branch_end.result (rest_is c.args.starts.now c.before_branch.result);
  ordered = branch_at c.args.places c.args.bytes.now c.args.text.now c.args.starts.now _ c.before_branch.result c.to_branch_end.result (rest_is c.args.starts.now c.before_branch.result) c.before_branch.ensures.within c.to_branch_end.ensures.within c.before_branch.ensures.parted c.to_branch_end.ensures.parted;
}
