use Rattle.std.proofs.Common.{ℕ, List, Result, subst}
use Rattle.std.specs.List.Sorted.{IsSortedBy}
use Rattle.writing.specs.Writing.{Writes}
use Rattle.refusal.specs.declared.Refusal.{Refusal}
use Rattle.name_order.specs.declared.places.NamePlaces.{NamePlaces}
use Rattle.name_order.specs.Order.{goes_first}
use Rattle.name_order.specs.Branch.{begins_at, IsBranch}
use Rattle.name_index.proofs.Branching.{run_branch}
use Rattle.name_index.proofs.branch_ordered.Goals as goal

pub returns : goal.returns
returns g c =
    let parted = subst (λ (w : NamePlaces). IsSortedBy (goes_first w c.args.bytes.now) c.args.slots.now → IsBranch (begins_at w c.args.bytes.now c.args.text.now) c.args.slots.now c.branch_run-run.result.now) c.places.ensures c.branch_run-run.ensures.ordered in
    record {
      run = c.branch_run-run.result.now;
      among = c.branch_run-run.ensures.among;
      asked = c.branch-bytes.ensures;
      ordered = λ up. subst (λ (x : Result (List ℕ) Refusal). Writes x c.args.out.now c.branch-bytes.new.out c.branch-bytes.result) (run_branch g.E.Named.places (g.E.Entry.read c.args.mode) c.args.bytes c.args.slots.now c.args.text.now c.branch_run-run.result.now (parted up)) c.branch-bytes.ensures;
    }
