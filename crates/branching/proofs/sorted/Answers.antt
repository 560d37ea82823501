use Rattle.std.proofs.Common.{◌≡◌, Err}
use Rattle.branching.specs.Ordered.{IfRefused, sorted}
use Rattle.branching.proofs.Laws.{passed_on, if_refused, none_sorted, all_sorted, named_small}
use Rattle.branching.proofs.sorted.Goals as goal

pub returns-in_err-starts-clause-refused : goal.returns-in_err-starts-clause-refused
returns-in_err-starts-clause-refused c =
    passed_on _ _ (λ e. IfRefused e (λ why. sorted c.args.upload.now ≡ Err why)) c.from_residual.ensures.1
    (if_refused _ (λ why. sorted c.args.upload.now ≡ Err why) (none_sorted c.args.upload.now) _ c.in_err-starts.ensures.refused)

pub push_refused-requires : goal.push_refused-requires
push_refused-requires c = named_small c.args.upload.now _ c.in_ok-starts.ensures.ok

pub returns-clause-ok : goal.returns-clause-ok
returns-clause-ok c = all_sorted c.args.upload.now _ _ c.in_ok-starts.ensures.ok c.in_ok-push_refused.ensures
