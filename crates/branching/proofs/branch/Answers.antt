use Rattle.std.proofs.Common.{◌≡◌, List, ℕ, Ok, Err, sym, ap, ◌∙◌, length, arith}
use Rattle.branching.specs.Ordered.{IfRefused, by_name, branch}
use Rattle.branching.proofs.Laws.{passed_on, if_refused, cut, no_branch, branched, never_refused}
use Rattle.branching.proofs.branch.Goals as goal

pub returns-in_err-all-clause-refused : goal.returns-in_err-all-clause-refused
returns-in_err-all-clause-refused c =
    passed_on _ _ (λ e. IfRefused e (λ why. branch c.args.upload.now c.args.text.now ≡ Err why)) c.from_residual.ensures.1
    (if_refused _ (λ why. branch c.args.upload.now c.args.text.now ≡ Err why) (no_branch c.args.upload.now c.args.text.now) _ c.in_err-all.ensures.refused)

pub returns-in_err-count-clause-refused : goal.returns-in_err-count-clause-refused
returns-in_err-count-clause-refused c =
    let named : by_name c.args.upload.now ≡ Ok c.as_slice.result.now = c.in_ok-all.ensures.ok ∙ ap (λ (l : List ℕ). Ok l) (sym c.as_slice.ensures.value) in
    absurd (never_refused c.args.upload.now c.args.text.now c.as_slice.result.now named c.as_mut_slice.result.now c.branch_ordered.new.out _
    (omega (arith, c.as_slice.ensures.len, c.len.ensures, c.in_ok-starts.ensures.len, c.as_mut_slice.ensures.len)) c.in_err-count.ensures)

pub returns-clause-ok : goal.returns-clause-ok
returns-clause-ok c =
    let named : by_name c.args.upload.now ≡ Ok c.as_slice.result.now = c.in_ok-all.ensures.ok ∙ ap (λ (l : List ℕ). Ok l) (sym c.as_slice.ensures.value) in
    branched c.args.upload.now c.args.text.now c.as_slice.result.now named c.as_mut_slice.result.now c.branch_ordered.new.out c.in_ok-count.count c.in_ok-count.ensures
    ∙ ap (λ (l : List ℕ). Ok l) (sym (c.truncate.ensures.items ∙ cut c.in_ok-count.count c.in_ok-starts.starts.len c.branch_ordered.new.out c.in_ok-starts.starts.items (c.branch_ordered.auto.out ∙ ap length c.as_mut_slice.ensures.value) (sym (ap length c.as_mut_slice.ensures.value) ∙ c.as_mut_slice.ensures.len)))
