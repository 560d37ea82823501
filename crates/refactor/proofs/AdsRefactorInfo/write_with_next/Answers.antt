use Rattle.std.proofs.Common.{rules, ◌≡◌, Err, sym, ◌∙◌}
use Rattle.le.proofs.Laws.{after}
use Rattle.writing.proofs.Laws.{refuses, too_small, done}
use Rattle.refactor.specs.Writing.{info_bytes}
use Rattle.refactor.proofs.Written.{length_info, passes, refused}
use Rattle.refactor.proofs.AdsRefactorInfo.write_with_next.Goals as goal

pub returns-in_err-check_count : goal.returns-in_err-check_count
returns-in_err-check_count c =
    let e : c.from_residual.result ≡ Err c.in_err-check_count.field-0.0 = search rules in
    simp e (refuses (refused _ _ _ (sym c.check_count.ensures ∙ c.in_err-check_count.was)))

pub returns-then-lent-needed : goal.returns-then-lent-needed
returns-then-lent-needed c = too_small (passes _ _ _ (sym c.check_count.ensures ∙ c.in_ok-check_count.was)) (length_info _ _) c.if-lent-needed.true

pub returns : goal.returns
unfolding info_bytes
returns c =
    done (passes _ _ _ (sym c.check_count.ensures ∙ c.in_ok-check_count.was))
    (after (rw c.packed.ensures at c.put_u32-a.ensures) (after c.put_u16-b.ensures (after c.put_bytes-c.ensures c.put_u8.ensures)))
