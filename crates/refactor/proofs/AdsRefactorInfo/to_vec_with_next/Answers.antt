use Rattle.std.proofs.Common.{◌≡◌, sym, ◌∙◌, Err, rules}
use Rattle.writing.specs.declared.error.WriteError.TheVariants.{OutOfMemory}
use Rattle.refactor.proofs.Written.{passes}
use Rattle.refactor.proofs.AdsRefactorInfo.to_vec_with_next.Goals as goal

pub returns-in_err-out : goal.returns-in_err-out
returns-in_err-out g c =
    let e : c.from_residual-in_err-out.result ≡ Err OutOfMemory = search rules in
    simp e (_, passes _ _ _ (sym c.check_count.ensures ∙ c.in_ok-check_count.was))
