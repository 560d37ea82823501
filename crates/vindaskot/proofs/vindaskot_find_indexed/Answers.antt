use Rattle.std.proofs.Common.{ℕ, subst, Result}
use Rattle.refusal.specs.declared.Refusal.{Refusal}
use Rattle.told.specs.Told.{Tells, number_told}
use Rattle.vindaskot.proofs.vindaskot_find_indexed.Goals as goal

pub returns : goal.returns
returns c = subst (λ (found : Result ℕ Refusal). Tells (number_told found) c.number.result c.number.new.answer) c.find_indexed.ensures c.number.ensures
