-- An answer that keeps a writer's promise is told.
use Rattle.std.proofs.Common.{ℕ, ◌≡◌, subst, List, Result}
use Rattle.refusal.specs.declared.Refusal.{Refusal}
use Rattle.writing.specs.Writing.{Writes}
use Rattle.told.specs.Told.{Tells, WritesTold, number_told}

pub told_one : {w v : Result (List ℕ) Refusal} {old new : List ℕ} {r : Result ℕ Refusal} {status : ℕ} {answer : List ℕ} → w ≡ v
    → Tells (number_told r) status answer → Writes w old new r → WritesTold v old new status answer
told_one {w} {v} {old} {new} {r} {status} {answer} e t p =
    let told : WritesTold w old new status answer =
    record { tells = subst (λ (x : Result ℕ Refusal). Tells (number_told x) status answer) p.said t; left = p.left } in
    subst (λ (x : Result (List ℕ) Refusal). WritesTold x old new status answer) e told
