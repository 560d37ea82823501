use Rattle.std.proofs.Common.{ℕ, ◌-◌, ◌≤◌, ⊎_elim, arith, length, get_or}
use Rattle.std.proofs.Math.ListN.{get_or-eq_default}
use Rattle.text.proofs.Utf8.{le_or_lt}
use Rattle.text.proofs.Laws.{both_ends}
use Rattle.text.proofs.highest.Goals as goal

pub returns-then-n-le32 : goal.returns-then-n-le32
returns-then-n-le32 c =
    let s = c.args.s.now in
    let all = both_ends (λ (k : ℕ). get_or s k 0 ≤ c.larger.result) (length s - 16) (length s) (omega arith) (omega arith) (λ k h. omega (arith, c.highest_of.ensures k h)) (λ k h. omega (arith, c.highest_of-then-n-le32.ensures k h)) in
    λ k. ⊎_elim (λ l. omega (arith, get_or-eq_default s 0 {n = k} l)) (λ l. all k l) (le_or_lt (length s) k)
