-- No end byte is refused with 10.
use Rattle.std.proofs.Common.{ℕ, ◌≡◌, List, [], ◌∷◌, Err, arith}
use Rattle.std.specs.Prelude.{false}
use Rattle.refusal.specs.declared.Refusal.{Refusal}
use Rattle.refusal.specs.EndBytes.{ended}
use Rattle.walk.specs.Zero.{is_zero}

pub ended_own : (ends : List (ℕ × ℕ)) (why : Refusal) → ended ends ≡ Err why → is_zero why ≡ false
unfolding ended
ended_own [] why h = cc
ended_own (e ∷ more) why h = grind (arith, ended_own more)
