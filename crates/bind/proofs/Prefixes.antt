-- The names with which a path begins, one by one from the longest on.
use Rattle.std.proofs.Common.{ℕ, zero, suc, ◌-◌, ◌<◌, ◌≡◌, refl, ap, List, drop, take, arith, if◌then◌else◌}
use Rattle.std.specs.Prelude.{Ok, Err}
use Rattle.part.specs.Outcome.{outcome}
use Rattle.refusal.specs.declared.Refusal.TheVariants.{NameNotFound}
use Rattle.path.specs.Path.{ends}
use Rattle.bind.specs.Binding.{Finder, longest}

pub none_left : (find : Finder) (path : List ℕ) → longest find path 0 ≡ Err NameNotFound
unfolding longest
none_left find path = refl

pub one_less : (find : Finder) (path : List ℕ) (n : ℕ) → 0 < n
    → longest find path n ≡ (if ends (drop (n - 1) path) then outcome (find (take (n - 1) path)) (λ start. Ok (n - 1, start)) (λ why. longest find path (n - 1)) else longest find path (n - 1))
unfolding longest
one_less find path zero h = absurd (omega arith)
one_less find path (suc n) h =
    let e : n ≡ suc n - 1 = omega arith in
    ap (λ (k : ℕ). if ends (drop k path) then outcome (find (take k path)) (λ start. Ok (k, start)) (λ why. longest find path k) else longest find path k) e
