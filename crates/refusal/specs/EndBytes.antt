-- docs/FORMAT.md, "Modes": end bytes of strings, each with its place, in the order in which they are met.
use Rattle.std.specs.Prelude.{ℕ, List, [], ◌∷◌, Result, Ok, Err, eqb, if◌then◌else◌}
use Rattle.refusal.specs.declared.Refusal.{Refusal}
use Rattle.refusal.specs.declared.Refusal.TheVariants.{EndByte}
use Rattle.refusal.specs.declared.Mode.{Mode}
use Rattle.refusal.specs.declared.Mode.TheVariants.{Present, Checked}

-- the first that is not 0 is refused
unfoldable pub ended : List (ℕ × ℕ) → Result Unit Refusal
ended [] = Ok tt
ended (e ∷ more) = if eqb e.1 0 then ended more else Err (EndByte e.0 e.1)

-- what the checked mode tests; the present one tests nothing
abbrev pub in_mode : Mode → Result Unit Refusal → Result Unit Refusal
in_mode Present test = Ok tt
in_mode Checked test = test
