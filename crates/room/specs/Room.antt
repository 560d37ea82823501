-- docs/FORMAT.md, "Room": the slots to set aside for the index of an upload of so many bytes.
use Rattle.std.specs.Prelude.{ℕ, ◌/◌, Result, Ok, Err, ltb, if◌then◌else◌}
use Rattle.refusal.specs.Refusal.{limit}
use Rattle.refusal.specs.declared.Refusal.{Refusal}
use Rattle.refusal.specs.declared.Refusal.TheVariants.{TooLarge}

-- the least bytes of an accepted entry: a header of 30 and three end bytes
abbrev pub least : ℕ
least = 33

unfoldable pub room_for : ℕ → Result ℕ Refusal
room_for n = if ltb limit n then Err (TooLarge n) else Ok (n / least)
