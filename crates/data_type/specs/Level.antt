-- docs/FORMAT.md, "Data type entries": what is left to give of the members of one entry.
use Rattle.std.specs.Prelude.{ℕ, suc, ◌-◌, ◌≡◌, min, List, [], ◌∷◌, ◌++◌, length, Option, Some, None}
use Rattle.std.specs.Borrow.{Bor}
use Rattle.part.specs.Slice.{part}
use Rattle.data_type.specs.declared.level.Level.{Level}
use Rattle.data_type.specs.declared.members.Member.{Member}
use Rattle.data_type.specs.declared.members.Position.{Position}
use Rattle.data_type.specs.Members.{below, members_below}

-- bytes from one place to another, or as many of them as there are
abbrev pub cut : Bor (List ℕ) → ℕ → ℕ → Bor (List ℕ)
cut s at stop = let end : ℕ = min stop (length s.now) in part s (min at end) (end - min at end)

-- to so many levels below the entry, which stands at a position, in these bytes
abbrev pub level_left : ℕ → Position → Bor (List ℕ) → Level → List Member
level_left levels above s l = members_below levels above l.end (cut s l.at l.stop) l.count

-- a step, wherever the entry stands: nothing is left, or a member, which stands by what the level keeps of it, then what it holds, then what is left after it
abbrev pub Gives : Bor (List ℕ) → Level → Level → Option (Bor (List ℕ) × Level) → Type 0
Gives s old new None = (levels : ℕ) (above : Position) → level_left levels above s old ≡ []
Gives s old new (Some p) =
    (levels : ℕ) (above : Position)
    → let at : Position = below above new.place new.offset in level_left (suc levels) above s old ≡ record { position = at; own = p.0 } ∷ (level_left levels at s p.1 ++ level_left (suc levels) above s new)
