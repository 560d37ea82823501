-- docs/FORMAT.md, "Data type entries": what an iterator over members has still to give.
use Rattle.std.specs.Prelude.{ℕ, ◌-◌, List, [], ◌∷◌, ◌++◌, take}
use Rattle.std.specs.Borrow.{Bor}
use Rattle.data_type.specs.declared.level.Level.{Level}
use Rattle.data_type.specs.declared.members.Member.{Member}
use Rattle.data_type.specs.declared.members.Members.{Members}
use Rattle.data_type.specs.declared.members.Position.{Position}
use Rattle.data_type.specs.Members.{root, below}
use Rattle.data_type.specs.Level.{level_left}

-- down from a position, by the sub-item of each level that was given last
unfoldable pub standing : Position → List Level → Position
standing above [] = above
standing above (l ∷ ls) = standing (below above l.place l.offset) ls

-- of levels one inside another, the outermost first, of an entry at a position and with so many levels below it: the innermost gives first
unfoldable pub stack_left : ℕ → Position → Bor (List ℕ) → List Level → List Member
stack_left n above s [] = []
stack_left n above s (l ∷ ls) = stack_left (n - 1) (below above l.place l.offset) s ls ++ level_left n above s l

abbrev pub members_left : Members → List Member
members_left m = stack_left 15 root m.bytes (take m.used m.levels)
