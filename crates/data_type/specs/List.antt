-- docs/FORMAT.md, "Data type entries": all members of a data type in lent slots, three a member.
use Rattle.std.specs.Prelude.{ℕ, List, [], ◌∷◌, ◌++◌, Result}
use Rattle.std.specs.Borrow.{Bor}
use Rattle.refusal.specs.declared.Mode.{Mode}
use Rattle.refusal.specs.declared.Refusal.{Refusal}
use Rattle.walk.specs.Mapped.{map_ok}
use Rattle.walk.specs.Step.{parse_of}
use Rattle.data_type.specs.declared.members.Member.{Member}
use Rattle.data_type.specs.declared.members.Position.{Position}
use Rattle.data_type.specs.DataType.{type_of}
use Rattle.data_type.specs.Members.{place_of, members_of}

-- of a member its place, its depth and its offset from the start
abbrev pub member_slots : Position → List ℕ
member_slots p = place_of p ∷ p.depth ∷ p.offset ∷ []

unfoldable pub slots_of : List Member → List ℕ
slots_of [] = []
slots_of (m ∷ ms) = member_slots m.position ++ slots_of ms

-- what is written of a data type that is read
abbrev pub members_written : Mode → Bor (List ℕ) → Result (List ℕ) Refusal
members_written mode s = map_ok (λ r. slots_of (members_of r)) (parse_of 42 (type_of mode) s)
