-- docs/FORMAT.md, "The command's text" and "Refusals": why a path has no address, in words, and which part of it was refused.
use Rattle.std.specs.Prelude.{ℕ, ◌==◌, ◌||◌, nat_lt, Bool, List, ◌++◌, codes, length, drop, Option, Some, None, is_ok, if◌then◌else◌}
use Rattle.std.specs.List.{list_all, position_or_len}
use Rattle.std.specs.Borrow.{Bor}
use Rattle.part.specs.Slice.{part}
use Rattle.refusal.specs.declared.Refusal.{Refusal}
use Rattle.refusal.specs.declared.Refusal.TheVariants.{NoSuchNumber, BadPath, NoSuchMember, NoSuchType, WrongDimensions, NoOffset, TooManyAliases}
use Rattle.wording.specs.Wording.{grouped, refusal_text}
use Rattle.bind_report.specs.declared.Bound.{Bound}

-- the second figure of 14 is a place here, and not what was asked for
unfoldable pub reason_text : Refusal → List ℕ
reason_text (NoSuchNumber count place) =
    codes "refusal 14, no such number: " ++ (grouped count ++ (codes " elements there, and none is the subscript at byte " ++ (grouped place ++ codes " of the path")))
reason_text why = refusal_text why

-- where in the path the part begins that was refused, if it was one part
abbrev pub place_of : Refusal → Option ℕ
place_of (NoSuchNumber count place) = Some place
place_of (BadPath place) = Some place
place_of (NoSuchMember place) = Some place
place_of (NoSuchType place) = Some place
place_of (WrongDimensions place dimensions) = Some place
place_of (NoOffset place flag) = Some place
place_of (TooManyAliases place) = Some place
place_of _ = None

-- a dot, a bracket or a comma
abbrev pub ends_part : ℕ → Bool
ends_part b = b == 46 || b == 91 || b == 93 || b == 44

-- the part that begins at a place of a path
unfoldable pub part_from : Bor (List ℕ) → ℕ → Option (Bor (List ℕ))
part_from path place = if nat_lt (length path.now) place then None else Some (part path place (position_or_len ends_part (drop place path.now)))

abbrev pub part_at : Bor (List ℕ) → Option ℕ → Option (Bor (List ℕ))
part_at path None = None
part_at path (Some place) = part_from path place

abbrev pub refused_part : Bor (List ℕ) → Refusal → Option (Bor (List ℕ))
refused_part path why = part_at path (place_of why)

-- none was refused
abbrev pub are_all_bound : List Bound → Bool
are_all_bound bs = list_all (λ (b : Bound). is_ok b.answer) bs
