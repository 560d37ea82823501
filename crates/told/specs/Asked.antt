-- docs/FORMAT.md, "Data type entries": what can be asked of the data type at the start of some bytes: an array record and a member by number, counted from 0. The reading refusals, then 14.
use Rattle.std.specs.Prelude.{ℕ, List, Result, Ok}
use Rattle.std.specs.Borrow.{Bor}
use Rattle.part.specs.Outcome.{and_then}
use Rattle.refusal.specs.declared.Mode.{Mode}
use Rattle.refusal.specs.declared.Refusal.{Refusal}
use Rattle.walk.specs.Step.{parse_of}
use Rattle.data_type.specs.declared.array.AdsArrayInfo.{AdsArrayInfo}
use Rattle.data_type.specs.Array as array
use Rattle.data_type.specs.Members as members
use Rattle.data_type.specs.DataType.{type_of}
use Rattle.told.specs.declared.types.ReadMember.{ReadMember}

abbrev pub type_array : Mode → Bor (List ℕ) → ℕ → Result AdsArrayInfo Refusal
type_array mode s number = and_then (parse_of 42 (type_of mode) s) (λ r. array.numbered r.arrays number)

-- a member is told with what its own bytes are read as
abbrev pub type_member : Mode → Bor (List ℕ) → ℕ → Result ReadMember Refusal
type_member mode s number =
    and_then (parse_of 42 (type_of mode) s) (λ r.
    and_then (members.numbered r number) (λ m.
    and_then (type_of mode m.own) (λ r. Ok (record { position = m.position; data_type = r }))))
