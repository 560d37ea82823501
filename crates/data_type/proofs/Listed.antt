-- How many slots the members of a data type that was read take.
use Rattle.std.proofs.Common.{ℕ, ◌*◌, ◌<◌, ◌≡◌, ap, ◌∙◌, List, length, arith, Bor}
use Rattle.std.specs.Prelude.{Ok}
use Rattle.part.specs.Slice.{part}
use Rattle.refusal.specs.Refusal.{limit}
use Rattle.refusal.specs.declared.Mode.{Mode}
use Rattle.walk.specs.Step.{parse_of}
use Rattle.data_type.specs.declared.AdsDataTypeInfo.{AdsDataTypeInfo}
use Rattle.data_type.specs.DataType.{type_of}
use Rattle.data_type.specs.Members.{members_of}
use Rattle.data_type.specs.List.{slots_of}
use Rattle.part.proofs.Slice.{length_part}
use Rattle.data_type.proofs.Parsed.{meets, parsed}
use Rattle.data_type.proofs.Inside.{counted, few}
use Rattle.data_type.proofs.Filling.{length_slots}

module _ (mode : Mode) (s : Bor (List ℕ)) (r : AdsDataTypeInfo) (h : parse_of 42 (type_of mode) s ≡ Ok r) where
  pub three_each : length (slots_of (members_of r)) ≡ 3 * r.member_count
  three_each = let p = parsed (type_of mode) s r h in length_slots (members_of r) ∙ ap (λ (n : ℕ). 3 * n) (counted mode (part s 0 p.size) r p.entry)

  pub few_members : r.member_count < limit
  few_members =
      let p = parsed (type_of mode) s r h in
      let m = meets s.now p.size p.claims in
      let f = few mode 15 (part s 0 p.size) r p.entry in
      let l = length_part s 0 p.size (omega (arith, m.room)) in
      omega (arith, f, l, m.room, m.small)
