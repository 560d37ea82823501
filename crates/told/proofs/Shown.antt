-- What is told of a member has its places in its length.
use Rattle.std.proofs.Common.{ℕ, ◌≡◌, ap, subst, List, Ok, Bor}
use Rattle.refusal.specs.declared.Mode.{Mode}
use Rattle.walk.specs.Step.{parse_of}
use Rattle.part.proofs.Outcome.{both_passed}
use Rattle.data_type.specs.DataType.{type_of}
use Rattle.data_type.specs.Members.{numbered}
use Rattle.told.specs.declared.types.ReadMember.{ReadMember}
use Rattle.told.specs.Asked.{type_member}
use Rattle.told.specs.Shown.{IsTypeShown, types_shown}

pub member_shown : (mode : Mode) (s : Bor (List ℕ)) (number : ℕ) (m : ReadMember) → type_member mode s number ≡ Ok m → IsTypeShown m.data_type
member_shown mode s number m h =
    let r = both_passed (parse_of 42 (type_of mode) s) h in
    let x = both_passed (numbered r.0 _) r.1.1 in
    let t = both_passed (type_of mode x.0.own) x.1.1 in
    let is : record { position = x.0.position; data_type = t.0 } ≡ m = cc t.1.1 in
    subst IsTypeShown (ap (λ (q : ReadMember). q.data_type) is) (types_shown mode x.0.own t.0 t.1.0)
