-- docs/FORMAT.md, "Fit records": fields that are written, read as data types, as a kind of entry that comes back.
use Rattle.std.proofs.Common.{ℕ, ◌+◌, ◌<◌, ◌≤◌, ◌≡◌, refl, ap, ◌∙◌, List, [], map, ◌++◌, length, arith, Bor}
use Rattle.le.specs.Le.{le2}
use Rattle.refusal.specs.Refusal.{limit}
use Rattle.refusal.specs.declared.Mode.{Mode}
use Rattle.walk.specs.Mapped.{map_ok}
use Rattle.writing.specs.Layout.{entry_bytes}
use Rattle.writing.proofs.Entry.{length_entry}
use Rattle.regrown.specs.Regrown.{grown}
use Rattle.regrown.specs.Tells.{ReadsBack}
use Rattle.field.specs.declared.AdsFieldInfo.{AdsFieldInfo}
use Rattle.field.specs.declared.writer.NewField.{NewField}
use Rattle.field.specs.Told as field
use Rattle.field.specs.Writing.{field_bytes}
use Rattle.field.proofs.Accepted.{accepted_is}
use Rattle.field.proofs.Header as header
use Rattle.field.proofs.Header.{body_of}
use Rattle.fields_regrown.specs.Kind as fields
use Rattle.fields_regrown.specs.Kind.{IsFit, grown_field}
use Rattle.data_type.specs.DataType.{type_of}
use Rattle.data_type.specs.Members.{members_of}
use Rattle.data_type.specs.Array.{listed}
use Rattle.data_type.proofs.Steps.{none_left}
use Rattle.data_type.specs.Told.{told_member, told_of}
use Rattle.types_regrown.specs.Told.{meant}
use Rattle.types_regrown.specs.Plain.{plain, plain_at}

-- what is told of a record with no array record and no sub-item
told_plain : (e : Bor (List ℕ)) (r : AdsFieldInfo) (p : NewField) (extra : List ℕ) → field.told_of r ≡ field.meant p extra → told_of (plain e r) ≡ meant p extra
unfolding listed
told_plain e r p extra h =
    let m : members_of (plain e r) ≡ [] = none_left _ _ _ 15 0 refl in
    ap (λ (x : field.Told). record { field = x; arrays = []; count = 0; members = map told_member (members_of (plain e r)) }) h ∙ ap (λ ms. record { field = field.meant p extra; arrays = []; count = 0; members = map told_member ms }) m

pub reads_back : (mode : Mode) (p : NewField) (extra : List ℕ) (e : Bor (List ℕ)) → IsFit p → e.now ≡ grown (field_bytes p) extra → length e.now ≤ limit → ReadsBack (type_of mode) told_of e (meant p extra)
reads_back mode p extra e f h small =
    let b = fields.reads_back mode p extra e f h small in
    let is : e.now ≡ entry_bytes (body_of p ++ extra) = h ∙ grown_field p extra in
    let fits : length (body_of p ++ extra) + 4 < 4294967296 = omega (arith, ap length is, length_entry (body_of p ++ extra)) in
    let a = (accepted_is p (field_bytes p) f.accepted).0 in
    let x : le2 e.now 38 ≡ 0 = rw is (header.array_count p f.typed a.short extra fits) in
    let y : le2 e.now 40 ≡ 0 = rw is (header.sub_item_count p f.typed a.short extra fits) in
    record { back = plain e b.back; is = plain_at mode 15 e x y ∙ ap (map_ok (plain e)) b.is; tells = told_plain e b.back p extra b.tells }
