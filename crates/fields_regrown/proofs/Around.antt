-- The theorems around the one that written fields come back, proved.
use Rattle.std.proofs.Common.{ℕ, ◌≤◌, ◌≡◌, refl, ap, ◌∙◌, List, [], length, arith, Bor, Ok, None}
use Rattle.refusal.specs.Refusal.{limit}
use Rattle.walk.specs.Theorems.{cursor_of}
use Rattle.writing.specs.Layout.{lengths_bytes, strings_bytes, attributes_bytes, entry_bytes}
use Rattle.writing.specs.Checks.{strings_checked, entry_checked}
use Rattle.writing.proofs.Done.{done_by}
use Rattle.regrown.specs.Regrown.{grown, Grown, entry_of}
use Rattle.regrown.specs.Tells.{tells}
use Rattle.regrown.proofs.ShutsOut.{shuts_out}
use Rattle.attribute.specs.Attribute.{listed}
use Rattle.attribute.specs.Told as attributes
use Rattle.attribute.specs.Named.{named_told}
use Rattle.attribute.proofs.Named.{named_tells}
use Rattle.field.specs.declared.AdsFieldInfo.{AdsFieldInfo}
use Rattle.field.specs.declared.writer.NewField.{NewField}
use Rattle.field.specs.Told as field
use Rattle.field.specs.Told.{told_of, meant, IsTyped, Agrees}
use Rattle.field.specs.Writing.{numbers_bytes, header_bytes, guid_bytes, mask_bytes, sections_bytes, field_bytes, attributes_checked, field_checked, field_written}
use Rattle.field.proofs.Accepted.{accepted_is}
use Rattle.fields_regrown.specs.Kind.{IsFit, reads_back}
use Rattle.fields_regrown.specs.Theorems.{FieldsShutOut, WrittenFieldsFit, FieldsByName}

-- every number 0, no flag set, no name
abbrev nothing : Bor (List ℕ)
nothing = record { ref_ptr = (0, 0); now = [] }

abbrev smallest : NewField
smallest =
    record {
      version = 0;
      hash_value = 0;
      type_hash_value = 0;
      size = 0;
      offset = 0;
      type_id = 0;
      flags = record { 0 = 0 };
      name = nothing;
      type_name = nothing;
      comment = nothing;
      guid = None;
      attributes = record { bytes = nothing; count = 0 };
    }

typed : IsTyped smallest
typed = record { version = omega arith; hash_value = omega arith; type_hash_value = omega arith; size = omega arith; offset = omega arith; type_id = omega arith; flags = omega arith; guid = tt }

agrees : Agrees smallest
agrees = record { no_methods = refl; guid_agrees = refl; no_block = λ _. refl; no_count = λ _. refl }

accepted : field_written smallest ≡ Ok (field_bytes smallest)
unfolding field_written field_checked attributes_checked strings_checked entry_checked field_bytes entry_bytes header_bytes numbers_bytes lengths_bytes strings_bytes sections_bytes guid_bytes mask_bytes attributes_bytes
accepted = refl

pub fit : Grown IsFit
fit = record { parts = smallest; extra = []; fit = record { typed = typed; accepted = accepted; agrees = agrees } }

pub small : length (entry_of IsFit field_bytes fit) ≤ limit
unfolding fit grown field_bytes entry_bytes header_bytes numbers_bytes lengths_bytes strings_bytes sections_bytes guid_bytes mask_bytes attributes_bytes
small = omega arith

pub shut : FieldsShutOut
shut = shuts_out IsFit field_bytes meant cursor_of (tells (λ (r : AdsFieldInfo). r.length) told_of) fit small

pub reached : WrittenFieldsFit
reached p old new count t m g b w =
    let d = done_by (field_written p) old new count w in
    let i = (accepted_is p d.bytes d.given).1 in
    record { fit = record { typed = t; accepted = d.given ∙ ap Ok i; agrees = record { no_methods = m; guid_agrees = g; no_block = λ f. (b f).0; no_count = λ f. (b f).1 } }; bytes = d.first ∙ i }

pub by_name : FieldsByName
by_name mode p extra name e f is h =
    let b = reads_back mode p extra e f is h in
    let same : attributes.told (listed b.back.attributes.bytes b.back.attributes.count) ≡ attributes.told (listed p.attributes.bytes p.attributes.count) = ap (λ (t : field.Told). t.attributes) b.tells in
    record { back = b.back; is = b.is; tells = named_tells (listed b.back.attributes.bytes b.back.attributes.count) name ∙ ap (λ all. named_told all name) same }
