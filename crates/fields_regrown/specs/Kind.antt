-- docs/FORMAT.md, "Fit records": fields that are written, as a kind of entry that comes back.
use Rattle.std.proofs.Common.{ℕ, ◌+◌, ◌<◌, ◌≤◌, ◌≡◌, ap, ◌∙◌, List, ◌++◌, length, arith, Bor}
use Rattle.std.specs.Prelude.{Ok}
use Rattle.refusal.specs.Refusal.{limit}
use Rattle.refusal.specs.declared.Mode.{Mode}
use Rattle.writing.specs.Layout.{entry_bytes}
use Rattle.writing.proofs.Entry.{length_entry}
use Rattle.regrown.specs.Regrown.{grown}
use Rattle.regrown.proofs.Grown.{grown_entry}
use Rattle.regrown.specs.Tells.{ReadsBack}
use Rattle.field.specs.declared.writer.NewField.{NewField}
use Rattle.field.specs.Field.{field_of}
use Rattle.field.specs.Writing.{field_bytes, field_written}
use Rattle.field.specs.Told.{told_of, meant, IsTyped, Agrees}
use Rattle.field.proofs.Accepted.{accepted_is}
use Rattle.field.proofs.Header.{body_of}
use Rattle.field.proofs.Back as back

-- every field that the field writer accepts and that agrees with its flags
pub record IsFit (p : NewField) : Type 0 where
  pub typed : IsTyped p
  pub accepted : field_written p ≡ Ok (field_bytes p)
  pub agrees : Agrees p

-- the bytes that are written, grown, are an entry with the bytes added
pub grown_field : (p : NewField) (extra : List ℕ) → grown (field_bytes p) extra ≡ entry_bytes (body_of p ++ extra)
unfolding field_bytes
grown_field p extra = grown_entry (body_of p) extra

pub reads_back : (mode : Mode) (p : NewField) (extra : List ℕ) (e : Bor (List ℕ)) → IsFit p → e.now ≡ grown (field_bytes p) extra → length e.now ≤ limit → ReadsBack (field_of mode) told_of e (meant p extra)
reads_back mode p extra e f h small =
    let is : e.now ≡ entry_bytes (body_of p ++ extra) = h ∙ grown_field p extra in
    let fits : length (body_of p ++ extra) + 4 < 4294967296 = omega (arith, ap length is, length_entry (body_of p ++ extra)) in
    let a = (accepted_is p (field_bytes p) f.accepted).0 in
    record { back = back.back p f.typed a f.agrees extra fits e is; is = back.read_is p f.typed a f.agrees extra fits e is mode; tells = back.tells p f.typed a f.agrees extra fits e is }
