-- What the field writer has checked of a field that it accepts.
use Rattle.std.proofs.Common.{ℕ, ◌≤◌, ◌≡◌, true, List, length, Ok}
use Rattle.refusal.specs.Refusal.{limit}
use Rattle.attribute.specs.Block.{block_checked}
use Rattle.writing.specs.Checks.{IsShort}
use Rattle.part.proofs.Outcome.{both_passed}
use Rattle.writing.proofs.Entry.{strings_passed, count_passed, entry_passed}
use Rattle.field.specs.declared.writer.NewField.{NewField}
use Rattle.field.specs.Tail.{attributes_flag}
use Rattle.field.specs.Writing.{flagged, attributes_checked, field_bytes, field_checked, field_written}

pub record Accepted (p : NewField) : Type 0 where
  pub short : IsShort p.name.now p.type_name.now p.comment.now
  pub count : flagged p attributes_flag ≡ true → p.attributes.count ≤ 65535
  pub block : flagged p attributes_flag ≡ true → block_checked p.attributes.count p.attributes.bytes ≡ Ok tt
  pub small : length (field_bytes p) ≤ limit

pub attributes_passed : (p : NewField) → attributes_checked p ≡ Ok tt → flagged p attributes_flag ≡ true → (p.attributes.count ≤ 65535) × (block_checked p.attributes.count p.attributes.bytes ≡ Ok tt)
unfolding attributes_checked
attributes_passed p h f = let w = both_passed _ (simp f at h) in (count_passed _ w.1.0, w.1.1)

pub accepted_is : (p : NewField) (bs : List ℕ) → field_written p ≡ Ok bs → Accepted p × (bs ≡ field_bytes p)
unfolding field_written field_checked
accepted_is p bs h =
    let w = both_passed _ h in
    let a = both_passed _ w.1.0 in
    let s = entry_passed _ bs w.1.1 in (
      record {
        short = strings_passed _ _ _ a.1.0;
        count = λ f. (attributes_passed p a.1.1 f).0;
        block = λ f. (attributes_passed p a.1.1 f).1;
        small = s.0;
      },
      s.1,
    )
