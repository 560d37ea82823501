-- What the checks of a field to be written come to.
use Rattle.std.proofs.Common.{ℕ, ◌≡◌, List, length, Ok, Err, arith}
use Rattle.refusal.specs.declared.Refusal.{Refusal}
use Rattle.walk.specs.Mapped.{map_ok}
use Rattle.writing.specs.Checks.{entry_checked, room_checked}
use Rattle.field.specs.declared.writer.NewField.{NewField}
use Rattle.field.specs.Writing.{field_bytes, field_checked, field_written}

pub not_written : (n : NewField) (why : Refusal) → field_checked n ≡ Err why → field_written n ≡ Err why
unfolding field_written
not_written n why h = simp h

pub passes : (n : NewField) → field_checked n ≡ Ok tt → field_written n ≡ entry_checked (field_bytes n)
unfolding field_written
passes n h = simp h

-- the length of what is written, whatever buffer is lent
pub too_large : (e : List ℕ) (why : Refusal) → room_checked (length e) (length e) ≡ Err why → map_ok length (entry_checked e) ≡ Err why
unfolding entry_checked room_checked
too_large e why h = grind arith

pub sized : (e : List ℕ) → room_checked (length e) (length e) ≡ Ok tt → map_ok length (entry_checked e) ≡ Ok (length e)
unfolding entry_checked room_checked
sized e h = grind arith
