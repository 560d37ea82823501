-- docs/FORMAT.md, "Direct reading" and "Modes": why an entry's own bytes are refused as a field, and by which figures.
use Rattle.std.specs.Prelude.{ℕ, ◌+◌, ◌<◌, ◌≤◌, ◌≡◌, true, List, Some, Err, length}
use Rattle.std.specs.Borrow.{Bor}
use Rattle.le.specs.Le.{le2}
use Rattle.part.specs.Slice.{after}
use Rattle.refusal.specs.EndsMeant.{AllZero, FirstNot}
use Rattle.refusal.specs.declared.Mode.{Mode}
use Rattle.refusal.specs.declared.Mode.TheVariants.{Checked}
use Rattle.refusal.specs.declared.Refusal.{Refusal}
use Rattle.refusal.specs.declared.Refusal.TheVariants.{TooShort, EntryLengthMismatch, EndByte}
use Rattle.field.specs.Front.{HasStrings}
use Rattle.field.specs.Field.{field_of}
use Rattle.field.specs.Laid.{Shows}
use Rattle.field.specs.Placed.{attributes_at, attributes_there}
use Rattle.field.specs.Modes.{end_bytes}

-- the first that holds, in this order: no header, no strings, an end byte that is not 0, an attribute that is refused though bytes are left
pub data IsRefused (mode : Mode) (e : Bor (List ℕ)) : Refusal → Type 0 where
  header : length e.now < 42 → IsRefused mode e (TooShort 42 (length e.now))
  strings : 42 ≤ length e.now → length e.now < 45 + le2 e.now 32 + le2 e.now 34 + le2 e.now 36
      → IsRefused mode e (EntryLengthMismatch (45 + le2 e.now 32 + le2 e.now 34 + le2 e.now 36) (length e.now))
  end_byte : mode ≡ Checked → (b : ℕ × ℕ) → FirstNot (end_bytes e) b → IsRefused mode e (EndByte b.0 b.1)
  attribute : HasStrings e → (mode ≡ Checked → AllZero (end_bytes e)) → attributes_there e.now ≡ true → (n : ℕ) (why : Refusal)
      → Shows (after e (attributes_at e.now + 2)) (le2 e.now (attributes_at e.now)) n (Some why) → IsRefused mode e why

-- these are refused, each so, and no others
pub record IsRefusedSo (mode : Mode) (e : Bor (List ℕ)) (why : Refusal) : Type 0 where
  pub refused : IsRefused mode e why → field_of mode e ≡ Err why
  pub only : field_of mode e ≡ Err why → IsRefused mode e why

abbrev pub FieldsRefused : Type 0
FieldsRefused = (mode : Mode) (e : Bor (List ℕ)) (why : Refusal) → IsRefusedSo mode e why
