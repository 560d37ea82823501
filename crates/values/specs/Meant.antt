-- docs/FORMAT.md, "The command's text", of `compare`: where two tell the same of a part, by what they tell.
use Rattle.std.specs.Prelude.{ℕ, ◌≡◌, true, List}
use Rattle.std.specs.Borrow.{Bor}
use Rattle.flags.specs.declared.symbol_flags.AdsSymbol2Flags.{AdsSymbol2Flags}
use Rattle.flags.specs.declared.symbol_flags.AdsSymbolFlags.{AdsSymbolFlags}
use Rattle.refusal.specs.declared.Refusal.{Refusal}
use Rattle.attribute.specs.declared.AdsAttribute.{AdsAttribute}
use Rattle.values.specs.declared.Value.{Value}
use Rattle.values.specs.declared.Value.TheVariants as told
use Rattle.values.specs.Alike.{tells_the_same}

-- the same number, the same bytes wherever they lie, the same refusal
pub data TellTheSame : Value → Value → Type 0 where
  absent : TellTheSame told.Absent told.Absent
  bytes : (n : ℕ) → TellTheSame (told.Bytes n) (told.Bytes n)
  number : (n : ℕ) → TellTheSame (told.Number n) (told.Number n)
  hexadecimal : (n : ℕ) → TellTheSame (told.Hexadecimal n) (told.Hexadecimal n)
  high : (n : ℕ) → TellTheSame (told.High n) (told.High n)
  flags : (f : AdsSymbolFlags) → TellTheSame (told.Flags f) (told.Flags f)
  extended_flags : (f : AdsSymbol2Flags) → TellTheSame (told.ExtendedFlags f) (told.ExtendedFlags f)
  text : (s t : Bor (List ℕ)) → s.now ≡ t.now → TellTheSame (told.Text s) (told.Text t)
  guid : (id : List ℕ) → TellTheSame (told.Guid id) (told.Guid id)
  attribute : (a b : AdsAttribute) → a.name.now ≡ b.name.now → a.value.now ≡ b.value.now → TellTheSame (told.Attribute a) (told.Attribute b)
  former_name : (s t : Bor (List ℕ)) → s.now ≡ t.now → TellTheSame (told.FormerName s) (told.FormerName t)
  refused : (why : Refusal) → TellTheSame (told.Refused why) (told.Refused why)
  byte : (at b : ℕ) → TellTheSame (told.Byte at b) (told.Byte at b)

pub record SameMeant : Type 0 where
  pub told_alike : (v w : Value) → tells_the_same v w ≡ true → TellTheSame v w
  pub alike : (v w : Value) → TellTheSame v w → tells_the_same v w ≡ true
