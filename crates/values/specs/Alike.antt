-- docs/FORMAT.md, "The command's text", of `compare`: where two uploads tell the same of a part.
use Rattle.std.specs.Prelude.{ℕ, ◌==◌, ◌&&◌, Bool, true, false, List, nat_eq}
use Rattle.std.specs.Cmp.Lexicographic.{pointwise}
use Rattle.refusal.specs.Refusal.{figures_of}
use Rattle.refusal.specs.declared.Refusal.{Refusal}
use Rattle.values.specs.declared.Value.{Value}
use Rattle.values.specs.declared.Value.TheVariants as told

abbrev pub same_bytes : List ℕ → List ℕ → Bool
same_bytes s t = pointwise nat_eq s t

-- of one number, with the same figures
abbrev pub are_refused_alike : Refusal → Refusal → Bool
are_refused_alike why other =
    (figures_of why).number == (figures_of other).number && (figures_of why).expected == (figures_of other).expected && (figures_of why).got == (figures_of other).got

-- of one kind, and alike in its numbers and strings
unfoldable pub tells_the_same : Value → Value → Bool
tells_the_same told.Absent told.Absent = true
tells_the_same (told.Bytes m) (told.Bytes n) = m == n
tells_the_same (told.Number m) (told.Number n) = m == n
tells_the_same (told.Hexadecimal m) (told.Hexadecimal n) = m == n
tells_the_same (told.High m) (told.High n) = m == n
tells_the_same (told.Flags f) (told.Flags g) = f.0 == g.0
tells_the_same (told.ExtendedFlags f) (told.ExtendedFlags g) = f.0 == g.0
tells_the_same (told.Text s) (told.Text t) = same_bytes s.now t.now
tells_the_same (told.Guid s) (told.Guid t) = same_bytes s t
tells_the_same (told.Attribute a) (told.Attribute b) = same_bytes a.name.now b.name.now && same_bytes a.value.now b.value.now
tells_the_same (told.FormerName s) (told.FormerName t) = same_bytes s.now t.now
tells_the_same (told.Refused why) (told.Refused other) = are_refused_alike why other
tells_the_same (told.Byte at b) (told.Byte to c) = at == to && b == c
tells_the_same v w = false
