-- docs/FORMAT.md, "Walking": what a walk asks of a kind of entry, of fields.
use Rattle.std.proofs.Common.{ℕ, ◌<◌, ◌≤◌, ◌≡◌, List, length, arith, Bor}
use Rattle.std.specs.Prelude.{false, Ok, Err}
use borrow.Author.Tests.{lt-ltb}
use Rattle.refusal.specs.declared.Mode.{Mode}
use Rattle.refusal.specs.declared.Refusal.{Refusal}
use Rattle.refusal.specs.declared.Refusal.TheVariants.{TooShort}
use Rattle.walk.specs.Zero.{is_zero}
use Rattle.field.specs.Own.{front_own, tail_own}
use Rattle.field.specs.declared.AdsFieldInfo.{AdsFieldInfo}
use Rattle.field.specs.Front.{with_strings, front_of}
use Rattle.field.specs.Field.{field_of}

pub four : 4 < 42
four = omega arith

pub long : (mode : Mode) (e : Bor (List ℕ)) (r : AdsFieldInfo) → field_of mode e ≡ Ok r → r.length ≡ length e.now
unfolding field_of front_of with_strings
long mode e r h = grind arith

pub room : (mode : Mode) (e : Bor (List ℕ)) (r : AdsFieldInfo) → field_of mode e ≡ Ok r → 42 ≤ length e.now
unfolding field_of front_of
room mode e r h = grind arith

pub short : (mode : Mode) (e : Bor (List ℕ)) → length e.now < 42 → field_of mode e ≡ Err (TooShort 42 (length e.now))
unfolding field_of front_of
short mode e h = simp (lt-ltb (length e.now) 42 h)

pub never_zero : (mode : Mode) (e : Bor (List ℕ)) (why : Refusal) → field_of mode e ≡ Err why → is_zero why ≡ false
unfolding field_of
never_zero mode e why h = grind (arith, front_own, tail_own)
