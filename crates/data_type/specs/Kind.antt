-- docs/FORMAT.md, "Walking": what a walk asks of a kind of entry, of data types.
use Rattle.std.proofs.Common.{ℕ, zero, suc, ◌<◌, ◌≤◌, ◌≡◌, sym, ◌∙◌, ap, List, length, arith, Bor}
use Rattle.std.specs.Prelude.{false, Ok, Err}
use borrow.Author.Tests.{lt-ltb}
use Rattle.refusal.specs.declared.Mode.{Mode}
use Rattle.refusal.specs.declared.Refusal.{Refusal}
use Rattle.refusal.specs.declared.Refusal.TheVariants.{TooShort}
use Rattle.walk.specs.Zero.{is_zero}
use Rattle.field.specs.Front.{front_of}
use Rattle.data_type.specs.declared.AdsDataTypeInfo.{AdsDataTypeInfo}
use Rattle.data_type.specs.DataType.{ItemReader, type_with, type_at, type_of}
use Rattle.data_type.specs.Accepted.{accepted, front_long}
use Rattle.data_type.specs.Own.{type_own}

pub four : 4 < 42
four = omega arith

with_long : (mode : Mode) (item : ItemReader) (e : Bor (List ℕ)) (r : AdsDataTypeInfo) → type_with mode item e ≡ Ok r → r.field.length ≡ length e.now
with_long mode item e r h =
    let a = accepted mode item e r h in
    sym (ap (λ (x : AdsDataTypeInfo). x.field.length) a.is) ∙ front_long mode e a.front a.front_is

pub at_long : (mode : Mode) (left : ℕ) (e : Bor (List ℕ)) (r : AdsDataTypeInfo) → type_at mode left e ≡ Ok r → r.field.length ≡ length e.now
unfolding type_at
at_long mode zero e r h = with_long mode _ e r h
at_long mode (suc left) e r h = with_long mode _ e r h

pub long : (mode : Mode) (e : Bor (List ℕ)) (r : AdsDataTypeInfo) → type_of mode e ≡ Ok r → r.field.length ≡ length e.now
long mode e r h = at_long mode 15 e r h

pub room : (mode : Mode) (e : Bor (List ℕ)) (r : AdsDataTypeInfo) → type_of mode e ≡ Ok r → 42 ≤ length e.now
unfolding type_at type_with front_of
room mode e r h = grind arith

pub short : (mode : Mode) (e : Bor (List ℕ)) → length e.now < 42 → type_of mode e ≡ Err (TooShort 42 (length e.now))
unfolding type_at type_with front_of
short mode e h = simp (lt-ltb (length e.now) 42 h)

pub never_zero : (mode : Mode) (e : Bor (List ℕ)) (why : Refusal) → type_of mode e ≡ Err why → is_zero why ≡ false
never_zero mode e why h = type_own mode 15 e why h
