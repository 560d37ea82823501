-- docs/FORMAT.md, "Walking". An entry with room for the shortest header, before it is read, and what a walk asks of the kind.
use Rattle.std.proofs.Common.{ℕ, ◌<◌, ◌≤◌, ◌≡◌, List, length, arith, Bor}
use Rattle.std.specs.Prelude.{false, ltb, Result, Ok, Err, if◌then◌else◌}
use borrow.Author.Tests.{lt-ltb}
use Rattle.refusal.specs.declared.Mode.{Mode}
use Rattle.refusal.specs.declared.Refusal.{Refusal}
use Rattle.refusal.specs.declared.Refusal.TheVariants.{TooShort}
use Rattle.walk.specs.Zero.{is_zero}
use Rattle.walk.specs.declared.unread.Unread.{Unread}

-- its own bytes, in either mode; 2 for a header that is not there
unfoldable pub unread_of : Mode → Bor (List ℕ) → Result Unread Refusal
unread_of mode e = if ltb (length e.now) 30 then Err (TooShort 30 (length e.now)) else Ok (record { bytes = e })

pub four : 4 < 30
four = omega arith

pub long : (mode : Mode) (e : Bor (List ℕ)) (r : Unread) → unread_of mode e ≡ Ok r → length r.bytes.now ≡ length e.now
unfolding unread_of
long mode e r h = grind arith

pub room : (mode : Mode) (e : Bor (List ℕ)) (r : Unread) → unread_of mode e ≡ Ok r → 30 ≤ length e.now
unfolding unread_of
room mode e r h = grind arith

pub short : (mode : Mode) (e : Bor (List ℕ)) → length e.now < 30 → unread_of mode e ≡ Err (TooShort 30 (length e.now))
unfolding unread_of
short mode e h = simp (lt-ltb (length e.now) 30 h)

pub never_zero : (mode : Mode) (e : Bor (List ℕ)) (why : Refusal) → unread_of mode e ≡ Err why → is_zero why ≡ false
unfolding unread_of
never_zero mode e why h = grind arith
