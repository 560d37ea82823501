-- What a length is answered.
use Rattle.std.proofs.Common.{ℕ, ◌/◌, ◌<◌, ◌≤◌, ◌≡◌}
use Rattle.std.specs.Prelude.{Ok, Err}
use borrow.Author.Tests.{lt-ltb, le-ltb}
use Rattle.refusal.specs.Refusal.{limit}
use Rattle.refusal.specs.declared.Refusal.TheVariants.{TooLarge}
use Rattle.room.specs.Room.{least, room_for}

pub room_large : (n : ℕ) → limit < n → room_for n ≡ Err (TooLarge n)
unfolding room_for
room_large n h = simp (lt-ltb limit n h)

pub room_within : (n : ℕ) → n ≤ limit → room_for n ≡ Ok (n / least)
unfolding room_for
room_within n h = simp (le-ltb limit n h)
