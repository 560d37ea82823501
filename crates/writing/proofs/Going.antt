-- A buffer that is written in turns of a loop.
use Rattle.std.proofs.Common.{ℕ, ◌+◌, ◌≤◌, ◌≡◌, refl, sym, ap, subst, ◌∙◌, List, [], ◌++◌, length, arith, length-append}
use Rattle.le.specs.Put.{put, Wrote}
use Rattle.le.proofs.Laws.{put_then, put_none}

-- a buffer into which all goes from place 0 on, of which some bytes are still to come
pub record Going (old now : List ℕ) (at : ℕ) (rest all : List ℕ) : Type 0 where
  pub is : put now at rest ≡ put old 0 all
  pub room : at + length rest ≤ length now

pub going : (old all : List ℕ) → length all ≤ length old → Going old old 0 all all
going old all h = record { is = refl; room = omega arith }

pub goes_on : {old now new rest all : List ℕ} {at next : ℕ} (bs : List ℕ) → Going old now at (bs ++ rest) all → Wrote now at bs new next → Going old new next rest all
goes_on {old} {now} {new} {rest} {all} {at} {next} bs g w = record {
  is = ap (λ (x : List ℕ). put x next rest) w.is ∙ put_then now at bs next rest w.end w.room ∙ g.is;
  room = omega (arith, g.room, length-append bs rest, w.end, w.long);
}

pub gone : {old now all : List ℕ} {at : ℕ} → Going old now at [] all → now ≡ put old 0 all
gone {old} {now} {all} {at} g = sym (put_none now at) ∙ g.is

pub going_by : {old now xs ys all : List ℕ} {at : ℕ} → xs ≡ ys → Going old now at xs all → Going old now at ys all
going_by {old} {now} {xs} {ys} {all} {at} e g = subst (λ (x : List ℕ). Going old now at x all) e g
