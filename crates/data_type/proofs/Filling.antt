-- Slots that are being filled with members.
use Rattle.std.proofs.Common.{ℕ, ◌+◌, ◌*◌, ◌≤◌, ◌≡◌, refl, sym, ap, ◌∙◌, List, [], ◌∷◌, ◌++◌, length, arith, length-append}
use Rattle.le.specs.Put.{put, Wrote}
use Rattle.le.proofs.Laws.{put_then, put_none, wrote}
use Rattle.data_type.specs.declared.members.Member.{Member}
use Rattle.data_type.specs.List.{slots_of}

pub length_slots : (ms : List Member) → length (slots_of ms) ≡ 3 * length ms
unfolding slots_of
length_slots [] = refl
length_slots (m ∷ ms) = let l = length_slots ms in omega arith

-- slots that are left go from a place on
pub record Going (old now : List ℕ) (from at : ℕ) (left all : List ℕ) : Type 0 where
  pub is : put now at left ≡ put old from all
  pub end : at + length left ≡ from + length all
  pub room : from + length all ≤ length old
  pub long : length now ≡ length old

pub going : (old : List ℕ) (from : ℕ) (all : List ℕ) → from + length all ≤ length old → Going old old from from all all
going old from all h = record { is = refl; end = refl; room = h; long = refl }

pub goes_on : {old now new : List ℕ} {from at next : ℕ} {left all xs rest : List ℕ} → left ≡ xs ++ rest → Going old now from at left all → Wrote now at xs new next → Going old new from next rest all
goes_on {old} {now} {new} {from} {at} {next} {left} {all} {xs} {rest} e g w =
    let l : length left ≡ length xs + length rest = ap length e ∙ length-append xs rest in
    record {
      is = ap (λ (x : List ℕ). put x next rest) w.is ∙ put_then now at xs next rest w.end w.room ∙ ap (put now at) (sym e) ∙ g.is;
      end = omega (arith, g.end, w.end);
      room = g.room;
      long = w.long ∙ g.long;
    }

pub gone : {old now : List ℕ} {from at : ℕ} {left all : List ℕ} → left ≡ [] → Going old now from at left all → Wrote old from all now at
gone {old} {now} {from} {at} {left} {all} e g =
    let z : length left ≡ 0 = ap length e in
    wrote (sym (put_none now at) ∙ ap (put now at) (sym e) ∙ g.is) (omega (arith, g.end)) g.room

module _ {old now : List ℕ} {from at : ℕ} {left all : List ℕ} (xs rest : List ℕ) (e : left ≡ xs ++ rest) (g : Going old now from at left all) where
  pub room_for : at + length xs ≤ length now
  room_for = let l : length left ≡ length xs + length rest = ap length e ∙ length-append xs rest in omega (arith, g.end, g.room, g.long)
