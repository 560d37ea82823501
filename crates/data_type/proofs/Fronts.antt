-- What stands where in the bytes of an entry, and what the reader makes of it: proved.
use Rattle.std.proofs.Common.{ℕ, ◌+◌, ◌*◌, ◌≤◌, ◌≡◌, refl, sym, ap, ap₂, ◌∙◌, Bool, true, false, List, length, arith, Bor}
use native.Mathlib.Nat.{add-zero}
use Rattle.std.specs.Prelude.{Result, Ok, Err, ltb, if◌then◌else◌}
use borrow.Author.Tests.{le-ltb, lt-ltb, ltb-false}
use Rattle.part.specs.Slice.{part, after}
use Rattle.part.specs.Outcome.{and_then}
use Rattle.refusal.specs.EndBytes.{ended}
use Rattle.refusal.proofs.EndsMeant.{zero_passes, passed_zero}
use Rattle.refusal.specs.declared.Mode.{Mode}
use Rattle.refusal.specs.declared.Mode.TheVariants.{Present, Checked}
use Rattle.refusal.specs.declared.Refusal.{Refusal}
use Rattle.field.specs.declared.front.Front.{Front}
use Rattle.field.specs.declared.tail.Tail.{Tail}
use Rattle.field.specs.Front.{with_strings, front_of}
use Rattle.field.specs.Field.{joined}
use Rattle.data_type.specs.DataType.{sub_items_of}
use Rattle.data_type.specs.declared.members.Position.{Position}
use Rattle.data_type.specs.Members.{below}
use Rattle.field.specs.Modes.{strings_end, string_bytes}
use Rattle.data_type.specs.Layout.{HasStrings, front, record_of}
use Rattle.data_type.specs.Stand.{under}
use Rattle.part.proofs.Slice.{after_after}
use Rattle.data_type.proofs.Parts.{bor}

pub front_there : (mode : Mode) (e : Bor (List ℕ)) → HasStrings mode e → front_of mode e ≡ Ok (front e)
unfolding front_of
front_there Present e h = simp (le-ltb (length e.now) 42 (omega (arith, h.room)), le-ltb (length e.now) (strings_end e.now) h.room)
front_there Checked e h = simp (le-ltb (length e.now) 42 (omega (arith, h.room)), le-ltb (length e.now) (strings_end e.now) h.room, zero_passes (string_bytes e.now) (h.ended refl))

-- what a front passed
record Passed (fits : Bool) (test : Result Unit Refusal) (f g : Front) : Type 0 where
  room : fits ≡ false
  ended : test ≡ Ok tt
  is : f ≡ g

passed : (b c : Bool) (x y : Refusal) (test : Result Unit Refusal) (f g : Front) → (if b then Err x else if c then Err y else and_then test (λ _. Ok f)) ≡ Ok g → Passed c test f g
passed true c x y test f g h = cc
passed false true x y test f g h = cc
passed false false x y (Ok u) f g h = record { room = refl; ended = refl; is = cc h }
passed false false x y (Err why) f g h = cc

pub front_was : (mode : Mode) (e : Bor (List ℕ)) (f : Front) → front_of mode e ≡ Ok f → HasStrings mode e × (front e ≡ f)
unfolding front_of
front_was Present e f h =
    let p = passed (ltb (length e.now) 42) (ltb (length e.now) (strings_end e.now)) _ _ (Ok tt) (front e) f h in
    (record { room = ltb-false (length e.now) (strings_end e.now) p.room; ended = λ z. cc }, p.is)
front_was Checked e f h =
    let p = passed (ltb (length e.now) 42) (ltb (length e.now) (strings_end e.now)) _ _ (ended (string_bytes e.now)) (front e) f h in
    (record { room = ltb-false (length e.now) (strings_end e.now) p.room; ended = λ z. passed_zero (string_bytes e.now) p.ended }, p.is)

part_after : (e : Bor (List ℕ)) (a n : ℕ) → part (after e a) 0 n ≡ part e a n
part_after e a n = bor _ _ _ _ (ap (λ (x : ℕ). (e.ref_ptr.0, x)) (add-zero (e.ref_ptr.1 + a))) refl

-- the record of an entry
pub record_is : (e : Bor (List ℕ)) (f : Front) (t : Tail) (n : ℕ) → front e ≡ f
    → record { field = joined f t; arrays = record { bytes = part f.rest 0 (8 * f.array_count); count = f.array_count }; sub_items = sub_items_of f (after f.rest (8 * f.array_count)); member_count = n } ≡ record_of e t n
unfolding with_strings
record_is e f t n h =
    ap (λ (f : Front). record { field = joined f t; arrays = record { bytes = part f.rest 0 (8 * f.array_count); count = f.array_count }; sub_items = sub_items_of f (after f.rest (8 * f.array_count)); member_count = n }) (sym h)
    ∙ ap₂ (λ (x y : Bor (List ℕ)). record { field = joined (front e) t; arrays = record { bytes = x; count = (front e).array_count }; sub_items = sub_items_of (front e) y; member_count = n })
    (part_after e (strings_end e.now) (8 * (front e).array_count)) (after_after e (strings_end e.now) (8 * (front e).array_count))

pub below_is : (p : Position) (place offset : ℕ) → p.depth + 1 ≤ 16 → below p place offset ≡ under p place offset
unfolding below
below_is p place offset h = simp (lt-ltb p.depth 16 (omega arith))
