-- Numbers of an entry that was read, in bytes that hold it; its array records.
use Rattle.std.proofs.Common.{ℕ, zero, suc, ◌+◌, ◌-◌, ◌*◌, ◌<◌, ◌≤◌, ◌≡◌, refl, sym, ap, ap₂, ◌∙◌, List, length, take, drop, arith, Bor, length-drop, get_or-drop}
use native.Mathlib.Nat.{add_assoc}
use Rattle.std.specs.Prelude.{Some, None, Ok, Err, slice_get}
use borrow.Author.Tests.{le-ltb}
use Rattle.le.specs.Le.{le2, le4}
use Rattle.le.proofs.Laws.{get_d_part, le2_part as le2_of}
use Rattle.part.specs.Slice.{part, after}
use Rattle.refusal.specs.declared.Mode.{Mode}
use Rattle.refusal.specs.declared.Refusal.TheVariants.{NoSuchNumber}
use Rattle.field.specs.declared.front.Front.{Front}
use Rattle.field.specs.Front.{with_strings, front_of}
use Rattle.data_type.specs.declared.AdsDataTypeInfo.{AdsDataTypeInfo}
use Rattle.data_type.specs.declared.array.ArrayInfos.{ArrayInfos}
use Rattle.data_type.specs.Array.{listed}
use Rattle.data_type.specs.DataType.{arrays_of, type_of}
use Rattle.field.specs.Modes.{strings_end}
use Rattle.data_type.specs.Theorems.{array_at, IsArrays, ArraysMeant}
use Rattle.data_type.proofs.Arrays.{length_all}
use Rattle.part.proofs.Slice.{length_part}
use Rattle.data_type.proofs.Parsed.{meets, parsed}
use Rattle.data_type.proofs.Inside.{accepted_at}

pub le4_part : (s : List ℕ) (at n k : ℕ) → k + 4 ≤ n → le4 (take n (drop at s)) k ≡ le4 s (at + k)
unfolding le4 Rattle.le.specs.Le.part
le4_part s at n k h = simp (get_d_part s at n k 0 (omega arith), get_d_part s at n (k + 1) 0 (omega arith), get_d_part s at n (k + 2) 0 (omega arith), get_d_part s at n (k + 3) 0 (omega arith), add_assoc)

pub le2_part : (s : List ℕ) (at n k : ℕ) → k + 2 ≤ n → le2 (take n (drop at s)) k ≡ le2 s (at + k)
unfolding Rattle.le.specs.Le.part
le2_part s at n k h = le2_of s at n k h

pub le4_drop : (s : List ℕ) (at k : ℕ) → le4 (drop at s) k ≡ le4 s (at + k)
unfolding le4
le4_drop s at k = simp (get_or-drop at s k 0, get_or-drop at s (k + 1) 0, get_or-drop at s (k + 2) 0, get_or-drop at s (k + 3) 0, add_assoc)

-- what a front tells stands in the header
pub record Heads (e : Bor (List ℕ)) (f : Front) : Type 0 where
  pub room : strings_end e.now ≤ length e.now
  pub rest : f.rest ≡ after e (strings_end e.now)
  pub offset : f.offset ≡ le4 e.now 20
  pub arrays : f.array_count ≡ le2 e.now 38
  pub items : f.sub_item_count ≡ le2 e.now 40

pub heads : (mode : Mode) (e : Bor (List ℕ)) (f : Front) → front_of mode e ≡ Ok f → Heads e f
unfolding front_of with_strings
heads mode e f h = record { room = grind arith; rest = grind arith; offset = grind arith; arrays = grind arith; items = grind arith }

listed_get : (n k : ℕ) (s : Bor (List ℕ)) → k < n → 8 * n ≤ length s.now → slice_get (listed s n) k ≡ Some (array_at s.now (8 * k))
unfolding listed
listed_get zero k s h l = absurd (omega arith)
listed_get (suc n) zero s h l = simp (le-ltb (length s.now) 8 (omega arith))
listed_get (suc n) (suc k) s h l =
    let d : length (drop 8 s.now) ≡ length s.now - 8 = length-drop 8 s.now in
    let a : 8 + 8 * k ≡ 8 * suc k = omega arith in
    let b : 8 + (8 * k + 4) ≡ 8 * suc k + 4 = omega arith in
    simp (le-ltb (length s.now) 8 (omega arith)) (listed_get n k (after s 8) (omega arith) (omega arith) ∙ ap₂ (λ (x y : ℕ). Some (record { lower_bound = x; elements = y })) (le4_drop s.now 8 (8 * k) ∙ ap (le4 s.now) a) (le4_drop s.now 8 (8 * k + 4) ∙ ap (le4 s.now) b))

listed_past : (n k : ℕ) (s : Bor (List ℕ)) → n ≤ k → 8 * n ≤ length s.now → slice_get (listed s n) k ≡ None
unfolding listed
listed_past zero k s h l = refl
listed_past (suc n) zero s h l = absurd (omega arith)
listed_past (suc n) (suc k) s h l = let d : length (drop 8 s.now) ≡ length s.now - 8 = length-drop 8 s.now in simp (le-ltb (length s.now) 8 (omega arith)) (listed_past n k (after s 8) (omega arith) (omega arith))

pub record Fills (f : Front) (a : ArrayInfos × Bor (List ℕ)) : Type 0 where
  pub room : 8 * f.array_count ≤ length f.rest.now
  pub arrays : a.0 ≡ record { bytes = part f.rest 0 (8 * f.array_count); count = f.array_count }
  pub first : a.1 ≡ after f.rest (8 * f.array_count)

pub fills : (f : Front) (a : ArrayInfos × Bor (List ℕ)) → arrays_of f ≡ Ok a → Fills f a
unfolding arrays_of
fills f a h = record { room = grind arith; arrays = grind arith; first = grind arith }

-- an entry's own bytes, at the start of some bytes
module _ (mode : Mode) (s : Bor (List ℕ)) (size : ℕ) (f : Front) (within : size ≤ length s.now) (least : 42 ≤ size) (h : front_of mode (part s 0 size) ≡ Ok f) (room : 8 * f.array_count ≤ length f.rest.now) where
  abbrev e : Bor (List ℕ)
  e = part s 0 size

  same_end : strings_end e.now ≡ strings_end s.now
  same_end = simp (le2_part s.now 0 size 32 (omega arith), le2_part s.now 0 size 34 (omega arith), le2_part s.now 0 size 36 (omega arith))

  number_at : (j : ℕ) → j + 4 ≤ 8 * f.array_count → le4 (part f.rest 0 (8 * f.array_count)).now j ≡ le4 s.now (strings_end s.now + j)
  number_at j k =
      let d = heads mode e f h in
      let r : f.rest.now ≡ drop (strings_end e.now) e.now = ap (λ (x : Bor (List ℕ)). x.now) d.rest in
      let l : length f.rest.now ≡ length e.now - strings_end e.now = ap length r ∙ length-drop (strings_end e.now) e.now in
      let n : length e.now ≡ size = length_part s 0 size (omega arith) in
      let x = d.room in
      let z : 0 + (strings_end e.now + (0 + j)) ≡ strings_end s.now + j = omega (arith, same_end) in
      le4_part f.rest.now 0 (8 * f.array_count) j k ∙ ap (λ (xs : List ℕ). le4 xs (0 + j)) r ∙ le4_drop e.now (strings_end e.now) (0 + j) ∙ le4_part s.now 0 size (strings_end e.now + (0 + j)) (omega arith) ∙ ap (le4 s.now) z

  arrays_by : (a : ArrayInfos) → a ≡ record { bytes = part f.rest 0 (8 * f.array_count); count = f.array_count } → (r : AdsDataTypeInfo) → r.arrays ≡ a → IsArrays s.now r
  arrays_by a is r p =
      let d = heads mode e f h in
      let c : f.array_count ≡ le2 s.now 38 = d.arrays ∙ le2_part s.now 0 size 38 (omega arith) in
      let w : r.arrays ≡ record { bytes = part f.rest 0 (8 * f.array_count); count = f.array_count } = p ∙ is in
      let l : length (part f.rest 0 (8 * f.array_count)).now ≡ 8 * f.array_count = length_part f.rest 0 (8 * f.array_count) (omega arith) in
      record {
        told = λ k x.
            let o : 8 * k + 4 + 4 ≤ 8 * f.array_count = omega (arith, c) in
            let m : strings_end s.now + (8 * k + 4) ≡ strings_end s.now + 8 * k + 4 = omega arith in
            simp (w, listed_get f.array_count k (part f.rest 0 (8 * f.array_count)) (omega (arith, c)) (omega arith))
            (ap₂ (λ (i j : ℕ). Ok (record { lower_bound = i; elements = j })) (number_at (8 * k) (omega arith)) (number_at (8 * k + 4) o ∙ ap (le4 s.now) m));
        past = λ k x. simp (w, listed_past f.array_count k (part f.rest 0 (8 * f.array_count)) (omega (arith, c)) (omega arith)) (ap (λ (i : ℕ). Err (NoSuchNumber i k)) (length_all f.array_count (part f.rest 0 (8 * f.array_count)) (omega arith) ∙ c));
      }

pub arrays_meant : ArraysMeant
arrays_meant mode s r h =
    let p = parsed (type_of mode) s r h in
    let m = meets s.now p.size p.claims in
    let a = accepted_at mode 15 (part s 0 p.size) r p.entry in
    let b = fills a.front (a.arrays, a.first) a.arrays_are in
    arrays_by mode s p.size a.front m.room m.least a.front_is b.room a.arrays b.arrays r (sym (ap (λ (x : AdsDataTypeInfo). x.arrays) a.is))
