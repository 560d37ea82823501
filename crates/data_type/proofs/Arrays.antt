-- How many array records some bytes hold.
use Rattle.std.proofs.Common.{ℕ, zero, suc, ◌*◌, ◌/◌, ◌≤◌, ◌≡◌, refl, min, List, [], ◌∷◌, length, arith, Bor, length-drop}
use Rattle.std.specs.Prelude.{Bool, true, false, ltb, if◌then◌else◌}
use borrow.Author.Tests.{ltb-true, ltb-false}
use Rattle.part.specs.Slice.{after}
use Rattle.data_type.specs.declared.array.ArrayInfos.{ArrayInfos}
use Rattle.data_type.specs.Array.{first_of, listed, left}

length_listed : (n : ℕ) (s : Bor (List ℕ)) → length (listed s n) ≡ min n (length s.now / 8)
unfolding listed
length_listed zero s = omega arith
length_listed (suc n) s = by (ltb (length s.now) 8) refl (length_listed n (after s 8))
  where
    by : (b : Bool) → ltb (length s.now) 8 ≡ b → length (listed (after s 8) n) ≡ min n (length (after s 8).now / 8) → length (if b then [] else first_of s.now ∷ listed (after s 8) n) ≡ min (suc n) (length s.now / 8)
    by true h m = let z = ltb-true (length s.now) 8 h in omega arith
    by false h m =
        let z = ltb-false (length s.now) 8 h in
        let d = length-drop 8 s.now in
        omega arith

pub length_left : (a : ArrayInfos) → length (left a) ≡ min a.count (length a.bytes.now / 8)
length_left a = length_listed a.count a.bytes

-- where they fill the bytes
pub length_all : (n : ℕ) (s : Bor (List ℕ)) → 8 * n ≤ length s.now → length (listed s n) ≡ n
length_all n s h = let m = length_listed n s in omega arith
