-- The members of an entry one by one, and how far the elements of an array reach.
use Rattle.std.proofs.Common.{ℕ, zero, suc, ◌-◌, ◌*◌, ◌/◌, ◌<◌, ◌≤◌, ◌≡◌, refl, ap, List, Bor, arith, if◌then◌else◌}
use Rattle.std.proofs.Math.Nat.{mul-le-mul_right, mul-div-le, le_trans}
use Rattle.std.specs.Prelude.{Some, None}
use Rattle.le.specs.Le.{le4}
use Rattle.names.specs.Names.{same_name}
use Rattle.bind.specs.Reading.{behind, type_entry, name_of}
use Rattle.bind.specs.Binding.{member_of}

pub rows_within : (index size elements : ℕ) → index < elements → index * (size / elements) ≤ size
rows_within index size elements h =
    let below : index ≤ elements = omega arith in
    let m : index * (size / elements) ≤ elements * (size / elements) = mul-le-mul_right (size / elements) below in
    let l : elements * (size / elements) ≤ size = mul-div-le size elements in
    le_trans m l

-- one of them has the name, or not; and none is left
pub one_more : (name : List ℕ) (n : ℕ) (s : Bor (List ℕ)) (end : ℕ) → 0 < n
    → member_of name n s end ≡ (if same_name (name_of s).now name then Some (type_entry s end) else member_of name (n - 1) (behind s (le4 s.now 0)) end)
unfolding member_of
one_more name zero s end h = absurd (omega arith)
one_more name (suc n) s end h =
    let e : n ≡ suc n - 1 = omega arith in
    ap (λ (k : ℕ). if same_name (name_of s).now name then Some (type_entry s end) else member_of name k (behind s (le4 s.now 0)) end) e

pub none_more : (name : List ℕ) (s : Bor (List ℕ)) (end : ℕ) → member_of name 0 s end ≡ None
unfolding member_of
none_more name s end = refl
