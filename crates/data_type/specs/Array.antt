-- docs/FORMAT.md, "Data type entries": array records, a lower bound and a number of elements of 4 bytes each.
use Rattle.std.specs.Prelude.{ℕ, zero, suc, ◌-◌, List, [], ◌∷◌, ok_or, eqb, ltb, length, slice_get, Result, if◌then◌else◌}
use Rattle.std.specs.Borrow.{Bor}
use Rattle.le.specs.Le.{le4}
use Rattle.part.specs.Slice.{after}
use Rattle.refusal.specs.declared.Refusal.{Refusal}
use Rattle.refusal.specs.declared.Refusal.TheVariants.{NoSuchNumber}
use Rattle.data_type.specs.declared.array.AdsArrayInfo.{AdsArrayInfo}
use Rattle.data_type.specs.declared.array.ArrayInfos.{ArrayInfos}

-- the one at the start of some bytes
abbrev pub first_of : List ℕ → AdsArrayInfo
first_of s = record { lower_bound = le4 s 0; elements = le4 s 4 }

-- so many, one after another, or as many as there are
unfoldable pub listed : Bor (List ℕ) → ℕ → List AdsArrayInfo
listed s zero = []
listed s (suc left) =
    if ltb (length s.now) 8 then []
    else first_of s.now ∷ listed (after s 8) left

-- those of a value, whatever its bytes and its count
abbrev pub left : ArrayInfos → List AdsArrayInfo
left a = listed a.bytes a.count

-- what is left once the first is given: those behind it. Where the bytes end before the count does, none is left
abbrev pub behind_first : ArrayInfos → ArrayInfos
behind_first a =
    if eqb a.count 0 then a
    else if ltb (length a.bytes.now) 8 then record { bytes = a.bytes; count = 0 }
    else record { bytes = after a.bytes 8; count = a.count - 1 }

-- the one with a number, counted from 0; 14 tells how many there are
abbrev pub numbered : ArrayInfos → ℕ → Result AdsArrayInfo Refusal
numbered a number = ok_or (slice_get (left a) number) (NoSuchNumber (length (left a)) number)
