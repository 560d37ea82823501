-- docs/FORMAT.md, "Data type entries": entries one inside another are read, to a depth of 16.
use Rattle.std.specs.Prelude.{ℕ, zero, suc, ◌+◌, ◌<◌, ◌≤◌, ◌≡◌, List, [], ◌++◌, replicate, Ok, Err, length}
use Rattle.std.specs.Borrow.{Bor}
use Rattle.le.specs.Le.{bytes2, bytes4}
use Rattle.refusal.specs.declared.Mode.{Mode}
use Rattle.refusal.specs.declared.Refusal.TheVariants.{TooDeep}
use Rattle.walk.specs.Step.{parse_of}
use Rattle.data_type.specs.declared.AdsDataTypeInfo.{AdsDataTypeInfo}
use Rattle.data_type.specs.DataType.{type_of}

-- an entry that has so many sub-items and nothing else: its length, zeros for its numbers and counts, the end bytes of three empty strings, and the sub-items
abbrev pub around : ℕ → List ℕ → List ℕ
around count items = bytes4 (45 + length items) ++ (replicate 36 0 ++ (bytes2 count ++ (replicate 3 0 ++ items)))

-- one in another, so many below the first
unfoldable pub chain : ℕ → List ℕ
chain zero = around 0 []
chain (suc n) = around 1 (chain n)

-- it is read, with so many members
pub record HasMembers (mode : Mode) (s : Bor (List ℕ)) (n : ℕ) : Type 0 where
  pub info : AdsDataTypeInfo
  pub read : parse_of 42 (type_of mode) s ≡ Ok info
  pub count : info.member_count ≡ n

-- one that stands at depth 16 is read, one below it is too deep
pub record TypesNest : Type 0 where
  pub reads : (mode : Mode) (s : Bor (List ℕ)) (n : ℕ) → n < 16 → s.now ≡ chain n → HasMembers mode s n
  pub deep : (mode : Mode) (s : Bor (List ℕ)) (n : ℕ) → 16 ≤ n → length s.now ≤ 16777216 → s.now ≡ chain n → parse_of 42 (type_of mode) s ≡ Err TooDeep
