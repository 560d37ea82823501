-- docs/FORMAT.md, "Fit records": what refactor records tell, wherever they lie: a count, whether another follows, and a former name.
use Rattle.std.specs.Prelude.{ℕ, ◌<◌, ◌≡◌, Bool, List, ◌++◌, map, Ok, length}
use Rattle.std.specs.Borrow.{Bor}
use Rattle.part.specs.Slice.{after}
use Rattle.refusal.specs.EndBytes.{ended}
use Rattle.refactor.specs.declared.AdsRefactorInfo.{AdsRefactorInfo}
use Rattle.refactor.specs.Refactor.{listed, chain_of, ends}
use Rattle.refactor.specs.Block.{block_checked}

pub record Told : Type 0 where
  pub count : ℕ
  pub followed : Bool
  pub name : List ℕ

abbrev pub told_of : AdsRefactorInfo → Told
told_of r = record { count = r.refactor_count; followed = r.next_refactor_info; name = r.name.now }

abbrev pub told : List AdsRefactorInfo → List Told
told = map told_of

-- so many records are read of bytes that begin as a block does: those of the block, all of them. Where there are any they are a chain to the block's end, with end bytes 0
pub record IsRead (count : ℕ) (block s : Bor (List ℕ)) : Type 0 where
  pub tells : told (listed s count) ≡ told (listed block count)
  pub long : length (listed s count) ≡ count
  pub chain : 0 < count → chain_of s ≡ Ok (count, after s (length block.now))
  pub ended : 0 < count → (place : ℕ) → ended (ends s place) ≡ Ok tt

-- a block that passes is read wherever it stands, whatever follows it
abbrev pub BlocksRead : Type 0
BlocksRead = (count : ℕ) (block s : Bor (List ℕ)) (more : List ℕ) → block_checked count block ≡ Ok tt → s.now ≡ block.now ++ more → IsRead count block s
