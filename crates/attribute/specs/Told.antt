-- docs/FORMAT.md, "Fit records": what attributes tell, wherever they lie: their names and values.
use Rattle.std.specs.Prelude.{ℕ, ◌≡◌, List, ◌++◌, map, None, Ok, length}
use Rattle.std.specs.Borrow.{Bor}
use Rattle.part.specs.Slice.{after}
use Rattle.refusal.specs.EndBytes.{ended}
use Rattle.attribute.specs.declared.AdsAttribute.{AdsAttribute}
use Rattle.attribute.specs.Attribute.{listed, after_listed, stopped, ends}
use Rattle.attribute.specs.Block.{block_checked}

pub record Told : Type 0 where
  pub name : List ℕ
  pub value : List ℕ

abbrev pub told_of : AdsAttribute → Told
told_of a = record { name = a.name.now; value = a.value.now }

abbrev pub told : List AdsAttribute → List Told
told = map told_of

-- so many attributes are read of bytes that begin as a block does: those of the block, all of them, with end bytes 0, and the bytes after the block are left
pub record IsRead (count : ℕ) (block s : Bor (List ℕ)) : Type 0 where
  pub tells : told (listed s count) ≡ told (listed block count)
  pub long : length (listed s count) ≡ count
  pub rest : after_listed s count ≡ after s (length block.now)
  pub whole : stopped s count ≡ None
  pub ended : (at : ℕ) → ended (ends s at count) ≡ Ok tt

-- a block that passes is read wherever it stands, whatever follows it
abbrev pub BlocksRead : Type 0
BlocksRead = (count : ℕ) (block s : Bor (List ℕ)) (more : List ℕ) → block_checked count block ≡ Ok tt → s.now ≡ block.now ++ more → IsRead count block s
