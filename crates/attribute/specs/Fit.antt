-- docs/FORMAT.md, "Fit records": what the writer of attributes writes is read back in whatever mode, wherever it stands, makes good blocks, and nothing else does.
use Rattle.std.specs.Prelude.{ℕ, ◌≤◌, ◌≡◌, List, [], ◌∷◌, ◌++◌, Ok, length}
use Rattle.std.specs.List.{All}
use Rattle.std.specs.Borrow.{Bor}
use Rattle.part.specs.Slice.{after}
use Rattle.refusal.specs.Refusal.{limit}
use Rattle.refusal.specs.declared.Mode.{Mode}
use Rattle.attribute.specs.declared.AdsAttribute.{AdsAttribute}
use Rattle.attribute.specs.Attribute.{first_of, alone, listed}
use Rattle.attribute.specs.Told.{Told, told_of, told}
use Rattle.attribute.specs.Block.{block_checked}
use Rattle.attribute.specs.Writing.{attribute_bytes, attribute_writing}

-- name and value within their length fields of 1 byte
pub record Fits (a : Told) : Type 0 where
  pub name : length a.name ≤ 255
  pub value : length a.value ≤ 255

-- bytes that begin as an attribute was written are read as it, in a mode, and only its bytes are taken
pub record IsBack (mode : Mode) (a : Told) (s : Bor (List ℕ)) : Type 0 where
  pub back : AdsAttribute
  pub is : alone mode s ≡ Ok back
  pub tells : told_of back ≡ a
  pub takes : first_of s ≡ Ok (back, after s (length (attribute_bytes a)))

-- it is written exactly where it fits
pub record ReadBack (mode : Mode) (a : Told) : Type 0 where
  pub written : Fits a → attribute_writing a ≡ Ok (attribute_bytes a)
  pub only : (bytes : List ℕ) → attribute_writing a ≡ Ok bytes → Fits a × (bytes ≡ attribute_bytes a)
  pub read : Fits a → (s : Bor (List ℕ)) (more : List ℕ) → s.now ≡ attribute_bytes a ++ more → length s.now ≤ limit → IsBack mode a s

abbrev pub AttributesReadBack : Type 0
AttributesReadBack = (mode : Mode) (a : Told) → ReadBack mode a

-- the block of some attributes: their bytes one after another
unfoldable pub block_of : List Told → List ℕ
block_of [] = []
block_of (a ∷ more) = attribute_bytes a ++ block_of more

-- it is a good block of their count, and tells them
pub record IsBlock (xs : List Told) (block : Bor (List ℕ)) : Type 0 where
  pub passes : block_checked (length xs) block ≡ Ok tt
  pub tells : told (listed block (length xs)) ≡ xs

abbrev pub AttributeBlocks : Type 0
AttributeBlocks = (xs : List Told) (block : Bor (List ℕ)) → All Fits xs → block.now ≡ block_of xs → IsBlock xs block

-- so a block is that of one list of attributes
abbrev pub AttributesFixed : Type 0
AttributesFixed = (xs ys : List Told) → All Fits xs → All Fits ys → block_of xs ≡ block_of ys → xs ≡ ys

-- a block that passes is the block of the attributes that it tells, as many as it counts
pub record IsMade (count : ℕ) (block : Bor (List ℕ)) : Type 0 where
  pub is : block.now ≡ block_of (told (listed block count))
  pub long : length (told (listed block count)) ≡ count

abbrev pub AttributeBlocksMade : Type 0
AttributeBlocksMade = (count : ℕ) (block : Bor (List ℕ)) → block_checked count block ≡ Ok tt → IsMade count block
