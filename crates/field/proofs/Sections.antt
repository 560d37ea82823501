-- The sections of a field that was written are read back.
use Rattle.std.proofs.Common.{ℕ, ◌+◌, ◌≤◌, ◌≡◌, refl, ap, ◌∙◌, Bool, true, false, List, ◌++◌, length, take, drop, min, Ok, arith, Bor, length-append}
use Rattle.std.specs.Prelude.{Option, Some, None, is_some}
use Rattle.std.proofs.lemmas.List.{take_at, drop_at}
use lib.ListN.{length-replicate}
use borrow.Author.Tests.{le-leb}
use Rattle.le.specs.Le.{le2}
use Rattle.le.proofs.Laws.{le2_bytes2}
use Rattle.part.specs.Slice.{after}
use Rattle.refusal.specs.EndBytes.{ended}
use Rattle.attribute.specs.Attribute.{listed, ends}
use Rattle.attribute.specs.Block.{block_checked}
use Rattle.attribute.specs.Told.{told}
use Rattle.attribute.proofs.Again.{blocks_read}
use Rattle.attribute.proofs.Laws.{listed_none}
use Rattle.writing.specs.Layout.{attributes_bytes}
use Rattle.layout.specs.Layout.{guid_of}
use Rattle.field.specs.Tail.{after_mask, after_methods, attributes_of}
use Rattle.field.specs.Writing.{zeros, guid_bytes, mask_bytes}
use Rattle.field.specs.Told.{IsGuid}

pub guid_back : (s : Bor (List ℕ)) (here : Bool) (g : Option (List ℕ)) (more : List ℕ) → IsGuid g → is_some g ≡ here → s.now ≡ guid_bytes here g ++ more
    → ((guid_of s here).0 ≡ g) × ((guid_of s here).1.now ≡ more)
unfolding guid_of guid_bytes
guid_back s true (Some g) more l h is =
    let n : length s.now ≡ 16 + length more = ap length is ∙ simp (length-append, l) in
    let t : take 16 s.now ≡ g = ap (take 16) is ∙ take_at g more 16 l in
    let d : drop 16 s.now ≡ more = ap (drop 16) is ∙ drop_at g more 16 l in
    simp (le-leb 16 (length s.now) (omega arith), t) (refl, d)
guid_back s true None more l h is = cc
guid_back s false (Some g) more l h is = cc
guid_back s false None more l h is = (refl, is)

pub mask_back : (s : Bor (List ℕ)) (size : ℕ) (flagged : Bool) (more : List ℕ) → s.now ≡ mask_bytes flagged size ++ more → (after_mask s size flagged).now ≡ more
unfolding after_mask mask_bytes
mask_back s size true more is =
    let l : length (zeros size) ≡ size = length-replicate size 0 in
    let n : length s.now ≡ size + length more = ap length is ∙ simp (length-append, l) in
    let m : min size (length s.now) ≡ size = omega arith in
    simp m (ap (drop size) is ∙ drop_at (zeros size) more size l)
mask_back s size false more is = is

pub methods_back : (s : Bor (List ℕ)) (flagged : Bool) → flagged ≡ false → after_methods s flagged ≡ s
unfolding after_methods
methods_back s flagged h = rw h refl

no_ends : (s : Bor (List ℕ)) (at : ℕ) → ended (ends s at 0) ≡ Ok tt
unfolding ended ends
no_ends s at = refl

-- what was written is read of a block, whatever follows it
pub record IsBack (s : Bor (List ℕ)) (flagged : Bool) (count : ℕ) (block : Bor (List ℕ)) : Type 0 where
  pub tells : told (listed (attributes_of s flagged).0.bytes (attributes_of s flagged).0.count) ≡ told (listed block count)
  pub whole : (attributes_of s flagged).1 ≡ None
  pub ended : (at : ℕ) → ended (ends (attributes_of s flagged).0.bytes at (attributes_of s flagged).0.count) ≡ Ok tt

pub attributes_back : (s : Bor (List ℕ)) (flagged : Bool) (count : ℕ) (block : Bor (List ℕ)) (more : List ℕ)
    → (flagged ≡ true → count ≤ 65535) → (flagged ≡ true → block_checked count block ≡ Ok tt) → (flagged ≡ false → count ≡ 0)
    → s.now ≡ attributes_bytes flagged count block.now ++ more → IsBack s flagged count block
unfolding attributes_of attributes_bytes
attributes_back s true count block more small good none is =
    let n : length s.now ≡ 2 + (length block.now + length more) = ap length is ∙ simp length-append (omega arith) in
    let c : le2 s.now 0 ≡ count = ap (λ l. le2 l 0) is ∙ le2_bytes2 count (block.now ++ more) (omega (arith, small refl)) in
    let d : (after s 2).now ≡ block.now ++ more = ap (drop 2) is in
    let r = blocks_read count block (after s 2) more (good refl) d in
    let t : (2 ≤ length s.now) = omega arith in
    record {
      tells = simp (le-leb 2 (length s.now) t, c, r.long) r.tells;
      whole = simp (le-leb 2 (length s.now) t, c) r.whole;
      ended = λ at. simp (le-leb 2 (length s.now) t, c, r.long) (r.ended at);
    }
attributes_back s false count block more small good none is =
    record {
      tells = simp (none refl, listed_none);
      whole = refl;
      ended = λ at. no_ends s at;
    }
