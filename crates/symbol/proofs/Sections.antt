-- Each section of a symbol that was written is read back, whatever follows it.
use Rattle.std.proofs.Common.{ℕ, ◌<◌, ◌≡◌, refl, sym, ap, ◌∙◌, Bool, true, false, List, [], ◌∷◌, ◌++◌, length, take, drop, Ok, Some, None, arith, Bor, length-append}
use Rattle.std.specs.Prelude.{Option, is_some, ltb, leb, eqb, if◌then◌else◌}
use Rattle.std.specs.Bool.{beq}
use borrow.Author.Tests.{eqb-true, ltb-true, ltb-false, le-leb}
use lib.Seq.{take-append_seam, drop-append_seam}
use Rattle.std.specs.Cmp.{booleans_Decides}
use Rattle.le.specs.Le.{le2, le4}
use Rattle.le.proofs.Laws.{le2_bytes2, le4_bytes4}
use Rattle.part.specs.Slice.{after}
use Rattle.refusal.specs.EndBytes.{ended}
use Rattle.flags.specs.declared.symbol_flags.AdsSymbol2Flags.{AdsSymbol2Flags}
use Rattle.attribute.specs.Attribute as attribute
use Rattle.attribute.specs.Block as attribute-block
use Rattle.attribute.specs.Told as attributes
use Rattle.attribute.proofs.Again as attribute-again
use Rattle.attribute.proofs.Fit.{attribute_blocks_made}
use Rattle.attribute.proofs.Laws.{nothing_listed, listed_none}
use Rattle.refactor.specs.Refactor as refactor
use Rattle.refactor.specs.Block as refactor-block
use Rattle.refactor.specs.Told as refactors
use Rattle.refactor.proofs.Again as refactor-again
use Rattle.writing.specs.Layout.{attributes_bytes}
use Rattle.layout.specs.Layout.{guid_of}
use Rattle.symbol.specs.Symbol.{attributes_of, extended_of, extended_word, refactor_infos_of}
use Rattle.symbol.specs.Writing.{guid_bytes, extended_bytes}
use Rattle.symbol.specs.Told.{IsSixteen}

-- the GUID, and what follows it
pub record IsGuidBack (s : Bor (List ℕ)) (flagged : Bool) (guid : Option (List ℕ)) (rest : List ℕ) : Type 0 where
  pub is : (guid_of s flagged).0 ≡ guid
  pub rest_is : (guid_of s flagged).1.now ≡ rest

pub guid_back : (s : Bor (List ℕ)) (flagged : Bool) (guid : Option (List ℕ)) (rest : List ℕ) → is_some guid ≡ flagged → IsSixteen guid → s.now ≡ guid_bytes guid ++ rest → IsGuidBack s flagged guid rest
unfolding guid_of
guid_back s true (Some g) rest f l h =
    let t : take 16 s.now ≡ g = rw (h, ← l) (take-append_seam g rest) in
    let d : drop 16 s.now ≡ rest = rw (h, ← l) (drop-append_seam g rest) in
    let b : leb 16 (length s.now) ≡ true = le-leb 16 (length s.now) (rw (h, length-append) (omega (arith, l))) in
    record { is = simp (b, t); rest_is = simp (b, d) }
guid_back s false None rest f l h = record { is = refl; rest_is = h }
guid_back s false (Some g) rest f l h = cc
guid_back s true None rest f l h = cc

-- 4 bytes of further flags
pub record IsExtendedBack (s : Bor (List ℕ)) (flagged : Bool) (v : AdsSymbol2Flags) (rest : List ℕ) : Type 0 where
  pub is : (extended_of s flagged).0 ≡ (if flagged then Some v else None)
  pub word : extended_word (extended_of s flagged).0 ≡ v.0
  pub rest_is : (extended_of s flagged).1.now ≡ rest

pub extended_back : (s : Bor (List ℕ)) (flagged : Bool) (v : AdsSymbol2Flags) (rest : List ℕ) → v.0 < 4294967296 → (if flagged then true else eqb v.0 0) ≡ true → s.now ≡ extended_bytes flagged v.0 ++ rest → IsExtendedBack s flagged v rest
unfolding extended_of
extended_back s true v rest l f h =
    let n : le4 s.now 0 ≡ v.0 = rw h (le4_bytes4 v.0 rest l) in
    let d : drop 4 s.now ≡ rest = simp h in
    let b : leb 4 (length s.now) ≡ true = le-leb 4 (length s.now) (simp h (omega arith)) in
    record { is = simp (b, n); word = simp (b, n); rest_is = simp (b, d) }
extended_back s false v rest l f h = record { is = refl; word = sym (eqb-true v.0 0 f); rest_is = h }

-- the attributes
pub record IsAttributesBack (s : Bor (List ℕ)) (flagged : Bool) (count : ℕ) (block : Bor (List ℕ)) (rest : List ℕ) : Type 0 where
  pub tells : attributes.told (attribute.listed (attributes_of s flagged).0.bytes (attributes_of s flagged).0.count) ≡ attributes.told (attribute.listed block count)
  pub ended : (at : ℕ) → ended (attribute.ends (attributes_of s flagged).0.bytes at (attributes_of s flagged).0.count) ≡ Ok tt
  pub rest_is : (attributes_of s flagged).1.now ≡ rest
  pub begins : (attributes_of s flagged).0.bytes.now ≡ block.now ++ rest
  pub counted : (attributes_of s flagged).0.count ≡ count

none_there : (l rest : List ℕ) → length l ≡ 0 → l ++ rest ≡ rest
none_there [] rest e = refl
none_there (x ∷ l) rest e = absurd (omega arith)

no_ends : (s : Bor (List ℕ)) (at : ℕ) → ended (attribute.ends s at 0) ≡ Ok tt
unfolding attribute.ends ended
no_ends s at = refl

pub attributes_back : (s : Bor (List ℕ)) (flagged : Bool) (count : ℕ) (block : Bor (List ℕ)) (rest : List ℕ) → count < 65536 → attribute-block.block_checked count block ≡ Ok tt → (if flagged then true else eqb (length block.now) 0) ≡ true
    → s.now ≡ attributes_bytes flagged count block.now ++ rest → IsAttributesBack s flagged count block rest
unfolding attributes_of attributes_bytes
attributes_back s true count block rest l g f h =
    let c : le2 s.now 0 ≡ count = rw h (le2_bytes2 count (block.now ++ rest) l) in
    let b : leb 2 (length s.now) ≡ true = le-leb 2 (length s.now) (simp h (omega arith)) in
    let d : drop 2 s.now ≡ block.now ++ rest = simp h in
    let r = attribute-again.blocks_read count block (after s 2) rest g d in
    record {
      tells = simp (b, c, r.long, r.tells);
      ended = λ at. simp (b, c, r.long, r.ended at);
      rest_is = simp (b, c, r.rest) (rw d (drop-append_seam block.now rest));
      begins = simp b d;
      counted = simp (b, c, r.long);
    }
attributes_back s false count block rest l g f h =
    let e = eqb-true (length block.now) 0 f in
    let none = nothing_listed block count e in
    record {
      tells = simp (listed_none s, none);
      ended = λ at. no_ends s at;
      rest_is = h;
      begins = h ∙ sym (none_there block.now rest e);
      counted = ap (λ (l : List _). length (attributes.told l)) (sym none) ∙ (attribute_blocks_made count block g).long;
    }

-- the chain
pub record IsChainBack (s : Bor (List ℕ)) (flagged : Bool) (count : ℕ) (block : Bor (List ℕ)) (rest : List ℕ) : Type 0 where
  pub tells : refactors.told (refactor.listed (refactor_infos_of s flagged).0.bytes (refactor_infos_of s flagged).0.count) ≡ refactors.told (refactor.listed block count)
  pub ended : flagged ≡ true → (at : ℕ) → ended (refactor.ends (refactor_infos_of s flagged).0.bytes at) ≡ Ok tt
  pub rest_is : (refactor_infos_of s flagged).1.now ≡ rest
  pub begins : (refactor_infos_of s flagged).0.bytes.now ≡ block.now ++ rest
  pub counted : (refactor_infos_of s flagged).0.count ≡ count

none_listed : (s : Bor (List ℕ)) → refactor.listed s 0 ≡ []
unfolding refactor.listed
none_listed s = refl

none_checked : (block : Bor (List ℕ)) → refactor-block.block_checked 0 block ≡ Ok tt → length block.now ≡ 0
unfolding refactor-block.exact
none_checked block h = grind arith

chain_back_by : (s : Bor (List ℕ)) (count : ℕ) (block : Bor (List ℕ)) (rest : List ℕ) → refactor-block.block_checked count block ≡ Ok tt → s.now ≡ block.now ++ rest → (flagged : Bool) → ltb 0 count ≡ flagged → IsChainBack s flagged count block rest
unfolding refactor_infos_of
chain_back_by s count block rest g h true f =
    let r = refactor-again.blocks_read count block s rest g h in
    let some : 0 < count = ltb-true 0 count f in
    let c = r.chain some in
    record {
      tells = simp (c, r.tells);
      ended = λ _ at. simp (c, r.ended some at);
      rest_is = simp c (rw h (drop-append_seam block.now rest));
      begins = simp c h;
      counted = simp c;
    }
chain_back_by s count block rest g h false f =
    let z : count ≡ 0 = omega (arith, ltb-false 0 count f) in
    let e : length block.now ≡ 0 = none_checked block (rw z at g) in
    record {
      tells = simp (z, none_listed s, none_listed block);
      ended = λ t at. cc;
      rest_is = h ∙ none_there block.now rest e;
      begins = h;
      counted = sym z;
    }

pub chain_back : (s : Bor (List ℕ)) (flagged : Bool) (count : ℕ) (block : Bor (List ℕ)) (rest : List ℕ) → beq (ltb 0 count) flagged ≡ true → refactor-block.block_checked count block ≡ Ok tt → s.now ≡ block.now ++ rest → IsChainBack s flagged count block rest
chain_back s flagged count block rest f g h = chain_back_by s count block rest g h flagged ((booleans_Decides (ltb 0 count) flagged).0 f)
