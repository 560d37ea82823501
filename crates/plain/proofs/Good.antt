-- Good records one after another are a block that passes, and no other block does.
use Rattle.std.proofs.Common.{ℕ, suc, ◌+◌, ◌<◌, ◌≡◌, refl, sym, subst, ◌∙◌, List, length, drop, Ok, arith, Bor}
use Rattle.std.specs.Prelude.{ltb}
use Rattle.attribute.specs.Block as attribute
use Rattle.attribute.specs.BlockMeant as attributes
use Rattle.attribute.specs.BlockMeant.{none as no_attribute, one_more as an_attribute, passes as attributes_pass, longer as attributes_longer, fewer as attributes_fewer}
use Rattle.attribute.proofs.BlockMeant.{attributes_refused}
use Rattle.refactor.specs.Block as refactor
use Rattle.refactor.specs.BlockMeant as refactors
use Rattle.refactor.specs.BlockMeant.{none as no_record, one_more as a_record, passes as records_pass, longer as records_longer, fewer as records_fewer}
use Rattle.refactor.proofs.BlockMeant.{refactors_refused}

attributes_end : {s : List ℕ} {from a b n : ℕ} → attributes.Good s from a n → attributes.Good s from b n → a ≡ b
attributes_end no_attribute no_attribute = refl
attributes_end (an_attribute g p) (an_attribute h q) = attributes_end p q

attribute_next : {s : List ℕ} {from to at n k : ℕ} → attributes.Good s from to n → attributes.Good s from at k → k < n → attributes.IsGood (drop at s)
attribute_next (an_attribute g p) no_attribute l = g
attribute_next (an_attribute g p) (an_attribute h q) l = attribute_next p q (omega arith)
attribute_next no_attribute q l = absurd (omega arith)

pub good_attributes_pass : (count : ℕ) (block : Bor (List ℕ)) → attributes.Good block.now 0 (length block.now) count → attribute.block_checked count block ≡ Ok tt
good_attributes_pass count block g = by (attributes_refused.block count block)
  where
    by : attributes.BlockMeant count block → attribute.block_checked count block ≡ Ok tt
    by (attributes_pass p e) = e
    by (attributes_longer at p l e) = absurd (let same = attributes_end p g in omega arith)
    by (attributes_fewer at good p l not e) = absurd (not (attribute_next g p l))

pub passed_attributes_good : (count : ℕ) (block : Bor (List ℕ)) → attribute.block_checked count block ≡ Ok tt → attributes.Good block.now 0 (length block.now) count
passed_attributes_good count block h = by (attributes_refused.block count block)
  where
    by : attributes.BlockMeant count block → attributes.Good block.now 0 (length block.now) count
    by (attributes_pass p e) = p
    by (attributes_longer at p l e) = let z = sym e ∙ h in cc
    by (attributes_fewer at good p l not e) = let z = sym e ∙ h in cc

records_end : {s : List ℕ} {counts from a b n : ℕ} → refactors.Good s counts from a n → refactors.Good s counts from b n → a ≡ b
records_end no_record no_record = refl
records_end (a_record g p) (a_record h q) = records_end p q

record_next : {s : List ℕ} {counts from to at n k : ℕ} (left : ℕ) → refactors.Good s counts from to n → n ≡ counts → refactors.Good s counts from at k → k + suc left ≡ counts
    → refactors.IsGood (drop at s) (ltb 0 left)
record_next {s = s} left (a_record {left = more} {from = from} g p) c no_record l = let same : more ≡ left = omega arith in subst (λ (m : ℕ). refactors.IsGood (drop from s) (ltb 0 m)) same g
record_next left (a_record g p) c (a_record h q) l = record_next left p (omega arith) q (omega arith)
record_next left no_record c q l = absurd (omega arith)

pub good_records_pass : (count : ℕ) (block : Bor (List ℕ)) → refactors.Good block.now count 0 (length block.now) count → refactor.block_checked count block ≡ Ok tt
good_records_pass count block g = by (refactors_refused.block count block)
  where
    by : refactors.BlockMeant count block → refactor.block_checked count block ≡ Ok tt
    by (records_pass p e) = e
    by (records_longer at p l e) = absurd (let same = records_end p g in omega arith)
    by (records_fewer at good left k p not e) = absurd (not (record_next left g refl p k))

pub passed_records_good : (count : ℕ) (block : Bor (List ℕ)) → refactor.block_checked count block ≡ Ok tt → refactors.Good block.now count 0 (length block.now) count
passed_records_good count block h = by (refactors_refused.block count block)
  where
    by : refactors.BlockMeant count block → refactors.Good block.now count 0 (length block.now) count
    by (records_pass p e) = p
    by (records_longer at p l e) = let z = sym e ∙ h in cc
    by (records_fewer at good left k p not e) = let z = sym e ∙ h in cc
