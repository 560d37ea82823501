-- What is written of a refactor record, and of a block behind its count.
use Rattle.std.proofs.Common.{◌≡◌, ℕ, ◌+◌, Bool, List, ◌++◌, length, Ok, Err, arith, length-append, Bor}
use Rattle.le.specs.Le.{bytes2}
use Rattle.refusal.specs.declared.Refusal.{Refusal}
use Rattle.writing.specs.Checks.{count_checked, entry_checked}
use Rattle.refactor.specs.Block.{block_checked}
use Rattle.refactor.specs.Writing.{packed_of, info_bytes, info_writing, entries_writing}

pub length_info : (packed : ℕ) (name : List ℕ) → length (info_bytes packed name) ≡ length name + 7
unfolding info_bytes
length_info packed name = simp length-append (omega arith)

pub passes : (count : ℕ) (has_next : Bool) (name : List ℕ) {u : Unit} → count_checked (length name) ≡ Ok u → info_writing count has_next name ≡ Ok (info_bytes (packed_of count has_next) name)
unfolding info_writing
passes count has_next name h = simp h

pub refused : (count : ℕ) (has_next : Bool) (name : List ℕ) {why : Refusal} → count_checked (length name) ≡ Err why → info_writing count has_next name ≡ Err why
unfolding info_writing
refused count has_next name h = simp h

module _ (count : ℕ) (block : Bor (List ℕ)) where
  pub count_refused : {why : Refusal} → count_checked count ≡ Err why → entries_writing count block ≡ Err why
  unfolding entries_writing
  count_refused h = simp h

  pub block_refused : {u : Unit} {why : Refusal} → count_checked count ≡ Ok u → block_checked count block ≡ Err why → entries_writing count block ≡ Err why
  unfolding entries_writing
  block_refused h k = simp (h, k)

  pub both_pass : {u v : Unit} → count_checked count ≡ Ok u → block_checked count block ≡ Ok v → entries_writing count block ≡ entry_checked (bytes2 count ++ block.now)
  unfolding entries_writing
  both_pass h k = simp (h, k)
