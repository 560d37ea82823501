-- docs/FORMAT.md, "Writing": the bytes of a refactor record, and of a block of them behind its count.
use Rattle.std.specs.Prelude.{ℕ, Bool, List, [], ◌∷◌, ◌++◌, Result, Ok, length, bit_and, bit_or, if◌then◌else◌}
use Rattle.std.specs.Borrow.{Bor}
use Rattle.le.specs.Le.{bytes2, bytes4}
use Rattle.part.specs.Outcome.{and_then}
use Rattle.refusal.specs.declared.Refusal.{Refusal}
use Rattle.writing.specs.Checks.{count_checked, entry_checked}
use Rattle.refactor.specs.Refactor.{mask, follower}
use Rattle.refactor.specs.Block.{block_checked}

-- the count within its mask, and the follower's bit where a record follows
unfoldable pub packed_of : ℕ → Bool → ℕ
packed_of count has_next = if has_next then bit_or (bit_and count mask) follower else bit_and count mask

unfoldable pub info_bytes : ℕ → List ℕ → List ℕ
info_bytes packed name = bytes4 packed ++ (bytes2 (length name) ++ (name ++ (0 ∷ [])))

-- refusal 7 for the name
unfoldable pub info_writing : ℕ → Bool → List ℕ → Result (List ℕ) Refusal
info_writing count has_next name = and_then (count_checked (length name)) (λ _. Ok (info_bytes (packed_of count has_next) name))

-- refusal 7 for the count, 9, 5
unfoldable pub entries_writing : ℕ → Bor (List ℕ) → Result (List ℕ) Refusal
entries_writing count block = and_then (count_checked count) (λ _. and_then (block_checked count block) (λ _. entry_checked (bytes2 count ++ block.now)))
