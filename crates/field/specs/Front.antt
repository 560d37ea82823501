-- docs/FORMAT.md, "Field entries": a header of 42 bytes; name, type and comment, each with one end byte. Entries of data types begin so too.
use Rattle.std.specs.Prelude.{ℕ, ◌+◌, ◌≤◌, List, Result, Ok, Err, ltb, length, if◌then◌else◌}
use Rattle.std.specs.Borrow.{Bor}
use Rattle.le.specs.Le.{le2, le4}
use Rattle.part.specs.Slice.{part, after}
use Rattle.part.specs.Outcome.{and_then}
use Rattle.refusal.specs.EndBytes.{ended, in_mode}
use Rattle.refusal.specs.declared.Mode.{Mode}
use Rattle.refusal.specs.declared.Refusal.{Refusal}
use Rattle.refusal.specs.declared.Refusal.TheVariants.{TooShort, EntryLengthMismatch}
use Rattle.layout.specs.Layout.{string_ends}
use Rattle.field.specs.declared.front.Front.{Front}

-- the front of an entry whose strings have these lengths
unfoldable pub with_strings : Bor (List ℕ) → ℕ → ℕ → ℕ → Front
with_strings e n t k =
    record {
      length = length e.now;
      version = le4 e.now 4;
      hash_value = le4 e.now 8;
      type_hash_value = le4 e.now 12;
      size = le4 e.now 16;
      offset = le4 e.now 20;
      type_id = le4 e.now 24;
      flags = record { 0 = le4 e.now 28 };
      name = part e 42 n;
      type_name = part e (43 + n) t;
      comment = part e (44 + n + t) k;
      array_count = le2 e.now 38;
      sub_item_count = le2 e.now 40;
      rest = after e (45 + n + t + k);
    }

-- the front of an entry, whether or not there is room for its strings
abbrev pub front_by_header : Bor (List ℕ) → Front
front_by_header e = with_strings e (le2 e.now 32) (le2 e.now 34) (le2 e.now 36)

-- the header is there, and so are the strings
pub record HasStrings (e : Bor (List ℕ)) : Type 0 where
  pub header : 42 ≤ length e.now
  pub strings : 45 + le2 e.now 32 + le2 e.now 34 + le2 e.now 36 ≤ length e.now

-- in a mode, the end bytes of strings of these lengths
abbrev pub strings_ended : Mode → List ℕ → ℕ → ℕ → ℕ → Result Unit Refusal
strings_ended mode s n t k = in_mode mode (ended (string_ends s 42 n t k))

-- of an entry's own bytes, in a mode: 2 for a header that is not there, 3 for strings that are not, then 16
unfoldable pub front_of : Mode → Bor (List ℕ) → Result Front Refusal
front_of mode e =
    let n : ℕ = le2 e.now 32 in
    let t : ℕ = le2 e.now 34 in
    let k : ℕ = le2 e.now 36 in
    if ltb (length e.now) 42 then Err (TooShort 42 (length e.now))
    else if ltb (length e.now) (45 + n + t + k) then Err (EntryLengthMismatch (45 + n + t + k) (length e.now))
    else and_then (strings_ended mode e.now n t k) (λ _. Ok (with_strings e n t k))
