-- docs/FORMAT.md, "Numbers", "Symbol entries" and "Field entries": three strings behind a header, each with an end byte; a GUID among the sections.
use Rattle.std.specs.Prelude.{ℕ, ◌+◌, Bool, List, [], ◌∷◌, Option, Some, None, Result, Ok, Err, ltb, leb, length, take, get_or, if◌then◌else◌}
use Rattle.std.specs.Borrow.{Bor}
use Rattle.part.specs.Slice.{after}
use Rattle.refusal.specs.declared.Refusal.{Refusal}
use Rattle.refusal.specs.declared.Refusal.TheVariants.{EntryLengthMismatch}

-- 3 where a header and strings need more bytes than are there
abbrev pub strings_there : ℕ → ℕ → Result Unit Refusal
strings_there needed available = if ltb available needed then Err (EntryLengthMismatch needed available) else Ok tt

-- the end bytes of strings of these lengths, which stand from a place on, with their places
abbrev pub string_ends : List ℕ → ℕ → ℕ → ℕ → ℕ → List (ℕ × ℕ)
string_ends e at n t k =
    let name : ℕ = at + n in
    let type : ℕ = name + 1 + t in
    let comment : ℕ = type + 1 + k in
    (name, get_or e name 0) ∷ (type, get_or e type 0) ∷ (comment, get_or e comment 0) ∷ []

-- 16 bytes, and those after them. A GUID that is not flagged, or has no room, moves nothing
unfoldable pub guid_of : Bor (List ℕ) → Bool → Option (List ℕ) × Bor (List ℕ)
guid_of s flagged =
    if flagged then if leb 16 (length s.now) then (Some (take 16 s.now), after s 16) else (None, s)
    else (None, s)
