-- docs/FORMAT.md, "Binding": the parts of a path behind the name of its symbol. What is no part is told by how many bytes of the text are left at the fault.
use Rattle.std.specs.Prelude.{ℕ, ◌+◌, ◌-◌, ◌*◌, ◌==◌, ◌||◌, ◌&&◌, nat_le, min, Bool, true, false, List, [], ◌∷◌, Result, Ok, Err, length, take, slice_index, if◌then◌else◌}
use Rattle.std.specs.List.{prefix_len, position_or_len}
use Rattle.std.specs.Borrow.{Bor}
use Rattle.part.specs.Slice.{part, after}
use Rattle.path.specs.declared.Subscript.{Subscript}
use Rattle.path.specs.declared.Split.{Split}
use Rattle.path.specs.declared.Part.{Part}
use Rattle.path.specs.declared.Part.TheVariants.{Member, Element}

-- a dot or an opening bracket
abbrev pub is_mark : ℕ → Bool
is_mark b = b == 46 || b == 91

abbrev pub is_digit : ℕ → Bool
is_digit b = nat_le 48 b && nat_le b 57

-- a text has ended, or goes on with a part
abbrev pub ends : List ℕ → Bool
ends [] = true
ends (b ∷ s) = is_mark b

-- one digit more; and all of some
abbrev pub next_value : ℕ → ℕ → ℕ
next_value n digit = min (10 * n + (digit - 48)) 8589934592

unfoldable pub value : ℕ → List ℕ → ℕ
value n [] = n
value n (digit ∷ more) = value (next_value n digit) more

abbrev pub split_at : Part → Bor (List ℕ) → Split
split_at p rest = record { part = p; rest = rest }

-- behind the bracket that closes
unfoldable pub closing : Bor (List ℕ) → Subscript → Result Split ℕ
closing s n = if ends s.now then Ok (split_at (Element n) s) else Err (length s.now)

-- behind the digits of a subscript: a comma stays for the next
unfoldable pub closed : Bor (List ℕ) → Subscript → Result Split ℕ
closed s n =
    if slice_index s.now 0 == 44 then Ok (split_at (Element n) s)
    else if slice_index s.now 0 == 93 then closing (after s 1) n
    else Err (length s.now)

-- behind the sign: one digit at least
unfoldable pub numbered : Bor (List ℕ) → Bool → Result Split ℕ
numbered s negative =
    let n : ℕ = prefix_len is_digit s.now in
    if n == 0 then Err (length s.now)
    else closed (after s n) (record { negative = negative; magnitude = value 0 (take n s.now) })

-- behind the bracket or the comma
unfoldable pub bracketed : Bor (List ℕ) → Result Split ℕ
bracketed s = if slice_index s.now 0 == 45 then numbered (after s 1) true else numbered s false

-- behind the dot: a name ends before the next mark, and has a byte at least
unfoldable pub member : Bor (List ℕ) → Result Split ℕ
member s =
    let n : ℕ = position_or_len is_mark s.now in
    if n == 0 then Err (length s.now) else Ok (split_at (Member (part s 0 n)) (after s n))

-- the part at the start of a text
unfoldable pub first_part : Bor (List ℕ) → Result Split ℕ
first_part s =
    if slice_index s.now 0 == 46 then member (after s 1)
    else if slice_index s.now 0 == 91 || slice_index s.now 0 == 44 then bracketed (after s 1)
    else Err (length s.now)
