-- docs/FORMAT.md, "The command's text": the picture of an entry's bytes, a row of 16 after another.
use Rattle.std.specs.Prelude.{ℕ, ◌+◌, ◌-◌, ◌*◌, ◌%◌, ◌==◌, min, nat_lt, nat_le, Bool, List, [], ◌∷◌, ◌++◌, codes, length, replicate, slice_range, if◌then◌else◌}
use Rattle.std.specs.Int.{div_ceil}
use Rattle.std.specs.List.{flat_map, join_by, list_any, range_with_len}
use Rattle.wording.specs.Text.{pair}
use Rattle.wording.specs.Wording.{bytes}
use Rattle.report.specs.Cells.{number_cell}
use Rattle.sections.specs.Parts.{part_text}
use Rattle.sections.specs.declared.Part.{Part}
use Rattle.sections.specs.declared.Part.TheVariants.{Length, Group, Offset, Size, TypeId, Flags, High, StringLengths, Name, «Type», Comment, Guid, AttributeCount, Attribute, ExtendedFlags, FormerName, Unread}
use Rattle.sections.specs.declared.Section.{Section}

-- records that stand side by side have the first or the second by turns
abbrev pub by_turns : ℕ → List ℕ → List ℕ → List ℕ
by_turns number even odd = if number % 2 == 0 then even else odd

-- the colour of a part, as a terminal is told it
unfoldable pub colour : Part → List ℕ
colour Length = codes "36"
colour Group = codes "33"
colour Offset = codes "32"
colour Size = codes "35"
colour TypeId = codes "94"
colour Flags = codes "93"
colour High = codes "90"
colour StringLengths = codes "96"
colour Name = codes "92"
colour «Type» = codes "96"
colour Comment = codes "95"
colour Guid = codes "32"
colour AttributeCount = codes "36"
colour (Attribute number) = by_turns number (codes "33") (codes "96")
colour ExtendedFlags = codes "94"
colour (FormerName number) = by_turns number (codes "35") (codes "92")
colour Unread = codes "7;31"

-- begins and ends text in the colour of a part, if there are colours
unfoldable pub paint : Bool → Part → List ℕ
paint coloured p = if coloured then 27 ∷ codes "[" ++ (colour p ++ codes "m") else []

unfoldable pub unpaint : Bool → List ℕ
unpaint coloured = if coloured then 27 ∷ codes "[0m" else []

-- the bytes of a section that stand in a row
abbrev pub bytes_within : ℕ → ℕ → Section → List ℕ
bytes_within start end x =
    let last : ℕ = min (end - x.at) (length x.bytes.now) in
    slice_range x.bytes.now (min (start - x.at) last) last

unfoldable pub pairs_text : List ℕ → List ℕ
pairs_text own = join_by pair (codes " ") own

abbrev pub rule : Bool → List ℕ
rule there = if there then codes "|" else codes " "

-- a rule stands before a section's first byte
unfoldable pub section_text : Bool → ℕ → ℕ → Section → List ℕ
section_text coloured start end x =
    rule (nat_le start x.at) ++ (paint coloured x.part ++ (pairs_text (bytes_within start end x) ++ unpaint coloured))

-- what is called by its name, with how much is unread; dots say that it began in a row above
abbrev pub label : Part → ℕ → List ℕ
label Unread n = codes "unread, " ++ bytes n
label p n = part_text p

unfoldable pub name_text : Bool → ℕ → Section → List ℕ
name_text coloured start x =
    paint coloured x.part ++ ((if nat_lt x.at start then codes ".." ++ part_text x.part else label x.part (length x.bytes.now)) ++ unpaint coloured)

-- a section ends at a place or before it
abbrev pub ends_by : ℕ → Section → Bool
ends_by start x = nat_le (length x.bytes.now) (start - x.at)

-- sections without those that end before a row, and those of them that begin before it ends
unfoldable pub behind : ℕ → List Section → List Section
behind start [] = []
behind start (x ∷ more) = if ends_by start x then behind start more else x ∷ more

unfoldable pub within : ℕ → List Section → List Section
within end [] = []
within end (x ∷ more) = if nat_lt x.at end then x ∷ within end more else []

abbrev pub ends_at : ℕ → Section → Bool
ends_at end x = end - x.at == length x.bytes.now

-- a row of a number of sections; behind its last byte a rule where a section ends there
unfoldable pub row_text : Bool → ℕ → ℕ → List Section → List ℕ
row_text coloured start end all =
    number_cell 6 start
    ++ (codes "  "
    ++ (flat_map (section_text coloured start end) all
    ++ (rule (list_any (ends_at end) all)
    ++ (replicate (3 * (16 - (end - start))) 32
    ++ (codes " "
    ++ (join_by (name_text coloured start) (codes " | ") all
    ++ codes "\n"))))))

-- of an entry of so many bytes, the row of a number
abbrev pub row_of : Bool → ℕ → List Section → ℕ → List ℕ
row_of coloured n all k =
    let start : ℕ = 16 * k in
    let end : ℕ = min (start + 16) n in
    row_text coloured start end (within end (behind start all))

unfoldable pub picture_text : Bool → ℕ → List Section → List ℕ
picture_text coloured n all = flat_map (row_of coloured n all) (range_with_len 0 (div_ceil n 16))
