-- docs/FORMAT.md, "Binding": from a variable's path to its address. Which entry has a name, of the symbols and of the data types, is given by two functions.
use Rattle.std.specs.Prelude.{ℕ, zero, suc, ◌+◌, ◌-◌, ◌*◌, ◌/◌, ◌%◌, ◌==◌, ◌&&◌, ◌||◌, nat_eq, nat_lt, Bool, false, Some, None, List, Result, Ok, Err, length, take, drop, if◌then◌else◌}
use Rattle.std.specs.Cmp.Lexicographic.{pointwise}
use Rattle.std.specs.declared.option.Option.{Option}
use Rattle.std.specs.Borrow.{Bor}
use Rattle.le.specs.Le.{le4}
use Rattle.part.specs.Slice.{after}
use Rattle.part.specs.Outcome.{outcome, and_then}
use Rattle.refusal.specs.Refusal.{limit, most_aliases}
use Rattle.refusal.specs.declared.Refusal.{Refusal}
use Rattle.refusal.specs.declared.Refusal.TheVariants.{TooLarge, NameNotFound, NoSuchNumber, BadPath, NoSuchMember, NoSuchType, WrongDimensions, NoOffset, OffsetTooLarge, TooManyAliases}
use Rattle.names.specs.Names.{same_name}
use Rattle.path.specs.declared.Subscript.{Subscript}
use Rattle.path.specs.declared.Part.{Part}
use Rattle.path.specs.declared.Part.TheVariants.{Member, Element}
use Rattle.path.specs.Path.{ends, first_part}
use Rattle.bind.specs.declared.reading.Entry.{Entry}
use Rattle.bind.specs.declared.steps.Here.{Here}
use Rattle.bind.specs.declared.Address.{Address}
use Rattle.bind.specs.Reading.{behind, symbol_entry, symbol_group, type_entry, name_of}

-- which entry has a name: where it starts
abbrev pub Finder : Type 0
Finder = List ℕ → Result ℕ Refusal

-- the bits in a unit of an entry's numbers
abbrev pub unit : Entry → ℕ
unit e = if e.in_bits then 1 else 8

-- how many dimensions an entry has
abbrev pub dimensions : Entry → ℕ
dimensions e = length e.arrays.now / 8

-- at an entry, so many bits further on: 23 where that is above 32 bits in bytes
unfoldable pub moved : Here → Entry → ℕ → ℕ → Bor (List ℕ) → Result Here Refusal
moved here e bits size left =
    let to : ℕ = 8 * here.offset + here.bit + bits in
    if nat_lt 4294967295 (to / 8) then Err (OffsetTooLarge (to / 8))
    else Ok (record { entry = e; offset = to / 8; bit = to % 8; size = size; left = left })

-- of so many sub-items the first of a name, at the start of some bytes that end at a place
unfoldable pub member_of : List ℕ → ℕ → Bor (List ℕ) → ℕ → Option Entry
member_of name zero s end = None
member_of name (suc more) s end =
    if same_name (name_of s).now name then Some (type_entry s end)
    else member_of name more (behind s (le4 s.now 0)) end

-- the member that was found, if one was, for a part of the path at a place
unfoldable pub at_member : Here → ℕ → Option Entry → Result Here Refusal
at_member here at None = Err (NoSuchMember at)
at_member here at (Some e) = if e.mark == 0 then moved here e (e.offset * unit e) e.size e.arrays else Err (NoOffset at e.mark)

-- the member of a name
unfoldable pub to_member : Here → List ℕ → ℕ → Result Here Refusal
to_member here name at =
    if nat_lt 7 (length here.left.now) then Err (WrongDimensions at (dimensions here.entry))
    else at_member here at (member_of name here.entry.items.count here.entry.items.bytes here.entry.end)

-- which element, from 0, a number is in a dimension with a lower bound, of 32 bits with a sign, and so many elements
abbrev pub from_lower : ℕ → ℕ → ℕ → Option ℕ
from_lower number lower elements =
    let first : ℕ = (lower + 2147483648) % 4294967296 in
    if nat_lt number first then None else if nat_lt (number - first) elements then Some (number - first) else None

unfoldable pub index_of : Subscript → ℕ → ℕ → Option ℕ
index_of n lower elements =
    if n.negative then (if nat_lt 2147483648 n.magnitude then None else from_lower (2147483648 - n.magnitude) lower elements)
    else if nat_lt 8589934591 n.magnitude then None
    else from_lower (2147483648 + n.magnitude) lower elements

-- the element that was found, if there is one
unfoldable pub at_element : Here → ℕ → Option ℕ → Result Here Refusal
at_element here at None = Err (NoSuchNumber (le4 here.left.now 4) at)
at_element here at (Some index) =
    let size : ℕ = here.size / le4 here.left.now 4 in
    moved here here.entry (index * size * unit here.entry) size (behind here.left 8)

-- an element of the first dimension that is left
unfoldable pub to_element : Here → Subscript → ℕ → Result Here Refusal
to_element here n at =
    if nat_lt (length here.left.now) 8 then Err (WrongDimensions at (dimensions here.entry))
    else at_element here at (index_of n (le4 here.left.now 0) (le4 here.left.now 4))

unfoldable pub to_part : Here → Part → ℕ → Result Here Refusal
to_part here (Member name) at = to_member here name.now at
to_part here (Element n) at = to_element here n at

-- a data type that says again of an array what the entry says of which it is the type
unfoldable pub says_again : Entry → Entry → Bool
says_again e named =
    if length e.arrays.now == 0 then false
    else if named.size == e.size then pointwise nat_eq named.arrays.now e.arrays.now
    else false

-- at the same place the data type that starts at a place of the upload
unfoldable pub at_type : Here → Bor (List ℕ) → ℕ → ℕ → Result Here Refusal
at_type here types start at =
    let e : Entry = type_entry (behind types start) (length types.now) in
    let left : Bor (List ℕ) = behind e.arrays (if says_again here.entry e then length e.arrays.now else 0) in
    if e.mark == 0 then Ok (record here { entry = e; size = e.size; left = left }) else Err (NoOffset at e.mark)

-- the data type of an entry's type name
unfoldable pub to_type : Finder → Bor (List ℕ) → Here → ℕ → Result Here Refusal
to_type find types here at = outcome (find here.entry.type_name.now) (λ start. at_type here types start at) (λ why. Err (NoSuchType at))

-- an entry has dimensions left or sub-items
abbrev pub rests : Here → Bool
rests here = nat_lt 7 (length here.left.now) || nat_lt 0 here.entry.items.count

-- such an entry; else what comes next, of which a pointer has nothing
abbrev pub rests_or : Here → ℕ → Result Here Refusal → Result Here Refusal
rests_or here at next = if rests here then Ok here else if here.entry.pointer == 0 then next else Err (NoOffset at here.entry.pointer)

-- such an entry; else its data type, and so on, at most so many times
unfoldable pub settled : Finder → Bor (List ℕ) → ℕ → Here → ℕ → Result Here Refusal
settled find types zero here at = rests_or here at (Err (TooManyAliases at))
settled find types (suc more) here at = rests_or here at (and_then (to_type find types here at) (λ next. settled find types more next at))

-- along the parts of a text, at the end of a path of a length, in at most so many
unfoldable pub along : Finder → Bor (List ℕ) → ℕ → ℕ → Here → Bor (List ℕ) → Result Here Refusal
along find types long zero here text = Ok here
along find types long (suc parts) here text =
    if length text.now == 0 then Ok here
    else outcome (first_part text)
    (λ p.
    let at : ℕ = long + 1 - length text.now in
    and_then (settled find types most_aliases here at) (λ next. and_then (to_part next p.part at) (λ there. along find types long parts there p.rest)))
    (λ left. Err (BadPath (long - left)))

-- of the names with which a path begins, shorter than so many bytes, the longest that a symbol has: its length, and where the symbol starts
unfoldable pub longest : Finder → List ℕ → ℕ → Result (ℕ × ℕ) Refusal
longest find path zero = Err NameNotFound
longest find path (suc end) =
    if ends (drop end path) then outcome (find (take end path)) (λ start. Ok (end, start)) (λ why. longest find path end)
    else longest find path end

-- at a symbol, nothing of whose path is gone
abbrev pub start_at : Entry → Here
start_at e = record { entry = e; offset = e.offset; bit = 0; size = e.size; left = e.arrays }

-- below a symbol, if the path goes on
unfoldable pub below : Finder → Bor (List ℕ) → ℕ → Entry → Bor (List ℕ) → Result Here Refusal
below find types long e text =
    if length text.now == 0 then Ok (start_at e)
    else if e.mark == 0 then along find types long (length text.now) (start_at e) text
    else Err (NoOffset (long + 1 - length text.now) e.mark)

-- the address, unless some of an array's dimensions have a subscript and others not
unfoldable pub told : ℕ → ℕ → Here → Result Address Refusal
told long group here =
    if nat_lt 7 (length here.left.now) && nat_lt (length here.left.now) (length here.entry.arrays.now) then Err (WrongDimensions long (dimensions here.entry))
    else Ok (record {
      group = record { 0 = group };
      offset = record { 0 = here.offset };
      bit = here.bit;
      size = here.size;
      size_in_bits = here.entry.in_bits;
      type_name = here.entry.type_name;
      place = here.entry.place;
    })

-- of the symbol that was found, with what is left of the path
unfoldable pub from_symbol : Finder → Bor (List ℕ) → Bor (List ℕ) → Bor (List ℕ) → ℕ × ℕ → Result Address Refusal
from_symbol find symbols types path found =
    and_then (below find types (length path.now) (symbol_entry symbols found.1) (after path found.0))
    (λ here. told (length path.now) (symbol_group symbols found.1) here)

abbrev pub within_limit : List ℕ → Result Unit Refusal
within_limit s = if nat_lt limit (length s) then Err (TooLarge (length s)) else Ok tt

-- 5 for the symbols, the data types and the path; then 13; then along the path
unfoldable pub binding : Finder → Finder → Bor (List ℕ) → Bor (List ℕ) → Bor (List ℕ) → Result Address Refusal
binding find_symbol find_type symbols types path =
    and_then (within_limit symbols.now) (λ u.
    and_then (within_limit types.now) (λ v.
    and_then (within_limit path.now) (λ w.
    and_then (longest find_symbol path.now (length path.now + 1)) (λ found. from_symbol find_type symbols types path found))))
