-- docs/FORMAT.md, "Data type entries": a front, array records, sub-items, which are entries of the same layout, and a tail.
use Rattle.std.specs.Prelude.{ℕ, zero, suc, ◌+◌, ◌-◌, ◌*◌, ◌<◌, ◌≤◌, List, Result, Ok, Err, ltb, length, if◌then◌else◌}
use Rattle.std.specs.Borrow.{Bor}
use Rattle.le.specs.Le.{le4}
use Rattle.part.specs.Slice.{part, after}
use Rattle.part.specs.Outcome.{and_then}
use Rattle.refusal.specs.Refusal.{deepest}
use Rattle.refusal.specs.declared.Mode.{Mode}
use Rattle.refusal.specs.declared.Refusal.{Refusal}
use Rattle.refusal.specs.declared.Refusal.TheVariants.{TooShort, EntryLengthMismatch, ClaimBelowHeader, TooDeep}
use Rattle.field.specs.declared.front.Front.{Front}
use Rattle.field.specs.Front.{front_of}
use Rattle.field.specs.Tail.{tail_of}
use Rattle.field.specs.Field.{joined}
use Rattle.data_type.specs.declared.AdsDataTypeInfo.{AdsDataTypeInfo}
use Rattle.data_type.specs.declared.SubItems.{SubItems}
use Rattle.data_type.specs.declared.array.ArrayInfos.{ArrayInfos}
use Rattle.data_type.specs.declared.reader.SubItemsRead.{SubItemsRead}

-- the own bytes of the sub-item at the start of some bytes of its parent, and the bytes behind it: 2 for fewer than 4 bytes, 3 for a claim that leaves
-- the parent, 4 for one below the header
unfoldable pub taken : Bor (List ℕ) → Result (Bor (List ℕ) × Bor (List ℕ)) Refusal
taken s =
    if ltb (length s.now) 4 then Err (TooShort 4 (length s.now))
    else if ltb (length s.now) (le4 s.now 0) then Err (EntryLengthMismatch (le4 s.now 0) (length s.now))
    else if ltb (le4 s.now 0) 42 then Err (ClaimBelowHeader 42 (le4 s.now 0))
    else Ok (part s 0 (le4 s.now 0), after s (le4 s.now 0))

-- with what a sub-item is read as, at the start of some bytes, and the bytes behind it
abbrev pub ItemReader : Type 0
ItemReader = Bor (List ℕ) → Result (AdsDataTypeInfo × Bor (List ℕ)) Refusal

-- so many sub-items, each read whole before the next, which stands behind it. Each is a member, and brings its own
unfoldable pub items_from : ItemReader → Bor (List ℕ) → ℕ → Result SubItemsRead Refusal
items_from item s zero = Ok (record { rest = s; members = 0 })
items_from item s (suc left) =
    and_then (item s) (λ p. and_then (items_from item p.1 left) (λ more. Ok (record { rest = more.rest; members = 1 + p.0.member_count + more.members })))

-- the array records behind a front, 8 bytes each, as many as the header says, and the bytes behind them: 3 where they do not fit
unfoldable pub arrays_of : Front → Result (ArrayInfos × Bor (List ℕ)) Refusal
arrays_of f =
    if ltb (length f.rest.now) (8 * f.array_count) then Err (EntryLengthMismatch (f.length - length f.rest.now + 8 * f.array_count) f.length)
    else Ok (record { bytes = part f.rest 0 (8 * f.array_count); count = f.array_count }, after f.rest (8 * f.array_count))

abbrev pub sub_items_of : Front → Bor (List ℕ) → SubItems
sub_items_of f first = record { bytes = first; count = f.sub_item_count }

-- an entry's own bytes, by what its sub-items are read as
unfoldable pub type_with : Mode → ItemReader → Bor (List ℕ) → Result AdsDataTypeInfo Refusal
type_with mode item e =
    and_then (front_of mode e) (λ f.
    and_then (arrays_of f) (λ a.
    and_then (items_from item a.1 f.sub_item_count) (λ items.
    and_then (tail_of mode f items.rest) (λ t. Ok (record { field = joined f t; arrays = a.0; sub_items = sub_items_of f a.1; member_count = items.members })))))

-- a sub-item at the deepest level is refused before anything of it is looked at
abbrev pub too_deep : ItemReader
too_deep s = Err TooDeep

-- another is read as an entry
abbrev pub item_by : (Bor (List ℕ) → Result AdsDataTypeInfo Refusal) → ItemReader
item_by entry s = and_then (taken s) (λ p. and_then (entry p.0) (λ info. Ok (info, p.1)))

-- where there may be so many levels below it
unfoldable pub type_at : Mode → ℕ → Bor (List ℕ) → Result AdsDataTypeInfo Refusal
type_at mode zero e = type_with mode too_deep e
type_at mode (suc left) e = type_with mode (item_by (type_at mode left)) e

-- the levels below the root, which stands at depth 1
abbrev pub levels : ℕ
levels = deepest - 1

-- of an entry's own bytes, in a mode
abbrev pub type_of : Mode → Bor (List ℕ) → Result AdsDataTypeInfo Refusal
type_of mode e = type_at mode levels e

-- what is read as a sub-item, where there may be so many levels below its parent
unfoldable pub item_at : Mode → ℕ → ItemReader
item_at mode zero s = too_deep s
item_at mode (suc left) s = item_by (type_at mode left) s

-- fewer members than bytes
abbrev pub SomeMembers : List ℕ → AdsDataTypeInfo → Type 0
SomeMembers e r = r.member_count < length e

-- and no more than bytes before what is left
abbrev pub SomeItems : List ℕ → SubItemsRead → Type 0
SomeItems s items = items.members + length items.rest.now ≤ length s
