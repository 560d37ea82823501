-- docs/FORMAT.md, "Data type entries": the members of an entry, parents before children.
use Rattle.std.specs.Prelude.{ℕ, zero, suc, ◌+◌, ◌-◌, List, [], ◌∷◌, ◌++◌, replicate, set, ok_or, slice_get, Result, Ok, ltb, length, get_or, if◌then◌else◌}
use Rattle.std.specs.Borrow.{Bor}
use Rattle.part.specs.Outcome.{outcome, and_then}
use Rattle.refusal.specs.declared.Mode.TheVariants.{Present}
use Rattle.refusal.specs.declared.Refusal.{Refusal}
use Rattle.refusal.specs.declared.Refusal.TheVariants.{NoSuchNumber}
use Rattle.field.specs.Front.{front_of}
use Rattle.data_type.specs.declared.members.Position.{Position}
use Rattle.data_type.specs.declared.members.SubItem.{SubItem}
use Rattle.data_type.specs.declared.members.Member.{Member}
use Rattle.data_type.specs.declared.AdsDataTypeInfo.{AdsDataTypeInfo}
use Rattle.data_type.specs.DataType.{taken, arrays_of, sub_items_of, levels}

abbrev pub root : Position
root = record { path = replicate 15 0; depth = 1; offset = 0 }

-- a sub-item's, by its place in the root and its offset in its parent. Below the deepest level there is none
unfoldable pub below : Position → ℕ → ℕ → Position
below p place offset =
    if ltb p.depth 16 then record { path = set p.path (p.depth - 1) place; depth = p.depth + 1; offset = p.offset + offset } else p

-- the last place of a path
abbrev pub place_of : Position → ℕ
place_of p = get_or p.path (p.depth - 2) 0

-- the sub-item at the start of some bytes of its parent, by its front and its array records alone
unfoldable pub item_in : Bor (List ℕ) → Result SubItem Refusal
item_in s =
    and_then (taken s) (λ p.
    and_then (front_of Present p.0) (λ f.
    and_then (arrays_of f) (λ a. Ok (record { own = p.0; offset = f.offset; sub_items = sub_items_of f a.1; behind = p.1 }))))

-- so many sub-items, where the bytes that they stand in end at a place, by what one at a place brings
unfoldable pub each : (ℕ → SubItem → List Member) → ℕ → Bor (List ℕ) → ℕ → List Member
each brings end s zero = []
each brings end s (suc left) = outcome (item_in s) (λ item. brings (end - length s.now) item ++ each brings end item.behind left) (λ why. [])

-- so many sub-items of what stands at a position, each before its own, to so many levels below
unfoldable pub members_below : ℕ → Position → ℕ → Bor (List ℕ) → ℕ → List Member
members_below zero above end s count = []
members_below (suc left) above end s count =
    each
    (λ place item.
    let p : Position = below above place item.offset in
    record { position = p; own = item.own } ∷ members_below left p (place + length item.own.now) item.sub_items.bytes item.sub_items.count)
    end s count

-- of a record
abbrev pub members_of : AdsDataTypeInfo → List Member
members_of r = members_below levels root r.field.length r.sub_items.bytes r.sub_items.count

-- the one with a number, counted from 0
abbrev pub numbered : AdsDataTypeInfo → ℕ → Result Member Refusal
numbered r number = ok_or (slice_get (members_of r) number) (NoSuchNumber r.member_count number)
