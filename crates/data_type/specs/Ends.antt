-- docs/FORMAT.md, "Modes": the end bytes of a data type that are met, in order, each with its place in the entry that has it; in whichever mode, all else is alike.
use Rattle.std.specs.Prelude.{ℕ, zero, suc, List, [], ◌++◌, leb, length, if◌then◌else◌}
use Rattle.std.specs.Borrow.{Bor}
use Rattle.le.specs.Le.{le2, le4, has}
use Rattle.part.specs.Outcome.{outcome}
use Rattle.refusal.specs.declared.Mode.TheVariants.{Present, Checked}
use Rattle.attribute.specs.declared.Attributes.{Attributes}
use Rattle.attribute.specs.Attribute as attribute
use Rattle.attribute.specs.Behind.{bytes_behind}
use Rattle.attribute.specs.Modes.{TestedFirst}
use Rattle.entry.specs.Entry.{claim_of}
use Rattle.walk.specs.Step.{parse_of}
use Rattle.part.specs.Slice.{part, after}
use Rattle.layout.specs.Layout.{guid_of}
use Rattle.field.specs.Tail.{sections_of}
use Rattle.data_type.specs.DataType.{ItemReader, taken, items_from, too_deep, item_by, type_at, type_of}
use Rattle.field.specs.Modes.{strings_end, string_bytes}
use Rattle.data_type.specs.Layout.{arrays_end, front}

-- those of the attributes of an entry, up to one that is refused, from the bytes behind its sub-items on
abbrev pub tail_met : Bor (List ℕ) → Bor (List ℕ) → List (ℕ × ℕ)
tail_met e s = let a : Attributes = (sections_of (front e) (guid_of s (has (le4 e.now 28) 0x0080)).1).0 in bytes_behind e (attribute.listed a.bytes a.count)

-- of so many sub-items, each met whole before the next, up to one that is refused
unfoldable pub items_met : (Bor (List ℕ) → List (ℕ × ℕ)) → ItemReader → Bor (List ℕ) → ℕ → List (ℕ × ℕ)
items_met met item s zero = []
items_met met item s (suc left) = met s ++ outcome (item s) (λ p. items_met met item p.1 left) (λ why. [])

-- of an entry: if its strings are there, theirs; if its array records are there, those of its sub-items; and if these are read, those of its attributes
unfoldable pub met_with : (Bor (List ℕ) → List (ℕ × ℕ)) → ItemReader → Bor (List ℕ) → List (ℕ × ℕ)
met_with met item e =
    let s : Bor (List ℕ) = after e (arrays_end e.now) in
    if leb (strings_end e.now) (length e.now) then
    string_bytes e.now
    ++ (if leb (arrays_end e.now) (length e.now) then items_met met item s (le2 e.now 40) ++ outcome (items_from item s (le2 e.now 40)) (λ items. tail_met e items.rest) (λ why. []) else [])
    else []

-- of the sub-item at the start of some bytes of its parent
abbrev pub item_met : (Bor (List ℕ) → List (ℕ × ℕ)) → Bor (List ℕ) → List (ℕ × ℕ)
item_met met s = outcome (taken s) (λ p. met p.0) (λ why. [])

-- where there may be so many levels below it
unfoldable pub met_at : ℕ → Bor (List ℕ) → List (ℕ × ℕ)
met_at zero e = met_with (λ s. []) too_deep e
met_at (suc left) e = met_with (item_met (met_at left)) (item_by (type_at Present left)) e

-- of the entry at the start of some bytes
abbrev pub end_bytes : Bor (List ℕ) → List (ℕ × ℕ)
end_bytes s = outcome (claim_of 42 s.now) (λ size. met_at 15 (part s 0 size)) (λ why. [])

abbrev pub TypesChecked : Type 0
TypesChecked = (s : Bor (List ℕ)) → TestedFirst (end_bytes s) (parse_of 42 (type_of Checked) s) (parse_of 42 (type_of Present) s)
