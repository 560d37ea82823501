-- docs/FORMAT.md, "Binding", "Symbol entries" and "Field entries": what an entry tells on the way along a path, by its bytes, wherever they end.
use Rattle.std.specs.Prelude.{ℕ, ◌+◌, ◌-◌, ◌*◌, min, false, List, length, if◌then◌else◌}
use Rattle.std.specs.Borrow.{Bor}
use Rattle.le.specs.Le.{le2, le4, has}
use Rattle.part.specs.Slice.{part, after}
use Rattle.bind.specs.declared.reading.Place.TheVariants.{Symbol, DataType}
use Rattle.bind.specs.declared.reading.Entry.{Entry}

-- the bytes behind so many, or none; and so many, or as many as there are
abbrev pub behind : Bor (List ℕ) → ℕ → Bor (List ℕ)
behind s n = after s (min n (length s.now))

abbrev pub front : Bor (List ℕ) → ℕ → Bor (List ℕ)
front s n = part s 0 n

-- the bytes of the entry at the start of some, by its claim
abbrev pub own_of : Bor (List ℕ) → Bor (List ℕ)
own_of s = front s (le4 s.now 0)

-- why a symbol lends nothing below it its offset: 2, it is a bit, or 4, a reference
abbrev pub symbol_mark : ℕ → ℕ
symbol_mark flags = if has flags 0x2 then 0x2 else if has flags 0x4 then 0x4 else 0

-- why a data type, or a member, has no offset: 4 a reference, 0x40 a property, 0x20000 static
abbrev pub type_mark : ℕ → ℕ
type_mark flags = if has flags 0x4 then 0x4 else if has flags 0x40 then 0x40 else if has flags 0x20000 then 0x20000 else 0

-- why no data type takes the place of a data type, or of a member: 0x400 a pointer to an interface, 0x800000 another pointer
abbrev pub pointer_mark : ℕ → ℕ
pointer_mark flags = if has flags 0x400 then 0x400 else if has flags 0x800000 then 0x800000 else 0

-- a symbol at a place of its upload
unfoldable pub symbol_entry : Bor (List ℕ) → ℕ → Entry
symbol_entry s at =
    let own : Bor (List ℕ) = own_of (behind s at) in
    record {
      place = Symbol at;
      offset = le4 own.now 8;
      size = le4 own.now 12;
      in_bits = false;
      mark = symbol_mark (le2 own.now 20);
      pointer = 0;
      type_name = front (behind own (31 + le2 own.now 24)) (le2 own.now 26);
      arrays = front own 0;
      items = record { bytes = front own 0; count = 0 };
      end = 0;
    }

-- its index group
abbrev pub symbol_group : Bor (List ℕ) → ℕ → ℕ
symbol_group s at = le4 (own_of (behind s at)).now 4

-- where the strings of a data type, or of a member, end with their end bytes
abbrev pub strings_end : List ℕ → ℕ
strings_end own = 45 + le2 own 32 + le2 own 34 + le2 own 36

-- a data type, or a member, at the start of some bytes, which end at a place of its upload
unfoldable pub type_entry : Bor (List ℕ) → ℕ → Entry
type_entry s end =
    let own : Bor (List ℕ) = own_of s in
    record {
      place = DataType (end - length s.now);
      offset = le4 own.now 20;
      size = le4 own.now 16;
      in_bits = has (le4 own.now 28) 0x20;
      mark = type_mark (le4 own.now 28);
      pointer = pointer_mark (le4 own.now 28);
      type_name = front (behind own (43 + le2 own.now 32)) (le2 own.now 34);
      arrays = front (behind own (strings_end own.now)) (8 * le2 own.now 38);
      items = record { bytes = behind own (strings_end own.now + 8 * le2 own.now 38); count = le2 own.now 40 };
      end = end - length (behind s (le4 s.now 0)).now;
    }

-- the name of the data type, or of the member, at the start of some bytes
abbrev pub name_of : Bor (List ℕ) → Bor (List ℕ)
name_of s = front (behind s 42) (le2 s.now 32)
