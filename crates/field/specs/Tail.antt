-- docs/FORMAT.md, "Field entries": what stands behind the sub-items. Entries of data types end so too.
use Rattle.std.specs.Prelude.{ℕ, ◌-◌, Bool, List, Option, Some, None, Result, Ok, Err, leb, length, if◌then◌else◌}
use Rattle.std.specs.Borrow.{Bor}
use Rattle.le.specs.Le.{le2, has}
use Rattle.part.specs.Slice.{after}
use Rattle.part.specs.Outcome.{and_then}
use Rattle.refusal.specs.EndBytes.{ended, in_mode}
use Rattle.refusal.specs.declared.Mode.{Mode}
use Rattle.refusal.specs.declared.Refusal.{Refusal}
use Rattle.layout.specs.Layout.{guid_of}
use Rattle.attribute.specs.declared.Attributes.{Attributes}
use Rattle.attribute.specs.Attribute as attribute
use Rattle.field.specs.declared.front.Front.{Front}
use Rattle.field.specs.declared.tail.Tail.{Tail}
use Rattle.field.specs.Skip.{ahead, after_items}

-- the flags that name sections
abbrev pub type_guid_flag : ℕ
type_guid_flag = 0x0080

abbrev pub copy_mask_flag : ℕ
copy_mask_flag = 0x0200

abbrev pub method_infos_flag : ℕ
method_infos_flag = 0x0800

abbrev pub attributes_flag : ℕ
attributes_flag = 0x1000

-- each section behind the GUID, and the bytes after it. One that is not flagged, or has no room, moves nothing: a byte for each byte of the value
unfoldable pub after_mask : Bor (List ℕ) → ℕ → Bool → Bor (List ℕ)
after_mask s size flagged = if flagged then ahead s size else s

-- a 2-byte count, then so many items
unfoldable pub after_methods : Bor (List ℕ) → Bool → Bor (List ℕ)
after_methods s flagged = if flagged then if leb 2 (length s.now) then after_items (after s 2) (le2 s.now 0) else s else s

-- a 2-byte count, then so many attributes; and the refusal of the one that is refused
unfoldable pub attributes_of : Bor (List ℕ) → Bool → Attributes × Option Refusal
attributes_of s flagged =
    if flagged then
    if leb 2 (length s.now) then
    (record { bytes = after s 2; count = length (attribute.listed (after s 2) (le2 s.now 0)) }, attribute.stopped (after s 2) (le2 s.now 0))
    else (record { bytes = s; count = 0 }, None)
    else (record { bytes = s; count = 0 }, None)

-- copy mask, methods and attributes
abbrev pub sections_of : Front → Bor (List ℕ) → Attributes × Option Refusal
sections_of f s =
    attributes_of (after_methods (after_mask s f.size (has f.flags.0 copy_mask_flag)) (has f.flags.0 method_infos_flag)) (has f.flags.0 attributes_flag)

-- a list that stopped at a refusal is refused
abbrev pub complete : Option Refusal → Result Unit Refusal
complete None = Ok tt
complete (Some why) = Err why

-- the end bytes of attributes that stand at the end of so many bytes
abbrev pub attribute_ends : ℕ → Attributes → List (ℕ × ℕ)
attribute_ends long a = attribute.ends a.bytes (long - length a.bytes.now) a.count

-- GUID, copy mask, methods and attributes of an entry with this front, in a mode. An attribute that is refused refuses all, after the end bytes of those before it
unfoldable pub tail_of : Mode → Front → Bor (List ℕ) → Result Tail Refusal
tail_of mode f s =
    let g : Option (List ℕ) × Bor (List ℕ) = guid_of s (has f.flags.0 type_guid_flag) in
    let a : Attributes × Option Refusal = sections_of f g.1 in
    and_then (in_mode mode (ended (attribute_ends f.length a.0))) (λ _. and_then (complete a.1) (λ _. Ok (record { guid = g.0; attributes = a.0 })))
