-- docs/FORMAT.md, "Field entries": a front, array records of 8 bytes, sub-items, and a tail.
use Rattle.std.specs.Prelude.{ℕ, ◌*◌, List, Result, Ok}
use Rattle.std.specs.Borrow.{Bor}
use Rattle.part.specs.Outcome.{and_then}
use Rattle.refusal.specs.declared.Mode.{Mode}
use Rattle.refusal.specs.declared.Refusal.{Refusal}
use Rattle.field.specs.declared.front.Front.{Front}
use Rattle.field.specs.declared.tail.Tail.{Tail}
use Rattle.field.specs.declared.AdsFieldInfo.{AdsFieldInfo}
use Rattle.field.specs.Skip.{ahead, after_items}
use Rattle.field.specs.Front.{front_of}
use Rattle.field.specs.Tail.{tail_of}

-- the record of a front and a tail
abbrev pub joined : Front → Tail → AdsFieldInfo
joined f t =
    record {
      length = f.length;
      version = f.version;
      hash_value = f.hash_value;
      type_hash_value = f.type_hash_value;
      size = f.size;
      offset = f.offset;
      type_id = f.type_id;
      flags = f.flags;
      name = f.name;
      type_name = f.type_name;
      comment = f.comment;
      guid = t.guid;
      attributes = t.attributes;
    }

-- a field's array records and sub-items are passed over
abbrev pub behind_items : Front → Bor (List ℕ)
behind_items f = after_items (ahead f.rest (8 * f.array_count)) f.sub_item_count

-- of an entry's own bytes, in a mode
unfoldable pub field_of : Mode → Bor (List ℕ) → Result AdsFieldInfo Refusal
field_of mode e = and_then (front_of mode e) (λ f. and_then (tail_of mode f (behind_items f)) (λ t. Ok (joined f t)))
