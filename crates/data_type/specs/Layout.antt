-- docs/FORMAT.md, "Data type entries": what stands where in the bytes of an entry, by the numbers of its header.
use Rattle.std.specs.Prelude.{ℕ, ◌+◌, ◌*◌, ◌≤◌, ◌≡◌, List, length}
use Rattle.std.specs.Borrow.{Bor}
use Rattle.le.specs.Le.{le2, le4}
use Rattle.part.specs.Slice.{part, after}
use Rattle.refusal.specs.EndsMeant.{AllZero}
use Rattle.refusal.specs.declared.Mode.{Mode}
use Rattle.refusal.specs.declared.Mode.TheVariants.{Checked}
use Rattle.field.specs.declared.front.Front.{Front}
use Rattle.field.specs.declared.tail.Tail.{Tail}
use Rattle.field.specs.Front.{with_strings}
use Rattle.field.specs.Modes.{strings_end, string_bytes}
use Rattle.data_type.specs.declared.AdsDataTypeInfo.{AdsDataTypeInfo}

-- where the array records behind the strings end, 8 bytes each
abbrev pub arrays_end : List ℕ → ℕ
arrays_end s = strings_end s + 8 * le2 s 38

-- the strings are there, and in the checked mode each ends in 0
pub record HasStrings (mode : Mode) (e : Bor (List ℕ)) : Type 0 where
  pub room : strings_end e.now ≤ length e.now
  pub ended : mode ≡ Checked → AllZero (string_bytes e.now)

-- what the field reader makes of the header and the strings
abbrev pub front : Bor (List ℕ) → Front
front e = with_strings e (le2 e.now 32) (le2 e.now 34) (le2 e.now 36)

-- the record of an entry with these sections behind its sub-items, and so many members
abbrev pub record_of : Bor (List ℕ) → Tail → ℕ → AdsDataTypeInfo
record_of e tail members =
    record {
      field = record {
        length = length e.now;
        version = le4 e.now 4;
        hash_value = le4 e.now 8;
        type_hash_value = le4 e.now 12;
        size = le4 e.now 16;
        offset = le4 e.now 20;
        type_id = le4 e.now 24;
        flags = record { 0 = le4 e.now 28 };
        name = part e 42 (le2 e.now 32);
        type_name = part e (43 + le2 e.now 32) (le2 e.now 34);
        comment = part e (44 + le2 e.now 32 + le2 e.now 34) (le2 e.now 36);
        guid = tail.guid;
        attributes = tail.attributes;
      };
      arrays = record { bytes = part e (strings_end e.now) (8 * le2 e.now 38); count = le2 e.now 38 };
      sub_items = record { bytes = after e (arrays_end e.now); count = le2 e.now 40 };
      member_count = members;
    }
