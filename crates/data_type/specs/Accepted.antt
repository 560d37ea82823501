-- docs/FORMAT.md, "Data type entries": what an entry that was read passed.
use Rattle.std.proofs.Common.{ℕ, ◌≡◌, List, length, arith, Bor}
use Rattle.std.specs.Prelude.{Ok}
use Rattle.part.proofs.Outcome.{both_passed}
use Rattle.refusal.specs.declared.Mode.{Mode}
use Rattle.field.specs.declared.front.Front.{Front}
use Rattle.field.specs.declared.tail.Tail.{Tail}
use Rattle.field.specs.Front.{with_strings, front_of}
use Rattle.field.specs.Tail.{tail_of}
use Rattle.field.specs.Field.{joined}
use Rattle.data_type.specs.declared.AdsDataTypeInfo.{AdsDataTypeInfo}
use Rattle.data_type.specs.declared.array.ArrayInfos.{ArrayInfos}
use Rattle.data_type.specs.declared.reader.SubItemsRead.{SubItemsRead}
use Rattle.data_type.specs.DataType.{ItemReader, items_from, arrays_of, sub_items_of, type_with}

pub front_long : (mode : Mode) (e : Bor (List ℕ)) (f : Front) → front_of mode e ≡ Ok f → f.length ≡ length e.now
unfolding front_of with_strings
front_long mode e f h = grind arith

-- what an entry passed, by what its sub-items are read as
pub record Accepted (mode : Mode) (item : ItemReader) (e : Bor (List ℕ)) (r : AdsDataTypeInfo) : Type 0 where
  pub front : Front
  pub arrays : ArrayInfos
  pub first : Bor (List ℕ)
  pub items : SubItemsRead
  pub tail : Tail
  pub front_is : front_of mode e ≡ Ok front
  pub arrays_are : arrays_of front ≡ Ok (arrays, first)
  pub items_are : items_from item first front.sub_item_count ≡ Ok items
  pub tail_is : tail_of mode front items.rest ≡ Ok tail
  pub is : record { field = joined front tail; arrays = arrays; sub_items = sub_items_of front first; member_count = items.members } ≡ r

pub accepted : (mode : Mode) (item : ItemReader) (e : Bor (List ℕ)) (r : AdsDataTypeInfo) → type_with mode item e ≡ Ok r → Accepted mode item e r
unfolding type_with
accepted mode item e r h =
    let f = both_passed (front_of mode e) h in
    let a = both_passed (arrays_of f.0) f.1.1 in
    let i = both_passed (items_from item a.0.1 f.0.sub_item_count) a.1.1 in
    let t = both_passed (tail_of mode f.0 i.0.rest) i.1.1 in
    record {
      front = f.0;
      arrays = a.0.0;
      first = a.0.1;
      items = i.0;
      tail = t.0;
      front_is = f.1.0;
      arrays_are = a.1.0;
      items_are = i.1.0;
      tail_is = t.1.0;
      is = cc t.1.1;
    }
