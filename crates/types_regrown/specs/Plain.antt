-- docs/FORMAT.md, "Data type entries": an entry with no array record and no sub-item is read as a field is: the same record or the same refusal, whatever its bytes, with no member.
use Rattle.std.proofs.Common.{ℕ, ◌≡◌, refl, sym, ap, ap₂, ◌∙◌, min, List, length, arith, Bor}
use Rattle.std.specs.Prelude.{Result, Ok, Err}
use borrow.Author.Tests.{le-ltb}
use Rattle.le.specs.Le.{le2}
use Rattle.part.specs.Slice.{part, after}
use Rattle.refusal.specs.declared.Mode.{Mode}
use Rattle.refusal.specs.declared.Refusal.{Refusal}
use Rattle.walk.specs.Mapped.{map_ok}
use Rattle.field.specs.declared.AdsFieldInfo.{AdsFieldInfo}
use Rattle.field.specs.declared.front.Front.{Front}
use Rattle.field.specs.declared.tail.Tail.{Tail}
use Rattle.field.specs.Skip.{after_items}
use Rattle.field.specs.Front.{front_of}
use Rattle.field.specs.Tail.{tail_of}
use Rattle.field.specs.Field as field
use Rattle.field.specs.Field.{behind_items, field_of}
use Rattle.data_type.specs.declared.AdsDataTypeInfo.{AdsDataTypeInfo}
use Rattle.data_type.specs.DataType.{sub_items_of, ItemReader, items_from, item_at, arrays_of, type_with, type_at}
use Rattle.field.specs.Modes.{strings_end}
use Rattle.data_type.proofs.Turns.{type_step}
use Rattle.data_type.proofs.Numbers.{heads}

-- the record of a field in an entry, with no array record and no sub-item behind the strings
abbrev pub plain : Bor (List ℕ) → AdsFieldInfo → AdsDataTypeInfo
plain e r =
    record {
      field = r;
      arrays = record { bytes = part (after e (strings_end e.now)) 0 0; count = 0 };
      sub_items = record { bytes = after (after e (strings_end e.now)) 0; count = 0 };
      member_count = 0;
    }

module _ (f : Front) (a : f.array_count ≡ 0) (c : f.sub_item_count ≡ 0) where
  no_arrays : arrays_of f ≡ Ok (record { bytes = part f.rest 0 0; count = 0 }, after f.rest 0)
  unfolding arrays_of
  no_arrays = rw a (simp (le-ltb (length f.rest.now) 0 (omega arith)))

  no_items : (item : ItemReader) (s : Bor (List ℕ)) → items_from item s f.sub_item_count ≡ Ok (record { rest = s; members = 0 })
  unfolding items_from
  no_items item s = rw c refl

  nothing_behind : behind_items f ≡ after f.rest 0
  unfolding after_items
  nothing_behind = let m : min 0 (length f.rest.now) ≡ 0 = omega arith in rw (a, c) (ap (after f.rest) m)

  plain_tail : (mode : Mode) (item : ItemReader) (e : Bor (List ℕ)) (t : Result Tail Refusal) → front_of mode e ≡ Ok f → f.rest ≡ after e (strings_end e.now)
      → tail_of mode f (after f.rest 0) ≡ t → type_with mode item e ≡ map_ok (plain e) (field_of mode e)
  unfolding type_with field_of
  plain_tail mode item e (Ok t) h r k =
      let x : type_with mode item e ≡ Ok (record { field = field.joined f t; arrays = record { bytes = part f.rest 0 0; count = 0 }; sub_items = sub_items_of f (after f.rest 0); member_count = 0 }) = simp (h, no_arrays, no_items item (after f.rest 0), k) in
      let y : map_ok (plain e) (field_of mode e) ≡ Ok (plain e (field.joined f t)) = simp (h, nothing_behind, k) in
      x ∙ ap₂ (λ (s : Bor (List ℕ)) (n : ℕ). Ok (record { field = field.joined f t; arrays = record { bytes = part s 0 0; count = 0 }; sub_items = record { bytes = after s 0; count = n }; member_count = 0 })) r c ∙ sym y
  plain_tail mode item e (Err why) h r k =
      let x : type_with mode item e ≡ Err why = simp (h, no_arrays, no_items item (after f.rest 0), k) in
      let y : map_ok (plain e) (field_of mode e) ≡ Err why = simp (h, nothing_behind, k) in
      x ∙ sym y

plain_by : (mode : Mode) (item : ItemReader) (e : Bor (List ℕ)) (f : Result Front Refusal) → front_of mode e ≡ f → le2 e.now 38 ≡ 0 → le2 e.now 40 ≡ 0 → type_with mode item e ≡ map_ok (plain e) (field_of mode e)
unfolding type_with field_of
plain_by mode item e (Ok f) h a c =
    let d = heads mode e f h in
    plain_tail f (d.arrays ∙ a) (d.items ∙ c) mode item e (tail_of mode f (after f.rest 0)) h d.rest refl
plain_by mode item e (Err why) h a c = simp h

pub plain_at : (mode : Mode) (left : ℕ) (e : Bor (List ℕ)) → le2 e.now 38 ≡ 0 → le2 e.now 40 ≡ 0 → type_at mode left e ≡ map_ok (plain e) (field_of mode e)
plain_at mode left e a c = type_step mode left e ∙ plain_by mode (item_at mode left) e (front_of mode e) refl a c
