-- What the reader of data types accepts the field reader accepts.
use Rattle.std.proofs.Common.{ℕ, zero, suc, ◌-◌, ◌*◌, ◌≤◌, ◌≡◌, sym, ap, ◌∙◌, min, List, length, arith, Bor}
use Rattle.std.specs.Prelude.{Ok}
use Rattle.le.specs.Le.{le4}
use Rattle.part.specs.Slice.{after}
use Rattle.refusal.specs.declared.Mode.{Mode}
use Rattle.field.specs.declared.front.Front.{Front}
use Rattle.field.specs.Skip.{ahead, after_items}
use Rattle.field.specs.Field.{behind_items, field_of}
use Rattle.field.proofs.Items.{items_step}
use Rattle.data_type.specs.declared.AdsDataTypeInfo.{AdsDataTypeInfo}
use Rattle.data_type.specs.declared.array.ArrayInfos.{ArrayInfos}
use Rattle.data_type.specs.declared.reader.SubItemsRead.{SubItemsRead}
use Rattle.data_type.specs.DataType.{taken, items_from, item_at, arrays_of, type_at, type_of}
use Rattle.data_type.specs.Theorems.{TypesAsFields}
use Rattle.data_type.proofs.Inside.{turn, accepted_at}
use Rattle.data_type.proofs.Parsed.{parsed}

record Behind (s behind : Bor (List ℕ)) : Type 0 where
  four : 4 ≤ length s.now
  room : le4 s.now 0 ≤ length s.now
  is : behind ≡ after s (le4 s.now 0)

behind_taken : (s own behind : Bor (List ℕ)) → taken s ≡ Ok (own, behind) → Behind s behind
unfolding taken
behind_taken s own behind h = record { four = grind arith; room = grind arith; is = grind arith }

passed_over : (s behind : Bor (List ℕ)) → Behind s behind → ahead s (le4 s.now 0) ≡ behind
passed_over s behind b = let room = b.room in let m : min (le4 s.now 0) (length s.now) ≡ le4 s.now 0 = omega arith in ap (after s) m ∙ sym b.is

-- sub-items that were read are passed over to the same place
pub skipped : (mode : Mode) (left n : ℕ) (s : Bor (List ℕ)) (items : SubItemsRead) → items_from (item_at mode left) s n ≡ Ok items → after_items s n ≡ items.rest
unfolding items_from after_items
skipped mode left zero s items h = let e : record { rest = s; members = 0 } ≡ items = cc h in ap (λ (x : SubItemsRead). x.rest) e
skipped mode left (suc n) s items h =
    let t = turn mode left s n items h in
    let b = behind_taken s t.own t.behind t.takes in
    let z : suc n - 1 ≡ n = omega arith in
    items_step s (suc n) b.four (omega arith) ∙ ap (after_items (ahead s (le4 s.now 0))) z ∙ ap (λ (x : Bor (List ℕ)). after_items x n) (passed_over s t.behind b) ∙ skipped mode left n t.behind t.more t.rest ∙ ap (λ (x : SubItemsRead). x.rest) t.is

pub arrays_skipped : (f : Front) (a : ArrayInfos × Bor (List ℕ)) → arrays_of f ≡ Ok a → ahead f.rest (8 * f.array_count) ≡ a.1
unfolding arrays_of
arrays_skipped f a h =
    let room : 8 * f.array_count ≤ length f.rest.now = grind arith in
    let m : min (8 * f.array_count) (length f.rest.now) ≡ 8 * f.array_count = omega arith in
    let is : after f.rest (8 * f.array_count) ≡ a.1 = grind arith in
    ap (after f.rest) m ∙ is

pub entry_as_field : (mode : Mode) (left : ℕ) (e : Bor (List ℕ)) (r : AdsDataTypeInfo) → type_at mode left e ≡ Ok r → field_of mode e ≡ Ok r.field
unfolding field_of
entry_as_field mode left e r h =
    let a = accepted_at mode left e r h in
    let s : behind_items a.front ≡ a.items.rest = ap (λ (x : Bor (List ℕ)). after_items x a.front.sub_item_count) (arrays_skipped a.front (a.arrays, a.first) a.arrays_are) ∙ skipped mode left a.front.sub_item_count a.first a.items a.items_are in
    simp (a.front_is, s, a.tail_is) (ap (λ (x : AdsDataTypeInfo). Ok x.field) a.is)

pub types_as_fields : TypesAsFields
types_as_fields mode s r h = let p = parsed (type_of mode) s r h in simp p.claims (entry_as_field mode 15 _ r p.entry)
