-- What the reader of an entry comes to, by what each of its steps came to.
use Rattle.std.proofs.Common.{ℕ, ◌+◌, ◌≤◌, ◌≡◌, ◌∙◌, List, length, arith, Bor, length-drop}
use Rattle.std.specs.Prelude.{Ok, Err}
use Rattle.refusal.specs.declared.Mode.{Mode}
use Rattle.refusal.specs.declared.Refusal.{Refusal}
use Rattle.field.specs.declared.front.Front.{Front}
use Rattle.field.specs.declared.tail.Tail.{Tail}
use Rattle.field.specs.Front.{with_strings, front_of}
use Rattle.field.specs.Tail.{tail_of}
use Rattle.data_type.specs.declared.array.ArrayInfos.{ArrayInfos}
use Rattle.data_type.specs.declared.reader.SubItemsRead.{SubItemsRead}
use Rattle.field.specs.Field.{joined}
use Rattle.data_type.specs.DataType.{items_from, item_at, arrays_of, sub_items_of, type_with, type_at}
use Rattle.data_type.proofs.Turns.{type_step}

-- of a front that was read: its length, and that the header and three end bytes stand before the rest
pub record Fits (e : List ℕ) (f : Front) : Type 0 where
  pub long : f.length ≡ length e
  pub rest : 45 + length f.rest.now ≤ length e

pub fits : (mode : Mode) (e : Bor (List ℕ)) (f : Front) → front_of mode e ≡ Ok f → Fits e.now f
unfolding front_of with_strings
fits mode e f h = grind (arith, length-drop)

pub arrays_fit : (f : Front) (a : ArrayInfos × Bor (List ℕ)) → arrays_of f ≡ Ok a → length a.1.now ≤ length f.rest.now
unfolding arrays_of
arrays_fit f a h = grind (arith, length-drop)

module _ (mode : Mode) (left : ℕ) (e : Bor (List ℕ)) where
  pub front_refused : (why : Refusal) → front_of mode e ≡ Err why → type_at mode left e ≡ Err why
  unfolding type_with
  front_refused why h = type_step mode left e ∙ simp h

  module _ (f : Front) (h : front_of mode e ≡ Ok f) where
    pub arrays_refused : (why : Refusal) → arrays_of f ≡ Err why → type_at mode left e ≡ Err why
    unfolding type_with
    arrays_refused why k = type_step mode left e ∙ simp (h, k)

    module _ (a : ArrayInfos × Bor (List ℕ)) (k : arrays_of f ≡ Ok a) where
      pub items_refused : (why : Refusal) → items_from (item_at mode left) a.1 f.sub_item_count ≡ Err why → type_at mode left e ≡ Err why
      unfolding type_with
      items_refused why i = type_step mode left e ∙ simp (h, k, i)

      module _ (items : SubItemsRead) (i : items_from (item_at mode left) a.1 f.sub_item_count ≡ Ok items) where
        pub tail_refused : (why : Refusal) → tail_of mode f items.rest ≡ Err why → type_at mode left e ≡ Err why
        unfolding type_with
        tail_refused why l = type_step mode left e ∙ simp (h, k, i, l)

        pub is_read : (t : Tail) → tail_of mode f items.rest ≡ Ok t → type_at mode left e ≡ Ok (record { field = joined f t; arrays = a.0; sub_items = sub_items_of f a.1; member_count = items.members })
        unfolding type_with
        is_read t l = type_step mode left e ∙ simp (h, k, i, l)
