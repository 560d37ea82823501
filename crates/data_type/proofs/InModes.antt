-- The two modes, by the end bytes that are met: proved.
use Rattle.std.proofs.Common.{ℕ, zero, suc, ◌+◌, ◌-◌, ◌*◌, ◌≡◌, refl, sym, ap, subst, ◌∙◌, List, [], ◌++◌, length, arith, Bor, length-drop}
use Rattle.std.specs.Prelude.{Bool, true, false, ltb, leb, if◌then◌else◌, Result, Ok, Err}
use borrow.Author.Tests.{le-ltb, lt-ltb, leb-true, leb-false}
use Rattle.le.specs.Le.{le2, le4, has}
use Rattle.part.specs.Slice.{part, after}
use Rattle.part.specs.Outcome.{outcome, and_then}
use Rattle.refusal.specs.EndBytes.{ended, in_mode}
use Rattle.refusal.specs.declared.Mode.{Mode}
use Rattle.refusal.specs.declared.Mode.TheVariants.{Present, Checked}
use Rattle.refusal.specs.declared.Refusal.{Refusal}
use Rattle.refusal.specs.declared.Refusal.TheVariants.{TooShort, EntryLengthMismatch}
use Rattle.entry.specs.Entry.{claim_of}
use Rattle.walk.specs.Step.{parse_of}
use Rattle.field.specs.declared.front.Front.{Front}
use Rattle.field.specs.Front.{with_strings, front_of}
use Rattle.field.specs.Tail.{tail_of}
use Rattle.attribute.proofs.Behind.{ended_both}
use Rattle.attribute.proofs.Modes.{tested_first}
use Rattle.data_type.specs.declared.AdsDataTypeInfo.{AdsDataTypeInfo}
use Rattle.data_type.specs.declared.array.ArrayInfos.{ArrayInfos}
use Rattle.part.proofs.Outcome.{both_passed}
use Rattle.data_type.specs.declared.reader.SubItemsRead.{SubItemsRead}
use Rattle.field.specs.Field.{joined}
use Rattle.data_type.specs.DataType.{ItemReader, sub_items_of, taken, items_from, arrays_of, type_with, too_deep, item_by, type_at, type_of}
use Rattle.field.specs.Modes.{strings_end, string_bytes}
use Rattle.data_type.specs.Layout.{arrays_end, HasStrings, front}
use Rattle.data_type.specs.Ends.{tail_met, items_met, met_with, item_met, met_at, end_bytes, TypesChecked}
use Rattle.part.specs.End.{IsEnd}
use Rattle.part.proofs.Slice.{after_after, is_end, end_after}
use Rattle.data_type.proofs.Numbers.{heads, fills}
use Rattle.data_type.proofs.Fronts.{front_there, front_was}
use Rattle.data_type.proofs.Stands.{took}
use Rattle.data_type.proofs.Behind.{end_rest, tail_bytes}

-- an answer of the checked mode is that of the present mode after a look at these end bytes
abbrev Met : {A : Type 0} → Result A Refusal → List (ℕ × ℕ) → Result A Refusal → Type 0
Met checked ends present = checked ≡ and_then (ended ends) (λ _. present)

nothing_met : {A : Type 0} (p : Result A Refusal) → Met p [] p
unfolding ended
nothing_met p = refl

-- the end bytes of the first and, where that is read, of the next
then_by : {A B : Type 0} (t : Result Unit Refusal) (p : Result A Refusal) (checked present : A → Result B Refusal) (ys : A → List (ℕ × ℕ)) → ((a : A) → p ≡ Ok a → Met (checked a) (ys a) (present a))
    → and_then (and_then t (λ _. p)) checked ≡ and_then (and_then t (λ _. ended (outcome p ys (λ why. [])))) (λ _. and_then p present)
unfolding ended
then_by (Ok u) (Ok a) checked present ys h = h a refl
then_by (Ok u) (Err why) checked present ys h = refl
then_by (Err why) p checked present ys h = refl

then_met : {A B : Type 0} (c p : Result A Refusal) (xs : List (ℕ × ℕ)) (checked present : A → Result B Refusal) (ys : A → List (ℕ × ℕ)) → Met c xs p → ((a : A) → p ≡ Ok a → Met (checked a) (ys a) (present a))
    → Met (and_then c checked) (xs ++ outcome p ys (λ why. [])) (and_then p present)
then_met c p xs checked present ys h k =
    ap (λ (r : Result _ Refusal). and_then r checked) h ∙ then_by (ended xs) p checked present ys k ∙ ap (λ (t : Result Unit Refusal). and_then t (λ _. and_then p present)) (sym (ended_both xs (outcome p ys (λ why. []))))

then_free : {A B : Type 0} (p : Result A Refusal) (checked present : A → Result B Refusal) (ys : A → List (ℕ × ℕ)) → ((a : A) → p ≡ Ok a → Met (checked a) (ys a) (present a))
    → Met (and_then p checked) (outcome p ys (λ why. [])) (and_then p present)
unfolding ended
then_free (Ok a) checked present ys h = h a refl
then_free (Err why) checked present ys h = refl

mapped_by : {A B : Type 0} (t : Result Unit Refusal) (p : Result A Refusal) (g : A → B) → and_then (and_then t (λ _. p)) (λ a. Ok (g a)) ≡ and_then t (λ _. and_then p (λ a. Ok (g a)))
mapped_by (Ok u) p g = refl
mapped_by (Err why) p g = refl

mapped : {A B : Type 0} (c p : Result A Refusal) (xs : List (ℕ × ℕ)) (g : A → B) → Met c xs p → Met (and_then c (λ a. Ok (g a))) xs (and_then p (λ a. Ok (g a)))
mapped c p xs g h = ap (λ (r : Result _ Refusal). and_then r (λ a. Ok (g a))) h ∙ mapped_by (ended xs) p g

-- the strings of a front, by the two tests of its length
module _ (e : Bor (List ℕ)) where
  abbrev strings : List (ℕ × ℕ)
  strings = string_bytes e.now

  abbrev front_in : Mode → Bool → Bool → Result Front Refusal
  front_in mode b c =
      if b then Err (TooShort 42 (length e.now))
      else if c then Err (EntryLengthMismatch (45 + le2 e.now 32 + le2 e.now 34 + le2 e.now 36) (length e.now))
      else and_then (in_mode mode (ended strings)) (λ _. Ok (with_strings e (le2 e.now 32) (le2 e.now 34) (le2 e.now 36)))

  front_by : (b c : Bool) → Met (front_in Checked b c) (outcome (front_in Present b c) (λ f. strings) (λ why. [])) (front_in Present b c)
  unfolding ended
  front_by true c = refl
  front_by false true = refl
  front_by false false = refl

  front_met : Met (front_of Checked e) (outcome (front_of Present e) (λ f. strings) (λ why. [])) (front_of Present e)
  unfolding front_of
  front_met = front_by (ltb (length e.now) 42) (ltb (length e.now) (45 + le2 e.now 32 + le2 e.now 34 + le2 e.now 36))

front_then : {A : Type 0} (p : Result A Refusal) (xs : List (ℕ × ℕ)) (ys : A → List (ℕ × ℕ)) → outcome p (λ a. xs) (λ why. []) ++ outcome p ys (λ why. []) ≡ outcome p (λ a. xs ++ ys a) (λ why. [])
front_then (Ok a) xs ys = refl
front_then (Err why) xs ys = refl

tail_is_met : (e : Bor (List ℕ)) (s : Bor (List ℕ)) → IsEnd e s → Met (tail_of Checked (front e) s) (tail_met e s) (tail_of Present (front e) s)
unfolding tail_of with_strings
tail_is_met e s i = ap (λ (xs : List (ℕ × ℕ)). and_then (ended xs) (λ _. tail_of Present (front e) s)) (tail_bytes e (front e) s (has (le4 e.now 28) 0x0080) refl i)

end_first : (e : Bor (List ℕ)) (f : Front) (a : ArrayInfos × Bor (List ℕ)) → HasStrings Present e × (front e ≡ f) → front_of Present e ≡ Ok f → arrays_of f ≡ Ok a → IsEnd e a.1
end_first e f a w g h =
    let d = heads Present e f g in
    let k = fills f a h in
    let r : IsEnd e f.rest = is_end e f.rest (strings_end e.now) d.room d.rest in
    subst (IsEnd e) (sym k.first) (end_after (8 * f.array_count) k.room r)

module _ (met : Bor (List ℕ) → List (ℕ × ℕ)) (checked present : ItemReader) (each : (s : Bor (List ℕ)) → Met (checked s) (met s) (present s))
    (leaves : (e s : Bor (List ℕ)) (p : AdsDataTypeInfo × Bor (List ℕ)) → present s ≡ Ok p → IsEnd e s → IsEnd e p.1) where
  items_are_met : (left : ℕ) (s : Bor (List ℕ)) → Met (items_from checked s left) (items_met met present s left) (items_from present s left)
  unfolding items_from items_met
  items_are_met zero s = nothing_met (Ok (record { rest = s; members = 0 }))
  items_are_met (suc left) s =
      then_met (checked s) (present s) (met s) _ _ (λ p. items_met met present p.1 left) (each s)
      (λ p q. mapped (items_from checked p.1 left) (items_from present p.1 left) (items_met met present p.1 left) (λ more. record { rest = more.rest; members = 1 + p.0.member_count + more.members }) (items_are_met left p.1))

  module _ (e : Bor (List ℕ)) where
    -- those behind the strings, and behind the array records, of what the reader takes these to be
    abbrev behind_arrays : Bor (List ℕ) → ℕ → List (ℕ × ℕ)
    behind_arrays s n = items_met met present s n ++ outcome (items_from present s n) (λ items. tail_met e items.rest) (λ why. [])

    abbrev behind_strings : Front → List (ℕ × ℕ)
    behind_strings f = outcome (arrays_of f) (λ a. behind_arrays a.1 f.sub_item_count) (λ why. [])

    read_met : Met (type_with Checked checked e) (outcome (front_of Present e) (λ f. string_bytes e.now ++ behind_strings f) (λ why. [])) (type_with Present present e)
    unfolding type_with
    read_met =
        then_met (front_of Checked e) (front_of Present e) _ _ _ behind_strings (front_met e)
        (λ f g. then_free (arrays_of f) _ _ (λ a. behind_arrays a.1 f.sub_item_count)
        (λ a b.
        let w = front_was Present e f g in
        let t : (items : SubItemsRead) → items_from present a.1 f.sub_item_count ≡ Ok items → Met (tail_of Checked f items.rest) (tail_met e items.rest) (tail_of Present f items.rest) =
        λ items k. subst (λ (x : Front). Met (tail_of Checked x items.rest) (tail_met e items.rest) (tail_of Present x items.rest)) w.1 (tail_is_met e items.rest (end_rest present (leaves e) f.sub_item_count a.1 items k (end_first e f a w g b))) in
        then_met (items_from checked a.1 f.sub_item_count) (items_from present a.1 f.sub_item_count) (items_met met present a.1 f.sub_item_count) _ _ (λ items. tail_met e items.rest) (items_are_met f.sub_item_count a.1)
        (λ items k. mapped (tail_of Checked f items.rest) (tail_of Present f items.rest) (tail_met e items.rest) (λ t. record { field = joined f t; arrays = a.0; sub_items = sub_items_of f a.1; member_count = items.members }) (t items k))))
        ∙ ap (λ (xs : List (ℕ × ℕ)). and_then (ended xs) (λ _. type_with Present present e)) (front_then (front_of Present e) _ _)

    -- by the bytes
    behind_by : HasStrings Present e → (b : Bool) → leb (arrays_end e.now) (length e.now) ≡ b → behind_strings (front e) ≡ (if b then behind_arrays (after e (arrays_end e.now)) (le2 e.now 40) else [])
    unfolding with_strings arrays_of
    behind_by h true b =
        let k = leb-true (arrays_end e.now) (length e.now) b in
        let r : length (front e).rest.now ≡ length e.now - strings_end e.now = length-drop (strings_end e.now) e.now in
        simp (le-ltb (length (front e).rest.now) (8 * le2 e.now 38) (omega arith)) (ap (λ (s : Bor (List ℕ)). behind_arrays s (le2 e.now 40)) (after_after e (strings_end e.now) (8 * le2 e.now 38)))
    behind_by h false b =
        let k = leb-false (arrays_end e.now) (length e.now) b in
        let r : length (front e).rest.now ≡ length e.now - strings_end e.now = length-drop (strings_end e.now) e.now in
        let x = h.room in
        simp (lt-ltb (length (front e).rest.now) (8 * le2 e.now 38) (omega arith))

    by_bytes : (w : Result Front Refusal) → front_of Present e ≡ w → (b : Bool) → leb (strings_end e.now) (length e.now) ≡ b
        → outcome w (λ f. string_bytes e.now ++ behind_strings f) (λ why. [])
        ≡ (if b then string_bytes e.now ++ (if leb (arrays_end e.now) (length e.now) then behind_arrays (after e (arrays_end e.now)) (le2 e.now 40) else []) else [])
    by_bytes (Ok f) w true b =
        let x = front_was Present e f w in
        ap (λ (xs : List (ℕ × ℕ)). string_bytes e.now ++ xs) (ap behind_strings (sym x.1) ∙ behind_by x.0 (leb (arrays_end e.now) (length e.now)) refl)
    by_bytes (Ok f) w false b = let x = front_was Present e f w in absurd (omega (arith, x.0.room, leb-false (strings_end e.now) (length e.now) b))
    by_bytes (Err why) w true b =
        let f = front_there Present e (record { room = leb-true (strings_end e.now) (length e.now) b; ended = λ z. cc }) in
        let z : Err why ≡ Ok (front e) = sym w ∙ f in
        cc
    by_bytes (Err why) w false b = refl

    with_met : Met (type_with Checked checked e) (met_with met present e) (type_with Present present e)
    unfolding met_with
    with_met = read_met ∙ ap (λ (xs : List (ℕ × ℕ)). and_then (ended xs) (λ _. type_with Present present e)) (by_bytes (front_of Present e) refl (leb (strings_end e.now) (length e.now)) refl)

by_met : (met : Bor (List ℕ) → List (ℕ × ℕ)) (checked present : Bor (List ℕ) → Result AdsDataTypeInfo Refusal) → ((e : Bor (List ℕ)) → Met (checked e) (met e) (present e))
    → (s : Bor (List ℕ)) → Met (item_by checked s) (item_met met s) (item_by present s)
by_met met checked present each s = then_free (taken s) _ _ (λ p. met p.0) (λ p q. mapped (checked p.0) (present p.0) (met p.0) (λ info. (info, p.1)) (each p.0))

-- a sub-item that is read leaves an end of the entry
by_leaves : (present : Bor (List ℕ) → Result AdsDataTypeInfo Refusal) (e s : Bor (List ℕ)) (p : AdsDataTypeInfo × Bor (List ℕ)) → item_by present s ≡ Ok p → IsEnd e s → IsEnd e p.1
by_leaves present e s p h i =
    let t = both_passed (taken s) h in
    let r = both_passed (present t.0.0) t.1.1 in
    let k = took s t.0.0 t.0.1 t.1.0 in
    let w : (r.0, t.0.1) ≡ p = cc r.1.1 in
    let z : t.0.1 ≡ p.1 = ap (λ (x : AdsDataTypeInfo × Bor (List ℕ)). x.1) w in
    subst (IsEnd e) (sym k.behind_is ∙ z) (end_after (le4 s.now 0) k.room i)

deep_leaves : (e s : Bor (List ℕ)) (p : AdsDataTypeInfo × Bor (List ℕ)) → too_deep s ≡ Ok p → IsEnd e s → IsEnd e p.1
deep_leaves e s p h i = cc h

deep_met : (s : Bor (List ℕ)) → Met (too_deep s) [] (too_deep s)
deep_met s = nothing_met (too_deep s)

at_met : (left : ℕ) (e : Bor (List ℕ)) → Met (type_at Checked left e) (met_at left e) (type_at Present left e)
unfolding type_at met_at
at_met zero e = with_met (λ s. []) too_deep too_deep deep_met deep_leaves e
at_met (suc left) e =
    with_met (item_met (met_at left)) (item_by (type_at Checked left)) (item_by (type_at Present left)) (by_met (met_at left) (type_at Checked left) (type_at Present left) (at_met left)) (by_leaves (type_at Present left)) e

parsed_met : (s : Bor (List ℕ)) → Met (parse_of 42 (type_of Checked) s) (end_bytes s) (parse_of 42 (type_of Present) s)
parsed_met s = then_free (claim_of 42 s.now) _ _ (λ size. met_at 15 (part s 0 size)) (λ size q. at_met 15 (part s 0 size))

pub types_checked : TypesChecked
types_checked s = tested_first (end_bytes s) (parse_of 42 (type_of Checked) s) (parse_of 42 (type_of Present) s) (parsed_met s)
