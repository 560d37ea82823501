-- What the slots of a data type, of its array records and of its members say of the bytes.
use Rattle.std.proofs.Common.{ℕ, suc, ◌+◌, ◌-◌, ◌*◌, ◌<◌, ◌≤◌, ◌≡◌, refl, sym, ap, ◌∙◌, subst, List, [], ◌∷◌, length, get_or, Ok, Err, Result, arith, Bor, ⊎_elim}
use Rattle.std.specs.Prelude.{Some, None, Option, ok_or, slice_get}
use Rattle.std.proofs.lemmas.Bool.{cases_lt}
use native.Mathlib.Nat.{add-zero}
use Rattle.le.specs.Le.{le2, le4}
use Rattle.part.specs.Slice.{part, after}
use Rattle.part.specs.Outcome.{and_then}
use Rattle.refusal.specs.declared.Mode.{Mode}
use Rattle.refusal.specs.declared.Refusal.{Refusal}
use Rattle.refusal.specs.declared.Refusal.TheVariants.{NoSuchNumber}
use Rattle.walk.specs.Step.{parse_of}
use Rattle.field.specs.declared.front.Front.{Front}
use Rattle.field.specs.Front.{with_strings, front_of}
use Rattle.data_type.specs.declared.AdsDataTypeInfo.{AdsDataTypeInfo}
use Rattle.data_type.specs.declared.array.AdsArrayInfo.{AdsArrayInfo}
use Rattle.data_type.specs.declared.array.ArrayInfos.{ArrayInfos}
use Rattle.data_type.specs.declared.members.Member.{Member}
use Rattle.data_type.specs.declared.members.Position.{Position}
use Rattle.part.proofs.Outcome.{both_passed}
use Rattle.part.proofs.Slice.{part_after}
use Rattle.data_type.specs.Array as array
use Rattle.data_type.specs.DataType.{levels, arrays_of, type_of}
use Rattle.data_type.specs.Members.{members_of, numbered}
use Rattle.data_type.proofs.AsField.{entry_as_field}
use Rattle.data_type.proofs.Inside.{accepted_at, counted}
use Rattle.data_type.proofs.Meant.{types_meant}
use Rattle.data_type.proofs.Numbers.{arrays_meant}
use Rattle.told.specs.Slots.{field_slots}
use Rattle.told.proofs.Meaning.{field_told}
use Rattle.told.specs.declared.types.ReadMember.{ReadMember}
use Rattle.told.specs.Asked.{type_array, type_member}
use Rattle.told.specs.TypeSlots.{arrays_at, type_slots, type_guid, array_slots, member_slots, member_guid, path_slots}
use Rattle.told.specs.TypeMeaning.{TypeTold, TypesTold, ArraysTold, MemberTold, MembersTold}

-- where the array records of a front stand, and its counts
front_counts : (mode : Mode) (e : Bor (List ℕ)) (f : Front) → front_of mode e ≡ Ok f
    → (f.rest ≡ after e (45 + le2 e.now 32 + le2 e.now 34 + le2 e.now 36)) × (f.array_count ≡ le2 e.now 38) × (f.sub_item_count ≡ le2 e.now 40)
unfolding front_of with_strings
front_counts mode e f h = (grind arith, grind arith, grind arith)

filled : (f : Front) (a : ArrayInfos × Bor (List ℕ)) → arrays_of f ≡ Ok a → (a.0.bytes ≡ part f.rest 0 (8 * f.array_count)) × (a.0.count ≡ f.array_count)
unfolding arrays_of
filled f a h = (grind arith, grind arith)

pub types_told : TypesTold
unfolding type_slots field_slots
types_told mode e r h =
    let f = field_told (arrays_at r ∷ r.arrays.count ∷ r.sub_items.count ∷ r.member_count ∷ []) mode e r.field (entry_as_field mode levels e r h) in
    let a = accepted_at mode levels e r h in
    let c = front_counts mode e a.front a.front_is in
    let b = filled a.front (a.arrays, a.first) a.arrays_are in
    let arrays : r.arrays ≡ a.arrays = sym (ap (λ (x : AdsDataTypeInfo). x.arrays) a.is) in
    let count : r.arrays.count ≡ a.front.array_count = ap (λ (x : ArrayInfos). x.count) arrays ∙ b.1 in
    let at : 45 + le2 e.now 32 + le2 e.now 34 + le2 e.now 36 ≡ 45 + length r.field.name.now + length r.field.type_name.now + length r.field.comment.now = omega (arith, f.name_len, f.type_name_len, f.comment_len) in
    let bytes : r.arrays.bytes ≡ part (after e (45 + length r.field.name.now + length r.field.type_name.now + length r.field.comment.now)) 0 (8 * r.arrays.count) =
    ap (λ (x : ArrayInfos). x.bytes) arrays
    ∙ b.0
    ∙ ap (λ (s : Bor (List ℕ)). part s 0 (8 * a.front.array_count)) (c.0 ∙ ap (after e) at)
    ∙ ap (λ (n : ℕ). part (after e (45 + length r.field.name.now + length r.field.type_name.now + length r.field.comment.now)) 0 (8 * n)) (sym count) in
    record {
      as_of_field = f;
      arrays = sym (bytes ∙ part_after e (45 + length r.field.name.now + length r.field.type_name.now + length r.field.comment.now) 0 (8 * r.arrays.count) ∙ ap (λ (k : ℕ). part e k (8 * r.arrays.count)) (add-zero (45 + length r.field.name.now + length r.field.type_name.now + length r.field.comment.now)));
      array_count = count ∙ c.1;
      item_count = sym (ap (λ (x : AdsDataTypeInfo). x.sub_items.count) a.is) ∙ c.2;
      member_count = sym (counted mode e r h);
    }

array_is : (w : Result AdsArrayInfo Refusal) (b a : AdsArrayInfo) → w ≡ Ok b → w ≡ Ok a → array_slots a ≡ array_slots b
array_is w b a h k = let is : a ≡ b = cc in ap array_slots is

array_not : (w : Result AdsArrayInfo Refusal) (why : Refusal) (a : AdsArrayInfo) → w ≡ Err why → w ≡ Ok a → ⊥
array_not w why a h k = cc

-- an array record with a number
array_told : (mode : Mode) (s : Bor (List ℕ)) (number : ℕ) (a : AdsArrayInfo) → type_array mode s number ≡ Ok a
    → let at : ℕ = 45 + le2 s.now 32 + le2 s.now 34 + le2 s.now 36 + 8 * number in array_slots a ≡ le4 s.now at ∷ le4 s.now (at + 4) ∷ []
array_told mode s number a h =
    let r = both_passed (parse_of 42 (type_of mode) s) h in
    let m = arrays_meant mode s r.0 r.1.0 in
    ⊎_elim
    (λ k. array_is (array.numbered r.0.arrays number) _ a (m.told number k) r.1.1)
    (λ k. absurd (array_not (array.numbered r.0.arrays number) _ a (m.past number k) r.1.1))
    (cases_lt number (le2 s.now 38))

module _ (mode : Mode) (s : Bor (List ℕ)) (r : AdsDataTypeInfo) (accepted : parse_of 42 (type_of mode) s ≡ Ok r) where
  array_asked : (number : ℕ) → type_array mode s number ≡ array.numbered r.arrays number
  array_asked number = ap (λ (w : Result AdsDataTypeInfo Refusal). and_then w (λ x. array.numbered x.arrays number)) accepted

  array_there : (number : ℕ) → number < le2 s.now 38 → (a : AdsArrayInfo) × (type_array mode s number ≡ Ok a)
  array_there number h = (_, array_asked number ∙ (arrays_meant mode s r accepted).told number h)

  array_past : (number : ℕ) → le2 s.now 38 ≤ number → type_array mode s number ≡ Err (NoSuchNumber (le2 s.now 38) number)
  array_past number h = array_asked number ∙ (arrays_meant mode s r accepted).past number h

pub arrays_told : ArraysTold
arrays_told = record { told = λ mode s number a h. array_told mode s number a h; there = λ mode s r a number h. array_there mode s r a number h; past = λ mode s r a number h. array_past mode s r a number h }

-- what a number below the count gives is the member in its place
numbered_at : (o : Option Member) (why : Refusal) (m : Member) → ok_or o why ≡ Ok m → o ≡ Some m
numbered_at (Some x) why m h = let is : x ≡ m = cc in ap Some is
numbered_at None why m h = cc

-- of a member, by its own bytes and its position
module _ (mode : Mode) (s own : Bor (List ℕ)) (at : Position) (t : AdsDataTypeInfo) (read : type_of mode own ≡ Ok t) (lies : own ≡ part s (get_or at.path (at.depth - 2) 0) (length own.now)) (below : 2 ≤ at.depth) (r : AdsDataTypeInfo) (number : ℕ) (found : slice_get (members_of r) number ≡ Some (record { position = at; own = own })) where
  last_place : (n : ℕ) → 2 ≤ n → get_or (n ∷ at.offset ∷ at.path) n 0 ≡ get_or at.path (n - 2) 0
  last_place n h =
      let k : n ≡ suc (suc (n - 2)) = omega arith in
      ap (λ (i : ℕ). get_or (n ∷ at.offset ∷ at.path) i 0) k

  member_told : MemberTold s r number (record { position = at; data_type = t }) (λ k. get_or (type_slots t) k 0) (λ k. get_or (at.depth ∷ at.offset ∷ at.path) k 0) (type_guid t)
  member_told =
      let told = types_told mode own t read in
      let place : get_or (at.depth ∷ at.offset ∷ at.path) at.depth 0 ≡ get_or at.path (at.depth - 2) 0 = last_place at.depth below in
      let bytes : own ≡ part s (get_or (at.depth ∷ at.offset ∷ at.path) at.depth 0) (get_or (type_slots t) 0 0) =
      lies ∙ ap (λ (i : ℕ). part s i (length own.now)) (sym place) ∙ ap (part s (get_or (at.depth ∷ at.offset ∷ at.path) at.depth 0)) (sym told.as_of_field.whole) in
      let member : Bor (List ℕ) → Option Member = λ o. Some (record { position = at; own = o }) in
      record {
        asked = found ∙ ap member bytes;
        depth = refl;
        offset = refl;
        places = λ k. let j : k + 2 ≡ suc (suc k) = omega arith in ap (λ (i : ℕ). get_or (at.depth ∷ at.offset ∷ at.path) i 0) j;
        told = subst (λ (e : Bor (List ℕ)). TypeTold e t (λ k. get_or (type_slots t) k 0) (type_guid t)) bytes told;
      }

-- a member with what its own bytes are read as
abbrev read_at : Mode → Member → Result ReadMember Refusal
read_at mode m = and_then (type_of mode m.own) (λ t. Ok (record { position = m.position; data_type = t }))

module _ (mode : Mode) (s : Bor (List ℕ)) (r : AdsDataTypeInfo) (accepted : parse_of 42 (type_of mode) s ≡ Ok r) where
  of_accepted : (number : ℕ) (m : ReadMember) → type_member mode s number ≡ Ok m → and_then (numbered r number) (read_at mode) ≡ Ok m
  of_accepted number m h = sym (ap (λ (w : Result AdsDataTypeInfo Refusal). and_then w (λ x. and_then (numbered x number) (read_at mode))) accepted) ∙ h

  told : (number : ℕ) (m : ReadMember) → type_member mode s number ≡ Ok m → MemberTold s r number m (λ k. get_or (member_slots m) k 0) (λ k. get_or (path_slots m) k 0) (member_guid m)
  told number m h =
      let x = both_passed (numbered r number) (of_accepted number m h) in
      let t = both_passed (type_of mode x.0.own) x.1.1 in
      let is : record { position = x.0.position; data_type = t.0 } ≡ m = cc t.1.1 in
      let found : slice_get (members_of r) number ≡ Some x.0 = numbered_at (slice_get (members_of r) number) _ x.0 x.1.0 in
      let stands = (types_meant mode s r accepted).stands number x.0 found in
      subst (λ (q : ReadMember). MemberTold s r number q (λ k. get_or (member_slots q) k 0) (λ k. get_or (path_slots q) k 0) (member_guid q)) is
      (member_told mode s x.0.own x.0.position t.0 t.1.0 stands.own stands.below r number found)

  there : (number : ℕ) (x : Member) → slice_get (members_of r) number ≡ Some x → (m : ReadMember) × (type_member mode s number ≡ Ok m)
  there number x h =
      let t = types_meant mode s r accepted in
      let m = t.stands number x h in (
        record { position = x.position; data_type = m.info },
        ap (λ (w : Result AdsDataTypeInfo Refusal). and_then w (λ q. and_then (numbered q number) (read_at mode))) accepted
            ∙ ap (λ (w : Result Member Refusal). and_then w (read_at mode)) (t.asked number x h).answer
            ∙ ap (λ (w : Result AdsDataTypeInfo Refusal). and_then w (λ t. Ok (record { position = x.position; data_type = t }))) m.read,
      )

  past : (number : ℕ) → length (members_of r) ≤ number → type_member mode s number ≡ Err (NoSuchNumber (length (members_of r)) number)
  past number h =
      let t = types_meant mode s r accepted in
      let none : numbered r number ≡ Err (NoSuchNumber r.member_count number) = t.past number (omega (arith, t.counted)) in
      let by : type_member mode s number ≡ Err (NoSuchNumber r.member_count number) = cc in
      by ∙ ap (λ (n : ℕ). Err (NoSuchNumber n number)) t.counted

pub members_told : MembersTold
members_told = record { told = λ mode s r a number m h. told mode s r a number m h; there = λ mode s r a number x h. there mode s r a number x h; past = λ mode s r a number h. past mode s r a number h }
