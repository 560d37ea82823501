-- What a field tells lies in its entry: proved.
use Rattle.std.proofs.Common.{ℕ, subst, zero, suc, ◌+◌, ◌*◌, ◌≤◌, ◌≡◌, refl, sym, ap, ap₂, ◌∙◌, Bool, true, false, List, length, Ok, Err, min, arith, Bor}
use Rattle.std.specs.Prelude.{ltb, leb, if◌then◌else◌}
use borrow.Author.Tests.{ltb-false, leb-true}
use Rattle.le.specs.Le.{le2, le4, has}
use Rattle.part.specs.Slice.{part, after}
use Rattle.part.specs.End.{IsEnd}
use Rattle.part.specs.Outcome.{and_then}
use Rattle.refusal.specs.EndBytes.{ended, in_mode}
use Rattle.refusal.specs.declared.Mode.{Mode}
use Rattle.refusal.specs.declared.Refusal.TheVariants.{TooShort, EntryLengthMismatch}
use Rattle.attribute.specs.declared.Attributes.{Attributes}
use Rattle.attribute.specs.Attribute.{listed}
use Rattle.part.proofs.Slice.{length_part, end_self, end_after}
use Rattle.attribute.proofs.Inside.{attributes_inside}
use Rattle.attribute.proofs.Laws.{listed_none, listed_again}
use Rattle.part.proofs.Outcome.{both_passed}
use Rattle.field.specs.declared.AdsFieldInfo.{AdsFieldInfo}
use Rattle.field.specs.declared.front.Front.{Front}
use Rattle.field.specs.declared.tail.Tail.{Tail}
use Rattle.field.specs.Skip.{ahead, after_items}
use Rattle.field.specs.Front.{strings_ended, with_strings, front_of, front_by_header, HasStrings}
use Rattle.layout.specs.Layout.{guid_of}
use Rattle.layout.proofs.Guid.{end_guid}
use Rattle.field.specs.Tail.{type_guid_flag, copy_mask_flag, method_infos_flag, attributes_flag, after_mask, after_methods, attributes_of, sections_of, complete, attribute_ends, tail_of}
use Rattle.field.specs.Field.{joined, behind_items, field_of}
use Rattle.field.specs.Within.{IsWithin, FieldsWithin}

pub end_ahead : {e s : Bor (List ℕ)} (n : ℕ) → IsEnd e s → IsEnd e (ahead s n)
end_ahead {e} {s} n i = end_after (min n (length s.now)) (omega arith) i

pub end_items : {e : Bor (List ℕ)} (s : Bor (List ℕ)) (count : ℕ) → IsEnd e s → IsEnd e (after_items s count)
unfolding after_items
end_items s zero i = i
end_items {e} s (suc left) i = turn (end_items (ahead s (le4 s.now 0)) left (end_ahead (le4 s.now 0) i)) (ltb (length s.now) 4)
  where
    turn : IsEnd e (after_items (ahead s (le4 s.now 0)) left) → (b : Bool) → IsEnd e (if b then s else after_items (ahead s (le4 s.now 0)) left)
    turn next true = i
    turn next false = next

pub end_mask : {e s : Bor (List ℕ)} (size : ℕ) (flagged : Bool) → IsEnd e s → IsEnd e (after_mask s size flagged)
unfolding after_mask
end_mask size true i = end_ahead size i
end_mask size false i = i

pub end_methods : {e s : Bor (List ℕ)} (flagged : Bool) → IsEnd e s → IsEnd e (after_methods s flagged)
unfolding after_methods
end_methods false i = i
end_methods {e} {s} true i = turn (leb 2 (length s.now)) refl
  where
    turn : (b : Bool) → leb 2 (length s.now) ≡ b → IsEnd e (if b then after_items (after s 2) (le2 s.now 0) else s)
    turn true h = end_items (after s 2) (le2 s.now 0) (end_after 2 (leb-true 2 (length s.now) h) i)
    turn false h = i

-- the attributes of a section: where they begin, and that all that are counted are there
pub record IsList (e : Bor (List ℕ)) (a : Attributes) : Type 0 where
  pub place : IsEnd e a.bytes
  pub counted : length (listed a.bytes a.count) ≡ a.count

none_counted : (s : Bor (List ℕ)) → length (listed s 0) ≡ 0
none_counted s = ap (λ l. length l) (listed_none s)

pub is_list : {e s : Bor (List ℕ)} (flagged : Bool) → IsEnd e s → IsList e (attributes_of s flagged).0
unfolding attributes_of
is_list {e} {s} false i = record { place = i; counted = none_counted s }
is_list {e} {s} true i = turn (leb 2 (length s.now)) refl
  where
    turn : (b : Bool) → leb 2 (length s.now) ≡ b → IsList e (attributes_of s true).0
    turn true h = simp h (record { place = end_after 2 (leb-true 2 (length s.now) h) i; counted = ap (λ l. length l) (listed_again (after s 2) (le2 s.now 0)) })
    turn false h = simp h (record { place = i; counted = none_counted s })

-- the bytes behind the strings of a front, and behind its items
pub end_behind : (e : Bor (List ℕ)) (n t k : ℕ) → 45 + n + t + k ≤ length e.now → IsEnd e (behind_items (with_strings e n t k))
unfolding with_strings
end_behind e n t k h =
    let rest : IsEnd e (after e (45 + n + t + k)) = end_after (45 + n + t + k) h (end_self e) in
    end_items (ahead (after e (45 + n + t + k)) (8 * le2 e.now 38)) (le2 e.now 40) (end_ahead (8 * le2 e.now 38) rest)

pub list_of : (e : Bor (List ℕ)) (f : Front) {s : Bor (List ℕ)} → IsEnd e s → IsList e (sections_of f (guid_of s (has f.flags.0 type_guid_flag)).1).0
list_of e f {s} i =
    is_list (has f.flags.0 attributes_flag)
    (end_methods (has f.flags.0 method_infos_flag) (end_mask f.size (has f.flags.0 copy_mask_flag) (end_guid (has f.flags.0 type_guid_flag) i)))

-- the tail of an entry with this front, from some bytes on
abbrev pub tail_at : Front → Bor (List ℕ) → Tail
tail_at f s = record { guid = (guid_of s (has f.flags.0 type_guid_flag)).0; attributes = (sections_of f (guid_of s (has f.flags.0 type_guid_flag)).1).0 }

-- what is accepted has a header and strings, and is what they and the tail tell
pub record IsAccepted (e : Bor (List ℕ)) (r : AdsFieldInfo) : Type 0 where
  pub strings : HasStrings e
  pub is : joined (front_by_header e) (tail_at (front_by_header e) (behind_items (front_by_header e))) ≡ r

pub front_is : (mode : Mode) (e : Bor (List ℕ)) (f : Front) → front_of mode e ≡ Ok f → HasStrings e × (front_by_header e ≡ f)
unfolding front_of
front_is mode e f h = by_header (ltb (length e.now) 42) refl h
  where
    by_strings : 42 ≤ length e.now → (b : Bool) → ltb (length e.now) (45 + le2 e.now 32 + le2 e.now 34 + le2 e.now 36) ≡ b
        → (if b then Err (EntryLengthMismatch (45 + le2 e.now 32 + le2 e.now 34 + le2 e.now 36) (length e.now))
        else and_then (strings_ended mode e.now (le2 e.now 32) (le2 e.now 34) (le2 e.now 36)) (λ _. Ok (front_by_header e))) ≡ Ok f
        → HasStrings e × (front_by_header e ≡ f)
    by_strings n true c h = cc
    by_strings n false c h =
        let p = both_passed (strings_ended mode e.now (le2 e.now 32) (le2 e.now 34) (le2 e.now 36)) {next = λ _. Ok (front_by_header e)} h in
        (record { header = n; strings = ltb-false (length e.now) (45 + le2 e.now 32 + le2 e.now 34 + le2 e.now 36) c }, cc p.1.1)

    by_header : (b : Bool) → ltb (length e.now) 42 ≡ b
        → (if b then Err (TooShort 42 (length e.now))
        else if ltb (length e.now) (45 + le2 e.now 32 + le2 e.now 34 + le2 e.now 36) then Err (EntryLengthMismatch (45 + le2 e.now 32 + le2 e.now 34 + le2 e.now 36) (length e.now))
        else and_then (strings_ended mode e.now (le2 e.now 32) (le2 e.now 34) (le2 e.now 36)) (λ _. Ok (front_by_header e))) ≡ Ok f
        → HasStrings e × (front_by_header e ≡ f)
    by_header true c h = cc
    by_header false c h = by_strings (ltb-false (length e.now) 42 c) (ltb (length e.now) (45 + le2 e.now 32 + le2 e.now 34 + le2 e.now 36)) refl h

pub tail_is : (mode : Mode) (f : Front) (s : Bor (List ℕ)) (t : Tail) → tail_of mode f s ≡ Ok t → tail_at f s ≡ t
unfolding tail_of
tail_is mode f s t h =
    let c = both_passed (in_mode mode (ended (attribute_ends f.length (tail_at f s).attributes))) h in
    let d = both_passed (complete (sections_of f (guid_of s (has f.flags.0 type_guid_flag)).1).1) c.1.1 in
    cc d.1.1

pub accepted_is : (mode : Mode) (e : Bor (List ℕ)) (r : AdsFieldInfo) → field_of mode e ≡ Ok r → IsAccepted e r
unfolding field_of
accepted_is mode e r h =
    let a = both_passed (front_of mode e) h in
    let f = front_is mode e a.0 a.1.0 in
    let b = both_passed (tail_of mode a.0 (behind_items a.0)) a.1.1 in
    let t = tail_is mode a.0 (behind_items a.0) b.0 b.1.0 in
    let same : joined a.0 b.0 ≡ r = cc b.1.1 in
    record { strings = f.0; is = ap (λ (x : Front). joined x (tail_at x (behind_items x))) f.1 ∙ ap (λ (x : Tail). joined a.0 x) t ∙ same }

-- the record of an entry that has a header and strings
module _ (e : Bor (List ℕ)) (h : HasStrings e) where
  abbrev n : ℕ
  n = le2 e.now 32

  abbrev t : ℕ
  t = le2 e.now 34

  abbrev k : ℕ
  k = le2 e.now 36

  abbrev front : Front
  front = front_by_header e

  abbrev pub record_is : AdsFieldInfo
  record_is = joined front (tail_at front (behind_items front))

  pub name_long : length record_is.name.now ≡ n
  unfolding with_strings
  name_long = length_part e 42 n (omega (arith, h.strings))

  pub type_long : length record_is.type_name.now ≡ t
  unfolding with_strings
  type_long = length_part e (43 + n) t (omega (arith, h.strings))

  pub comment_long : length record_is.comment.now ≡ k
  unfolding with_strings
  comment_long = length_part e (44 + n + t) k (omega (arith, h.strings))

  pub list_is : IsList e record_is.attributes
  list_is = list_of e front (end_behind e n t k h.strings)

  pub within : IsWithin e record_is
  unfolding with_strings
  within =
      let x = name_long in
      let y = type_long in
      let z = comment_long in
      record {
        long = refl;
        version = refl;
        hash_value = refl;
        type_hash_value = refl;
        size = refl;
        offset = refl;
        type_id = refl;
        flags = refl;
        name_length = x;
        type_name_length = y;
        comment_length = z;
        name = ap (λ (m : ℕ). part e 42 m) (sym x);
        type_name = ap₂ (λ (m u : ℕ). part e (43 + m) u) (sym x) (sym y);
        comment = ap₂ (λ (m u : ℕ). part e (44 + m + u) k) (sym x) (sym y) ∙ ap (λ (u : ℕ). part e (44 + length record_is.name.now + length record_is.type_name.now) u) (sym z);
        room = omega (arith, x, y, z, h.strings);
        attribute_bytes = list_is.place;
        attributes = (attributes_inside e record_is.attributes.bytes record_is.attributes.count list_is.place).lie;
        counted = list_is.counted;
      }

pub fields_within : FieldsWithin
fields_within mode e r h =
    let a = accepted_is mode e r h in
    subst (λ (x : AdsFieldInfo). IsWithin e x) a.is (within e a.strings)

-- the bytes of its attributes are the end of its entry
pub list_place : (mode : Mode) (e : Bor (List ℕ)) (r : AdsFieldInfo) → field_of mode e ≡ Ok r → IsEnd e r.attributes.bytes
list_place mode e r h = (fields_within mode e r h).attribute_bytes
