-- A written entry, grown by any bytes and wherever it lies, is read as what was meant.
use Rattle.std.proofs.Common.{ℕ, ◌+◌, ◌-◌, ◌<◌, ◌≡◌, refl, ap, ◌∙◌, List, ◌++◌, length, drop, get_or, Ok, Option, Result, Bor, arith, length-append}
use Rattle.std.proofs.Math.Nat.{zero-min}
use borrow.Author.Tests.{le-ltb}
use lib.Seq.{drop-append_seam}
use Rattle.le.specs.Le.{le2, le4, has}
use Rattle.le.specs.Le as le
use Rattle.refusal.specs.EndBytes.{ended, in_mode}
use Rattle.refusal.specs.declared.Refusal.{Refusal}
use Rattle.refusal.specs.declared.Mode.{Mode}
use Rattle.refusal.specs.declared.Mode.TheVariants.{Present, Checked}
use Rattle.attribute.specs.declared.Attributes.{Attributes}
use Rattle.writing.specs.Layout.{strings_bytes, entry_bytes}
use Rattle.writing.proofs.Laid as laid
use Rattle.field.specs.declared.AdsFieldInfo.{AdsFieldInfo}
use Rattle.field.specs.declared.front.Front.{Front}
use Rattle.field.specs.declared.tail.Tail.{Tail}
use Rattle.field.specs.declared.writer.NewField.{NewField}
use Rattle.field.specs.Skip.{after_items}
use Rattle.field.specs.Front.{with_strings, front_of}
use Rattle.layout.specs.Layout.{guid_of, string_ends}
use Rattle.field.specs.Tail.{type_guid_flag, copy_mask_flag, method_infos_flag, attributes_flag, after_mask, after_methods, attributes_of, tail_of}
use Rattle.field.specs.Field.{joined, behind_items, field_of}
use Rattle.field.specs.Told.{IsTyped, Agrees, told_of, meant}
use Rattle.field.proofs.Accepted.{Accepted}
use Rattle.field.proofs.Header as header
use Rattle.field.proofs.Header.{body_of, attributes_part, mask_part, guid_part, tail_bytes}
use Rattle.field.proofs.Sections.{guid_back, mask_back, methods_back, attributes_back, IsBack}

module _ (p : NewField) (t : IsTyped p) (a : Accepted p) (g : Agrees p) (extra : List ℕ) (fits : length (body_of p ++ extra) + 4 < 4294967296)
    (e : Bor (List ℕ)) (is : e.now ≡ entry_bytes (body_of p ++ extra)) where
  abbrev rest_at : ℕ
  rest_at = 45 + length p.name.now + length p.type_name.now + length p.comment.now

  abbrev before : List ℕ
  before = header.header p t a.short extra fits ++ strings_bytes p.name.now p.type_name.now p.comment.now

  long_before : length before ≡ rest_at
  long_before = laid.length_front (header.laid p t a.short extra fits)

  split : e.now ≡ before ++ tail_bytes p extra
  split = is ∙ laid.split (header.laid p t a.short extra fits)

  -- the front
  abbrev pub front : Front
  front = with_strings e (length p.name.now) (length p.type_name.now) (length p.comment.now)

  name_is : front.name.now ≡ p.name.now
  unfolding with_strings le.part
  name_is = rw is (laid.name_is (header.laid p t a.short extra fits))

  type_is : front.type_name.now ≡ p.type_name.now
  unfolding with_strings le.part
  type_is = rw is (laid.type_is (header.laid p t a.short extra fits))

  comment_is : front.comment.now ≡ p.comment.now
  unfolding with_strings le.part
  comment_is = rw is (laid.comment_is (header.laid p t a.short extra fits))

  version_is : front.version ≡ p.version
  unfolding with_strings
  version_is = rw is (header.version p t a.short extra fits)

  hash_is : front.hash_value ≡ p.hash_value
  unfolding with_strings
  hash_is = rw is (header.hash_value p t a.short extra fits)

  type_hash_is : front.type_hash_value ≡ p.type_hash_value
  unfolding with_strings
  type_hash_is = rw is (header.type_hash_value p t a.short extra fits)

  size_is : front.size ≡ p.size
  unfolding with_strings
  size_is = rw is (header.size p t a.short extra fits)

  offset_is : front.offset ≡ p.offset
  unfolding with_strings
  offset_is = rw is (header.offset p t a.short extra fits)

  type_id_is : front.type_id ≡ p.type_id
  unfolding with_strings
  type_id_is = rw is (header.type_id p t a.short extra fits)

  flags_is : front.flags ≡ p.flags
  unfolding with_strings
  flags_is = let f : le4 e.now 28 ≡ p.flags.0 = rw is (header.flags p t a.short extra fits) in simp f

  strings_end : ended (string_ends e.now 42 (length p.name.now) (length p.type_name.now) (length p.comment.now)) ≡ Ok tt
  unfolding ended
  strings_end =
      let l = header.laid p t a.short extra fits in
      let x : get_or e.now (42 + length p.name.now) 0 ≡ 0 = rw is (laid.name_end l) in
      let y : get_or e.now (42 + length p.name.now + 1 + length p.type_name.now) 0 ≡ 0 = rw is (laid.type_end l) in
      let z : get_or e.now (42 + length p.name.now + 1 + length p.type_name.now + 1 + length p.comment.now) 0 ≡ 0 = rw is (laid.comment_end l) in
      simp (x, y, z)

  in_whatever_mode : (mode : Mode) (test : Result Unit Refusal) → test ≡ Ok tt → in_mode mode test ≡ Ok tt
  in_whatever_mode Present test h = refl
  in_whatever_mode Checked test h = h

  front_is : (mode : Mode) → front_of mode e ≡ Ok front
  unfolding front_of
  front_is mode =
      let x : le2 e.now 32 ≡ length p.name.now = rw is (header.name_len p t a.short extra fits) in
      let y : le2 e.now 34 ≡ length p.type_name.now = rw is (header.type_name_len p t a.short extra fits) in
      let z : le2 e.now 36 ≡ length p.comment.now = rw is (header.comment_len p t a.short extra fits) in
      let l : length e.now ≡ length before + length (tail_bytes p extra) = ap length split ∙ length-append before (tail_bytes p extra) in
      let f = long_before in
      simp (x, y, z, le-ltb (length e.now) 42 (omega (arith, l, f)), le-ltb (length e.now) rest_at (omega (arith, l, f)), in_whatever_mode mode _ strings_end)

  -- each section where the one before it ended
  abbrev w : ℕ
  w = p.flags.0

  abbrev s0 : Bor (List ℕ)
  s0 = behind_items front

  abbrev s1 : Bor (List ℕ)
  s1 = (guid_of s0 (has w type_guid_flag)).1

  abbrev s2 : Bor (List ℕ)
  s2 = after_mask s1 p.size (has w copy_mask_flag)

  abbrev s3 : Bor (List ℕ)
  s3 = after_methods s2 (has w method_infos_flag)

  abbrev found : Attributes × Option Refusal
  found = attributes_of s3 (has w attributes_flag)

  s0_is : s0.now ≡ tail_bytes p extra
  unfolding with_strings after_items
  s0_is =
      let x : le2 e.now 38 ≡ 0 = rw is (header.array_count p t a.short extra fits) in
      let y : le2 e.now 40 ≡ 0 = rw is (header.sub_item_count p t a.short extra fits) in
      let f = long_before in
      let d : drop rest_at e.now ≡ tail_bytes p extra = rw (split, ← f) (drop-append_seam before (tail_bytes p extra)) in
      simp (x, y, zero-min) d

  guid_is : ((guid_of s0 (has w type_guid_flag)).0 ≡ p.guid) × (s1.now ≡ mask_part p (attributes_part p ++ extra))
  guid_is = guid_back s0 (has w type_guid_flag) p.guid (mask_part p (attributes_part p ++ extra)) t.guid g.guid_agrees s0_is

  mask_is : s2.now ≡ attributes_part p ++ extra
  mask_is = mask_back s1 p.size (has w copy_mask_flag) (attributes_part p ++ extra) guid_is.1

  s3_is : s3.now ≡ attributes_part p ++ extra
  s3_is = ap (λ (s : Bor (List ℕ)). s.now) (methods_back s2 (has w method_infos_flag) g.no_methods) ∙ mask_is

  found_is : IsBack s3 (has w attributes_flag) p.attributes.count p.attributes.bytes
  found_is = attributes_back s3 (has w attributes_flag) p.attributes.count p.attributes.bytes extra a.count a.block g.no_count s3_is

  abbrev tail : Tail
  tail = record { guid = (guid_of s0 (has w type_guid_flag)).0; attributes = found.0 }

  tail_is : (mode : Mode) → tail_of mode front s0 ≡ Ok tail
  unfolding tail_of
  tail_is mode = simp (flags_is, size_is, found_is.whole, in_whatever_mode mode _ (found_is.ended (front.length - length found.0.bytes.now)))

  abbrev pub back : AdsFieldInfo
  back = joined front tail

  pub read_is : (mode : Mode) → field_of mode e ≡ Ok back
  unfolding field_of
  read_is mode = simp (front_is mode, tail_is mode)

  pub tells : told_of back ≡ meant p extra
  tells = simp (version_is, hash_is, type_hash_is, size_is, offset_is, type_id_is, flags_is, name_is, type_is, comment_is, guid_is.0, found_is.tells)
