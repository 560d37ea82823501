-- The numbers of a written entry's header, and where its strings stand.
use Rattle.std.proofs.Common.{ℕ, ◌+◌, ◌<◌, ◌≡◌, refl, List, ◌++◌, length, arith}
use mathlib.Core.List.{append_assoc}
use Rattle.le.specs.Le.{le2, le4, bytes4}
use Rattle.writing.specs.Layout.{lengths_bytes, strings_bytes, attributes_bytes, entry_bytes}
use Rattle.writing.specs.Checks.{IsShort}
use Rattle.writing.proofs.Laid.{Laid}
use Rattle.field.specs.declared.writer.NewField.{NewField}
use Rattle.field.specs.Tail.{type_guid_flag, copy_mask_flag, attributes_flag}
use Rattle.field.specs.Writing.{flagged, numbers_bytes, header_bytes, guid_bytes, mask_bytes, sections_bytes}
use Rattle.field.specs.Told.{IsTyped}

-- what follows the entry's length
abbrev pub body_of : NewField → List ℕ
body_of p = header_bytes p ++ (strings_bytes p.name.now p.type_name.now p.comment.now ++ sections_bytes p)

-- the sections, with bytes after them
abbrev pub attributes_part : NewField → List ℕ
attributes_part p = attributes_bytes (flagged p attributes_flag) p.attributes.count p.attributes.bytes.now

abbrev pub mask_part : NewField → List ℕ → List ℕ
mask_part p rest = mask_bytes (flagged p copy_mask_flag) p.size ++ rest

abbrev pub guid_part : NewField → List ℕ → List ℕ
guid_part p rest = guid_bytes (flagged p type_guid_flag) p.guid ++ rest

abbrev pub tail_bytes : NewField → List ℕ → List ℕ
tail_bytes p extra = guid_part p (mask_part p (attributes_part p ++ extra))

module _ (p : NewField) (t : IsTyped p) (s : IsShort p.name.now p.type_name.now p.comment.now) (extra : List ℕ) (fits : length (body_of p ++ extra) + 4 < 4294967296) where
  abbrev pub e : List ℕ
  e = entry_bytes (body_of p ++ extra)

  pub version : le4 e 4 ≡ p.version
  unfolding entry_bytes header_bytes numbers_bytes le4
  version = omega arith

  pub hash_value : le4 e 8 ≡ p.hash_value
  unfolding entry_bytes header_bytes numbers_bytes le4
  hash_value = omega arith

  pub type_hash_value : le4 e 12 ≡ p.type_hash_value
  unfolding entry_bytes header_bytes numbers_bytes le4
  type_hash_value = omega arith

  pub size : le4 e 16 ≡ p.size
  unfolding entry_bytes header_bytes numbers_bytes le4
  size = omega arith

  pub offset : le4 e 20 ≡ p.offset
  unfolding entry_bytes header_bytes numbers_bytes le4
  offset = omega arith

  pub type_id : le4 e 24 ≡ p.type_id
  unfolding entry_bytes header_bytes numbers_bytes le4
  type_id = omega arith

  pub flags : le4 e 28 ≡ p.flags.0
  unfolding entry_bytes header_bytes numbers_bytes le4
  flags = omega arith

  pub name_len : le2 e 32 ≡ length p.name.now
  unfolding entry_bytes header_bytes numbers_bytes lengths_bytes le2
  name_len = omega arith

  pub type_name_len : le2 e 34 ≡ length p.type_name.now
  unfolding entry_bytes header_bytes numbers_bytes lengths_bytes le2
  type_name_len = omega arith

  pub comment_len : le2 e 36 ≡ length p.comment.now
  unfolding entry_bytes header_bytes numbers_bytes lengths_bytes le2
  comment_len = omega arith

  pub array_count : le2 e 38 ≡ 0
  unfolding entry_bytes header_bytes numbers_bytes lengths_bytes le2
  array_count = refl

  pub sub_item_count : le2 e 40 ≡ 0
  unfolding entry_bytes header_bytes numbers_bytes lengths_bytes le2
  sub_item_count = refl

  -- the header with the entry length, and the strings after it
  abbrev pub header : List ℕ
  header = bytes4 (length (body_of p ++ extra) + 4) ++ header_bytes p

  pub laid : Laid e header p.name.now p.type_name.now p.comment.now (tail_bytes p extra) 42
  unfolding entry_bytes header_bytes numbers_bytes lengths_bytes sections_bytes
  laid = record { is = simp append_assoc; long = refl }
