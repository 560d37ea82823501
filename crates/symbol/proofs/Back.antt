-- A written entry, grown by any bytes and wherever it lies, is read as what was meant.
use Rattle.std.proofs.Common.{ℕ, ◌+◌, ◌<◌, ◌≡◌, refl, ap, ◌∙◌, Bool, true, false, List, [], ◌++◌, length, drop, get_or, Ok, Some, None, Bor, arith, length-append}
use mathlib.Core.List.{append_assoc}
use borrow.Author.Tests.{le-ltb}
use lib.Seq.{drop-append_seam}
use Rattle.std.specs.Cmp.{booleans_Decides}
use Rattle.le.specs.Le.{le2, le4, has, bytes4}
use Rattle.le.specs.Le as le
use Rattle.std.specs.Prelude.{if◌then◌else◌}
use Rattle.part.specs.Slice.{after}
use Rattle.refusal.specs.EndBytes.{ended}
use Rattle.refusal.specs.declared.Mode.{Mode}
use Rattle.refusal.specs.declared.Mode.TheVariants.{Present, Checked}
use Rattle.attribute.specs.Attribute as attribute
use Rattle.attribute.specs.Told as attributes
use Rattle.refactor.specs.Refactor as refactor
use Rattle.refactor.specs.Told as refactors
use Rattle.writing.specs.Layout.{strings_bytes, attributes_bytes, entry_bytes}
use Rattle.writing.proofs.Laid as laid
use Rattle.symbol.specs.declared.writer.NewSymbol.{NewSymbol}
use Rattle.symbol.specs.declared.AdsSymbolInfo.{AdsSymbolInfo}
use Rattle.part.specs.End.{rest_at}
use Rattle.layout.specs.Layout.{guid_of}
use Rattle.symbol.specs.Symbol.{type_guid_flag, attributes_flag, extended_flags_flag, refactor_info_flag, extended_word, attributes_of, extended_of, refactor_infos_of, with_strings, string_ends_of, attribute_ends, refactor_ends, symbol_ended, ended_symbol, symbol_of}
use Rattle.symbol.specs.Writing.{flagged, guid_bytes, extended_bytes, header_bytes, sections_bytes}
use Rattle.symbol.specs.Told.{told_of, meant, IsTyped}
use Rattle.symbol.proofs.Accepted.{Accepted}
use Rattle.symbol.proofs.Header as header
use Rattle.symbol.proofs.Header.{body_of}
use Rattle.symbol.proofs.Sections.{guid_back, attributes_back, extended_back, chain_back, IsGuidBack, IsAttributesBack, IsExtendedBack, IsChainBack}

abbrev front : NewSymbol → List ℕ → List ℕ
front n extra = (bytes4 (length (body_of n ++ extra) + 4) ++ header_bytes n) ++ strings_bytes n.name.now n.type_name.now n.comment.now

module _ (n : NewSymbol) (t : IsTyped n) (a : Accepted n) (extra : List ℕ) (fits : length (body_of n ++ extra) + 4 < 4294967296)
    (e : Bor (List ℕ)) (is : e.now ≡ entry_bytes (body_of n ++ extra)) where
  abbrev sections_at : ℕ
  sections_at = 33 + length n.name.now + length n.type_name.now + length n.comment.now

  -- each section where the one before it ended
  abbrev w : ℕ
  w = n.flags.0

  abbrev s0 : Bor (List ℕ)
  s0 = after e sections_at

  abbrev s1 : Bor (List ℕ)
  s1 = (guid_of s0 (has w type_guid_flag)).1

  abbrev s2 : Bor (List ℕ)
  s2 = (attributes_of s1 (has w attributes_flag)).1

  abbrev s3 : Bor (List ℕ)
  s3 = (extended_of s2 (has w extended_flags_flag)).1

  abbrev pub rest3 : List ℕ
  rest3 = n.refactor_infos.bytes.now ++ extra

  abbrev pub rest2 : List ℕ
  rest2 = extended_bytes (flagged n extended_flags_flag) n.extended_flags.0 ++ rest3

  abbrev rest1 : List ℕ
  rest1 = attributes_bytes (flagged n attributes_flag) n.attributes.count n.attributes.bytes.now ++ rest2

  rest0_is : s0.now ≡ guid_bytes n.guid ++ rest1
  unfolding sections_bytes
  rest0_is =
      let l = header.laid n t a extra fits in
      let f = laid.length_front l in
      let d : drop sections_at e.now ≡ sections_bytes n ++ extra = rw (is, laid.split l, ← f) (drop-append_seam (front n extra) (sections_bytes n ++ extra)) in
      d ∙ simp append_assoc

  guid_is : IsGuidBack s0 (has w type_guid_flag) n.guid rest1
  guid_is = guid_back s0 (has w type_guid_flag) n.guid rest1 ((booleans_Decides _ _).0 a.guid_agrees) t.guid rest0_is

  attributes_is : IsAttributesBack s1 (has w attributes_flag) n.attributes.count n.attributes.bytes rest2
  attributes_is = attributes_back s1 (has w attributes_flag) n.attributes.count n.attributes.bytes rest2 (omega (arith, a.count)) a.attributes_good a.attributes_agree guid_is.rest_is

  extended_is : IsExtendedBack s2 (has w extended_flags_flag) n.extended_flags rest3
  extended_is = extended_back s2 (has w extended_flags_flag) n.extended_flags rest3 t.extended_flags a.extended_agree attributes_is.rest_is

  chain_is : IsChainBack s3 (has n.extended_flags.0 refactor_info_flag) n.refactor_infos.count n.refactor_infos.bytes extra
  chain_is = chain_back s3 (has n.extended_flags.0 refactor_info_flag) n.refactor_infos.count n.refactor_infos.bytes extra a.chain_agrees a.chain_good extended_is.rest_is

  abbrev pub back : AdsSymbolInfo
  back = with_strings e (length n.name.now) (length n.type_name.now) (length n.comment.now)

  flags_is : le2 e.now 20 ≡ n.flags.0
  flags_is = rw is (header.flags n t a extra fits)

  name_is : back.name.now ≡ n.name.now
  unfolding with_strings le.part
  name_is = rw is (laid.name_is (header.laid n t a extra fits))

  type_is : back.type_name.now ≡ n.type_name.now
  unfolding with_strings le.part
  type_is = rw is (laid.type_is (header.laid n t a extra fits))

  comment_is : back.comment.now ≡ n.comment.now
  unfolding with_strings le.part
  comment_is = rw is (laid.comment_is (header.laid n t a extra fits))

  group_is : back.index_group ≡ n.index_group
  unfolding with_strings
  group_is = let g : le4 e.now 4 ≡ n.index_group.0 = rw is (header.index_group n t a extra fits) in simp g

  offset_is : back.index_offset ≡ n.index_offset
  unfolding with_strings
  offset_is = let g : le4 e.now 8 ≡ n.index_offset.0 = rw is (header.index_offset n t a extra fits) in simp g

  size_is : back.size ≡ n.size
  unfolding with_strings
  size_is = rw is (header.size n t a extra fits)

  type_id_is : back.data_type_id ≡ n.data_type_id
  unfolding with_strings
  type_id_is = rw is (header.data_type_id n t a extra fits)

  word_is : back.flags ≡ n.flags
  unfolding with_strings
  word_is = simp flags_is

  high_is : back.high ≡ n.high
  unfolding with_strings
  high_is = rw is (header.high n t a extra fits)

  guid_back_is : back.guid ≡ n.guid
  unfolding with_strings
  guid_back_is = simp flags_is guid_is.is

  attributes_there : back.attributes ≡ (attributes_of s1 (has w attributes_flag)).0
  unfolding with_strings
  attributes_there = simp flags_is

  extended_there : back.extended_flags ≡ (extended_of s2 (has w extended_flags_flag)).0
  unfolding with_strings
  extended_there = simp flags_is

  chain_there : back.refactor_infos ≡ (refactor_infos_of s3 (has n.extended_flags.0 refactor_info_flag)).0
  unfolding with_strings
  chain_there = simp (flags_is, extended_is.word)

  unread_is : back.unread.now ≡ extra
  unfolding with_strings
  unread_is = simp (flags_is, extended_is.word) chain_is.rest_is

  extended_back_is : back.extended_flags ≡ (if flagged n extended_flags_flag then Some n.extended_flags else None)
  extended_back_is = extended_there ∙ extended_is.is

  attributes_told : attributes.told (attribute.listed back.attributes.bytes back.attributes.count) ≡ attributes.told (attribute.listed n.attributes.bytes n.attributes.count)
  attributes_told = rw attributes_there attributes_is.tells

  chain_told : refactors.told (refactor.listed back.refactor_infos.bytes back.refactor_infos.count) ≡ refactors.told (refactor.listed n.refactor_infos.bytes n.refactor_infos.count)
  chain_told = rw chain_there chain_is.tells

  pub tells : told_of back ≡ meant n extra
  tells =
      simp (
        group_is,
        offset_is,
        size_is,
        type_id_is,
        word_is,
        high_is,
        name_is,
        type_is,
        comment_is,
        guid_back_is,
        attributes_told,
        extended_back_is,
        chain_told,
        unread_is,
      )

  -- what its blocks begin with, and how many they count
  pub record BlocksBack : Type 0 where
    pub attributes : back.attributes.bytes.now ≡ n.attributes.bytes.now ++ rest2
    pub attribute_count : back.attributes.count ≡ n.attributes.count
    pub refactor_infos : back.refactor_infos.bytes.now ≡ rest3
    pub refactor_count : back.refactor_infos.count ≡ n.refactor_infos.count
    pub unread : back.unread.now ≡ extra
    pub word : extended_word back.extended_flags ≡ n.extended_flags.0

  pub blocks_back : BlocksBack
  blocks_back = record {
    attributes = rw attributes_there attributes_is.begins;
    attribute_count = rw attributes_there attributes_is.counted;
    refactor_infos = rw chain_there chain_is.begins;
    refactor_count = rw chain_there chain_is.counted;
    unread = unread_is;
    word = rw extended_there extended_is.word;
  }

  -- its end bytes are 0
  strings_end : ended (string_ends_of e back) ≡ Ok tt
  unfolding ended
  strings_end =
      let l = header.laid n t a extra fits in
      let a : get_or e.now (30 + length n.name.now) 0 ≡ 0 = rw is (laid.name_end l) in
      let b : get_or e.now (30 + length n.name.now + 1 + length n.type_name.now) 0 ≡ 0 = rw is (laid.type_end l) in
      let c : get_or e.now (30 + length n.name.now + 1 + length n.type_name.now + 1 + length n.comment.now) 0 ≡ 0 = rw is (laid.comment_end l) in
      simp (name_is, type_is, comment_is) (simp (a, b, c))

  attributes_end : ended (attribute_ends e back) ≡ Ok tt
  attributes_end = rw attributes_there (attributes_is.ended _)

  chain_end_by : (b : Bool) → has n.extended_flags.0 refactor_info_flag ≡ b → ended (if b then refactor.ends back.refactor_infos.bytes (rest_at e back.refactor_infos.bytes) else []) ≡ Ok tt
  unfolding ended
  chain_end_by true h = rw chain_there (chain_is.ended h _)
  chain_end_by false h = refl

  chain_ends : ended (refactor_ends e back) ≡ Ok tt
  chain_ends = rw (extended_there, extended_is.word) (chain_end_by (has n.extended_flags.0 refactor_info_flag) refl)

  ends : symbol_ended e back ≡ Ok tt
  unfolding symbol_ended
  ends = simp (strings_end, attributes_end, chain_ends)

  ended_is : (mode : Mode) → ended_symbol mode e back ≡ Ok back
  unfolding ended_symbol
  ended_is Present = refl
  ended_is Checked = simp ends

  pub read_is : (mode : Mode) → symbol_of mode e ≡ Ok back
  unfolding symbol_of
  read_is mode =
      let x : le2 e.now 24 ≡ length n.name.now = rw is (header.name_length n t a extra fits) in
      let y : le2 e.now 26 ≡ length n.type_name.now = rw is (header.type_length n t a extra fits) in
      let z : le2 e.now 28 ≡ length n.comment.now = rw is (header.comment_length n t a extra fits) in
      let l : length e.now ≡ length (front n extra) + length (sections_bytes n ++ extra) = ap length (is ∙ laid.split (header.laid n t a extra fits)) ∙ length-append (front n extra) (sections_bytes n ++ extra) in
      let f = laid.length_front (header.laid n t a extra fits) in
      simp (x, y, z, le-ltb (length e.now) 30 (omega (arith, l, f)), le-ltb (length e.now) sections_at (omega (arith, l, f))) (ended_is mode)
