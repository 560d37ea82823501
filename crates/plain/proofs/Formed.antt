-- An entry in form is what is written of its record.
use Rattle.std.proofs.Common.{ℕ, ◌+◌, ◌-◌, ◌<◌, ◌≤◌, ◌≡◌, refl, sym, ap, ap₂, ◌∙◌, subst, Bool, true, false, List, [], ◌∷◌, ◌++◌, length, take, drop, get_or, arith, Bor, length-drop, Ok, append-nil}
use Rattle.std.specs.Prelude.{Option, Some, None, is_some, leb, if◌then◌else◌}
use Rattle.std.proofs.lemmas.List.{drop_all}
use lib.Seq.{length-take-le}
use mathlib.Core.List.{append_assoc}
use borrow.Author.Tests.{le-leb, leb-true}
use Rattle.le.specs.Le.{le2, le4, has, bytes2, bytes4, part}
use Rattle.le.proofs.Laws.{drop_part}
use Rattle.part.specs.End.{IsString, rest_at}
use Rattle.part.proofs.Slice.{end_self}
use Rattle.refusal.specs.declared.Mode.TheVariants.{Present}
use Rattle.flags.specs.declared.symbol_flags.AdsSymbol2Flags.{AdsSymbol2Flags}
use Rattle.attribute.proofs.Inside.{attributes_inside}
use Rattle.attribute.proofs.Laws.{after_none}
use Rattle.attribute.specs.Attribute as attribute
use Rattle.writing.specs.Layout.{lengths_bytes, string_bytes, strings_bytes, attributes_bytes, entry_bytes}
use Rattle.symbol.specs.declared.AdsSymbolInfo.{AdsSymbolInfo}
use Rattle.symbol.specs.Symbol.{extended_word, symbol_of}
use Rattle.symbol.specs.Told.{IsSixteen, IsTyped}
use Rattle.symbol.specs.Inside.{behind_strings, behind_guid, behind_attributes, is_there, IsInside}
use Rattle.symbol.specs.ReadOn.{Shows, all, up_to, announced, IsReadOn}
use Rattle.symbol.specs.Writing.{numbers_bytes, header_bytes, guid_bytes, extended_bytes, sections_bytes, symbol_bytes}
use Rattle.symbol.specs.Again.{new_of, IsCut}
use Rattle.symbol.proofs.Again.{symbols_cut}
use Rattle.symbol.proofs.Lies.{symbols_inside}
use Rattle.symbol.proofs.ReadOn.{symbols_read_on}
use Rattle.symbol.proofs.Header.{body_of}
use Rattle.plain.specs.Form.{HoldsBytes, IsInForm}
use Rattle.plain.proofs.Bytes.{two_then, four_then, string_then, two_small, four_small}

-- the GUID and the extended flags, by whether they are there
guid_small : (e : Bor (List ℕ)) (at : ℕ) (g : Option (List ℕ)) (t : Bool) → is_there e 0x0008 at 16 ≡ t → g ≡ (if t then Some (take 16 (drop at e.now)) else None) → IsSixteen g
guid_small e at g true w h = subst IsSixteen (sym h) (length-take-le 16 (drop at e.now) (fits (has (le2 e.now 20) 0x0008) w))
  where
    fits : (b : Bool) → (if b then leb 16 (length e.now - at) else false) ≡ true → 16 ≤ length (drop at e.now)
    fits true q = let l = leb-true 16 (length e.now - at) q in let d = length-drop at e.now in omega arith
    fits false q = cc
guid_small e at g false w h = subst IsSixteen (sym h) tt

word_small : (e : Bor (List ℕ)) (at : ℕ) (x : Option AdsSymbol2Flags) (t : Bool) → HoldsBytes e → x ≡ (if t then Some (record { 0 = le4 e.now at }) else None) → extended_word x < 4294967296
word_small e at x true h w = subst (λ (y : Option AdsSymbol2Flags). extended_word y < 4294967296) (sym w) (four_small e.now at h)
word_small e at x false h w = subst (λ (y : Option AdsSymbol2Flags). extended_word y < 4294967296) (sym w) (omega arith)

module _ (e : Bor (List ℕ)) (r : AdsSymbolInfo) (h : HoldsBytes e) (read : symbol_of Present e ≡ Ok r) where
  abbrev pub lies : IsInside e r
  lies = symbols_inside Present e r read

  abbrev i : IsInside e r
  i = lies

  abbrev pub cuts : IsCut e r
  cuts = symbols_cut Present e r read

  on : IsReadOn e r
  on = ((symbols_read_on e).only Present r read).1

  pub typed : IsTyped (new_of r)
  unfolding new_of
  typed =
      record {
        index_group = omega (arith, i.index_group, four_small e.now 4 h);
        index_offset = omega (arith, i.index_offset, four_small e.now 8 h);
        size = omega (arith, i.size, four_small e.now 12 h);
        data_type_id = omega (arith, i.data_type_id, four_small e.now 16 h);
        flags = omega (arith, i.flags, two_small e.now 20 h);
        high = omega (arith, i.high, two_small e.now 22 h);
        extended_flags = word_small e (behind_attributes e r) r.extended_flags _ h i.extended_flags;
        guid = guid_small e (behind_strings r) r.guid _ refl i.guid;
      }

  pub strings_there : behind_strings r ≤ length e.now
  strings_there = let c = i.comment.within in omega arith

  numbers_are : drop 4 e.now ≡ numbers_bytes (new_of r) ++ drop 24 e.now
  unfolding new_of numbers_bytes
  numbers_are =
      let l = strings_there in
      let a = four_then e.now 4 h (omega arith) ∙ ap (λ (k : ℕ). bytes4 k ++ drop 8 e.now) (sym i.index_group) in
      let b = four_then e.now 8 h (omega arith) ∙ ap (λ (k : ℕ). bytes4 k ++ drop 12 e.now) (sym i.index_offset) in
      let c = four_then e.now 12 h (omega arith) ∙ ap (λ (k : ℕ). bytes4 k ++ drop 16 e.now) (sym i.size) in
      let d = four_then e.now 16 h (omega arith) ∙ ap (λ (k : ℕ). bytes4 k ++ drop 20 e.now) (sym i.data_type_id) in
      let f = two_then e.now 20 h (omega arith) ∙ ap (λ (k : ℕ). bytes2 k ++ drop 22 e.now) (sym i.flags) in
      let g = two_then e.now 22 h (omega arith) ∙ ap (λ (k : ℕ). bytes2 k ++ drop 24 e.now) (sym i.high) in
      a
      ∙ ap (λ (t : List ℕ). bytes4 r.index_group.0 ++ t) (b
      ∙ ap (λ (t : List ℕ). bytes4 r.index_offset.0 ++ t) (c
      ∙ ap (λ (t : List ℕ). bytes4 r.size ++ t) (d ∙ ap (λ (t : List ℕ). bytes4 r.data_type_id ++ t) (f ∙ ap (λ (t : List ℕ). bytes2 r.flags.0 ++ t) g))))

  lengths_are : drop 24 e.now ≡ lengths_bytes r.name.now r.type_name.now r.comment.now ++ drop 30 e.now
  unfolding lengths_bytes
  lengths_are =
      let l = strings_there in
      let a = two_then e.now 24 h (omega arith) ∙ ap (λ (k : ℕ). bytes2 k ++ drop 26 e.now) (sym i.name_length) in
      let b = two_then e.now 26 h (omega arith) ∙ ap (λ (k : ℕ). bytes2 k ++ drop 28 e.now) (sym i.type_name_length) in
      let c = two_then e.now 28 h (omega arith) ∙ ap (λ (k : ℕ). bytes2 k ++ drop 30 e.now) (sym i.comment_length) in
      a ∙ ap (λ (t : List ℕ). bytes2 (length r.name.now) ++ t) (b ∙ ap (λ (t : List ℕ). bytes2 (length r.type_name.now) ++ t) c)

  header_is : drop 4 e.now ≡ header_bytes (new_of r) ++ drop 30 e.now
  unfolding new_of header_bytes
  header_is =
      numbers_are ∙ ap (λ (t : List ℕ). numbers_bytes (new_of r) ++ t) lengths_are
      ∙ sym (append_assoc (numbers_bytes (new_of r)) (lengths_bytes r.name.now r.type_name.now r.comment.now) (drop 30 e.now))

  -- one string with its end byte
  one_string : (at : ℕ) (s : Bor (List ℕ)) (to : ℕ) → IsString e at s → get_or e.now (at + length s.now) 0 ≡ 0 → at + length s.now + 1 ≡ to → drop at e.now ≡ string_bytes s.now ++ drop to e.now
  one_string at s to t z l =
      let is : take (length s.now) (drop at e.now) ≡ s.now = sym (ap (λ (q : Bor (List ℕ)). q.now) t.is) in
      string_then e.now at (length s.now) t.within z ∙ ap₂ (λ (x : List ℕ) (k : ℕ). (x ++ (0 ∷ [])) ++ drop k e.now) is l

  module _ (f : IsInForm e r) where
    strings_are : drop 30 e.now ≡ strings_bytes r.name.now r.type_name.now r.comment.now ++ drop (behind_strings r) e.now
    unfolding strings_bytes
    strings_are =
        let a = one_string 30 r.name (31 + length r.name.now) i.name f.name_ended (omega arith) in
        let b = one_string (31 + length r.name.now) r.type_name (32 + length r.name.now + length r.type_name.now) i.type_name f.type_ended (omega arith) in
        let c = one_string (32 + length r.name.now + length r.type_name.now) r.comment (behind_strings r) i.comment f.comment_ended (omega arith) in
        a ∙ ap (λ (t : List ℕ). string_bytes r.name.now ++ t) (b ∙ ap (λ (t : List ℕ). string_bytes r.type_name.now ++ t) c)
        ∙ sym (simp append_assoc)

    guid_then : (g : Option (List ℕ)) (t : Bool) → g ≡ (if t then Some (take 16 (drop (behind_strings r) e.now)) else None)
        → drop (behind_strings r) e.now ≡ guid_bytes g ++ drop (behind_strings r + (if is_some g then 16 else 0)) e.now
    unfolding part
    guid_then g true w = subst (λ (g : Option (List ℕ)). drop (behind_strings r) e.now ≡ guid_bytes g ++ drop (behind_strings r + (if is_some g then 16 else 0)) e.now) (sym w) (drop_part e.now (behind_strings r) 16)
    guid_then g false w =
        subst (λ (g : Option (List ℕ)). drop (behind_strings r) e.now ≡ guid_bytes g ++ drop (behind_strings r + (if is_some g then 16 else 0)) e.now) (sym w) (ap (λ (k : ℕ). drop k e.now) (omega arith))

    guid_are : drop (behind_strings r) e.now ≡ guid_bytes r.guid ++ drop (behind_guid r) e.now
    guid_are = guid_then r.guid _ i.guid

    -- where the attributes that are shown begin, and where they end
    abbrev from : ℕ
    from = rest_at e r.attributes.bytes

    abbrev to : ℕ
    to = behind_attributes e r

    forward : from ≤ to
    forward =
        let w = (attributes_inside r.attributes.bytes r.attributes.bytes r.attributes.count (end_self r.attributes.bytes)).rest.within in
        omega (arith, w)

    block_is : drop from e.now ≡ (new_of r).attributes.bytes.now ++ drop to e.now
    unfolding part
    block_is =
        let is : (new_of r).attributes.bytes.now ≡ take (to - from) (drop from e.now) = ap (λ (q : Bor (List ℕ)). q.now) cuts.attributes in
        let end : from + (to - from) ≡ to = omega (arith, forward) in
        drop_part e.now from (to - from) ∙ ap₂ (λ (x : List ℕ) (k : ℕ). x ++ drop k e.now) (sym is) end

    flags_are : (bit : ℕ) → has r.flags.0 bit ≡ has (le2 e.now 20) bit
    flags_are bit = ap (λ (w : ℕ). has w bit) i.flags

    -- without a flag no attribute is shown, and the block is empty
    pub record IsUnflagged : Type 0 where
      pub begins : from ≡ behind_guid r
      pub ends : to ≡ behind_guid r
      pub none : r.attributes.count ≡ 0
      pub empty : length (new_of r).attributes.bytes.now ≡ 0

    pub unflagged : has r.flags.0 0x1000 ≡ false → IsUnflagged
    unflagged w =
        let u : has (le2 e.now 20) 0x1000 ≡ false = sym (flags_are 0x1000) ∙ w in
        let a : from ≡ behind_guid r + 0 = i.attributes_at ∙ simp u refl in
        let none : announced e r ≡ 0 = simp u refl in
        let count : r.attributes.count ≡ 0 = shown_none on.attributes none in
        let same : attribute.after_listed r.attributes.bytes r.attributes.count ≡ r.attributes.bytes = ap (attribute.after_listed r.attributes.bytes) count ∙ after_none r.attributes.bytes in
        let b : to ≡ from = ap (rest_at e) same in
        let none_between : to - from ≡ 0 = omega (arith, b) in
        record { begins = omega (arith, a); ends = omega (arith, a, b); none = count; empty = ap (λ (q : Bor (List ℕ)). length q.now) cuts.attributes ∙ ap (λ (k : ℕ). length (take k (drop from e.now))) none_between }
      where
        shown_none : {s : Bor (List ℕ)} {announced count : ℕ} → Shows s announced count → announced ≡ 0 → count ≡ 0
        shown_none (all x) z = omega arith
        shown_none (up_to why l x) z = absurd (omega arith)

    flagged_from : has r.flags.0 0x1000 ≡ true → from ≡ behind_guid r + 2
    flagged_from w =
        let u : has (le2 e.now 20) 0x1000 ≡ true = sym (flags_are 0x1000) ∙ w in
        let room : leb 2 (length e.now - behind_guid r) ≡ true = le-leb 2 (length e.now - behind_guid r) (let c = (f.attributes w).there in omega arith) in
        i.attributes_at ∙ simp (u, room) refl

    attributes_then : (t : Bool) → has r.flags.0 0x1000 ≡ t → drop (behind_guid r) e.now ≡ attributes_bytes t r.attributes.count (new_of r).attributes.bytes.now ++ drop to e.now
    unfolding attributes_bytes
    attributes_then true w =
        let c = f.attributes w in
        two_then e.now (behind_guid r) h c.there
        ∙ ap₂ (λ (k m : ℕ). bytes2 k ++ drop m e.now) c.all (sym (flagged_from w))
        ∙ ap (λ (t : List ℕ). bytes2 r.attributes.count ++ t) block_is
    attributes_then false w = ap (λ (k : ℕ). drop k e.now) (sym (unflagged w).ends)

    -- extended flags
    abbrev chain_from : ℕ
    chain_from = rest_at e r.refactor_infos.bytes

    extended_then : (x : Option AdsSymbol2Flags) (t : Bool) → x ≡ (if t then Some (record { 0 = le4 e.now to }) else None) → (t ≡ true → to + 4 ≤ length e.now)
        → drop to e.now ≡ extended_bytes (is_some x) (extended_word x) ++ drop (to + (if is_some x then 4 else 0)) e.now
    extended_then x true w l =
        subst (λ (x : Option AdsSymbol2Flags). drop to e.now ≡ extended_bytes (is_some x) (extended_word x) ++ drop (to + (if is_some x then 4 else 0)) e.now) (sym w) (four_then e.now to h (l refl))
    extended_then x false w l =
        subst (λ (x : Option AdsSymbol2Flags). drop to e.now ≡ extended_bytes (is_some x) (extended_word x) ++ drop (to + (if is_some x then 4 else 0)) e.now) (sym w) (ap (λ (k : ℕ). drop k e.now) (omega arith))

    four_fit : (b : Bool) (n at : ℕ) → (if b then leb 4 (n - at) else false) ≡ true → at + 4 ≤ n
    four_fit true n at q = let l = leb-true 4 (n - at) q in omega arith
    four_fit false n at q = cc

    extended_are : drop to e.now ≡ extended_bytes (has r.flags.0 0x8000) (extended_word r.extended_flags) ++ drop chain_from e.now
    extended_are =
        extended_then r.extended_flags _ i.extended_flags (four_fit (has (le2 e.now 20) 0x8000) (length e.now) to)
        ∙ ap₂ (λ (b : Bool) (k : ℕ). extended_bytes b (extended_word r.extended_flags) ++ drop k e.now) (sym f.extended_flags) (sym i.chain_at)

    -- the chain, up to the end
    chain_is : drop chain_from e.now ≡ (new_of r).refactor_infos.bytes.now
    unfolding part
    chain_is =
        let is : (new_of r).refactor_infos.bytes.now ≡ take (rest_at e r.unread - chain_from) (drop chain_from e.now) = ap (λ (q : Bor (List ℕ)). q.now) cuts.refactor_infos in
        let end : chain_from + (rest_at e r.unread - chain_from) ≡ length e.now = omega (arith, f.read_whole) in
        drop_part e.now chain_from (rest_at e r.unread - chain_from)
        ∙ ap (λ (t : List ℕ). take (rest_at e r.unread - chain_from) (drop chain_from e.now) ++ t) (ap (λ (k : ℕ). drop k e.now) end ∙ drop_all (length e.now) e.now (omega arith))
        ∙ append-nil (take (rest_at e r.unread - chain_from) (drop chain_from e.now))
        ∙ sym is

    sections_folded : guid_bytes r.guid ++ (attributes_bytes (has r.flags.0 0x1000) r.attributes.count (new_of r).attributes.bytes.now
        ++ (extended_bytes (has r.flags.0 0x8000) (extended_word r.extended_flags) ++ (new_of r).refactor_infos.bytes.now)) ≡ sections_bytes (new_of r)
    unfolding new_of sections_bytes
    sections_folded = refl

    sections_are : drop (behind_strings r) e.now ≡ sections_bytes (new_of r)
    sections_are =
        guid_are
        ∙ ap (λ (t : List ℕ). guid_bytes r.guid ++ t) (attributes_then (has r.flags.0 0x1000) refl
        ∙ ap (λ (t : List ℕ). attributes_bytes (has r.flags.0 0x1000) r.attributes.count (new_of r).attributes.bytes.now ++ t) (extended_are
        ∙ ap (λ (t : List ℕ). extended_bytes (has r.flags.0 0x8000) (extended_word r.extended_flags) ++ t) chain_is))
        ∙ sections_folded

    body_folded : header_bytes (new_of r) ++ (strings_bytes r.name.now r.type_name.now r.comment.now ++ sections_bytes (new_of r)) ≡ body_of (new_of r)
    unfolding new_of
    body_folded = refl

    body_is : drop 4 e.now ≡ body_of (new_of r)
    body_is =
        header_is
        ∙ ap (λ (t : List ℕ). header_bytes (new_of r) ++ t) (strings_are
        ∙ ap (λ (t : List ℕ). strings_bytes r.name.now r.type_name.now r.comment.now ++ t) sections_are)
        ∙ body_folded

    pub bytes_are : e.now ≡ symbol_bytes (new_of r)
    unfolding symbol_bytes entry_bytes
    bytes_are =
        let l = strings_there in
        let d : length (drop 4 e.now) + 4 ≡ length e.now = omega (arith, length-drop 4 e.now) in
        four_then e.now 0 h (omega arith)
        ∙ ap₂ (λ (k : ℕ) (t : List ℕ). bytes4 k ++ t) (f.claims ∙ sym d ∙ ap (λ (t : List ℕ). length t + 4) body_is) body_is
