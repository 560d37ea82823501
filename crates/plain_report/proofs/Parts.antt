-- Where an entry departs, and what stands there: proved.
use Rattle.std.proofs.Common.{ℕ, zero, suc, ◌+◌, ◌-◌, ◌<◌, ◌≤◌, ◌≡◌, ◌⊎◌, inl, inr, ⊎_elim, refl, sym, ap, ap₂, ◌∙◌, subst, Bool, true, false, List, [], ◌∷◌, ◌++◌, length, take, drop, get_or, arith, Bor, length-drop, append_assoc, eq-eqb, Ok}
use Rattle.std.specs.Prelude.{Option, Some, None, is_some, leb, ltb, eqb, slice_get, if◌then◌else◌}
use Rattle.std.proofs.lemmas.List.{get_or-take, length-take, take-append-drop}
use Rattle.std.specs.Cmp.{booleans_Decides}
use borrow.Author.Tests.{leb-false, le-leb, ltb-true, ltb-false, le-ltb, lt-ltb, eqb-true}
use Rattle.std.proofs.lemmas.Bool.{ne_eqb}
use Rattle.le.specs.Le.{le2, le4, has, bytes2, bytes4, part}
use Rattle.le.proofs.Laws.{drop_part, le2_bytes2}
use Rattle.part.specs.End.{IsString, rest_at}
use Rattle.part.proofs.Slice.{end_self}
use Rattle.refusal.specs.declared.Mode.TheVariants.{Present}
use Rattle.attribute.proofs.Inside.{attributes_inside}
use Rattle.refactor.specs.declared.AdsRefactorInfo.{AdsRefactorInfo}
use Rattle.refactor.specs.Inside.{RefactorsLie}
use Rattle.writing.specs.Layout.{lengths_bytes, strings_bytes, attributes_bytes, entry_bytes}
use Rattle.symbol.specs.declared.AdsSymbolInfo.{AdsSymbolInfo}
use Rattle.symbol.specs.declared.writer.NewSymbol.{NewSymbol}
use Rattle.symbol.specs.Symbol.{symbol_of, extended_flags_flag}
use Rattle.symbol.specs.Told.{IsSixteen}
use Rattle.symbol.specs.Inside.{behind_strings, behind_guid, behind_attributes, is_there, IsInside}
use Rattle.symbol.specs.Writing.{flagged, numbers_bytes, header_bytes, guid_bytes, extended_bytes, sections_bytes, symbol_bytes, symbol_written}
use Rattle.symbol.specs.Again.{new_of}
use Rattle.symbol.proofs.Accepted.{Accepted, accepted_is}
use Rattle.symbol.proofs.Lies.{two_from}
use Rattle.symbol.proofs.Sizes.{length_parts, length_sections, length_header}
use Rattle.plain.specs.Form.{HoldsBytes, IsComplete, IsInForm}
use Rattle.plain.specs.Meaning.{Departs}
use Rattle.plain.proofs.Bytes.{byte_then, two_then, four_then}
use Rattle.plain.proofs.Formed.{typed, lies, cuts, strings_there}
use Rattle.plain.proofs.Form.{form_written}
use Rattle.plain.proofs.Good.{passed_attributes_good, passed_records_good}
use Rattle.plain.proofs.Placed.{written_claim}
use Rattle.plain_report.specs.Departure.{part_at}
use Rattle.plain_report.specs.Parts.{StandsAt}
use Rattle.plain_report.specs.Parts as meant

-- ---- two lists that depart

-- behind so many bytes
record Behind (long : ℕ) (a b : List ℕ) (at : ℕ) : Type 0 where
  more : ℕ
  is : at ≡ long + more
  departs : Departs a b more

behind_one : (c d : ℕ) (a b : List ℕ) (k : ℕ) → Departs (c ∷ a) (d ∷ b) (suc k) → Departs a b k
behind_one c d a b k h = record { before = ap (drop 1) h.before; there = λ e. h.there e }

alike_one : (c d : ℕ) (a b : List ℕ) (k : ℕ) → Departs (c ∷ a) (d ∷ b) (suc k) → c ≡ d
alike_one c d a b k h = ap (λ (l : List ℕ). get_or l 0 0) h.before

behind_same : (x a b : List ℕ) (at : ℕ) → Departs (x ++ a) (x ++ b) at → Behind (length x) a b at
behind_same [] a b at h = record { more = at; is = omega arith; departs = h }
behind_same (c ∷ x) a b zero h = absurd (h.there refl)
behind_same (c ∷ x) a b (suc k) h = let g = behind_same x a b k (behind_one c c (x ++ a) (x ++ b) k h) in record { more = g.more; is = omega (arith, g.is); departs = g.departs }

behind_long : (x y a b : List ℕ) (at : ℕ) → length x ≡ length y → Departs (x ++ a) (y ++ b) at → (at < length x) ⊎ Behind (length x) a b at
behind_long [] [] a b at l h = inr (record { more = at; is = omega arith; departs = h })
behind_long [] (d ∷ y) a b at l h = absurd (omega (arith, l))
behind_long (c ∷ x) [] a b at l h = absurd (omega (arith, l))
behind_long (c ∷ x) (d ∷ y) a b zero l h = inl (omega arith)
behind_long (c ∷ x) (d ∷ y) a b (suc k) l h =
    ⊎_elim (λ g. inl (omega (arith, g))) (λ g. inr (record { more = g.more; is = omega (arith, g.is); departs = g.departs }))
    (behind_long x y a b k (omega (arith, l)) (behind_one c d (x ++ a) (y ++ b) k h))

-- behind a string and its end byte
record BehindString (s : List ℕ) (c : ℕ) (a b : List ℕ) (at : ℕ) : Type 0 where
  ended : c ≡ 0
  rest : Behind (length s + 1) a b at

behind_string : (s : List ℕ) (c : ℕ) (a b : List ℕ) (at : ℕ) → Departs (s ++ (c ∷ a)) (s ++ (0 ∷ b)) at → (at ≡ length s) ⊎ BehindString s c a b at
behind_string s c a b at h = let g = behind_same s (c ∷ a) (0 ∷ b) at h in by g.more g.is g.departs
  where
    by : (k : ℕ) → at ≡ length s + k → Departs (c ∷ a) (0 ∷ b) k → (at ≡ length s) ⊎ BehindString s c a b at
    by zero e d = inl (omega (arith, e))
    by (suc k) e d = inr (record { ended = alike_one c 0 a b k d; rest = record { more = k; is = omega (arith, e); departs = behind_one c 0 a b k d } })

below : (e bytes : List ℕ) (at k : ℕ) → Departs e bytes at → k < at → get_or e k 0 ≡ get_or bytes k 0
below e bytes at k h l = sym (get_or-take at e k 0 l) ∙ ap (λ (s : List ℕ). get_or s k 0) h.before ∙ get_or-take at bytes k 0 l

some_by : {A : Type 0} (g : Option A) (t : Bool) (v : A) → g ≡ (if t then Some v else None) → is_some g ≡ t
some_by g true v z = ap is_some z
some_by g false v z = ap is_some z

-- records lie forward
forward : (e : Bor (List ℕ)) (at : ℕ) (rs : List AdsRefactorInfo) (to : ℕ) → RefactorsLie e at rs to → at ≤ to
forward e at [] to h = omega (arith, h)
forward e at (r ∷ rs) to h = omega (arith, forward e (at + 6 + length r.name.now + 1) rs to h.1)

-- ---- an entry, and what is written of its record

strings_flat : (a b c s : List ℕ) → strings_bytes a b c ++ s ≡ a ++ (0 ∷ (b ++ (0 ∷ (c ++ (0 ∷ s)))))
unfolding strings_bytes
strings_flat a b c s = simp append_assoc refl

module _ (e : Bor (List ℕ)) (r : AdsSymbolInfo) (bytes : List ℕ) (at : ℕ) (h : HoldsBytes e) (claims : le4 e.now 0 ≡ length e.now) (read : symbol_of Present e ≡ Ok r)
    (w : symbol_written (new_of r) ≡ Ok bytes) (d : Departs e.now bytes at) where
  abbrev n : NewSymbol
  n = new_of r

  abbrev a : Accepted n
  a = (accepted_is n bytes w).0

  abbrev i : IsInside e r
  i = lies e r h read

  numbers_are : drop 4 e.now ≡ numbers_bytes n ++ drop 24 e.now
  unfolding new_of numbers_bytes
  numbers_are =
      let l = strings_there e r h read in
      let a = four_then e.now 4 h (omega arith) ∙ ap (λ (k : ℕ). bytes4 k ++ drop 8 e.now) (sym i.index_group) in
      let b = four_then e.now 8 h (omega arith) ∙ ap (λ (k : ℕ). bytes4 k ++ drop 12 e.now) (sym i.index_offset) in
      let c = four_then e.now 12 h (omega arith) ∙ ap (λ (k : ℕ). bytes4 k ++ drop 16 e.now) (sym i.size) in
      let d = four_then e.now 16 h (omega arith) ∙ ap (λ (k : ℕ). bytes4 k ++ drop 20 e.now) (sym i.data_type_id) in
      let f = two_then e.now 20 h (omega arith) ∙ ap (λ (k : ℕ). bytes2 k ++ drop 22 e.now) (sym i.flags) in
      let g = two_then e.now 22 h (omega arith) ∙ ap (λ (k : ℕ). bytes2 k ++ drop 24 e.now) (sym i.high) in
      a
      ∙ ap (λ (t : List ℕ). bytes4 r.index_group.0 ++ t) (b
      ∙ ap (λ (t : List ℕ). bytes4 r.index_offset.0 ++ t) (c
      ∙ ap (λ (t : List ℕ). bytes4 r.size ++ t) (d ∙ ap (λ (t : List ℕ). bytes4 r.data_type_id ++ t) (f ∙ ap (λ (t : List ℕ). bytes2 r.flags.0 ++ t) g))))

  lengths_are : drop 24 e.now ≡ lengths_bytes r.name.now r.type_name.now r.comment.now ++ drop 30 e.now
  unfolding lengths_bytes
  lengths_are =
      let l = strings_there e r h read in
      let a = two_then e.now 24 h (omega arith) ∙ ap (λ (k : ℕ). bytes2 k ++ drop 26 e.now) (sym i.name_length) in
      let b = two_then e.now 26 h (omega arith) ∙ ap (λ (k : ℕ). bytes2 k ++ drop 28 e.now) (sym i.type_name_length) in
      let c = two_then e.now 28 h (omega arith) ∙ ap (λ (k : ℕ). bytes2 k ++ drop 30 e.now) (sym i.comment_length) in
      a ∙ ap (λ (t : List ℕ). bytes2 (length r.name.now) ++ t) (b ∙ ap (λ (t : List ℕ). bytes2 (length r.type_name.now) ++ t) c)

  header_is : drop 4 e.now ≡ header_bytes n ++ drop 30 e.now
  unfolding new_of header_bytes
  header_is =
      numbers_are ∙ ap (λ (t : List ℕ). numbers_bytes n ++ t) lengths_are
      ∙ sym (append_assoc (numbers_bytes n) (lengths_bytes r.name.now r.type_name.now r.comment.now) (drop 30 e.now))

  -- one string, and the byte behind it
  one_string : (from : ℕ) (s : Bor (List ℕ)) (to : ℕ) → IsString e from s → suc (from + length s.now) ≡ to → drop from e.now ≡ s.now ++ (get_or e.now (from + length s.now) 0 ∷ drop to e.now)
  unfolding part
  one_string from s to t l =
      let is : take (length s.now) (drop from e.now) ≡ s.now = sym (ap (λ (q : Bor (List ℕ)). q.now) t.is) in
      drop_part e.now from (length s.now) ∙ ap₂ (λ (x y : List ℕ). x ++ y) is (byte_then e.now (from + length s.now) t.within ∙ ap (λ (k : ℕ). get_or e.now (from + length s.now) 0 ∷ drop k e.now) l)

  abbrev end_of_name : ℕ
  end_of_name = get_or e.now (30 + length r.name.now) 0

  abbrev end_of_type : ℕ
  end_of_type = get_or e.now (31 + length r.name.now + length r.type_name.now) 0

  abbrev end_of_comment : ℕ
  end_of_comment = get_or e.now (32 + length r.name.now + length r.type_name.now + length r.comment.now) 0

  strings_are : drop 30 e.now ≡ r.name.now ++ (end_of_name ∷ (r.type_name.now ++ (end_of_type ∷ (r.comment.now ++ (end_of_comment ∷ drop (behind_strings r) e.now)))))
  strings_are =
      one_string 30 r.name (31 + length r.name.now) i.name (omega arith)
      ∙ ap (λ (t : List ℕ). r.name.now ++ (end_of_name ∷ t)) (one_string (31 + length r.name.now) r.type_name (32 + length r.name.now + length r.type_name.now) i.type_name (omega arith)
      ∙ ap (λ (t : List ℕ). r.type_name.now ++ (end_of_type ∷ t)) (one_string (32 + length r.name.now + length r.type_name.now) r.comment (behind_strings r) i.comment (omega arith)))

  guid_then : (g : Option (List ℕ)) (t : Bool) → g ≡ (if t then Some (take 16 (drop (behind_strings r) e.now)) else None)
      → drop (behind_strings r) e.now ≡ guid_bytes g ++ drop (behind_strings r + (if is_some g then 16 else 0)) e.now
  unfolding part
  guid_then g true f = subst (λ (g : Option (List ℕ)). drop (behind_strings r) e.now ≡ guid_bytes g ++ drop (behind_strings r + (if is_some g then 16 else 0)) e.now) (sym f) (drop_part e.now (behind_strings r) 16)
  guid_then g false f =
      subst (λ (g : Option (List ℕ)). drop (behind_strings r) e.now ≡ guid_bytes g ++ drop (behind_strings r + (if is_some g then 16 else 0)) e.now) (sym f) (ap (λ (k : ℕ). drop k e.now) (omega arith))

  abbrev front : List ℕ → ℕ → ℕ → ℕ → List ℕ → List ℕ
  front four x y z behind = four ++ (header_bytes n ++ (r.name.now ++ (x ∷ (r.type_name.now ++ (y ∷ (r.comment.now ++ (z ∷ (guid_bytes r.guid ++ behind))))))))

  entry_is : e.now ≡ front (take 4 e.now) end_of_name end_of_type end_of_comment (drop (behind_guid r) e.now)
  entry_is =
      sym (take-append-drop 4 e.now)
      ∙ ap (λ (t : List ℕ). take 4 e.now ++ t) (header_is ∙ ap (λ (t : List ℕ). header_bytes n ++ t) (strings_are
      ∙ ap (λ (t : List ℕ). r.name.now ++ (end_of_name ∷ (r.type_name.now ++ (end_of_type ∷ (r.comment.now ++ (end_of_comment ∷ t)))))) (guid_then r.guid _ i.guid)))

  abbrev rest : List ℕ
  rest = extended_bytes (flagged n extended_flags_flag) n.extended_flags.0 ++ n.refactor_infos.bytes.now

  abbrev counted : List ℕ
  counted = attributes_bytes (has r.flags.0 0x1000) r.attributes.count n.attributes.bytes.now ++ rest

  written_is : (four : List ℕ) × (length four ≡ 4) × (bytes ≡ front four 0 0 0 counted)
  unfolding new_of symbol_bytes entry_bytes sections_bytes
  written_is =
      let body : List ℕ = header_bytes n ++ (strings_bytes r.name.now r.type_name.now r.comment.now ++ sections_bytes n) in
      (bytes4 (length body + 4), refl, (accepted_is n bytes w).1 ∙ ap (λ (t : List ℕ). bytes4 (length body + 4) ++ (header_bytes n ++ t)) (strings_flat r.name.now r.type_name.now r.comment.now (sections_bytes n)))

  -- ---- the part that is named, by the place

  abbrev Named : Type 0
  Named = StandsAt e at (part_at r at)

  at_length : at < 4 → Named
  unfolding part_at
  at_length l = simp (lt-ltb at 4 l) (meant.StandsAt.length l)

  at_name : at ≡ 30 + length r.name.now → Named
  unfolding part_at
  at_name l =
      let p : ltb at 4 ≡ false = le-ltb at 4 (omega arith) in
      let q : eqb at (30 + length r.name.now) ≡ true = eq-eqb at (30 + length r.name.now) l in
      simp (p, q) (meant.StandsAt.name_end (omega (arith, l, i.name_length)))

  at_type : at ≡ 31 + length r.name.now + length r.type_name.now → Named
  unfolding part_at
  at_type l =
      let p : ltb at 4 ≡ false = le-ltb at 4 (omega arith) in
      let q : eqb at (30 + length r.name.now) ≡ false = ne_eqb at (30 + length r.name.now) (λ z. absurd (omega (arith, z, l))) in
      let s : eqb at (31 + length r.name.now + length r.type_name.now) ≡ true = eq-eqb at (31 + length r.name.now + length r.type_name.now) l in
      simp (p, q, s) (meant.StandsAt.type_end (omega (arith, l, i.name_length, i.type_name_length)))

  at_comment : at ≡ 32 + length r.name.now + length r.type_name.now + length r.comment.now → Named
  unfolding part_at
  at_comment l =
      let p : ltb at 4 ≡ false = le-ltb at 4 (omega arith) in
      let q : eqb at (30 + length r.name.now) ≡ false = ne_eqb at (30 + length r.name.now) (λ z. absurd (omega (arith, z, l))) in
      let s : eqb at (31 + length r.name.now + length r.type_name.now) ≡ false = ne_eqb at (31 + length r.name.now + length r.type_name.now) (λ z. absurd (omega (arith, z, l))) in
      let t : eqb at (32 + length r.name.now + length r.type_name.now + length r.comment.now) ≡ true = eq-eqb at (32 + length r.name.now + length r.type_name.now + length r.comment.now) l in
      simp (p, q, s, t) (meant.StandsAt.comment_end (omega (arith, l, i.name_length, i.type_name_length, i.comment_length)))

  -- where the count stands
  sections_are : behind_strings r ≡ meant.sections e
  sections_are = omega (arith, i.name_length, i.type_name_length, i.comment_length)

  count_is : behind_guid r ≡ meant.count e
  count_is =
      ap (λ (b : Bool). behind_strings r + (if b then 16 else 0)) (some_by r.guid (is_there e 0x0008 (behind_strings r) 16) _ i.guid)
      ∙ ap (λ (k : ℕ). k + (if is_there e 0x0008 k 16 then 16 else 0)) sections_are

  flags_are : (bit : ℕ) → has r.flags.0 bit ≡ has (le2 e.now 20) bit
  flags_are bit = ap (λ (x : ℕ). has x bit) i.flags

  at_count : has r.flags.0 0x1000 ≡ true → behind_guid r ≤ at → at < behind_guid r + 2 → Named
  unfolding part_at
  at_count f l m =
      let p : ltb at 4 ≡ false = le-ltb at 4 (omega arith) in
      let q : eqb at (30 + length r.name.now) ≡ false = ne_eqb at (30 + length r.name.now) (λ z. absurd (omega (arith, z, l))) in
      let s : eqb at (31 + length r.name.now + length r.type_name.now) ≡ false = ne_eqb at (31 + length r.name.now + length r.type_name.now) (λ z. absurd (omega (arith, z, l))) in
      let t : eqb at (32 + length r.name.now + length r.type_name.now + length r.comment.now) ≡ false = ne_eqb at (32 + length r.name.now + length r.type_name.now + length r.comment.now) (λ z. absurd (omega (arith, z, l))) in
      simp (p, q, s, t) (meant.StandsAt.count_bytes (sym (flags_are 0x1000) ∙ f) (omega (arith, l, count_is)) (omega (arith, m, count_is)))

  -- ---- behind all these places nothing departs

  guid_long : length (guid_bytes r.guid) ≡ (if is_some r.guid then 16 else 0)
  unfolding new_of
  guid_long = long r.guid (typed e r h read).guid
    where
      long : (g : Option (List ℕ)) → IsSixteen g → length (guid_bytes g) ≡ (if is_some g then 16 else 0)
      long (Some guid) z = z
      long None z = refl

  abbrev block : ℕ
  block = length n.attributes.bytes.now

  abbrev from : ℕ
  from = rest_at e r.attributes.bytes

  abbrev to : ℕ
  to = behind_attributes e r

  abbrev chain : ℕ
  chain = rest_at e r.refactor_infos.bytes

  abbrev end : ℕ
  end = rest_at e r.unread

  written_long : length bytes ≡ behind_guid r + (if has r.flags.0 0x1000 then block + 2 else 0) + (if has r.flags.0 0x8000 then 4 else 0) + length n.refactor_infos.bytes.now
  unfolding new_of
  written_long = omega (arith, ap length (accepted_is n bytes w).1, length_parts n, length_sections n, guid_long)

  block_long : block ≡ to - from
  block_long = ap (λ (q : Bor (List ℕ)). length q.now) (cuts e r h read).attributes ∙ omega (arith, length-take (to - from) (drop from e.now), length-drop from e.now)

  chain_long : length n.refactor_infos.bytes.now ≡ end - chain
  chain_long = ap (λ (q : Bor (List ℕ)). length q.now) (cuts e r h read).refactor_infos ∙ omega (arith, length-take (end - chain) (drop chain e.now), length-drop chain e.now)

  shown_forward : from ≤ to
  shown_forward =
      let l = (attributes_inside r.attributes.bytes r.attributes.bytes r.attributes.count (end_self r.attributes.bytes)).rest.within in
      omega (arith, l)

  module _ (four : 4 ≤ at) where
    same_length : length e.now ≡ length bytes
    unfolding le4
    same_length =
        let b0 = below e.now bytes at 0 d (omega arith) in
        let b1 = below e.now bytes at 1 d (omega arith) in
        let b2 = below e.now bytes at 2 d (omega arith) in
        let b3 = below e.now bytes at 3 d (omega arith) in
        let c = written_claim n bytes w in
        omega (arith, claims, c, b0, b1, b2, b3)

    -- the attributes end where they are written to
    shown_to : (t : Bool) → has r.flags.0 0x1000 ≡ t → behind_guid r + (if t then block + 2 else 0) ≡ to
    unfolding new_of
    shown_to true f =
        let u : has (le2 e.now 20) 0x1000 ≡ true = sym (flags_are 0x1000) ∙ f in
        let l : length bytes ≡ behind_guid r + (block + 2) + (if has r.flags.0 0x8000 then 4 else 0) + length n.refactor_infos.bytes.now
        = written_long ∙ ap (λ (b : Bool). behind_guid r + (if b then block + 2 else 0) + (if has r.flags.0 0x8000 then 4 else 0) + length n.refactor_infos.bytes.now) f in
        let room : leb 2 (length e.now - behind_guid r) ≡ true = le-leb 2 (length e.now - behind_guid r) (omega (arith, l, same_length)) in
        let begins : from ≡ behind_guid r + 2 = i.attributes_at ∙ simp (u, room) refl in
        omega (arith, begins, block_long, shown_forward)
    shown_to false f =
        let u : has (le2 e.now 20) 0x1000 ≡ false = sym (flags_are 0x1000) ∙ f in
        let begins : from ≡ behind_guid r + 0 = i.attributes_at ∙ simp u refl in
        let none : eqb block 0 ≡ true = simp f at a.attributes_agree in
        let empty : block ≡ 0 = eqb-true block 0 none in
        omega (arith, begins, block_long, shown_forward, empty)

    whole : (has r.flags.0 0x8000 ≡ is_some r.extended_flags) × (length r.unread.now ≡ 0)
    whole = by (has r.flags.0 0x8000) refl (leb 4 (length e.now - to)) refl
      where
        f : chain ≤ end
        f = forward e chain _ end i.refactor_infos

        left : end + length r.unread.now ≡ length e.now
        left = let l = i.unread.within in omega arith

        by : (t : Bool) → has r.flags.0 0x8000 ≡ t → (room : Bool) → leb 4 (length e.now - to) ≡ room → (has r.flags.0 0x8000 ≡ is_some r.extended_flags) × (length r.unread.now ≡ 0)
        by t x room z =
            let l : length e.now ≡ to + (if t then 4 else 0) + (end - chain)
            = omega (arith, same_length, written_long, shown_to (has r.flags.0 0x1000) refl, chain_long) ∙ ap (λ (b : Bool). to + (if b then 4 else 0) + (end - chain)) x in
            let there : is_there e 0x8000 to 4 ≡ (if t then room else false) = ap (λ (b : Bool). if b then leb 4 (length e.now - to) else false) (sym (flags_are 0x8000) ∙ x) ∙ ap (λ (b : Bool). if t then b else false) z in
            let some : is_some r.extended_flags ≡ (if t then room else false) = some_by r.extended_flags _ _ i.extended_flags ∙ there in
            let begins : chain ≡ to + (if (if t then room else false) then 4 else 0) = i.chain_at ∙ ap (λ (b : Bool). to + (if b then 4 else 0)) some in
            on t x room z l some begins
          where
            on : (t : Bool) → has r.flags.0 0x8000 ≡ t → (room : Bool) → leb 4 (length e.now - to) ≡ room → length e.now ≡ to + (if t then 4 else 0) + (end - chain) → is_some r.extended_flags ≡ (if t then room else false)
                → chain ≡ to + (if (if t then room else false) then 4 else 0) → (has r.flags.0 0x8000 ≡ is_some r.extended_flags) × (length r.unread.now ≡ 0)
            on true x true z l some begins = (x ∙ sym some, omega (arith, l, begins, f, left))
            on true x false z l some begins = absurd (let m = leb-false 4 (length e.now - to) z in omega (arith, l, m))
            on false x room z l some begins = (x ∙ sym some, omega (arith, l, begins, f, left))

    never : end_of_name ≡ 0 → end_of_type ≡ 0 → end_of_comment ≡ 0 → (has r.flags.0 0x1000 ≡ true → IsComplete e r) → ⊥
    unfolding new_of
    never name_ended type_ended comment_ended complete =
        let rest = whole in
        let form : IsInForm e r = record {
          within = omega (arith, same_length, ap length (accepted_is n bytes w).1, a.small);
          claims = claims;
          guid = sym ((booleans_Decides _ _).0 a.guid_agrees);
          attributes = complete;
          extended_flags = rest.0;
          chain = sym ((booleans_Decides _ _).0 a.chain_agrees);
          good_attributes = passed_attributes_good _ n.attributes.bytes a.attributes_good;
          good_chain = passed_records_good _ n.refactor_infos.bytes a.chain_good;
          name_ended = name_ended;
          type_ended = type_ended;
          comment_ended = comment_ended;
          read_whole = rest.1;
        } in
        let same : e.now ≡ bytes = let f = form_written e r h read form in cc in
        d.there (ap (λ (s : List ℕ). slice_get s at) same)

  -- ---- part by part

  abbrev behind_type : ℕ → List ℕ → List ℕ
  behind_type z t = r.comment.now ++ (z ∷ (guid_bytes r.guid ++ t))

  abbrev behind_name : ℕ → ℕ → List ℕ → List ℕ
  behind_name y z t = r.type_name.now ++ (y ∷ behind_type z t)

  abbrev behind_header : ℕ → ℕ → ℕ → List ℕ → List ℕ
  behind_header x y z t = r.name.now ++ (x ∷ behind_name y z t)

  abbrev sections_there : List ℕ
  sections_there = drop (behind_guid r) e.now

  complete : (k : ℕ) → 2 ≤ k → Departs sections_there counted k → has r.flags.0 0x1000 ≡ true → at ≡ behind_guid r + k → IsComplete e r
  unfolding le2 new_of attributes_bytes
  complete k two c f is =
      let l : length bytes ≡ behind_guid r + (block + 2) + (if has r.flags.0 0x8000 then 4 else 0) + length n.refactor_infos.bytes.now
      = written_long ∙ ap (λ (b : Bool). behind_guid r + (if b then block + 2 else 0) + (if has r.flags.0 0x8000 then 4 else 0) + length n.refactor_infos.bytes.now) f in
      let first : counted ≡ bytes2 r.attributes.count ++ (n.attributes.bytes.now ++ rest) = ap (λ (b : Bool). attributes_bytes b r.attributes.count n.attributes.bytes.now ++ rest) f in
      let few = a.count in
      let b0 = below sections_there counted k 0 c (omega (arith, two)) in
      let b1 = below sections_there counted k 1 c (omega (arith, two)) in
      let same : le2 sections_there 0 ≡ le2 counted 0 = omega (arith, b0, b1) in
      record {
        there = omega (arith, l, same_length (omega (arith, is, two)));
        all = sym (two_from e.now (behind_guid r)) ∙ same ∙ ap (λ (t : List ℕ). le2 t 0) first ∙ le2_bytes2 r.attributes.count (n.attributes.bytes.now ++ rest) (omega (arith, few));
      }

  sections_named : end_of_name ≡ 0 → end_of_type ≡ 0 → end_of_comment ≡ 0 → (k : ℕ) → at ≡ behind_guid r + k → Departs sections_there counted k → Named
  sections_named x y z k is c = by (has r.flags.0 0x1000) refl (ltb k 2) refl
    where
      by : (t : Bool) → has r.flags.0 0x1000 ≡ t → (low : Bool) → ltb k 2 ≡ low → Named
      by false f low g = absurd (never (omega (arith, is)) x y z (λ q. absurd (other f q)))
        where
          other : has r.flags.0 0x1000 ≡ false → has r.flags.0 0x1000 ≡ true → ⊥
          other p q = let both : false ≡ true = sym p ∙ q in cc
      by true f true g = at_count f (omega (arith, is)) (omega (arith, is, ltb-true k 2 g))
      by true f false g = absurd (never (omega (arith, is)) x y z (λ q. complete k (ltb-false k 2 g) c f is))

  comment_named : end_of_name ≡ 0 → end_of_type ≡ 0 → (k : ℕ) → at ≡ 32 + length r.name.now + length r.type_name.now + k → Departs (behind_type end_of_comment sections_there) (behind_type 0 counted) k → Named
  comment_named x y k is c =
      ⊎_elim
      (λ l. at_comment (omega (arith, is, l)))
      (λ g. let b = behind_same (guid_bytes r.guid) sections_there counted g.rest.more g.rest.departs in
      sections_named x y g.ended b.more (omega (arith, is, g.rest.is, b.is, guid_long)) b.departs)
      (behind_string r.comment.now end_of_comment (guid_bytes r.guid ++ sections_there) (guid_bytes r.guid ++ counted) k c)

  type_named : end_of_name ≡ 0 → (k : ℕ) → at ≡ 31 + length r.name.now + k → Departs (behind_name end_of_type end_of_comment sections_there) (behind_name 0 0 counted) k → Named
  type_named x k is c =
      ⊎_elim
      (λ l. at_type (omega (arith, is, l)))
      (λ g. comment_named x g.ended g.rest.more (omega (arith, is, g.rest.is)) g.rest.departs)
      (behind_string r.type_name.now end_of_type (behind_type end_of_comment sections_there) (behind_type 0 counted) k c)

  name_named : (k : ℕ) → at ≡ 30 + k → Departs (behind_header end_of_name end_of_type end_of_comment sections_there) (behind_header 0 0 0 counted) k → Named
  name_named k is c =
      ⊎_elim
      (λ l. at_name (omega (arith, is, l)))
      (λ g. type_named g.ended g.rest.more (omega (arith, is, g.rest.is)) g.rest.departs)
      (behind_string r.name.now end_of_name (behind_name end_of_type end_of_comment sections_there) (behind_name 0 0 counted) k c)

  pub named : Named
  named =
      let four_long : length (take 4 e.now) ≡ 4 = omega (arith, length-take 4 e.now, strings_there e r h read) in
      let s : Departs (front (take 4 e.now) end_of_name end_of_type end_of_comment sections_there) (front written_is.0 0 0 0 counted) at
      = subst (λ (l : List ℕ). Departs l (front written_is.0 0 0 0 counted) at) entry_is (subst (λ (l : List ℕ). Departs e.now l at) written_is.2 d) in
      ⊎_elim
      (λ l. at_length (omega (arith, l, four_long)))
      (λ g. let b = behind_same (header_bytes n) (behind_header end_of_name end_of_type end_of_comment sections_there) (behind_header 0 0 0 counted) g.more g.departs in
      name_named b.more (omega (arith, g.is, four_long, b.is, length_header n)) b.departs)
      (behind_long (take 4 e.now) written_is.0 (header_bytes n ++ behind_header end_of_name end_of_type end_of_comment sections_there) (header_bytes n ++ behind_header 0 0 0 counted) at (four_long ∙ sym written_is.1) s)
