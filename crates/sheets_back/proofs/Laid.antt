-- An entry without sections, byte after byte.
use Rattle.std.proofs.Common.{ℕ, zero, suc, ◌+◌, ◌<◌, ◌≡◌, sym, ap, ap₂, ◌∙◌, List, [], ◌∷◌, ◌++◌, length, take, drop, get_or, append_assoc, length-drop, arith}
use Rattle.std.specs.List.{All}
use Rattle.std.proofs.lemmas.List.{drop_all, get_or-drop}
use Rattle.le.specs.Le.{le2, le4, bytes2, bytes4, part}
use Rattle.le.proofs.Laws.{drop_part, length_part}
use Rattle.writing.specs.Layout.{lengths_bytes, strings_bytes, entry_bytes}
use Rattle.plain.proofs.Bytes.{is_byte, byte_then, two_then, four_then}
use Rattle.text.specs.RoundTrip.{AreBytes}
use Rattle.sheet.specs.ExportMeant.{IsWhole}

small_drop : (s : List ℕ) (at : ℕ) → ((k : ℕ) → get_or s k 0 < 256) → (k : ℕ) → get_or (drop at s) k 0 < 256
small_drop s at h k = omega (arith, get_or-drop at s k 0, h (at + k))

small_take : (s : List ℕ) (n : ℕ) → ((k : ℕ) → get_or s k 0 < 256) → (k : ℕ) → get_or (take n s) k 0 < 256
small_take s zero h k = omega arith
small_take [] (suc n) h k = omega arith
small_take (b ∷ s) (suc n) h zero = h 0
small_take (b ∷ s) (suc n) h (suc k) = small_take s n (λ i. h (suc i)) k

-- the strings of an entry, and its numbers as they stand
abbrev pub name : List ℕ → List ℕ
name e = part e 30 (le2 e 24)

abbrev pub type_name : List ℕ → List ℕ
type_name e = part e (31 + le2 e 24) (le2 e 26)

abbrev pub comment : List ℕ → List ℕ
comment e = part e (32 + le2 e 24 + le2 e 26) (le2 e 28)

abbrev pub numbers : List ℕ → List ℕ
numbers e = bytes4 (le4 e 4) ++ (bytes4 (le4 e 8) ++ (bytes4 (le4 e 12) ++ (bytes4 (le4 e 16) ++ (bytes2 (le2 e 20) ++ bytes2 (le2 e 22)))))

module _ (e : List ℕ) (bytes : All (λ b. b < 256) e) (claims : le4 e 0 ≡ length e) (w : IsWhole e) where
  pub name_long : length (name e) ≡ le2 e 24
  name_long = length_part e 30 (le2 e 24) (omega (arith, w.long))

  pub type_long : length (type_name e) ≡ le2 e 26
  type_long = length_part e (31 + le2 e 24) (le2 e 26) (omega (arith, w.long))

  pub comment_long : length (comment e) ≡ le2 e 28
  comment_long = length_part e (32 + le2 e 24 + le2 e 26) (le2 e 28) (omega (arith, w.long))

  same_drop : (a b : ℕ) → a ≡ b → drop a e ≡ drop b e
  same_drop a b h = ap (λ (k : ℕ). drop k e) h

  -- an end byte and what is behind it
  zero_then : (at next : ℕ) → at < length e → get_or e at 0 ≡ 0 → suc at ≡ next → drop at e ≡ 0 ∷ drop next e
  zero_then at next h z n = byte_then e at h ∙ ap₂ (λ (b k : ℕ). b ∷ drop k e) z n

  after_comment : drop (32 + le2 e 24 + le2 e 26 + le2 e 28) e ≡ 0 ∷ []
  after_comment =
      zero_then (32 + le2 e 24 + le2 e 26 + le2 e 28) (33 + le2 e 24 + le2 e 26 + le2 e 28) (omega (arith, w.long)) w.comment_ended (omega arith)
      ∙ ap (λ (l : List ℕ). 0 ∷ l) (drop_all (33 + le2 e 24 + le2 e 26 + le2 e 28) e (omega (arith, w.long)))

  at_comment : drop (32 + le2 e 24 + le2 e 26) e ≡ comment e ++ (0 ∷ [])
  at_comment = drop_part e (32 + le2 e 24 + le2 e 26) (le2 e 28) ∙ ap (λ (l : List ℕ). comment e ++ l) after_comment

  at_type : drop (31 + le2 e 24) e ≡ type_name e ++ (0 ∷ (comment e ++ (0 ∷ [])))
  at_type =
      drop_part e (31 + le2 e 24) (le2 e 26)
      ∙ ap (λ (l : List ℕ). type_name e ++ l) (
      zero_then (31 + le2 e 24 + le2 e 26) (32 + le2 e 24 + le2 e 26) (omega (arith, w.long)) w.type_ended (omega arith)
      ∙ ap (λ (l : List ℕ). 0 ∷ l) at_comment)

  at_name : drop 30 e ≡ name e ++ (0 ∷ (type_name e ++ (0 ∷ (comment e ++ (0 ∷ [])))))
  at_name =
      drop_part e 30 (le2 e 24)
      ∙ ap (λ (l : List ℕ). name e ++ l) (
      zero_then (30 + le2 e 24) (31 + le2 e 24) (omega (arith, w.long)) w.name_ended (omega arith)
      ∙ ap (λ (l : List ℕ). 0 ∷ l) at_type)

  pub strings_are : drop 30 e ≡ strings_bytes (name e) (type_name e) (comment e)
  unfolding strings_bytes
  strings_are =
      let joined : strings_bytes (name e) (type_name e) (comment e) ≡ name e ++ (0 ∷ (type_name e ++ (0 ∷ (comment e ++ (0 ∷ []))))) = simp append_assoc in
      at_name ∙ sym joined

  pub lengths_are : drop 24 e ≡ lengths_bytes (name e) (type_name e) (comment e) ++ strings_bytes (name e) (type_name e) (comment e)
  unfolding lengths_bytes
  lengths_are =
      let own : drop 24 e ≡ bytes2 (le2 e 24) ++ (bytes2 (le2 e 26) ++ (bytes2 (le2 e 28) ++ strings_bytes (name e) (type_name e) (comment e))) =
      two_then e 24 bytes (omega (arith, w.long))
      ∙ ap (λ (l : List ℕ). bytes2 (le2 e 24) ++ l) (two_then e 26 bytes (omega (arith, w.long))
      ∙ ap (λ (l : List ℕ). bytes2 (le2 e 26) ++ l) (two_then e 28 bytes (omega (arith, w.long))
      ∙ ap (λ (l : List ℕ). bytes2 (le2 e 28) ++ l) strings_are)) in
      let strings : List ℕ = strings_bytes (name e) (type_name e) (comment e) in
      let joined : lengths_bytes (name e) (type_name e) (comment e) ++ strings ≡ bytes2 (length (name e)) ++ (bytes2 (length (type_name e)) ++ (bytes2 (length (comment e)) ++ strings)) = simp append_assoc in
      own
      ∙ ap (λ (k : ℕ). bytes2 k ++ (bytes2 (le2 e 26) ++ (bytes2 (le2 e 28) ++ strings_bytes (name e) (type_name e) (comment e)))) (sym name_long)
      ∙ ap (λ (k : ℕ). bytes2 (length (name e)) ++ (bytes2 k ++ (bytes2 (le2 e 28) ++ strings_bytes (name e) (type_name e) (comment e)))) (sym type_long)
      ∙ ap (λ (k : ℕ). bytes2 (length (name e)) ++ (bytes2 (length (type_name e)) ++ (bytes2 k ++ strings_bytes (name e) (type_name e) (comment e)))) (sym comment_long)
      ∙ sym joined

  pub rest_is : drop 4 e ≡ numbers e ++ (lengths_bytes (name e) (type_name e) (comment e) ++ strings_bytes (name e) (type_name e) (comment e))
  rest_is =
      let behind : List ℕ = lengths_bytes (name e) (type_name e) (comment e) ++ strings_bytes (name e) (type_name e) (comment e) in
      let joined : numbers e ++ behind ≡ bytes4 (le4 e 4) ++ (bytes4 (le4 e 8) ++ (bytes4 (le4 e 12) ++ (bytes4 (le4 e 16) ++ (bytes2 (le2 e 20) ++ (bytes2 (le2 e 22) ++ behind))))) = simp append_assoc in
      four_then e 4 bytes (omega (arith, w.long))
      ∙ ap (λ (l : List ℕ). bytes4 (le4 e 4) ++ l) (four_then e 8 bytes (omega (arith, w.long))
      ∙ ap (λ (l : List ℕ). bytes4 (le4 e 8) ++ l) (four_then e 12 bytes (omega (arith, w.long))
      ∙ ap (λ (l : List ℕ). bytes4 (le4 e 12) ++ l) (four_then e 16 bytes (omega (arith, w.long))
      ∙ ap (λ (l : List ℕ). bytes4 (le4 e 16) ++ l) (two_then e 20 bytes (omega (arith, w.long))
      ∙ ap (λ (l : List ℕ). bytes2 (le2 e 20) ++ l) (two_then e 22 bytes (omega (arith, w.long))
      ∙ ap (λ (l : List ℕ). bytes2 (le2 e 22) ++ l) lengths_are)))))
      ∙ sym joined

  pub entry_is : e ≡ entry_bytes (numbers e ++ (lengths_bytes (name e) (type_name e) (comment e) ++ strings_bytes (name e) (type_name e) (comment e)))
  unfolding entry_bytes
  entry_is =
      let own : e ≡ bytes4 (length e) ++ drop 4 e = four_then e 0 bytes (omega (arith, w.long)) ∙ ap (λ (k : ℕ). bytes4 k ++ drop 4 e) claims in
      let long : length e ≡ length (drop 4 e) + 4 = omega (arith, length-drop 4 e, w.long) in
      own ∙ ap (λ (k : ℕ). bytes4 k ++ drop 4 e) long ∙ ap (λ (l : List ℕ). bytes4 (length l + 4) ++ l) rest_is

  part_byte : (at n k : ℕ) → get_or (part e at n) k 0 < 256
  unfolding part
  part_byte at n k = small_take (drop at e) n (small_drop e at (λ i. is_byte e i bytes)) k

  pub name_bytes : AreBytes (name e)
  name_bytes = part_byte 30 (le2 e 24)

  pub type_bytes : AreBytes (type_name e)
  type_bytes = part_byte (31 + le2 e 24) (le2 e 26)

  pub comment_bytes : AreBytes (comment e)
  comment_bytes = part_byte (32 + le2 e 24 + le2 e 26) (le2 e 28)
