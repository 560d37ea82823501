-- An entry laid out: a header of so many bytes, three strings with end bytes of 0, and what follows. Where each stands.
use Rattle.std.proofs.Common.{ℕ, ◌+◌, ◌≡◌, sym, ◌∙◌, List, [], ◌∷◌, ◌++◌, length, get_or, length-append, arith}
use native.Mathlib.Nat.{add-zero}
use mathlib.Core.List.{append_assoc}
use lib.Seq.{get_or-append-add}
use Rattle.le.specs.Le.{part}
use Rattle.le.proofs.Inside.{part_whole}
use Rattle.writing.specs.Layout.{strings_bytes}
use Rattle.writing.proofs.Entry.{length_strings}

-- what stands behind so many bytes: a string, and an end byte
string_at : (before string after : List ℕ) (at : ℕ) → length before ≡ at → part (before ++ (string ++ after)) at (length string) ≡ string
string_at before string after at h = rw h at (part_whole before string after)

zero_at : (before after : List ℕ) (at : ℕ) → length before ≡ at → get_or (before ++ (0 ∷ after)) at 0 ≡ 0
zero_at before after at h = rw (add-zero, h) at (get_or-append-add before (0 ∷ after) 0 0)

pub record Laid (e header name type comment tail : List ℕ) (h : ℕ) : Type 0 where
  pub is : e ≡ header ++ (strings_bytes name type comment ++ tail)
  pub long : length header ≡ h

module _ {e header name type comment tail : List ℕ} {h : ℕ} (l : Laid e header name type comment tail h) where
  pub split : e ≡ (header ++ strings_bytes name type comment) ++ tail
  split = l.is ∙ sym (append_assoc header (strings_bytes name type comment) tail)

  pub length_front : length (header ++ strings_bytes name type comment) ≡ h + 3 + length name + length type + length comment
  length_front = length-append header (strings_bytes name type comment) ∙ omega (arith, l.long, length_strings name type comment)

  -- each string is the part that the lengths place
  pub name_is : part e h (length name) ≡ name
  unfolding strings_bytes
  name_is = simp (l.is, append_assoc) (string_at header name (0 ∷ (type ++ (0 ∷ (comment ++ (0 ∷ tail))))) h l.long)

  pub type_is : part e (h + 1 + length name) (length type) ≡ type
  unfolding strings_bytes
  type_is = simp (l.is, append_assoc) (simp append_assoc at (string_at (header ++ (name ++ (0 ∷ []))) type (0 ∷ (comment ++ (0 ∷ tail))) (h + 1 + length name) (simp length-append (omega (arith, l.long)))))

  pub comment_is : part e (h + 2 + length name + length type) (length comment) ≡ comment
  unfolding strings_bytes
  comment_is = simp (l.is, append_assoc) (simp append_assoc at (string_at (header ++ (name ++ (0 ∷ (type ++ (0 ∷ []))))) comment (0 ∷ tail) (h + 2 + length name + length type) (simp length-append (omega (arith, l.long)))))

  -- the end byte of each is 0
  pub name_end : get_or e (h + length name) 0 ≡ 0
  unfolding strings_bytes
  name_end = simp (l.is, append_assoc) (simp append_assoc at (zero_at (header ++ name) (type ++ (0 ∷ (comment ++ (0 ∷ tail)))) (h + length name) (simp length-append (omega (arith, l.long)))))

  pub type_end : get_or e (h + length name + 1 + length type) 0 ≡ 0
  unfolding strings_bytes
  type_end = simp (l.is, append_assoc) (simp append_assoc at (zero_at (header ++ (name ++ (0 ∷ type))) (comment ++ (0 ∷ tail)) (h + length name + 1 + length type) (simp length-append (omega (arith, l.long)))))

  pub comment_end : get_or e (h + length name + 1 + length type + 1 + length comment) 0 ≡ 0
  unfolding strings_bytes
  comment_end = simp (l.is, append_assoc) (simp append_assoc at (zero_at (header ++ (name ++ (0 ∷ (type ++ (0 ∷ comment))))) tail (h + length name + 1 + length type + 1 + length comment) (simp length-append (omega (arith, l.long)))))
