-- What the checks of a writer, what it writes and its promise mean: proved.
use Rattle.std.proofs.Common.{ℕ, ◌+◌, ◌≤◌, ◌≡◌, refl, sym, ap, ◌∙◌, Bool, true, false, List, [], ◌++◌, length, get_or, take, drop, Ok, Err, Result, arith, append-nil}
use Rattle.std.specs.Prelude.{ltb}
use borrow.Author.Tests.{ltb-true, ltb-false}
use lib.Seq.{take_at, drop_at}
use Rattle.le.specs.Le.{le2, part}
use Rattle.le.proofs.Laws.{le2_bytes2, le4_bytes4}
use Rattle.refusal.specs.declared.Refusal.{Refusal}
use Rattle.refusal.specs.Refusal.{limit}
use Rattle.writing.specs.Checks.{strings_checked, room_checked}
use Rattle.writing.specs.Layout.{lengths_bytes, strings_bytes, attributes_bytes, entry_bytes}
use Rattle.writing.specs.Writing.{Writes}
use Rattle.writing.specs.Meant.{CountChecked, too_long, fits, StringsChecked, name_too_long, type_too_long, comment_too_long, all_fit, RoomChecked, too_large, too_small, has_room, ChecksMeant, StringsLaid, LengthsLaid, AttributesLaid, EntryLaid, LayoutsMeant, Written, refused, no_room, whole, WritesMeant}
use Rattle.writing.proofs.Entry.{length_strings}
use Rattle.writing.proofs.Laid.{Laid, name_is, type_is, comment_is, name_end, type_end, comment_end}

count_by : (n : ℕ) (t : Bool) → ltb 65535 n ≡ t → CountChecked n
count_by n true e = too_long (ltb-true 65535 n e) (simp e)
count_by n false e = fits (ltb-false 65535 n e) (simp e)

strings_by : (name type comment : List ℕ) (t : Bool) → ltb 65535 (length name) ≡ t → (u : Bool) → ltb 65535 (length type) ≡ u → (v : Bool) → ltb 65535 (length comment) ≡ v
    → StringsChecked name type comment
unfolding strings_checked
strings_by name type comment true e u f v g = name_too_long (ltb-true 65535 (length name) e) (simp e)
strings_by name type comment false e true f v g = type_too_long (ltb-false 65535 (length name) e) (ltb-true 65535 (length type) f) (simp (e, f))
strings_by name type comment false e false f true g = comment_too_long (ltb-false 65535 (length name) e) (ltb-false 65535 (length type) f) (ltb-true 65535 (length comment) g) (simp (e, f, g))
strings_by name type comment false e false f false g = all_fit (ltb-false 65535 (length name) e) (ltb-false 65535 (length type) f) (ltb-false 65535 (length comment) g) (simp (e, f, g))

room_by : (needed lent : ℕ) (t : Bool) → ltb limit needed ≡ t → (u : Bool) → ltb lent needed ≡ u → RoomChecked needed lent
unfolding room_checked
room_by needed lent true e u f = too_large (ltb-true limit needed e) (simp e)
room_by needed lent false e true f = too_small (ltb-false limit needed e) (ltb-true lent needed f) (simp (e, f))
room_by needed lent false e false f = has_room (ltb-false limit needed e) (ltb-false lent needed f) (simp (e, f))

pub checks_meant : ChecksMeant
checks_meant = record {
  count = λ n. count_by n (ltb 65535 n) refl;
  strings = λ name type comment. strings_by name type comment (ltb 65535 (length name)) refl (ltb 65535 (length type)) refl (ltb 65535 (length comment)) refl;
  room = λ needed lent. room_by needed lent (ltb limit needed) refl (ltb lent needed) refl;
}

-- what is written begins where it is lent
written_by : (bytes old new : List ℕ) (r : Result ℕ Refusal) (t : Bool) → ltb (length old) (length bytes) ≡ t → Writes (Ok bytes) old new r → Written (Ok bytes) old new r
written_by bytes old new r true e w = no_room bytes refl (ltb-true (length old) (length bytes) e) (w.said ∙ simp e) (w.left ∙ simp e)
written_by bytes old new r false e w =
    let l : new ≡ bytes ++ drop (length bytes) old = w.left ∙ simp e in
    whole bytes refl (ltb-false (length old) (length bytes) e) (w.said ∙ simp e)
    (ap (take (length bytes)) l ∙ take_at bytes (drop (length bytes) old) (length bytes) refl)
    (ap (drop (length bytes)) l ∙ drop_at bytes (drop (length bytes) old) (length bytes) refl)

pub writes_meant : WritesMeant
writes_meant (Ok bytes) old new r w = written_by bytes old new r (ltb (length old) (length bytes)) refl w
writes_meant (Err why) old new r w = refused why refl w.said w.left

strings_laid : (name type comment : List ℕ) → StringsLaid name type comment (strings_bytes name type comment)
strings_laid name type comment =
    let e : List ℕ = strings_bytes name type comment in
    let l : Laid e [] name type comment [] 0 = record { is = sym (append-nil e); long = refl } in
    record {
      name_is = name_is l;
      name_end = ap (λ (k : ℕ). get_or e k 0) (omega arith) ∙ name_end l;
      type_is = ap (λ (k : ℕ). part e k (length type)) (omega arith) ∙ type_is l;
      type_end = ap (λ (k : ℕ). get_or e k 0) (omega arith) ∙ type_end l;
      comment_is = ap (λ (k : ℕ). part e k (length comment)) (omega arith) ∙ comment_is l;
      comment_end = ap (λ (k : ℕ). get_or e k 0) (omega arith) ∙ comment_end l;
      long = length_strings name type comment ∙ omega arith;
    }

lengths_laid : (name type comment : List ℕ) → length name ≤ 65535 → length type ≤ 65535 → length comment ≤ 65535 → LengthsLaid name type comment (lengths_bytes name type comment)
unfolding lengths_bytes le2
lengths_laid name type comment h k l = record { name_length = omega arith; type_length = omega arith; comment_length = omega arith; long = refl }

attributes_laid : (count : ℕ) (block : List ℕ) → count ≤ 65535 → AttributesLaid count block
unfolding attributes_bytes
attributes_laid count block h = record { count_is = le2_bytes2 count block (omega arith); block_is = refl; nothing = refl }

entry_laid : (rest : List ℕ) → length rest + 4 ≤ 16777216 → EntryLaid rest
unfolding entry_bytes
entry_laid rest h = record { claims = le4_bytes4 (length rest + 4) rest (omega arith) ∙ omega arith; behind = refl }

pub layouts_meant : LayoutsMeant
layouts_meant = record { strings = strings_laid; lengths = lengths_laid; attributes = attributes_laid; entry = entry_laid }
