-- Flag words that are read alone: proved.
use Rattle.std.proofs.Common.{ℕ, ◌≡◌, refl, Bool, true, false, List, length}
use Rattle.std.specs.Prelude.{eqb, ltb}
use borrow.Author.Tests.{ltb-true, ltb-false, eqb-true, eqb-false}
use Rattle.le.specs.Le.{le2, le4}
use Rattle.refusal.specs.Refusal.{limit}
use Rattle.flags.specs.Flags.{of_length, symbol_flags_of, symbol2_flags_of, type_flags_of}
use Rattle.flags.specs.WordsRead.{WordRead, too_large, another_length, read, WordsRead}

by_tests : {A : Type 0} (needed : ℕ) (s : List ℕ) (word : A) (t : Bool) → ltb limit (length s) ≡ t → (u : Bool) → eqb (length s) needed ≡ u
    → WordRead needed s word (of_length needed s word)
by_tests needed s word true e u f = too_large (ltb-true limit (length s) e) (simp e)
by_tests needed s word false e true f = read (eqb-true (length s) needed f) (simp (e, f))
by_tests needed s word false e false f = another_length (ltb-false limit (length s) e) (eqb-false (length s) needed f) (simp (e, f))

word_read : {A : Type 0} (needed : ℕ) (s : List ℕ) (word : A) → WordRead needed s word (of_length needed s word)
word_read needed s word = by_tests needed s word (ltb limit (length s)) refl (eqb (length s) needed) refl

pub words_read : WordsRead
unfolding symbol_flags_of symbol2_flags_of type_flags_of
words_read = record { symbol = λ s. word_read 2 s (record { 0 = le2 s 0 }); extended = λ s. word_read 4 s (record { 0 = le4 s 0 }); field = λ s. word_read 4 s (record { 0 = le4 s 0 }) }
