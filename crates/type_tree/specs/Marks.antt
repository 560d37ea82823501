-- docs/FORMAT.md, "The command's text": the marks of a data type, or of a member of one.
use Rattle.std.specs.Prelude.{ℕ, Bool, List, [], ◌∷◌, ◌++◌, codes, bit_or, ◌||◌, if◌then◌else◌}
use Rattle.le.specs.Le.{has}
use Rattle.flags.specs.declared.type_flags.AdsTypeFlags.{AdsTypeFlags}
use Rattle.type_tree.specs.declared.marks.Marks.{Marks}
use Rattle.type_tree.specs.Joined.{joined, placed}

-- the marks of what stands in an entry, with flags of its own
abbrev pub marks_within : Marks → AdsTypeFlags → Marks
marks_within m own = record { own = own; around = record { 0 = bit_or m.around.0 m.own.0 } }

abbrev pub said : Bool → List ℕ → List (List ℕ)
said is_set word = if is_set then word ∷ [] else []

-- the words of a flag word, each behind a prefix
unfoldable pub words_of : List ℕ → ℕ → List (List ℕ)
words_of prefix flags =
    said (has flags 0x20) (prefix ++ codes "bits") ++ (said (has flags 0x20000) (prefix ++ codes "static")
    ++ (said (has flags 4) (prefix ++ codes "reference") ++ said (has flags 0x40) (prefix ++ codes "property")))

unfoldable pub is_any : ℕ → Bool
is_any flags = has flags 0x20 || has flags 0x20000 || has flags 4 || has flags 0x40

-- those of its own flags, then those of what it stands in
abbrev pub mark_words : Marks → List (List ℕ)
mark_words m = words_of [] m.own.0 ++ words_of (codes "in ") m.around.0

-- each in quotes, with something between two
unfoldable pub marks_text : List ℕ → List ℕ → Marks → List ℕ
marks_text between quote m = joined between (λ w. quote ++ (w ++ quote)) (mark_words m)

-- one word, behind others or not
unfoldable pub word_text : Bool → Bool → List ℕ → List ℕ → List ℕ → List ℕ
word_text follows is_set between quote word = if is_set then (if follows then between else []) ++ (quote ++ (word ++ quote)) else []

-- the words of a flag word, behind others or not
unfoldable pub words_text : Bool → List ℕ → List ℕ → List ℕ → ℕ → List ℕ
words_text follows between quote prefix flags = placed follows between (λ w. quote ++ (w ++ quote)) (words_of prefix flags)
