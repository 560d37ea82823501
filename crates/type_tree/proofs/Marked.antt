-- Words one by one are the words of the list that has those that are set.
use Rattle.std.proofs.Common.{◌≡◌, ℕ, Bool, true, false, List, [], ◌∷◌, ◌++◌, refl, sym, ap, ◌∙◌, append_assoc, append-nil}
use Rattle.std.specs.Prelude.{◌||◌, codes}
use Rattle.le.specs.Le.{has}
use Rattle.type_tree.specs.declared.marks.Marks.{Marks}
use Rattle.type_tree.specs.Joined.{more, joined, placed}
use Rattle.type_tree.specs.Marks.{said, is_any, marks_text, word_text, words_of, words_text}

abbrev is_some : List (List ℕ) → Bool
is_some [] = false
is_some (w ∷ ws) = true

some_said : (a b c d : Bool) (p q r s : List ℕ) → is_some (said a p ++ (said b q ++ (said c r ++ said d s))) ≡ (a || b || c || d)
some_said true b c d p q r s = refl
some_said false true c d p q r s = refl
some_said false false true d p q r s = refl
some_said false false false true p q r s = refl
some_said false false false false p q r s = refl

module _ (between quote : List ℕ) where
  abbrev in_quotes : List ℕ → List ℕ
  in_quotes w = quote ++ (w ++ quote)

  one : (follows is_set : Bool) (w : List ℕ) (ws : List (List ℕ))
      → word_text follows is_set between quote w ++ placed (follows || is_set) between in_quotes ws ≡ placed follows between in_quotes (said is_set w ++ ws)
  unfolding word_text more joined
  one true true w ws = refl
  one true false w ws = refl
  one false true w ws = refl
  one false false w ws = refl

  last : (follows is_set : Bool) (w : List ℕ) → word_text follows is_set between quote w ≡ placed follows between in_quotes (said is_set w)
  unfolding word_text more joined
  last true true w = sym (append-nil (between ++ in_quotes w))
  last true false w = refl
  last false true w = sym (append-nil (in_quotes w))
  last false false w = refl

  pub four : (follows a b c d : Bool) (p q r s : List ℕ)
      → word_text follows a between quote p ++ (word_text (follows || a) b between quote q ++ (word_text (follows || a || b) c between quote r ++ word_text (follows || a || b || c) d between quote s))
      ≡ placed follows between in_quotes (said a p ++ (said b q ++ (said c r ++ said d s)))
  four follows a b c d p q r s =
      ap (λ x. word_text follows a between quote p ++ (word_text (follows || a) b between quote q ++ (word_text (follows || a || b) c between quote r ++ x))) (last (follows || a || b || c) d s)
      ∙ ap (λ x. word_text follows a between quote p ++ (word_text (follows || a) b between quote q ++ x)) (one (follows || a || b) c r (said d s))
      ∙ ap (λ x. word_text follows a between quote p ++ x) (one (follows || a) b q (said c r ++ said d s))
      ∙ one follows a p (said b q ++ (said c r ++ said d s))

pub words : (between quote prefix : List ℕ) (flags : ℕ) (follows a b c d : Bool)
    → a ≡ has flags 0x20 → b ≡ has flags 0x20000 → c ≡ has flags 4 → d ≡ has flags 0x40
    → word_text follows a between quote (prefix ++ codes "bits")
    ++ (word_text (follows || a) b between quote (prefix ++ codes "static")
    ++ (word_text (follows || a || b) c between quote (prefix ++ codes "reference") ++ word_text (follows || a || b || c) d between quote (prefix ++ codes "property")))
    ≡ words_text follows between quote prefix flags
unfolding words_text words_of
words between quote prefix flags follows a b c d is_a is_b is_c is_d =
    let f : List ℕ → List ℕ = λ w. quote ++ (w ++ quote) in
    let p = prefix ++ codes "bits" in
    let q = prefix ++ codes "static" in
    let r = prefix ++ codes "reference" in
    let s = prefix ++ codes "property" in
    four between quote follows a b c d p q r s
    ∙ ap (λ x. placed follows between f (said x p ++ (said b q ++ (said c r ++ said d s)))) is_a
    ∙ ap (λ x. placed follows between f (said (has flags 0x20) p ++ (said x q ++ (said c r ++ said d s)))) is_b
    ∙ ap (λ x. placed follows between f (said (has flags 0x20) p ++ (said (has flags 0x20000) q ++ (said x r ++ said d s)))) is_c
    ∙ ap (λ x. placed follows between f (said (has flags 0x20) p ++ (said (has flags 0x20000) q ++ (said (has flags 4) r ++ said x s)))) is_d

-- some words and more: these are behind others if they were, or if there are some of those
joined_on : (between : List ℕ) (f : List ℕ → List ℕ) (follows : Bool) (xs ys : List (List ℕ))
    → placed follows between f (xs ++ ys) ≡ placed follows between f xs ++ placed (follows || is_some xs) between f ys
unfolding more joined
joined_on between f true [] ys = refl
joined_on between f false [] ys = refl
joined_on between f true (x ∷ xs) ys = ap (λ t. (between ++ f x) ++ t) (joined_on between f true xs ys) ∙ sym (append_assoc (between ++ f x) (more between f xs) (more between f ys))
joined_on between f false (x ∷ xs) ys = ap (λ t. f x ++ t) (joined_on between f true xs ys) ∙ sym (append_assoc (f x) (more between f xs) (more between f ys))

some_words : (prefix : List ℕ) (flags : ℕ) → is_some (words_of prefix flags) ≡ is_any flags
unfolding words_of is_any
some_words prefix flags = some_said (has flags 0x20) (has flags 0x20000) (has flags 4) (has flags 0x40) (prefix ++ codes "bits") (prefix ++ codes "static") (prefix ++ codes "reference") (prefix ++ codes "property")

pub both : (between quote : List ℕ) (m : Marks) (follows : Bool) → follows ≡ is_any m.own.0
    → words_text false between quote [] m.own.0 ++ words_text follows between quote (codes "in ") m.around.0 ≡ marks_text between quote m
unfolding words_text marks_text
both between quote m follows h =
    ap (λ x. words_text false between quote [] m.own.0 ++ words_text x between quote (codes "in ") m.around.0) (h ∙ sym (some_words [] m.own.0))
    ∙ sym (joined_on between (λ w. quote ++ (w ++ quote)) false (words_of [] m.own.0) (words_of (codes "in ") m.around.0))
