-- How many characters the marks of a cell have.
use Rattle.std.proofs.Common.{ℕ, ◌+◌, ◌-◌, ◌≡◌, Bool, true, false, List, [], ◌∷◌, ◌++◌, codes, length, length-append, append-nil, refl, ap, arith}
use Rattle.le.specs.Le.{has}
use Rattle.type_tree.specs.declared.marks.Marks.{Marks}
use Rattle.type_table.specs.Cells.{only_if, words_width}
use Rattle.type_tree.specs.Joined.{more, joined}
use Rattle.type_tree.specs.Marks.{said, words_of, marks_text}

on : (a b : List (List ℕ)) → words_width (a ++ b) ≡ words_width a + words_width b
unfolding words_width
on [] b = omega arith
on (w ∷ a) b = omega (arith, on a b)

said_wide : (z : Bool) (w : List ℕ) → words_width (said z w) ≡ only_if z (length w + 2)
unfolding words_width
said_wide true w = omega arith
said_wide false w = refl

four : (a b c d : Bool) (p q r s : List ℕ)
    → only_if a (length p + 2) + only_if b (length q + 2) + only_if c (length r + 2) + only_if d (length s + 2) ≡ words_width (said a p ++ (said b q ++ (said c r ++ said d s)))
four a b c d p q r s =
    omega (
      arith,
      on (said a p) (said b q ++ (said c r ++ said d s)),
      on (said b q) (said c r ++ said d s),
      on (said c r) (said d s),
      said_wide a p,
      said_wide b q,
      said_wide c r,
      said_wide d s,
    )

pub own_wide : (flags : ℕ) → only_if (has flags 0x20) 6 + only_if (has flags 0x20000) 8 + only_if (has flags 4) 11 + only_if (has flags 0x40) 10 ≡ words_width (words_of [] flags)
unfolding words_of
own_wide flags = four (has flags 0x20) (has flags 0x20000) (has flags 4) (has flags 0x40) (codes "bits") (codes "static") (codes "reference") (codes "property")

pub around_wide : (flags : ℕ) → only_if (has flags 0x20) 9 + only_if (has flags 0x20000) 11 + only_if (has flags 4) 14 + only_if (has flags 0x40) 13 ≡ words_width (words_of (codes "in ") flags)
unfolding words_of
around_wide flags = four (has flags 0x20) (has flags 0x20000) (has flags 4) (has flags 0x40) (codes "in bits") (codes "in static") (codes "in reference") (codes "in property")

more_wide : (ws : List (List ℕ)) → length (more (codes ", ") (λ w. [] ++ (w ++ [])) ws) ≡ words_width ws
unfolding more words_width
more_wide [] = refl
more_wide (w ∷ ws) = omega (arith, length-append (codes ", " ++ (w ++ [])) (more (codes ", ") (λ v. [] ++ (v ++ [])) ws), ap length (append-nil w), more_wide ws)

joined_wide : (ws : List (List ℕ)) → length (joined (codes ", ") (λ w. [] ++ (w ++ [])) ws) ≡ words_width ws - 2
unfolding joined words_width
joined_wide [] = refl
joined_wide (w ∷ ws) = omega (arith, length-append (w ++ []) (more (codes ", ") (λ v. [] ++ (v ++ [])) ws), ap length (append-nil w), more_wide ws)

pub marks_wide : (m : Marks) (own around : ℕ) → own ≡ words_width (words_of [] m.own.0) → around ≡ words_width (words_of (codes "in ") m.around.0)
    → own + around - 2 ≡ length (marks_text (codes ", ") [] m)
unfolding marks_text
marks_wide m own around p q = omega (arith, p, q, on (words_of [] m.own.0) (words_of (codes "in ") m.around.0), joined_wide (words_of [] m.own.0 ++ words_of (codes "in ") m.around.0))
