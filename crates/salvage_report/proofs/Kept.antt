-- What is kept so far, and what is still to be kept.
use Rattle.std.proofs.Common.{ℕ, ◌≡◌, List, [], ◌∷◌, ◌++◌, sym, ap, ◌∙◌, append_assoc, append-nil}
use Rattle.walk.specs.declared.Piece.{Piece}
use Rattle.salvage.specs.Salvage.{bytes_of, kept}

pub one_more : {R : Type 0} (s now : List ℕ) {left rest : List (Piece R)} {p : Piece R} {next all : List ℕ}
    → left ≡ p ∷ rest → next ≡ now ++ bytes_of s p.start p.end p.answer → now ++ kept s left ≡ all → next ++ kept s rest ≡ all
unfolding kept
one_more {R = R} s now {left} {rest} {p} {next} turn step so =
    ap (λ (x : List ℕ). x ++ kept s rest) step ∙ append_assoc now (bytes_of s p.start p.end p.answer) (kept s rest)
    ∙ ap (λ (x : List (Piece R)). now ++ kept s x) (sym turn) ∙ so

pub no_more : {R : Type 0} (s : List ℕ) {left : List (Piece R)} {now all : List ℕ} → left ≡ [] → now ++ kept s left ≡ all → now ≡ all
unfolding kept
no_more {R = R} s {left} {now} none so = sym (append-nil now) ∙ ap (λ (x : List (Piece R)). now ++ kept s x) (sym none) ∙ so
