-- A fit record whose entry is within the limit is enough to shut the useless versions out.
use Rattle.std.proofs.Common.{ℕ, ◌≤◌, ◌≡◌, sym, ap, ◌∙◌, Bool, true, false, List, [], ◌∷◌, length, arith, Bor}
use mathlib.Core.List.{append-nil}
use lib.Dec.{leb}
use borrow.Author.Tests.{lt-leb}
use Rattle.le.proofs.Laws.{not_both}
use Rattle.refusal.specs.Refusal.{limit}
use Rattle.entry.specs.Walk.{walk}
use Rattle.regrown.specs.Regrown.{Tells, lying, grown, Grown, entry_of, upload, ComeBack}
use Rattle.regrown.specs.ShutsOut.{is_entry, ShutsOut}

module _ {R S T : Type 0} (Fit : R → Type 0) (written : R → List ℕ) (meant : R → List ℕ → S) (cursor : T → ℕ) (told : T → Tells S) (g : Grown Fit) (small : length (entry_of Fit written g) ≤ limit) where
  abbrev u : Bor (List ℕ)
  u = lying (0, 0) (upload Fit written (g ∷ []))

  within : length u.now ≤ limit
  within = simp append-nil small

  first : List (Tells S) → Bool
  first [] = false
  first (t ∷ ts) = is_entry t

  second : List (Tells S) → Bool
  second [] = false
  second (t ∷ ts) = first ts

  -- an entry that is grown has bytes
  begins : leb (length u.now) 0 ≡ false
  unfolding grown
  begins = lt-leb (length u.now) 0 (omega arith)

  module _ (step : Bor (List ℕ) → ℕ → T) (d : ComeBack Fit written meant step cursor told) where
    first_told : is_entry (told (step u 0)) ≡ true
    unfolding walk first
    first_told = ap first ((d (0, 0) (g ∷ []) within).all 0)

    second_told : is_entry (told (step u (cursor (step u 0)))) ≡ false
    unfolding walk first second
    second_told = simp begins at (ap second ((d (0, 0) (g ∷ []) within).all 0))

  pub shuts_out : ShutsOut Fit written meant cursor told
  shuts_out =
      record {
        some = g;
        never = λ step h d. not_both (first_told step d) (h u 0);
        again = λ step h d. not_both (first_told step d) (sym (h u (cursor (step u 0))) ∙ second_told step d);
      }
