-- What an answer to a number means: proved of std's slice_get.
use Rattle.std.proofs.Common.{◌≡◌, ℕ, List, [], ◌∷◌, ◌++◌, length, refl, sym, ap, ap₂, ◌∙◌}
use Rattle.std.specs.Prelude.{slice_get, ok_or, Option, Some}
use Rattle.std.proofs.lemmas.Option.{slice_get_past}
use Rattle.refusal.specs.declared.Refusal.TheVariants.{NoSuchNumber}
use Rattle.refusal.specs.ByNumber.{IsNumbered}

module _ {A : Type 0} where
  at_number : (before behind : List A) (x : A) → slice_get (before ++ (x ∷ behind)) (length before) ≡ Some x
  at_number [] behind x = refl
  at_number (y ∷ before) behind x = at_number before behind x

  pub numbers_meant : (all : List A) (number : ℕ) → IsNumbered all number (ok_or (slice_get all number) (NoSuchNumber (length all) number))
  numbers_meant all number =
      let answer = λ (o : Option A). ok_or o (NoSuchNumber (length all) number) in
      record {
        shown = λ before behind x e l. ap₂ (λ (xs : List A) (n : ℕ). answer (slice_get xs n)) e (sym l) ∙ ap answer (at_number before behind x);
        past = λ h. ap answer (slice_get_past all number h);
      }
