-- The options of a line, one word after another.
use Rattle.std.proofs.Common.{ℕ, suc, ◌+◌, ◌<◌, ◌≤◌, ◌≡◌, refl, ap, sym, true, false, List, ◌∷◌, length, get_or, drop, drop-cons, add-one, Ok, Err}
use Rattle.std.specs.Prelude.{Result}
use Rattle.std.proofs.lemmas.List.{drop_all}
use Rattle.arguments.specs.declared.options.Options.{Options}
use Rattle.arguments.specs.declared.options.Said.{Said}
use Rattle.arguments.specs.declared.options.Said.TheVariants.{Help, Version, Given}
use Rattle.arguments.specs.declared.misuse.Misuse.{Misuse}
use Rattle.arguments.specs.Words.{Word, is_option, ends_options}
use Rattle.arguments.specs.Options.{taken, and_then, options_from}

pub cons_past : (o : Options) (w : Word) (line : List Word) → is_option w.now ≡ false → options_from o (w ∷ line) ≡ options_from o line
unfolding options_from
cons_past o w line h = rw h refl

pub cons_end : (o : Options) (w : Word) (line : List Word) → is_option w.now ≡ true → ends_options w.now ≡ true → options_from o (w ∷ line) ≡ Ok (Given o)
unfolding options_from
cons_end o w line h e = rw (h, e) refl

pub cons_taken : (o : Options) (w : Word) (line : List Word) (r : Result Said Misuse) → is_option w.now ≡ true → ends_options w.now ≡ false → taken o w ≡ r
    → options_from o (w ∷ line) ≡ and_then (λ more. options_from more line) r
unfolding options_from
cons_taken o w line r h e t = rw (h, e) (ap (and_then (λ more. options_from more line)) t)

module _ (o : Options) (line : List Word) (k : ℕ) (d : Word) where
  pub passed_over : k < length line → is_option (get_or line k d).now ≡ false → options_from o (drop (k + 1) line) ≡ options_from o (drop k line)
  passed_over h t = rw (add-one, drop-cons line k d h, cons_past o (get_or line k d) (drop (suc k) line) t) refl

  pub at_end : k < length line → is_option (get_or line k d).now ≡ true → ends_options (get_or line k d).now ≡ true → options_from o (drop k line) ≡ Ok (Given o)
  at_end h t e = rw (drop-cons line k d h) (cons_end o (get_or line k d) (drop (suc k) line) t e)

  taken_at : (r : Result Said Misuse) → k < length line → is_option (get_or line k d).now ≡ true → ends_options (get_or line k d).now ≡ false → taken o (get_or line k d) ≡ r
      → options_from o (drop k line) ≡ and_then (λ more. options_from more (drop (k + 1) line)) r
  taken_at r h t e is = rw (add-one, drop-cons line k d h) (cons_taken o (get_or line k d) (drop (suc k) line) r t e is)

  pub goes_on : (more : Options) → k < length line → is_option (get_or line k d).now ≡ true → ends_options (get_or line k d).now ≡ false → taken o (get_or line k d) ≡ Ok (Given more)
      → options_from more (drop (k + 1) line) ≡ options_from o (drop k line)
  goes_on more h t e is = sym (taken_at (Ok (Given more)) h t e is)

  pub help : k < length line → is_option (get_or line k d).now ≡ true → ends_options (get_or line k d).now ≡ false → taken o (get_or line k d) ≡ Ok Help → options_from o (drop k line) ≡ Ok Help
  help h t e is = taken_at (Ok Help) h t e is

  pub version : k < length line → is_option (get_or line k d).now ≡ true → ends_options (get_or line k d).now ≡ false → taken o (get_or line k d) ≡ Ok Version → options_from o (drop k line) ≡ Ok Version
  version h t e is = taken_at (Ok Version) h t e is

  pub refused : (why : Misuse) → k < length line → is_option (get_or line k d).now ≡ true → ends_options (get_or line k d).now ≡ false → taken o (get_or line k d) ≡ Err why → options_from o (drop k line) ≡ Err why
  refused why h t e is = taken_at (Err why) h t e is

pub none_left : (o : Options) (line : List Word) (k : ℕ) → length line ≤ k → options_from o (drop k line) ≡ Ok (Given o)
unfolding options_from
none_left o line k h = rw (drop_all k line h) refl
