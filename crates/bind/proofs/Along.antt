-- Along a path: data type by data type, part by part.
use Rattle.std.proofs.Common.{ℕ, zero, suc, ◌+◌, ◌-◌, ◌<◌, ◌≤◌, ◌≡◌, ◌≢◌, refl, sym, ap, ◌∙◌, Bool, true, false, List, length, Bor, arith, if◌then◌else◌, eq-eqb}
use Rattle.std.specs.Prelude.{Result, Ok, Err, ◌==◌}
use borrow.Author.Tests.{ne_eqb}
use Rattle.part.specs.Outcome.{outcome, and_then}
use Rattle.refusal.specs.Refusal.{most_aliases}
use Rattle.refusal.specs.declared.Refusal.{Refusal}
use Rattle.refusal.specs.declared.Refusal.TheVariants.{BadPath, NoOffset, TooManyAliases}
use Rattle.path.specs.declared.Split.{Split}
use Rattle.path.specs.Path.{first_part}
use Rattle.path.proofs.Shorter.{shorter}
use Rattle.bind.specs.declared.steps.Here.{Here}
use Rattle.bind.specs.Binding.{Finder, rests, rests_or, to_type, to_part, settled, along}

-- behind an entry that is passed; and behind one that is no pointer
abbrev goes : Here → ℕ → Result Here Refusal → Result Here Refusal
goes here at next = if here.entry.pointer == 0 then next else Err (NoOffset at here.entry.pointer)

passed : (here : Here) (at : ℕ) (next : Result Here Refusal) → rests here ≡ false → rests_or here at next ≡ goes here at next
passed here at next h = ap (λ (t : Bool). if t then Ok here else goes here at next) h

on : (here : Here) (at : ℕ) (next : Result Here Refusal) → rests here ≡ false → here.entry.pointer ≡ 0 → rests_or here at next ≡ next
on here at next h p = passed here at next h ∙ ap (λ (t : Bool). if t then next else Err (NoOffset at here.entry.pointer)) (eq-eqb here.entry.pointer 0 p)

module _ (find : Finder) (types : Bor (List ℕ)) where
  pub rests_here : (n : ℕ) (here : Here) (at : ℕ) → rests here ≡ true → settled find types n here at ≡ Ok here
  unfolding settled
  rests_here zero here at h = ap (λ (t : Bool). if t then Ok here else goes here at (Err (TooManyAliases at))) h
  rests_here (suc n) here at h = ap (λ (t : Bool). if t then Ok here else goes here at (and_then (to_type find types here at) (λ next. settled find types n next at))) h

  pub below_pointer : (n : ℕ) (here : Here) (at : ℕ) → rests here ≡ false → here.entry.pointer ≢ 0 → settled find types n here at ≡ Err (NoOffset at here.entry.pointer)
  unfolding settled
  below_pointer zero here at h p = passed here at (Err (TooManyAliases at)) h ∙ ap (λ (t : Bool). if t then Err (TooManyAliases at) else Err (NoOffset at here.entry.pointer)) (ne_eqb here.entry.pointer 0 p)
  below_pointer (suc n) here at h p =
      let next : Result Here Refusal = and_then (to_type find types here at) (λ next. settled find types n next at) in
      passed here at next h ∙ ap (λ (t : Bool). if t then next else Err (NoOffset at here.entry.pointer)) (ne_eqb here.entry.pointer 0 p)

  pub no_more : (here : Here) (at : ℕ) → rests here ≡ false → here.entry.pointer ≡ 0 → settled find types 0 here at ≡ Err (TooManyAliases at)
  unfolding settled
  no_more here at h p = on here at (Err (TooManyAliases at)) h p

  pub one_type : (n : ℕ) (here : Here) (at : ℕ) → rests here ≡ false → here.entry.pointer ≡ 0 → 0 < n → settled find types n here at ≡ and_then (to_type find types here at) (λ next. settled find types (n - 1) next at)
  unfolding settled
  one_type zero here at h p m = absurd (omega arith)
  one_type (suc n) here at h p m =
      let e : n ≡ suc n - 1 = omega arith in
      on here at (and_then (to_type find types here at) (λ next. settled find types n next at)) h p
      ∙ ap (λ (k : ℕ). and_then (to_type find types here at) (λ next. settled find types k next at)) e

  module _ (long : ℕ) where
    -- one part of a text, and then as is said
    abbrev turn : (Here → Bor (List ℕ) → Result Here Refusal) → Here → Bor (List ℕ) → Result Here Refusal
    turn go here text =
        outcome (first_part text)
        (λ p. and_then (settled find types most_aliases here (long + 1 - length text.now)) (λ next. and_then (to_part next p.part (long + 1 - length text.now)) (λ there. go there p.rest)))
        (λ left. Err (BadPath (long - left)))

    alike : (go other : Here → Bor (List ℕ) → Result Here Refusal) (here : Here) (text : Bor (List ℕ))
        → ((there : Here) (rest : Bor (List ℕ)) → length rest.now < length text.now → go there rest ≡ other there rest)
        → turn go here text ≡ turn other here text
    alike go other here text same = by (first_part text) refl
      where
        at : ℕ
        at = long + 1 - length text.now

        last : (p : Split) → length p.rest.now < length text.now → (r : Result Here Refusal) → and_then r (λ there. go there p.rest) ≡ and_then r (λ there. other there p.rest)
        last p h (Ok there) = same there p.rest h
        last p h (Err why) = refl

        goes : (p : Split) → length p.rest.now < length text.now → (r : Result Here Refusal)
            → and_then r (λ next. and_then (to_part next p.part at) (λ there. go there p.rest)) ≡ and_then r (λ next. and_then (to_part next p.part at) (λ there. other there p.rest))
        goes p h (Ok next) = last p h (to_part next p.part at)
        goes p h (Err why) = refl

        by : (f : Result Split ℕ) → first_part text ≡ f
            → outcome f (λ p. and_then (settled find types most_aliases here at) (λ next. and_then (to_part next p.part at) (λ there. go there p.rest))) (λ left. Err (BadPath (long - left)))
            ≡ outcome f (λ p. and_then (settled find types most_aliases here at) (λ next. and_then (to_part next p.part at) (λ there. other there p.rest))) (λ left. Err (BadPath (long - left)))
        by (Err left) e = refl
        by (Ok p) e = goes p (shorter text p e) (settled find types most_aliases here at)

    pub at_end : (n : ℕ) (here : Here) (text : Bor (List ℕ)) → length text.now ≡ 0 → along find types long n here text ≡ Ok here
    unfolding along
    at_end zero here text h = refl
    at_end (suc n) here text h = let none : (length text.now == 0) ≡ true = ap (λ (k : ℕ). k == 0) h in
        ap (λ (t : Bool). if t then Ok here else turn (along find types long n) here text) none

    -- more parts change nothing
    pub enough : (n m : ℕ) (here : Here) (text : Bor (List ℕ)) → length text.now ≤ n → length text.now ≤ m → along find types long n here text ≡ along find types long m here text
    unfolding along
    enough zero m here text h k = let none : length text.now ≡ 0 = omega arith in sym (at_end m here text none)
    enough (suc n) zero here text h k = let none : length text.now ≡ 0 = omega arith in at_end (suc n) here text none
    enough (suc n) (suc m) here text h k =
        ap (λ (r : Result Here Refusal). if length text.now == 0 then Ok here else r)
        (alike (along find types long n) (along find types long m) here text (λ there rest s. enough n m there rest (omega arith) (omega arith)))

    -- one part, and what is behind it
    pub one_part : (here : Here) (text : Bor (List ℕ)) → 0 < length text.now → along find types long (length text.now) here text ≡ turn (λ there rest. along find types long (length rest.now) there rest) here text
    unfolding along
    one_part here text h = by (length text.now) refl h
      where
        by : (n : ℕ) → length text.now ≡ n → 0 < n → along find types long n here text ≡ turn (λ there rest. along find types long (length rest.now) there rest) here text
        by zero e h = absurd (omega arith)
        by (suc n) e h =
            let more : length text.now ≢ 0 = omega arith in
            let some : (length text.now == 0) ≡ false = ne_eqb (length text.now) 0 more in
            ap (λ (t : Bool). if t then Ok here else turn (along find types long n) here text) some
            ∙ alike (along find types long n) (λ there rest. along find types long (length rest.now) there rest) here text (λ there rest s. enough n (length rest.now) there rest (omega arith) (omega arith))
