-- The symbol of a path is the one of the longest name: proved.
use Rattle.std.proofs.Common.{ℕ, zero, suc, ◌+◌, ◌<◌, ◌≤◌, ◌≡◌, refl, sym, ap, ap₂, ◌∙◌, Bool, true, false, List, length, take, drop, arith, if◌then◌else◌, ltb, ltb-true, ltb-false}
use Rattle.std.specs.Prelude.{Result, Ok, Err}
use Rattle.le.proofs.Laws.{not_both}
use Rattle.part.specs.Outcome.{outcome}
use Rattle.refusal.specs.declared.Refusal.{Refusal}
use Rattle.path.specs.Path.{ends}
use Rattle.path.proofs.Texts.{ends_is, has_ended}
use Rattle.bind.specs.Binding.{Finder, longest}
use Rattle.bindings_meant.specs.Longest.{Answers, NamesSymbol, LongestMeant}

module _ (find : Finder) (path : List ℕ) where
  -- of the names that are shorter than so many bytes
  record Below (n : ℕ) (f : ℕ × ℕ) : Type 0 where
    shorter : f.0 < n
    found : find (take f.0 path) ≡ Ok f.1
    ended : ends (drop f.0 path) ≡ true
    none_longer : (m : ℕ) → f.0 < m → m < n → ends (drop m path) ≡ true → (at : ℕ) → ¬ (find (take m path) ≡ Ok at)

  -- the next is none
  one_more : (n : ℕ) (f : ℕ × ℕ) → Below n f → (ends (drop n path) ≡ true → (at : ℕ) → ¬ (find (take n path) ≡ Ok at)) → Below (suc n) f
  one_more n f b none =
      record {
        shorter = omega (arith, b.shorter);
        found = b.found;
        ended = b.ended;
        none_longer = λ m h k e at x. by m h k e at x (ltb m n) refl;
      }
    where
      by : (m : ℕ) → f.0 < m → m < suc n → ends (drop m path) ≡ true → (at : ℕ) → find (take m path) ≡ Ok at → (t : Bool) → ltb m n ≡ t → ⊥
      by m h k e at x true q = b.none_longer m h (ltb-true m n q) e at x
      by m h k e at x false q =
          let above : n ≤ m = ltb-false m n q in
          let same : m ≡ n = omega (arith, k, above) in
          none (ap (λ (i : ℕ). ends (drop i path)) (sym same) ∙ e) at (ap (λ (i : ℕ). find (take i path)) (sym same) ∙ x)

  below : (n : ℕ) (f : ℕ × ℕ) → longest find path n ≡ Ok f → Below n f
  unfolding longest
  below zero f h = absurd (grind arith)
  below (suc n) f h = by (below n f) (ends (drop n path)) refl h
    where
      on : (longest find path n ≡ Ok f → Below n f) → ends (drop n path) ≡ true → (r : Result ℕ Refusal) → find (take n path) ≡ r → outcome r (λ start. Ok (n, start)) (λ why. longest find path n) ≡ Ok f → Below (suc n) f
      on more e (Ok start) q k =
          let is : (n, start) ≡ f = cc in
          let long : n ≡ f.0 = ap (λ (x : ℕ × ℕ). x.0) is in
          let at : start ≡ f.1 = ap (λ (x : ℕ × ℕ). x.1) is in
          record {
            shorter = omega (arith, long);
            found = ap (λ (i : ℕ). find (take i path)) (sym long) ∙ q ∙ ap (λ (i : ℕ). Ok i) at;
            ended = ap (λ (i : ℕ). ends (drop i path)) (sym long) ∙ e;
            none_longer = λ m h l e at x. absurd (omega (arith, h, l, long));
          }
      on more e (Err why) q k = one_more n f (more k) (λ e at x. let other : Err why ≡ Ok at = sym q ∙ x in absurd (grind arith))

      by : (longest find path n ≡ Ok f → Below n f) → (t : Bool) → ends (drop n path) ≡ t → (if t then outcome (find (take n path)) (λ start. Ok (n, start)) (λ why. longest find path n) else longest find path n) ≡ Ok f → Below (suc n) f
      by more true e k = on more e (find (take n path)) refl k
      by more false e k = one_more n f (more k) (λ t at x. absurd (not_both t e))

  pub names_symbol : (f : ℕ × ℕ) → longest find path (length path + 1) ≡ Ok f → NamesSymbol (Answers find) path f
  names_symbol f h =
      let b = below (length path + 1) f h in
      record {
        within = omega (arith, b.shorter);
        is_found = b.found;
        is_whole = ends_is (drop f.0 path) b.ended;
        none_longer = λ m h k e at x. b.none_longer m h (omega (arith, k)) (has_ended (drop m path) e) at x;
      }

  not_shorter : (f g : ℕ × ℕ) → NamesSymbol (Answers find) path f → NamesSymbol (Answers find) path g → f.0 < g.0 → ⊥
  not_shorter f g a b h = a.none_longer g.0 h b.within b.is_whole g.1 b.is_found

  -- a path has one symbol at most
  pub one_symbol : (f g : ℕ × ℕ) → NamesSymbol (Answers find) path f → NamesSymbol (Answers find) path g → f ≡ g
  one_symbol f g a b = by (ltb f.0 g.0) (ltb g.0 f.0) refl refl
    where
      by : (p q : Bool) → ltb f.0 g.0 ≡ p → ltb g.0 f.0 ≡ q → f ≡ g
      by true q x y = absurd (not_shorter f g a b (ltb-true f.0 g.0 x))
      by false true x y = absurd (not_shorter g f b a (ltb-true g.0 f.0 y))
      by false false x y =
          let no_less : g.0 ≤ f.0 = ltb-false f.0 g.0 x in
          let no_more : f.0 ≤ g.0 = ltb-false g.0 f.0 y in
          let long : f.0 ≡ g.0 = omega (arith, no_less, no_more) in
          let given : Ok f.1 ≡ Ok g.1 = sym a.is_found ∙ ap (λ (i : ℕ). find (take i path)) long ∙ b.is_found in
          let at : f.1 ≡ g.1 = cc in
          ap₂ (λ (n m : ℕ). (n, m)) long at

  -- where none is found, none of the names is a symbol's
  none_found : (n : ℕ) (why : Refusal) → longest find path n ≡ Err why → (m : ℕ) → m < n → ends (drop m path) ≡ true → (at : ℕ) → find (take m path) ≡ Ok at → ⊥
  unfolding longest
  none_found zero why h m k e at x = absurd (omega (arith, k))
  none_found (suc n) why h m k e at x = by (none_found n why) (ends (drop n path)) refl (ltb m n) refl h
    where
      last : m ≡ n → ends (drop n path) ≡ true
      last s = ap (λ (i : ℕ). ends (drop i path)) (sym s) ∙ e

      on : (longest find path n ≡ Err why → (m : ℕ) → m < n → ends (drop m path) ≡ true → (at : ℕ) → find (take m path) ≡ Ok at → ⊥)
          → (p : Bool) → ltb m n ≡ p → (r : Result ℕ Refusal) → find (take n path) ≡ r → outcome r (λ start. Ok (n, start)) (λ why. longest find path n) ≡ Err why → ⊥
      on more p q (Ok start) r l = grind arith
      on more true q (Err other) r l = more l m (ltb-true m n q) e at x
      on more false q (Err other) r l =
          let above : n ≤ m = ltb-false m n q in
          let same : m ≡ n = omega (arith, k, above) in
          let both : Ok at ≡ Err other = sym x ∙ ap (λ (i : ℕ). find (take i path)) same ∙ r in
          grind arith

      by : (longest find path n ≡ Err why → (m : ℕ) → m < n → ends (drop m path) ≡ true → (at : ℕ) → find (take m path) ≡ Ok at → ⊥)
          → (t : Bool) → ends (drop n path) ≡ t → (p : Bool) → ltb m n ≡ p → (if t then outcome (find (take n path)) (λ start. Ok (n, start)) (λ why. longest find path n) else longest find path n) ≡ Err why → ⊥
      by more true s p q l = on more p q (find (take n path)) refl l
      by more false s true q l = more l m (ltb-true m n q) e at x
      by more false s false q l =
          let above : n ≤ m = ltb-false m n q in
          let same : m ≡ n = omega (arith, k, above) in
          not_both (last same) s

  pub is_longest : (f : ℕ × ℕ) → NamesSymbol (Answers find) path f → longest find path (length path + 1) ≡ Ok f
  is_longest f a = by (longest find path (length path + 1)) refl
    where
      by : (r : Result (ℕ × ℕ) Refusal) → longest find path (length path + 1) ≡ r → longest find path (length path + 1) ≡ Ok f
      by (Ok g) e = e ∙ ap (λ (x : ℕ × ℕ). Ok x) (one_symbol g f (names_symbol g e) a)
      by (Err why) e = absurd (none_found (length path + 1) why e f.0 (omega (arith, a.within)) (has_ended (drop f.0 path) a.is_whole) f.1 a.is_found)

pub longest_meant : LongestMeant
longest_meant find path f = (names_symbol find path f, is_longest find path f)
