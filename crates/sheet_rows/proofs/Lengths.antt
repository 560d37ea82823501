-- How long a cell is, byte after byte.
use Rattle.std.proofs.Common.{ℕ, zero, suc, ◌+◌, ◌<◌, ◌≤◌, ◌≡◌, refl, ap, ◌∙◌, Bool, true, false, List, [], ◌∷◌, length, drop, get_or, arith}
use Rattle.std.specs.Prelude.{Option, Some, None, eqb, if◌then◌else◌}
use Rattle.std.proofs.lemmas.List.{at_drop_more, at_drop_all, drop_more, get_or-drop}
use borrow.Author.Tests.{eqb-true}
use Rattle.sheet.specs.Cells.{is_special}
use Rattle.sheet_rows.specs.Cells.{plain_length, behind, quoted_length}

-- ---- between no quotes
pub plain_bound : (s : List ℕ) → plain_length s ≤ length s
unfolding plain_length
plain_bound [] = omega arith
plain_bound (b ∷ s) = by (is_special b) (plain_bound s)
  where
    by : (c : Bool) → plain_length s ≤ length s → (if c then 0 else plain_length s + 1) ≤ suc (length s)
    by true h = omega arith
    by false h = omega (arith, h)

pub plain_none : plain_length [] ≡ 0
unfolding plain_length
plain_none = refl

pub plain_special : (b : ℕ) (s : List ℕ) → is_special b ≡ true → plain_length (b ∷ s) ≡ 0
unfolding plain_length
plain_special b s e = ap (λ (c : Bool). if c then 0 else plain_length s + 1) e

pub plain_more : (b : ℕ) (s : List ℕ) → is_special b ≡ false → plain_length (b ∷ s) ≡ plain_length s + 1
unfolding plain_length
plain_more b s e = ap (λ (c : Bool). if c then 0 else plain_length s + 1) e

module _ (s : List ℕ) (i : ℕ) where
  pub plain_end : length s ≤ i → plain_length (drop i s) ≡ 0
  plain_end h = at_drop_all plain_length s i h ∙ plain_none

  pub plain_stops : i < length s → is_special (get_or s i 0) ≡ true → plain_length (drop i s) ≡ 0
  plain_stops h e = at_drop_more plain_length s i 0 h ∙ plain_special (get_or s i 0) (drop (i + 1) s) e

  pub plain_goes_on : i < length s → is_special (get_or s i 0) ≡ false → plain_length (drop i s) ≡ plain_length (drop (i + 1) s) + 1
  plain_goes_on h e = at_drop_more plain_length s i 0 h ∙ plain_more (get_or s i 0) (drop (i + 1) s) e

-- ---- between quotes
pub behind_more : (n k : ℕ) (o : Option ℕ) → behind n (behind k o) ≡ behind (n + k) o
behind_more n k (Some m) = let e : n + (k + m) ≡ n + k + m = omega arith in ap (λ (x : ℕ). Some x) e
behind_more n k None = refl

pub behind_none : (o : Option ℕ) → behind 0 o ≡ o
behind_none (Some m) = let e : 0 + m ≡ m = omega arith in ap (λ (x : ℕ). Some x) e
behind_none None = refl

pub quoted_none : quoted_length [] ≡ None
unfolding quoted_length
quoted_none = refl

pub quoted_other : (b : ℕ) (s : List ℕ) → eqb b 34 ≡ false → quoted_length (b ∷ s) ≡ behind 1 (quoted_length s)
unfolding quoted_length
quoted_other b [] e = ap (λ (t : Bool). if t then Some 0 else None) e
quoted_other b (c ∷ s) e = ap (λ (t : Bool). if t then if eqb c 34 then behind 2 (quoted_length s) else Some 0 else behind 1 (quoted_length (c ∷ s))) e

pub quoted_pair : (b c : ℕ) (s : List ℕ) → eqb b 34 ≡ true → eqb c 34 ≡ true → quoted_length (b ∷ c ∷ s) ≡ behind 2 (quoted_length s)
unfolding quoted_length
quoted_pair b c s e f = simp (e, f)

pub quoted_closes : (b : ℕ) (s : List ℕ) → eqb b 34 ≡ true → eqb (get_or s 0 0) 34 ≡ false → quoted_length (b ∷ s) ≡ Some 0
unfolding quoted_length
quoted_closes b [] e f = simp e
quoted_closes b (c ∷ s) e f = simp (e, f)

module _ (s : List ℕ) (i : ℕ) where
  pub quoted_end : length s ≤ i → behind i (quoted_length (drop i s)) ≡ None
  quoted_end h = ap (behind i) (at_drop_all quoted_length s i h ∙ quoted_none)

  pub quoted_goes_on : i < length s → eqb (get_or s i 0) 34 ≡ false → behind i (quoted_length (drop i s)) ≡ behind (i + 1) (quoted_length (drop (i + 1) s))
  quoted_goes_on h e =
      ap (behind i) (at_drop_more quoted_length s i 0 h ∙ quoted_other (get_or s i 0) (drop (i + 1) s) e)
      ∙ behind_more i 1 (quoted_length (drop (i + 1) s))

  pub quoted_stops : i < length s → eqb (get_or s i 0) 34 ≡ true → eqb (get_or s (i + 1) 0) 34 ≡ false → behind i (quoted_length (drop i s)) ≡ Some i
  quoted_stops h e f =
      let same : i + 1 + 0 ≡ i + 1 = omega arith in
      let next : eqb (get_or (drop (i + 1) s) 0 0) 34 ≡ false = ap (λ (k : ℕ). eqb k 34) (get_or-drop (i + 1) s 0 0 ∙ ap (λ (k : ℕ). get_or s k 0) same) ∙ f in
      let none : i + 0 ≡ i = omega arith in
      ap (behind i) (at_drop_more quoted_length s i 0 h ∙ quoted_closes (get_or s i 0) (drop (i + 1) s) e next)
      ∙ ap (λ (x : ℕ). Some x) none

  pub quoted_pairs : i + 1 < length s → eqb (get_or s i 0) 34 ≡ true → eqb (get_or s (i + 1) 0) 34 ≡ true → behind i (quoted_length (drop i s)) ≡ behind (i + 2) (quoted_length (drop (i + 2) s))
  quoted_pairs h e f =
      let two : drop (i + 1 + 1) s ≡ drop (i + 2) s = ap (λ (k : ℕ). drop k s) (omega arith) in
      ap (behind i) (
      at_drop_more quoted_length s i 0 (omega arith)
      ∙ ap (λ (l : List ℕ). quoted_length (get_or s i 0 ∷ l)) (drop_more s (i + 1) 0 h)
      ∙ quoted_pair (get_or s i 0) (get_or s (i + 1) 0) (drop (i + 1 + 1) s) e f
      ∙ ap (λ (l : List ℕ). behind 2 (quoted_length l)) two
      ) ∙ behind_more i 2 (quoted_length (drop (i + 2) s))

-- where a byte other than 0 is met, there is one
pub inside : (s : List ℕ) (k b : ℕ) → 0 < b → eqb (get_or s k 0) b ≡ true → k < length s
inside [] k b h e = absurd (omega (arith, eqb-true 0 b e))
inside (c ∷ s) zero b h e = omega arith
inside (c ∷ s) (suc k) b h e = omega (arith, inside s k b h e)
