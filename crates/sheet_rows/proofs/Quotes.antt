-- How many quotes a text has, and how much rows are.
use Rattle.std.proofs.Common.{ℕ, ◌+◌, ◌<◌, ◌≤◌, ◌≡◌, refl, ap, ◌∙◌, Bool, true, false, List, [], ◌∷◌, length, drop, get_or, arith}
use Rattle.std.specs.Prelude.{eqb, if◌then◌else◌}
use Rattle.std.proofs.lemmas.List.{at_drop_more, at_drop_all}
use Rattle.sheet_rows.specs.declared.cells.Three.{Three}
use Rattle.sheet_rows.specs.declared.extent.Extent.{Extent}
use Rattle.sheet_rows.specs.Rows.{Line}
use Rattle.sheet_rows.specs.Extent.{quotes, text_length, none, row_extent, joined, extent_of}

-- ---- quotes
pub quotes_none : quotes [] ≡ 0
unfolding quotes
quotes_none = refl

pub quotes_quote : (b : ℕ) (s : List ℕ) → eqb b 34 ≡ true → quotes (b ∷ s) ≡ quotes s + 1
unfolding quotes
quotes_quote b s e = ap (λ (c : Bool). if c then quotes s + 1 else quotes s) e

pub quotes_other : (b : ℕ) (s : List ℕ) → eqb b 34 ≡ false → quotes (b ∷ s) ≡ quotes s
unfolding quotes
quotes_other b s e = ap (λ (c : Bool). if c then quotes s + 1 else quotes s) e

module _ (s : List ℕ) (i : ℕ) where
  pub quotes_end : length s ≤ i → quotes (drop i s) ≡ 0
  quotes_end h = at_drop_all quotes s i h ∙ quotes_none

  pub quotes_more : i < length s → eqb (get_or s i 0) 34 ≡ true → quotes (drop i s) ≡ quotes (drop (i + 1) s) + 1
  quotes_more h e = at_drop_more quotes s i 0 h ∙ quotes_quote (get_or s i 0) (drop (i + 1) s) e

  pub quotes_same : i < length s → eqb (get_or s i 0) 34 ≡ false → quotes (drop i s) ≡ quotes (drop (i + 1) s)
  quotes_same h e = at_drop_more quotes s i 0 h ∙ quotes_other (get_or s i 0) (drop (i + 1) s) e

pub quotes_few : (s : List ℕ) → quotes s ≤ length s
quotes_few [] = omega (arith, quotes_none)
quotes_few (b ∷ s) = by (eqb b 34) refl (quotes_few s)
  where
    by : (c : Bool) → eqb b 34 ≡ c → quotes s ≤ length s → quotes (b ∷ s) ≤ length (b ∷ s)
    by true e h = omega (arith, quotes_quote b s e, h)
    by false e h = omega (arith, quotes_other b s e, h)

-- ---- extents
pub text_fits : (t : List ℕ) → text_length t ≤ length t
unfolding text_length
text_fits t = omega arith

pub row_bytes : (c : Three) → (row_extent c).bytes ≤ length c.first.now + length c.second.now + length c.third.now
unfolding row_extent
row_bytes c = omega (arith, text_fits c.first.now, text_fits c.second.now, text_fits c.third.now)

pub row_one : (c : Three) → (row_extent c).rows ≡ 1
unfolding row_extent
row_one c = refl

same_extent : (a b : Extent) → a.rows ≡ b.rows → a.bytes ≡ b.bytes → a.longest ≡ b.longest → a ≡ b
same_extent a b e f g =
    ap (λ (n : ℕ). record { rows = n; bytes = a.bytes; longest = a.longest }) e
    ∙ ap (λ (n : ℕ). record { rows = b.rows; bytes = n; longest = a.longest }) f
    ∙ ap (λ (n : ℕ). record { rows = b.rows; bytes = b.bytes; longest = n }) g

pub none_joined : (e : Extent) → joined none e ≡ e
none_joined e = same_extent (joined none e) e (omega arith) (omega arith) (omega arith)

pub joined_none : (e : Extent) → joined e none ≡ e
joined_none e = same_extent (joined e none) e (omega arith) (omega arith) (omega arith)

pub joined_on : (a b c : Extent) → joined (joined a b) c ≡ joined a (joined b c)
joined_on a b c = same_extent (joined (joined a b) c) (joined a (joined b c)) (omega arith) (omega arith) (omega arith)

pub extent_none : extent_of [] ≡ none
unfolding extent_of
extent_none = refl

pub extent_then : (l : Line) (lines : List Line) → extent_of (l ∷ lines) ≡ joined (row_extent l.cells.strings) (extent_of lines)
unfolding extent_of
extent_then l lines = refl
