-- docs/FORMAT.md, "Numbers" and "Refusals": what numbers and figures tell.
use Rattle.std.specs.Prelude.{ℕ, ◌≡◌, ◌≤◌, ◌-◌, ◌^◌}
use Rattle.refusal.specs.declared.Refusal.{Refusal}
use Rattle.refusal.specs.declared.Refusal.TheVariants.{TooLarge, TooDeep, OffsetTooLarge, TooManyAliases}
use Rattle.refusal.specs.Refusal.{figures_of, limit}

-- the numbers are 1 to 24, and a number with its two figures tells which refusal it is and what it is made of: no two refusals have the same. The limit and the
-- deepest level, the largest index offset and the most aliases, by their numbers
pub record FiguresMeant : Type 0 where
  pub from : (r : Refusal) → 1 ≤ (figures_of r).number
  pub to : (r : Refusal) → (figures_of r).number ≤ 24
  pub apart : (r q : Refusal) → figures_of r ≡ figures_of q → r ≡ q
  pub largest : limit ≡ 16777216
  pub large : (length : ℕ) → figures_of (TooLarge length) ≡ record { number = 5; expected = 16777216; got = length }
  pub deep : figures_of TooDeep ≡ record { number = 15; expected = 16; got = 17 }
  pub offset : (offset : ℕ) → figures_of (OffsetTooLarge offset) ≡ record { number = 23; expected = 2 ^ 32 - 1; got = offset }
  pub aliases : (place : ℕ) → figures_of (TooManyAliases place) ≡ record { number = 24; expected = place; got = 16 }
