-- A turn of a chain that is explained.
use Rattle.std.proofs.Common.{◌≡◌, ℕ, zero, suc, ◌+◌, ◌-◌, ◌≤◌, true, false, List, length, Ok, Err, refl, arith, Bor}
use Rattle.refusal.specs.declared.Refusal.{Refusal}
use Rattle.refusal.specs.declared.Refusal.TheVariants.{TooShort}
use Rattle.refactor.specs.declared.AdsRefactorInfo.{AdsRefactorInfo}
use Rattle.refactor.specs.Refactor.{first_of}
use Rattle.refactor.proofs.Turn.{room, nothing_first}
use Rattle.why.specs.declared.Reason.TheVariants.{Whole, Refused}
use Rattle.why.specs.Reasons.{chain_from}

-- so many bytes there are at most: the count that is left of them stays above the bytes that are left
module _ (whole at : ℕ) (s : Bor (List ℕ)) (c n : ℕ) where
  pub goes_on : (p : AdsRefactorInfo × Bor (List ℕ)) → first_of s ≡ Ok p → p.0.next_refactor_info ≡ true → c + length s.now ≤ n
      → chain_from whole at s c (n - c) ≡ chain_from whole at p.1 (c + 1) (n - (c + 1))
  unfolding chain_from
  goes_on p h f k = let r = room s p h in grind arith

  pub is_last : (p : AdsRefactorInfo × Bor (List ℕ)) → first_of s ≡ Ok p → p.0.next_refactor_info ≡ false → c + length s.now ≤ n
      → chain_from whole at s c (n - c) ≡ Whole at (c + 1)
  unfolding chain_from
  is_last p h f k = let r = room s p h in grind arith

  refused_by : (f : ℕ) (why : Refusal) → first_of s ≡ Err why → (f ≡ 0 → first_of s ≡ Err (TooShort 7 0)) → chain_from whole at s c f ≡ Refused c (whole - length s.now) why
  unfolding chain_from
  refused_by zero why h k = let z = k refl in let same : TooShort 7 0 ≡ why = cc in rw same refl
  refused_by (suc f) why h k = rw h refl

  pub is_refused : (why : Refusal) → first_of s ≡ Err why → c + length s.now ≤ n → chain_from whole at s c (n - c) ≡ Refused c (whole - length s.now) why
  is_refused why h k = refused_by (n - c) why h (λ z. nothing_first s (omega arith))
