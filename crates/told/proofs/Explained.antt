-- The slots of a reason tell which it is, and stand in their order: proved.
use Rattle.std.proofs.Common.{◌≡◌, ℕ, List, refl, ap, ap₂, ◌∙◌, arith, get_or}
use Rattle.refusal.specs.Refusal.{figures_of}
use Rattle.refusal.specs.declared.Figures.{Figures}
use Rattle.refusal.proofs.FiguresMeant.{figures_meant}
use Rattle.why.specs.declared.Reason.TheVariants.{NotFlagged, NoExtendedFlags, NoRoom, Whole, Refused, Owed}
use Rattle.told.specs.Reasons.{ReasonsTold, SlotsInOrder}

slot : (n : ℕ) {x y : List ℕ} → x ≡ y → get_or x n 0 ≡ get_or y n 0
slot n h = ap (λ (l : List ℕ). get_or l n 0) h

three : {f g : Figures} → f.number ≡ g.number → f.expected ≡ g.expected → f.got ≡ g.got → f ≡ g
three {f} {g} a b c = ap₂ (λ (x y : ℕ). record { number = x; expected = y; got = f.got }) a b ∙ ap (λ (z : ℕ). record { number = g.number; expected = g.expected; got = z }) c

pub reasons_told : ReasonsTold
reasons_told NotFlagged NotFlagged h = refl
reasons_told NotFlagged NoExtendedFlags h = absurd (let n = slot 0 h in omega (arith, n))
reasons_told NotFlagged (NoRoom c d) h = absurd (let n = slot 0 h in omega (arith, n))
reasons_told NotFlagged (Whole c d) h = absurd (let n = slot 0 h in omega (arith, n))
reasons_told NotFlagged (Refused c d w) h = absurd (let n = slot 0 h in omega (arith, n))
reasons_told NotFlagged (Owed c d) h = absurd (let n = slot 0 h in omega (arith, n))
reasons_told NoExtendedFlags NotFlagged h = absurd (let n = slot 0 h in omega (arith, n))
reasons_told NoExtendedFlags NoExtendedFlags h = refl
reasons_told NoExtendedFlags (NoRoom c d) h = absurd (let n = slot 0 h in omega (arith, n))
reasons_told NoExtendedFlags (Whole c d) h = absurd (let n = slot 0 h in omega (arith, n))
reasons_told NoExtendedFlags (Refused c d w) h = absurd (let n = slot 0 h in omega (arith, n))
reasons_told NoExtendedFlags (Owed c d) h = absurd (let n = slot 0 h in omega (arith, n))
reasons_told (NoRoom a b) NotFlagged h = absurd (let n = slot 0 h in omega (arith, n))
reasons_told (NoRoom a b) NoExtendedFlags h = absurd (let n = slot 0 h in omega (arith, n))
reasons_told (NoRoom a b) (NoRoom c d) h = ap₂ NoRoom (slot 1 h) (slot 2 h)
reasons_told (NoRoom a b) (Whole c d) h = absurd (let n = slot 0 h in omega (arith, n))
reasons_told (NoRoom a b) (Refused c d w) h = absurd (let n = slot 0 h in omega (arith, n))
reasons_told (NoRoom a b) (Owed c d) h = absurd (let n = slot 0 h in omega (arith, n))
reasons_told (Whole a b) NotFlagged h = absurd (let n = slot 0 h in omega (arith, n))
reasons_told (Whole a b) NoExtendedFlags h = absurd (let n = slot 0 h in omega (arith, n))
reasons_told (Whole a b) (NoRoom c d) h = absurd (let n = slot 0 h in omega (arith, n))
reasons_told (Whole a b) (Whole c d) h = ap₂ Whole (slot 1 h) (slot 2 h)
reasons_told (Whole a b) (Refused c d w) h = absurd (let n = slot 0 h in omega (arith, n))
reasons_told (Whole a b) (Owed c d) h = absurd (let n = slot 0 h in omega (arith, n))
reasons_told (Refused a b v) NotFlagged h = absurd (let n = slot 0 h in omega (arith, n))
reasons_told (Refused a b v) NoExtendedFlags h = absurd (let n = slot 0 h in omega (arith, n))
reasons_told (Refused a b v) (NoRoom c d) h = absurd (let n = slot 0 h in omega (arith, n))
reasons_told (Refused a b v) (Whole c d) h = absurd (let n = slot 0 h in omega (arith, n))
reasons_told (Refused a b v) (Refused c d w) h = let f : figures_of v ≡ figures_of w = three (slot 3 h) (slot 4 h) (slot 5 h) in let same = figures_meant.apart v w f in let first = slot 1 h in let second = slot 2 h in cc
reasons_told (Refused a b v) (Owed c d) h = absurd (let n = slot 0 h in omega (arith, n))
reasons_told (Owed a b) NotFlagged h = absurd (let n = slot 0 h in omega (arith, n))
reasons_told (Owed a b) NoExtendedFlags h = absurd (let n = slot 0 h in omega (arith, n))
reasons_told (Owed a b) (NoRoom c d) h = absurd (let n = slot 0 h in omega (arith, n))
reasons_told (Owed a b) (Whole c d) h = absurd (let n = slot 0 h in omega (arith, n))
reasons_told (Owed a b) (Refused c d w) h = absurd (let n = slot 0 h in omega (arith, n))
reasons_told (Owed a b) (Owed c d) h = ap₂ Owed (slot 1 h) (slot 2 h)

pub slots_in_order : SlotsInOrder
slots_in_order = record {
  guid = refl;
  attributes = refl;
  extended_flags = refl;
  chain = refl;
  not_flagged = refl;
  no_extended_flags = refl;
}
