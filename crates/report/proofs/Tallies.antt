-- What is counted piece by piece.
use Rattle.std.proofs.Common.{◌≡◌, ℕ, zero, suc, ◌+◌, ◌-◌, ◌≤◌, List, [], ◌∷◌, length, refl, sym, ap, ◌∙◌, cond, zero-add, arith}
use Rattle.std.specs.Prelude.{◌^◌, ◌==◌, min, nat_lt, Result, Ok, Err, is_ok, is_err, if◌then◌else◌}
use Rattle.std.specs.List.{sum_by}
use Rattle.std.proofs.lemmas.List.Sums.{sum_by-cons}
use Rattle.refusal.specs.declared.Refusal.{Refusal}
use Rattle.walk.specs.declared.Piece.{Piece}
use Rattle.symbol.specs.declared.AdsSymbolInfo.{AdsSymbolInfo}
use Rattle.report.specs.declared.Tally.{Tally}
use Rattle.report.specs.Report.{tallied, tally_of, counted, nothing_counted, plus}
use Rattle.report.specs.Tallies.{at_most, left_of, TalliesMeant}

pub tallied_more : {left rest : List (Piece AdsSymbolInfo)} {p : Piece AdsSymbolInfo} (t : Tally) {u v : Tally}
    → left ≡ p ∷ rest → u ≡ counted t p.answer → tallied t left ≡ v → tallied u rest ≡ v
unfolding tallied
tallied_more {left} {rest} {p} t {u} {v} e n h = ap (λ (x : Tally). tallied x rest) n ∙ ap (tallied t) (sym e) ∙ h

pub tallied_all : {left all ps : List (Piece AdsSymbolInfo)} {t u : Tally}
    → left ≡ [] → tallied t left ≡ tallied u all → u ≡ nothing_counted → all ≡ ps → t ≡ tally_of ps
unfolding tallied
tallied_all {left} {all} {ps} {t} {u} e h n a = ap (tallied t) (sym e) ∙ h ∙ ap (λ (x : Tally). tallied x all) n ∙ ap (tallied nothing_counted) a

-- a number of a tally that grows with each piece by one of its own
module _ (field : Tally → ℕ) (own : Piece AdsSymbolInfo → ℕ)
    (step : (t : Tally) (p : Piece AdsSymbolInfo) → field t ≤ 2 ^ 64 - 1 → field (counted t p.answer) ≡ min (field t + own p) (2 ^ 64 - 1)) where
  grows : (t : Tally) (ps : List (Piece AdsSymbolInfo)) → field t ≤ 2 ^ 64 - 1 → field (tallied t ps) ≡ min (field t + sum_by own ps) (2 ^ 64 - 1)
  unfolding tallied
  grows t [] few = omega (arith, few)
  grows t (p ∷ ps) few =
      let s = step t p few in
      let r = grows (counted t p.answer) ps (omega (arith, s)) in
      omega (arith, s, r, sum_by-cons own p ps)

accepted_step : (t : Tally) (r : Result AdsSymbolInfo Refusal) → t.accepted ≤ 2 ^ 64 - 1 → (counted t r).accepted ≡ min (t.accepted + cond (is_ok r) 1 0) (2 ^ 64 - 1)
unfolding counted
accepted_step t (Ok s) few = refl
accepted_step t (Err why) few = omega (arith, few)

refused_step : (t : Tally) (r : Result AdsSymbolInfo Refusal) → t.refused ≤ 2 ^ 64 - 1 → (counted t r).refused ≡ min (t.refused + cond (is_err r) 1 0) (2 ^ 64 - 1)
unfolding counted
refused_step t (Ok s) few = omega (arith, few)
refused_step t (Err why) few = refl

grown_step : (t : Tally) (r : Result AdsSymbolInfo Refusal) → t.grown ≤ 2 ^ 64 - 1 → (counted t r).grown ≡ min (t.grown + cond (nat_lt 0 (left_of r)) 1 0) (2 ^ 64 - 1)
unfolding counted
grown_step t (Ok s) few = go (length s.unread.now)
  where
    go : (n : ℕ) → (if n == 0 then t.grown else plus t.grown 1) ≡ min (t.grown + cond (nat_lt 0 n) 1 0) (2 ^ 64 - 1)
    go zero = omega (arith, few)
    go (suc n) = grind arith
grown_step t (Err why) few = omega (arith, few)

unread_step : (t : Tally) (r : Result AdsSymbolInfo Refusal) → t.unread ≤ 2 ^ 64 - 1 → (counted t r).unread ≡ min (t.unread + left_of r) (2 ^ 64 - 1)
unfolding counted
unread_step t (Ok s) few = refl
unread_step t (Err why) few = omega (arith, few)

pub tallies_meant : TalliesMeant
tallies_meant = record {
  accepted = λ ps. grows (λ t. t.accepted) (λ p. cond (is_ok p.answer) 1 0) (λ t p. accepted_step t p.answer) nothing_counted ps (omega arith) ∙ ap at_most (zero-add (sum_by (λ p. cond (is_ok p.answer) 1 0) ps));
  refused = λ ps. grows (λ t. t.refused) (λ p. cond (is_err p.answer) 1 0) (λ t p. refused_step t p.answer) nothing_counted ps (omega arith) ∙ ap at_most (zero-add (sum_by (λ p. cond (is_err p.answer) 1 0) ps));
  grown = λ ps. grows (λ t. t.grown) (λ p. cond (nat_lt 0 (left_of p.answer)) 1 0) (λ t p. grown_step t p.answer) nothing_counted ps (omega arith) ∙ ap at_most (zero-add (sum_by (λ p. cond (nat_lt 0 (left_of p.answer)) 1 0) ps));
  unread = λ ps. grows (λ t. t.unread) (λ p. left_of p.answer) (λ t p. unread_step t p.answer) nothing_counted ps (omega arith) ∙ ap at_most (zero-add (sum_by (λ p. left_of p.answer) ps));
}
