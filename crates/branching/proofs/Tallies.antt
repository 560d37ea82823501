-- In any order the entries of an upload are counted alike.
use Rattle.std.proofs.Common.{ℕ, ◌+◌, ◌-◌, ◌^◌, ◌≤◌, ◌≡◌, refl, sym, ap, ◌∙◌, Bool, true, false, List, [], ◌∷◌, length, arith, min, ◌==◌, if◌then◌else◌}
use Rattle.std.specs.Prelude.{Result, Ok, Err}
use Rattle.std.specs.List.{sum_by}
use Rattle.std.specs.List.Sorted.{IsPermutation}
use Rattle.std.proofs.lemmas.List.Sums.{sum_by-cons}
use Rattle.std.proofs.lemmas.List.Sorted.{sum_by-IsPermutation}
use Rattle.refusal.specs.declared.Refusal.{Refusal}
use Rattle.walk.specs.declared.Piece.{Piece}
use Rattle.symbol.specs.declared.AdsSymbolInfo.{AdsSymbolInfo}
use Rattle.report.specs.declared.Tally.{Tally}
use Rattle.report.specs.Report.{plus, counted, tallied, tally_of, nothing_counted}

-- what an answer adds to each count
abbrev accepted : Result AdsSymbolInfo Refusal → ℕ
accepted (Ok s) = 1
accepted (Err why) = 0

abbrev refused : Result AdsSymbolInfo Refusal → ℕ
refused (Ok s) = 0
refused (Err why) = 1

abbrev grown : Result AdsSymbolInfo Refusal → ℕ
grown (Ok s) = if length s.unread.now == 0 then 0 else 1
grown (Err why) = 0

abbrev unread : Result AdsSymbolInfo Refusal → ℕ
unread (Ok s) = length s.unread.now
unread (Err why) = 0

abbrev most : ℕ
most = 2 ^ 64 - 1

once_and_more : (m x a n : ℕ) → min (min (x + a) m + n) m ≡ min (x + (a + n)) m
once_and_more m x a n = omega arith

none_more : (m x : ℕ) → x ≤ m → x ≡ min (x + 0) m
none_more m x h = omega arith

no_higher : (m x y : ℕ) → x ≡ min y m → x ≤ m
no_higher m x y h = omega arith

-- a count, by what each answer adds
module _ (field : Tally → ℕ) (adds : Result AdsSymbolInfo Refusal → ℕ) (adds_is : (t : Tally) (a : Result AdsSymbolInfo Refusal) → field t ≤ most → field (counted t a) ≡ plus (field t) (adds a)) where
  abbrev all : List (Piece AdsSymbolInfo) → ℕ
  all ps = sum_by (λ p. adds p.answer) ps

  total : (t : Tally) (ps : List (Piece AdsSymbolInfo)) → field t ≤ most → field (tallied t ps) ≡ plus (field t) (all ps)
  unfolding tallied
  total t [] h = none_more most (field t) h
  total t (p ∷ ps) h =
      let e = adds_is t p.answer h in
      total (counted t p.answer) ps (no_higher most (field (counted t p.answer)) (field t + adds p.answer) e)
      ∙ ap (λ (x : ℕ). plus x (all ps)) e ∙ once_and_more most (field t) (adds p.answer) (all ps)
      ∙ ap (plus (field t)) (sym (sum_by-cons (λ p. adds p.answer) p ps))

  moved : field nothing_counted ≤ most → (ps qs : List (Piece AdsSymbolInfo)) → IsPermutation ps qs → field (tally_of qs) ≡ field (tally_of ps)
  moved h ps qs same =
      total nothing_counted qs h ∙ ap (plus (field nothing_counted)) (sum_by-IsPermutation (λ p. adds p.answer) ps qs same) ∙ sym (total nothing_counted ps h)

accepted_is : (t : Tally) (a : Result AdsSymbolInfo Refusal) → t.accepted ≤ most → (counted t a).accepted ≡ plus t.accepted (accepted a)
unfolding counted
accepted_is t (Ok s) h = refl
accepted_is t (Err why) h = none_more most t.accepted h

refused_is : (t : Tally) (a : Result AdsSymbolInfo Refusal) → t.refused ≤ most → (counted t a).refused ≡ plus t.refused (refused a)
unfolding counted
refused_is t (Ok s) h = none_more most t.refused h
refused_is t (Err why) h = refl

grown_by : (t : Tally) (b : Bool) → t.grown ≤ most → (if b then t.grown else plus t.grown 1) ≡ plus t.grown (if b then 0 else 1)
grown_by t true h = none_more most t.grown h
grown_by t false h = refl

grown_is : (t : Tally) (a : Result AdsSymbolInfo Refusal) → t.grown ≤ most → (counted t a).grown ≡ plus t.grown (grown a)
unfolding counted
grown_is t (Ok s) h = grown_by t (length s.unread.now == 0) h
grown_is t (Err why) h = none_more most t.grown h

unread_is : (t : Tally) (a : Result AdsSymbolInfo Refusal) → t.unread ≤ most → (counted t a).unread ≡ plus t.unread (unread a)
unfolding counted
unread_is t (Ok s) h = refl
unread_is t (Err why) h = none_more most t.unread h

alike : (a b : Tally) → a.accepted ≡ b.accepted → a.refused ≡ b.refused → a.grown ≡ b.grown → a.unread ≡ b.unread → a ≡ b
alike a b p q r s = λ i. record { accepted = p i; refused = q i; grown = r i; unread = s i }

pub tally_moved : (ps qs : List (Piece AdsSymbolInfo)) → IsPermutation ps qs → tally_of qs ≡ tally_of ps
tally_moved ps qs same =
    alike (tally_of qs) (tally_of ps)
    (moved (λ t. t.accepted) accepted accepted_is (omega arith) ps qs same)
    (moved (λ t. t.refused) refused refused_is (omega arith) ps qs same)
    (moved (λ t. t.grown) grown grown_is (omega arith) ps qs same)
    (moved (λ t. t.unread) unread unread_is (omega arith) ps qs same)
