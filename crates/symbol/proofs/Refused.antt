-- The numbers that a symbol is refused with.
use Rattle.std.proofs.Common.{ℕ, ◌+◌, ◌≡◌, refl, sym, ap, ◌∙◌, Bool, true, false, List, [], ◌∷◌, Ok, Err, Result, Bor, subst, length}
use Rattle.std.specs.Prelude.{ltb, eqb, if◌then◌else◌}
use Rattle.le.specs.Le.{le2}
use Rattle.part.specs.Outcome.{and_then}
use Rattle.refusal.specs.EndBytes.{ended}
use Rattle.refusal.specs.Refusal.{figures_of}
use Rattle.refusal.specs.declared.Mode.{Mode}
use Rattle.refusal.specs.declared.Mode.TheVariants.{Present, Checked}
use Rattle.refusal.specs.declared.Refusal.{Refusal}
use Rattle.refusal.specs.declared.Refusal.TheVariants.{EndByte, TooShort, EntryLengthMismatch}
use Rattle.symbol.specs.declared.AdsSymbolInfo.{AdsSymbolInfo}
use Rattle.symbol.specs.Symbol.{with_strings, string_ends_of, attribute_ends, refactor_ends, symbol_ended, ended_symbol, symbol_of}

abbrev number_of : Refusal → ℕ
number_of why = (figures_of why).number

by_end : (at byte : ℕ) (more : Result Unit Refusal) (why : Refusal) (b : Bool) → (more ≡ Err why → number_of why ≡ 16) → (if b then more else Err (EndByte at byte)) ≡ Err why → number_of why ≡ 16
by_end at byte more why true ih h = ih h
by_end at byte more why false ih h = let is : EndByte at byte ≡ why = cc in rw (← is) refl

ended_with : (ends : List (ℕ × ℕ)) (why : Refusal) → ended ends ≡ Err why → number_of why ≡ 16
unfolding ended
ended_with [] why h = cc
ended_with (e ∷ more) why h = by_end e.0 e.1 (ended more) why (eqb e.1 0) (ended_with more why) h

both_with : (a b : Result Unit Refusal) (why : Refusal) → (a ≡ Err why → number_of why ≡ 16) → (b ≡ Err why → number_of why ≡ 16) → and_then a (λ _. b) ≡ Err why → number_of why ≡ 16
both_with (Ok u) b why x y h = y h
both_with (Err w) b why x y h = x h

symbol_with : (e : Bor (List ℕ)) (r : AdsSymbolInfo) (why : Refusal) → symbol_ended e r ≡ Err why → number_of why ≡ 16
unfolding symbol_ended
symbol_with e r why h =
    both_with (ended (string_ends_of e r)) (and_then (ended (attribute_ends e r)) (λ _. ended (refactor_ends e r))) why (ended_with (string_ends_of e r) why)
    (both_with (ended (attribute_ends e r)) (ended (refactor_ends e r)) why (ended_with (attribute_ends e r) why) (ended_with (refactor_ends e r) why)) h

module _ (e : Bor (List ℕ)) (why : Refusal) (P : Mode → ℕ → Type 0) (two : (mode : Mode) → P mode 2) (three : (mode : Mode) → P mode 3) (sixteen : P Checked 16) where
  by_test : (r : AdsSymbolInfo) (t : Result Unit Refusal) → symbol_ended e r ≡ t → and_then t (λ _. Ok r) ≡ Err why → number_of why ≡ 16
  by_test r (Ok u) t h = cc
  by_test r (Err w) t h = let is : w ≡ why = cc in symbol_with e r why (t ∙ ap Err is)

  by_mode : (mode : Mode) (r : AdsSymbolInfo) → ended_symbol mode e r ≡ Err why → P mode (number_of why)
  unfolding ended_symbol
  by_mode Present r h = cc
  by_mode Checked r h = subst (P Checked) (sym (by_test r (symbol_ended e r) refl h)) sixteen

  by_room : (mode : Mode) (n t k : ℕ) (b c : Bool)
      → (if b then Err (TooShort 30 (length e.now)) else and_then (if◌then◌else◌ {A = Result Unit Refusal} c (Err (EntryLengthMismatch (33 + n + t + k) (length e.now))) (Ok tt)) (λ _. ended_symbol mode e (with_strings e n t k))) ≡ Err why → P mode (number_of why)
  by_room mode n t k true c h = let is : TooShort 30 (length e.now) ≡ why = cc in subst (λ w. P mode (number_of w)) is (two mode)
  by_room mode n t k false true h = let is : EntryLengthMismatch (33 + n + t + k) (length e.now) ≡ why = cc in subst (λ w. P mode (number_of w)) is (three mode)
  by_room mode n t k false false h = by_mode mode (with_strings e n t k) h

  pub refused_by : (mode : Mode) → symbol_of mode e ≡ Err why → P mode (number_of why)
  unfolding symbol_of
  refused_by mode h = by_room mode (le2 e.now 24) (le2 e.now 26) (le2 e.now 28) (ltb (length e.now) 30) (ltb (length e.now) (33 + le2 e.now 24 + le2 e.now 26 + le2 e.now 28)) h
