-- The operands of a line, one word after another.
use Rattle.std.proofs.Common.{ℕ, suc, ◌+◌, ◌-◌, ◌<◌, ◌≤◌, ◌≡◌, refl, ap, sym, ◌∙◌, Bool, true, false, List, [], ◌∷◌, ◌++◌, length, get_or, drop, drop-cons, add-one, append_assoc, append-nil, arith}
use Rattle.std.specs.Prelude.{◌&&◌, not, Some, None, slice_get, if◌then◌else◌}
use Rattle.std.proofs.lemmas.List.{drop_all}
use Rattle.arguments.specs.Words.{Word, is_option, ends_options, operands_of}

-- the operands among the words that are left, before `--` or behind it
abbrev pub seen : Bool → List Word → List Word
seen true line = operands_of line
seen false line = line

end_or_on : (e : Bool) (line : List Word) → (if e then line else operands_of line) ≡ seen (not e) line
end_or_on true line = refl
end_or_on false line = refl

pub cons_passed : (b : Bool) (w : Word) (line : List Word) → (b && is_option w.now) ≡ true → seen b (w ∷ line) ≡ seen (not (ends_options w.now)) line
unfolding operands_of
cons_passed true w line h = let g : is_option w.now ≡ true = h in rw g (end_or_on (ends_options w.now) line)
cons_passed false w line h = grind arith

pub cons_met : (b : Bool) (w : Word) (line : List Word) → (b && is_option w.now) ≡ false → seen b (w ∷ line) ≡ w ∷ seen b line
unfolding operands_of
cons_met true w line h = rw h refl
cons_met false w line h = refl

module _ (b : Bool) (line : List Word) (k : ℕ) (d : Word) where
  pub passed : k < length line → (b && is_option (get_or line k d).now) ≡ true → seen b (drop k line) ≡ seen (not (ends_options (get_or line k d).now)) (drop (k + 1) line)
  passed h t = rw (add-one) (ap (seen b) (drop-cons line k d h) ∙ cons_passed b (get_or line k d) (drop (suc k) line) t)

  pub met : k < length line → (b && is_option (get_or line k d).now) ≡ false → seen b (drop k line) ≡ get_or line k d ∷ seen b (drop (k + 1) line)
  met h t = rw (add-one) (ap (seen b) (drop-cons line k d h) ∙ cons_met b (get_or line k d) (drop (suc k) line) t)

pub none_left : (b : Bool) (line : List Word) (k : ℕ) → length line ≤ k → seen b (drop k line) ≡ []
unfolding operands_of
none_left true line k h = rw (drop_all k line h) refl
none_left false line k h = rw (drop_all k line h) refl

-- the operand of a number
module _ (b : Bool) (line : List Word) (k n : ℕ) (d : Word) where
  pub pick_past : k < length line → (b && is_option (get_or line k d).now) ≡ true
      → slice_get (seen (not (ends_options (get_or line k d).now)) (drop (k + 1) line)) n ≡ slice_get (seen b (drop k line)) n
  pick_past h t = ap (λ ws. slice_get ws n) (sym (passed b line k d h t))

  pub pick_here : k < length line → (b && is_option (get_or line k d).now) ≡ false → n ≡ 0 → slice_get (seen b (drop k line)) n ≡ Some (get_or line k d)
  pick_here h t z = rw (z, met b line k d h t) refl

  pub pick_later : k < length line → (b && is_option (get_or line k d).now) ≡ false → 0 < n
      → slice_get (seen b (drop (k + 1) line)) (n - 1) ≡ slice_get (seen b (drop k line)) n
  pick_later h t p =
      let e : n ≡ suc (n - 1) = omega arith in
      sym (ap (slice_get (seen b (drop k line))) e ∙ ap (λ ws. slice_get ws (suc (n - 1))) (met b line k d h t))

pub pick_none : (b : Bool) (line : List Word) (k n : ℕ) → length line ≤ k → slice_get (seen b (drop k line)) n ≡ None
pick_none b line k n h = ap (λ ws. slice_get ws n) (none_left b line k h)

-- the operands from a number on, with what was gathered of them
module _ (b : Bool) (line : List Word) (k n : ℕ) (d : Word) (got : List Word) where
  pub list_past : k < length line → (b && is_option (get_or line k d).now) ≡ true
      → got ++ drop n (seen (not (ends_options (get_or line k d).now)) (drop (k + 1) line)) ≡ got ++ drop n (seen b (drop k line))
  list_past h t = ap (λ ws. got ++ drop n ws) (sym (passed b line k d h t))

  pub list_later : k < length line → (b && is_option (get_or line k d).now) ≡ false → 0 < n
      → got ++ drop (n - 1) (seen b (drop (k + 1) line)) ≡ got ++ drop n (seen b (drop k line))
  list_later h t p =
      let e : n ≡ suc (n - 1) = omega arith in
      ap (λ ws. got ++ ws) (sym (ap (λ (m : ℕ). drop m (seen b (drop k line))) e ∙ ap (drop (suc (n - 1))) (met b line k d h t)))

  pub list_pushed : k < length line → (b && is_option (get_or line k d).now) ≡ false → n ≡ 0
      → (got ++ (get_or line k d ∷ [])) ++ drop n (seen b (drop (k + 1) line)) ≡ got ++ drop n (seen b (drop k line))
  list_pushed h t z = rw (z, met b line k d h t, append_assoc) refl

pub list_ends : (b : Bool) (line : List Word) (k n : ℕ) (got : List Word) → length line ≤ k → got ++ drop n (seen b (drop k line)) ≡ got
list_ends b line k n got h = let z : 0 ≤ n = omega arith in rw (none_left b line k h, drop_all n [] z, append-nil) refl
