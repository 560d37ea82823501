-- What form the first bytes of an input tell.
use Rattle.std.proofs.Common.{◌≡◌, ℕ, ◌+◌, ◌*◌, ◌<◌, ◌⊎◌, ⊎_elim, inl, inr, Bool, true, false, List, [], ◌∷◌, refl, sym, subst, arith, if◌then◌else◌}
use Rattle.std.specs.Prelude.{All, Option, None, Some}
use Rattle.std.specs.List.{list_all}
use Rattle.std.proofs.lemmas.List.Elements.{All-cons, All-nil, All-head, All-drop, All-weaker}
use Rattle.std.proofs.lemmas.List.Sums.{AllPass-from_list_all, list_all-from_AllPass}
use Rattle.upload.specs.declared.Form.TheVariants.{Binary, Hexadecimal}
use Rattle.upload.specs.Upload.{digit_value, is_space, may_be_text, form_of, form_by, has_mark, unmarked}
use Rattle.upload.specs.Meant.{IsSpace, IsPrintable, IsPlain, FormsMeant}
use Rattle.upload.proofs.Meaning.{digit, value, space}

space_back : (c : ℕ) → IsSpace c → is_space c ≡ true
space_back c h = grind arith

printable : (c : ℕ) → may_be_text false c ≡ true → IsPrintable c
printable c e = go (is_space c) refl
  where
    go : (x : Bool) → is_space c ≡ x → IsPrintable c
    go true f = inl (space c f)
    go false f = inr (grind arith, grind arith)

printable_back : (c : ℕ) → IsPrintable c → may_be_text false c ≡ true
printable_back c h = ⊎_elim (λ s. let e = space_back c s in grind arith) (λ p. grind arith) h

plain : (c : ℕ) → may_be_text true c ≡ true → IsPlain c
plain c e = go (digit_value c) refl e
  where
    go : (o : Option ℕ) → digit_value c ≡ o → may_be_text true c ≡ true → IsPlain c
    go None f e = inl (space c (grind arith))
    go (Some d) f e = inr (d, digit c d f)

plain_back : (c : ℕ) → IsPlain c → may_be_text true c ≡ true
plain_back c h = ⊎_elim (λ s. let e = space_back c s in grind arith) (λ d. let e = value c d.0 d.1 in rw e refl) h

chosen : (x : Bool) → (if x then Hexadecimal else Binary) ≡ Hexadecimal → x ≡ true
chosen true e = refl
chosen false e = cc

choice : {x : Bool} → x ≡ true → (if x then Hexadecimal else Binary) ≡ Hexadecimal
choice e = rw e refl

all_are : (p : ℕ → Bool) (P : ℕ → Type 0) → ((c : ℕ) → p c ≡ true → P c) → (xs : List ℕ) → list_all p xs ≡ true → All P xs
all_are p P f xs e = All-weaker (λ c. p c ≡ true) P f xs (AllPass-from_list_all p xs e)

all_back : (p : ℕ → Bool) (P : ℕ → Type 0) → ((c : ℕ) → P c → p c ≡ true) → (xs : List ℕ) → All P xs → list_all p xs ≡ true
all_back p P f xs h = list_all-from_AllPass p xs (All-weaker P (λ c. p c ≡ true) f xs h)

mark_parts : (a b c : ℕ) (l : List ℕ) → has_mark (a ∷ b ∷ c ∷ l) ≡ true → (a ≡ 0xEF) × (b ≡ 0xBB) × (c ≡ 0xBF)
mark_parts a b c l e = (grind arith, grind arith, grind arith)

is_mark : (a b c : ℕ) (l : List ℕ) → (a ≡ 0xEF) × (b ≡ 0xBB) × (c ≡ 0xBF) → has_mark (a ∷ b ∷ c ∷ l) ≡ true
is_mark a b c l h = let p = h.0 in let q = h.1 in let r = h.2 in grind arith

no_mark : (P : ℕ → Type 0) → (P 0xEF → ⊥) → (a b c : ℕ) (l : List ℕ) → All P (a ∷ b ∷ c ∷ l) → has_mark (a ∷ b ∷ c ∷ l) ≡ false
no_mark P out a b c l h = go (has_mark (a ∷ b ∷ c ∷ l)) refl
  where
    go : (x : Bool) → has_mark (a ∷ b ∷ c ∷ l) ≡ x → x ≡ false
    go true e = absurd (out (subst P (mark_parts a b c l e).0 (All-head P a (b ∷ c ∷ l) h)))
    go false e = refl

not_printable : IsPrintable 0xEF → ⊥
not_printable h = ⊎_elim (λ s. ⊎_elim (λ e. omega (arith, e)) (λ r. omega (arith, r.1)) s) (λ r. omega (arith, r.1)) h

not_plain : IsPlain 0xEF → ⊥
not_plain h = let e = plain_back 0xEF h in grind arith

-- text from a front that may be a mark, and what is behind it
front : (p : ℕ → Bool) (P : ℕ → Type 0) → ((c : ℕ) → p c ≡ true → P c) → (a b c : ℕ) (l : List ℕ)
    → (if list_all p (if has_mark (a ∷ b ∷ c ∷ l) then l else a ∷ b ∷ c ∷ l) then Hexadecimal else Binary) ≡ Hexadecimal
    → All P (a ∷ b ∷ c ∷ l) ⊎ ((a ≡ 0xEF) × (b ≡ 0xBB) × (c ≡ 0xBF) × All P l)
front p P f a b c l e = go (has_mark (a ∷ b ∷ c ∷ l)) refl (chosen _ e)
  where
    go : (x : Bool) → has_mark (a ∷ b ∷ c ∷ l) ≡ x → list_all p (if x then l else a ∷ b ∷ c ∷ l) ≡ true → All P (a ∷ b ∷ c ∷ l) ⊎ ((a ≡ 0xEF) × (b ≡ 0xBB) × (c ≡ 0xBF) × All P l)
    go true m e = let h = mark_parts a b c l m in inr (h.0, h.1, h.2, all_are p P f l e)
    go false m e = inl (all_are p P f (a ∷ b ∷ c ∷ l) e)

front_back : (p : ℕ → Bool) (P : ℕ → Type 0) → ((c : ℕ) → P c → p c ≡ true) → (P 0xEF → ⊥) → (a b c : ℕ) (l : List ℕ)
    → All P (a ∷ b ∷ c ∷ l) ⊎ ((a ≡ 0xEF) × (b ≡ 0xBB) × (c ≡ 0xBF) × All P l)
    → (if list_all p (if has_mark (a ∷ b ∷ c ∷ l) then l else a ∷ b ∷ c ∷ l) then Hexadecimal else Binary) ≡ Hexadecimal
front_back p P f out a b c l h =
    ⊎_elim (λ k. choice (at false (no_mark P out a b c l k) (all_back p P f (a ∷ b ∷ c ∷ l) k)))
    (λ k. choice (at true (is_mark a b c l (k.0, k.1, k.2)) (all_back p P f l k.3))) h
  where
    at : (x : Bool) → has_mark (a ∷ b ∷ c ∷ l) ≡ x → list_all p (if x then l else a ∷ b ∷ c ∷ l) ≡ true → list_all p (if has_mark (a ∷ b ∷ c ∷ l) then l else a ∷ b ∷ c ∷ l) ≡ true
    at x m e = subst (λ (y : Bool). list_all p (if y then l else a ∷ b ∷ c ∷ l) ≡ true) (sym m) e

above : (d : ℕ) (n : ℕ) → IsPrintable d → 16777216 < n + 16777216 * d
above d n h = ⊎_elim (λ s. ⊎_elim (λ e. omega (arith, e)) (λ r. omega (arith, r.0)) s) (λ r. omega (arith, r.0)) h

one_of : (P : ℕ → Type 0) (d : ℕ) → All P (d ∷ []) → P d
one_of P d h = All-head P d [] h

of_one : (P : ℕ → Type 0) (d : ℕ) → P d → All P (d ∷ [])
of_one P d h = All-cons P d [] h (All-nil P)

short_mark : (a b : ℕ) → has_mark (a ∷ b ∷ []) ≡ false
short_mark a b = grind arith

shortest_mark : (a : ℕ) → has_mark (a ∷ []) ≡ false
shortest_mark a = grind arith

four : (a b c d : ℕ) (s : List ℕ) → form_by None (a ∷ b ∷ c ∷ d ∷ s) ≡ Hexadecimal → All IsPrintable (a ∷ b ∷ c ∷ d ∷ []) ⊎ ((a ≡ 0xEF) × (b ≡ 0xBB) × (c ≡ 0xBF) × IsPrintable d)
unfolding form_of unmarked
four a b c d s e =
    ⊎_elim (λ h. inl h) (λ h. inr (h.0, h.1, h.2, one_of IsPrintable d h.3)) (front (may_be_text false) IsPrintable printable a b c (d ∷ []) e)

pub forms_meant : FormsMeant
unfolding form_of unmarked
forms_meant = record {
  told = λ s. refl;
  four = λ a b c d s. (
    four a b c d s,
    λ h. front_back (may_be_text false) IsPrintable printable_back not_printable a b c (d ∷ [])
        (⊎_elim (λ k. inl k) (λ k. inr (k.0, k.1, k.2, of_one IsPrintable d k.3)) h),
  );
  three = λ a b c. (
    λ e. ⊎_elim (λ h. inl h) (λ h. inr (h.0, h.1, h.2)) (front (may_be_text true) IsPlain plain a b c [] e),
    λ h. front_back (may_be_text true) IsPlain plain_back not_plain a b c [] (⊎_elim (λ k. inl k) (λ k. inr (k.0, k.1, k.2, All-nil IsPlain)) h),
  );
  two = λ a b. (
    λ e. all_are (may_be_text true) IsPlain plain (a ∷ b ∷ []) (chosen _ (rw (short_mark a b) at e)),
    λ h. rw (short_mark a b) (choice (all_back (may_be_text true) IsPlain plain_back (a ∷ b ∷ []) h)),
  );
  one = λ a. (
    λ e. one_of IsPlain a (all_are (may_be_text true) IsPlain plain (a ∷ []) (chosen _ (rw (shortest_mark a) at e))),
    λ h. rw (shortest_mark a) (choice (all_back (may_be_text true) IsPlain plain_back (a ∷ []) (of_one IsPlain a h))),
  );
  none = refl;
  length = λ a b c d s e. ⊎_elim
      (λ h. above d (a + 256 * b + 65536 * c) (All-head IsPrintable d [] (All-drop IsPrintable 3 (a ∷ b ∷ c ∷ d ∷ []) h)))
      (λ h. above d (a + 256 * b + 65536 * c) h.3) (four a b c d s e);
}
