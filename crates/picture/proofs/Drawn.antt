-- What a terminal shows of text, part by part.
use Rattle.std.proofs.Common.{ℕ, zero, suc, ◌/◌, ◌%◌, ◌≡◌, Bool, true, false, List, [], ◌∷◌, ◌++◌, codes, decimal, map, refl, sym, ap, ap₂, subst, ◌∙◌, append_assoc, arith}
use Rattle.std.specs.Prelude.{◌==◌, nat_le, nat_lt, replicate, if◌then◌else◌}
use Rattle.std.specs.Fmt.{digits, digits_onto, digit_glyph}
use Rattle.std.specs.List.{list_all}
use Rattle.std.proofs.lemmas.List.{map-append}
use Rattle.wording.specs.Wording.{bytes, many, grouped, grouped_by, three_digits}
use Rattle.picture.specs.Seen.{none, Shows}
use Rattle.picture.specs.Seen as seen
use Rattle.picture.specs.Meant.{in_colour}

-- there is no escape in a text
abbrev pub clear : List ℕ → Bool
clear [] = true
clear (x ∷ t) = if x == 27 then false else clear t

pub record IsClear (t : List ℕ) : Type 0 where
  pub is : clear t ≡ true

clear_by : (b : Bool) (s : Bool) → (if b then false else s) ≡ true → (b ≡ false) × (s ≡ true)
clear_by true s h = absurd (cc)
clear_by false s h = (refl, h)

not_escape : (x : ℕ) → (x == 27) ≡ false → x ≡ 27 → ⊥
not_escape x h e = grind arith

pub clear_cons : (x : ℕ) (t : List ℕ) → (x ≡ 27 → ⊥) → IsClear t → IsClear (x ∷ t)
clear_cons x t other h = record { is = go (x == 27) refl }
  where
    go : (b : Bool) → (x == 27) ≡ b → (if b then false else clear t) ≡ true
    go true e = absurd (other (grind arith))
    go false e = h.is

pub clear_append : (s t : List ℕ) → IsClear s → IsClear t → IsClear (s ++ t)
clear_append [] t p q = q
clear_append (x ∷ s) t p q =
    let h = clear_by (x == 27) (clear s) p.is in
    clear_cons x (s ++ t) (not_escape x h.0) (clear_append s t (record { is = h.1 }) q)

pub clear_spaces : (n : ℕ) → IsClear (replicate n 32)
clear_spaces zero = record { is = refl }
clear_spaces (suc n) = clear_cons 32 (replicate n 32) (λ e. absurd (omega arith)) (clear_spaces n)

glyph_high : (upper : Bool) (d : ℕ) → digit_glyph upper d ≡ 27 → ⊥
glyph_high upper d e = grind arith

clear_onto : (k base : ℕ) (upper : Bool) (n : ℕ) (acc : List ℕ) → IsClear acc → IsClear (digits_onto k base upper n acc)
clear_onto zero base upper n acc h = h
clear_onto (suc k) base upper n acc h =
    let own : IsClear (digit_glyph upper (n % base) ∷ acc) = clear_cons (digit_glyph upper (n % base)) acc (glyph_high upper (n % base)) h in
    go (n / base == 0) own (clear_onto k base upper (n / base) (digit_glyph upper (n % base) ∷ acc) own)
  where
    go : (z : Bool) → IsClear (digit_glyph upper (n % base) ∷ acc) → IsClear (digits_onto k base upper (n / base) (digit_glyph upper (n % base) ∷ acc))
        → IsClear (if z then digit_glyph upper (n % base) ∷ acc else digits_onto k base upper (n / base) (digit_glyph upper (n % base) ∷ acc))
    go true own more = own
    go false own more = more

pub clear_decimal : (n : ℕ) → IsClear (decimal n)
unfolding digits
clear_decimal n = clear_onto 64 10 false n [] (record { is = refl })

clear_three : (n : ℕ) → IsClear (three_digits n)
clear_three n = clear_append _ _ (clear_decimal (n / 100)) (clear_append _ _ (clear_decimal (n / 10 % 10)) (clear_decimal (n % 10)))

clear_grouped : (k n : ℕ) → IsClear (grouped_by k n)
unfolding grouped_by
clear_grouped zero n = clear_decimal n
clear_grouped (suc k) n = go (nat_lt n 1000) (clear_append _ _ (clear_grouped k (n / 1000)) (clear_append (codes ",") _ (record { is = refl }) (clear_three (n % 1000))))
  where
    go : (b : Bool) → IsClear (grouped_by k (n / 1000) ++ (codes "," ++ three_digits (n % 1000)))
        → IsClear (if b then decimal n else grouped_by k (n / 1000) ++ (codes "," ++ three_digits (n % 1000)))
    go true h = clear_decimal n
    go false h = h

clear_one : (b : Bool) → IsClear (if b then codes "byte" else codes "bytes")
clear_one true = record { is = refl }
clear_one false = record { is = refl }

pub clear_bytes : (n : ℕ) → IsClear (bytes n)
unfolding bytes many grouped
clear_bytes n = clear_append _ _ (clear_grouped 6 n) (clear_append (codes " ") _ (record { is = refl }) (clear_one (n == 1)))

-- a coloured text, the same without colours, and what is shown of it where no colour is in force
pub record Drawn (text plain : List ℕ) (seen : List (ℕ × List ℕ)) : Type 0 where
  pub shows : (rest : List ℕ) (more : List (ℕ × List ℕ)) (d : List ℕ) → Shows none rest more d → Shows none (text ++ rest) (seen ++ more) d
  pub same : plain ≡ map (λ (x : ℕ × List ℕ). x.0) seen

pub drawn_nil : Drawn [] [] []
drawn_nil = record { shows = λ rest more d h. h; same = refl }

pub drawn_append : (t u p q : List ℕ) (s v : List (ℕ × List ℕ)) → Drawn t p s → Drawn u q v → Drawn (t ++ u) (p ++ q) (s ++ v)
drawn_append t u p q s v g h = record {
  shows = λ rest more d k. subst (λ (l : List ℕ). Shows none l ((s ++ v) ++ more) d) (sym (append_assoc t u rest))
      (subst (λ (l : List (ℕ × List ℕ)). Shows none (t ++ (u ++ rest)) l d) (sym (append_assoc s v more)) (g.shows (u ++ rest) (v ++ more) d (h.shows rest more d k)));
  same = ap₂ (λ (x y : List ℕ). x ++ y) g.same h.same ∙ sym (map-append (λ (x : ℕ × List ℕ). x.0) s v);
}

in_force : (c t : List ℕ) (rest : List ℕ) (more : List (ℕ × List ℕ)) (d : List ℕ) → IsClear t → Shows c rest more d → Shows c (t ++ rest) (in_colour c t ++ more) d
in_force c [] rest more d g h = h
in_force c (x ∷ t) rest more d g h =
    let k = clear_by (x == 27) (clear t) g.is in
    seen.Shows.character c d x (t ++ rest) (in_colour c t ++ more) (not_escape x k.0) (in_force c t rest more d (record { is = k.1 }) h)

chars_of : (c t : List ℕ) → t ≡ map (λ (x : ℕ × List ℕ). x.0) (in_colour c t)
chars_of c [] = refl
chars_of c (x ∷ t) = ap (λ (l : List ℕ). x ∷ l) (chars_of c t)

pub drawn_plain : (t : List ℕ) → IsClear t → Drawn t t (in_colour none t)
drawn_plain t g = record { shows = λ rest more d h. in_force none t rest more d g h; same = chars_of none t }

pub record IsColour (c : List ℕ) : Type 0 where
  pub is : list_all (λ x. nat_le x 59) c ≡ true

-- text between its colour and the end of it
pub drawn_coloured : (c t : List ℕ) → IsColour c → IsClear t
    → Drawn (27 ∷ codes "[" ++ (c ++ codes "m") ++ (t ++ 27 ∷ codes "[0m")) t (in_colour c t)
drawn_coloured c t k g = record {
  shows = λ rest more d h.
      let back : Shows c (27 ∷ codes "[0m" ++ rest) more d = seen.Shows.turn c d none rest more refl h in
      let inside : Shows c (t ++ (27 ∷ codes "[0m" ++ rest)) (in_colour c t ++ more) d = in_force c t (27 ∷ codes "[0m" ++ rest) more d g back in
      subst (λ (l : List ℕ). Shows none (27 ∷ 91 ∷ l) (in_colour c t ++ more) d) (simp append_assoc refl) (seen.Shows.turn none d c (t ++ (27 ∷ codes "[0m" ++ rest)) (in_colour c t ++ more) k.is inside);
  same = chars_of c t;
}
