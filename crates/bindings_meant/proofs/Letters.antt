-- Two texts that are the same letter by letter: their lengths and pieces, and the parts with which they begin.
use Rattle.std.proofs.Common.{ℕ, zero, suc, ◌+◌, ◌<◌, ◌≤◌, ◌≡◌, refl, sym, ap, ap₂, subst, ◌∙◌, Bool, true, false, List, ◌∷◌, length, take, drop, Bor, arith, cond, if◌then◌else◌, ne_eqb, leb-true}
use Rattle.std.specs.Prelude.{Result, Ok, Err, ◌==◌, ◌||◌, ◌&&◌, nat_le, not, slice_index}
use Rattle.std.specs.List.{prefix_len, position_or_len}
use Rattle.part.specs.Slice.{part, after}
use Rattle.names.specs.Meaning.{SameLetter, itself, capital, small, SameLetters, end, letter}
use Rattle.path.specs.declared.Subscript.{Subscript}
use Rattle.path.specs.declared.Split.{Split}
use Rattle.path.specs.declared.Part.{Part}
use Rattle.path.specs.declared.Part.TheVariants.{Member, Element}
use Rattle.path.specs.Path.{is_mark, is_digit, ends, value, split_at, closing, closed, numbered, bracketed, member, first_part}

pub long_same : {s t : List ℕ} → SameLetters s t → length s ≡ length t
long_same end = refl
long_same (letter h l) = ap suc (long_same l)

pub take_same : (n : ℕ) {s t : List ℕ} → SameLetters s t → SameLetters (take n s) (take n t)
take_same zero l = end
take_same (suc n) end = end
take_same (suc n) (letter h l) = letter h (take_same n l)

pub drop_same : (n : ℕ) {s t : List ℕ} → SameLetters s t → SameLetters (drop n s) (drop n t)
drop_same zero l = l
drop_same (suc n) end = end
drop_same (suc n) (letter h l) = drop_same n l

-- a test that no letter passes, of either case, tells the same of the same letters
abbrev NoLetter : (ℕ → Bool) → Type 0
NoLetter p = (x : ℕ) → 65 ≤ x → x ≤ 90 → (p x ≡ false) × (p (x + 32) ≡ false)

test_same : (p : ℕ → Bool) → NoLetter p → {a b : ℕ} → SameLetter a b → p a ≡ p b
test_same p clear itself = refl
test_same p clear (capital {b = x} h k) = (clear x h k).0 ∙ sym (clear x h k).1
test_same p clear (small {b = x} h k) = (clear x h k).1 ∙ sym (clear x h k).0

dot : NoLetter (λ x. x == 46)
dot x h k = (ne_eqb x 46 (λ (e : x ≡ 46). omega (arith, e)), ne_eqb (x + 32) 46 (λ (e : x + 32 ≡ 46). omega (arith, e)))

opening : NoLetter (λ x. x == 91)
opening x h k = (ne_eqb x 91 (λ (e : x ≡ 91). omega (arith, e)), ne_eqb (x + 32) 91 (λ (e : x + 32 ≡ 91). omega (arith, e)))

closing_bracket : NoLetter (λ x. x == 93)
closing_bracket x h k = (ne_eqb x 93 (λ (e : x ≡ 93). omega (arith, e)), ne_eqb (x + 32) 93 (λ (e : x + 32 ≡ 93). omega (arith, e)))

comma : NoLetter (λ x. x == 44)
comma x h k = (ne_eqb x 44 (λ (e : x ≡ 44). omega (arith, e)), ne_eqb (x + 32) 44 (λ (e : x + 32 ≡ 44). omega (arith, e)))

minus : NoLetter (λ x. x == 45)
minus x h k = (ne_eqb x 45 (λ (e : x ≡ 45). omega (arith, e)), ne_eqb (x + 32) 45 (λ (e : x + 32 ≡ 45). omega (arith, e)))

mark : NoLetter is_mark
mark x h k = (ap₂ (λ (a b : Bool). a || b) (dot x h k).0 (opening x h k).0, ap₂ (λ (a b : Bool). a || b) (dot x h k).1 (opening x h k).1)

above_digits : (x : ℕ) → 57 < x → is_digit x ≡ false
above_digits x h = by (nat_le 48 x) (nat_le x 57) refl
  where
    by : (a b : Bool) → nat_le x 57 ≡ b → (a && b) ≡ false
    by false b e = refl
    by true false e = refl
    by true true e = absurd (omega (arith, leb-true x 57 e))

digit : NoLetter is_digit
digit x h k = (above_digits x (omega arith), above_digits (x + 32) (omega arith))

first_same : (p : ℕ → Bool) → NoLetter p → {s t : List ℕ} → SameLetters s t → p (slice_index s 0) ≡ p (slice_index t 0)
first_same p clear end = refl
first_same p clear (letter h l) = test_same p clear h

pub ends_same : {s t : List ℕ} → SameLetters s t → ends s ≡ ends t
ends_same end = refl
ends_same (letter h l) = test_same is_mark mark h

run_same : (p : ℕ → Bool) → NoLetter p → {s t : List ℕ} → SameLetters s t → prefix_len p s ≡ prefix_len p t
run_same p clear end = refl
run_same p clear (letter h l) = ap₂ (λ (b : Bool) (n : ℕ). cond b (1 + n) 0) (test_same p clear h) (run_same p clear l)

name_long_same : {s t : List ℕ} → SameLetters s t → position_or_len is_mark s ≡ position_or_len is_mark t
name_long_same end = refl
name_long_same (letter h l) = ap₂ (λ (b : Bool) (n : ℕ). cond (not b) (1 + n) 0) (test_same is_mark mark h) (name_long_same l)

-- digits are equal
digits_same : {s t : List ℕ} → SameLetters s t → take (prefix_len is_digit s) s ≡ take (prefix_len is_digit t) t
digits_same end = refl
digits_same (letter {a = x} {own = s} {asked = t} itself l) = by (is_digit x) (digits_same l)
  where
    by : (b : Bool) → take (prefix_len is_digit s) s ≡ take (prefix_len is_digit t) t → take (cond b (1 + prefix_len is_digit s) 0) (x ∷ s) ≡ take (cond b (1 + prefix_len is_digit t) 0) (x ∷ t)
    by true e =
        let one : (n : ℕ) → 1 + n ≡ suc n = λ n. omega arith in
        ap (λ (n : ℕ). take n (x ∷ s)) (one (prefix_len is_digit s)) ∙ ap (λ (m : List ℕ). x ∷ m) e ∙ sym (ap (λ (n : ℕ). take n (x ∷ t)) (one (prefix_len is_digit t)))
    by false e = refl
digits_same (letter {own = s} {asked = t} (capital {b = x} h k) l) =
    ap (λ (b : Bool). take (cond b (1 + prefix_len is_digit s) 0) (x ∷ s)) (digit x h k).0
    ∙ sym (ap (λ (b : Bool). take (cond b (1 + prefix_len is_digit t) 0) ((x + 32) ∷ t)) (digit x h k).1)
digits_same (letter {own = s} {asked = t} (small {b = x} h k) l) =
    ap (λ (b : Bool). take (cond b (1 + prefix_len is_digit s) 0) ((x + 32) ∷ s)) (digit x h k).1
    ∙ sym (ap (λ (b : Bool). take (cond b (1 + prefix_len is_digit t) 0) (x ∷ t)) (digit x h k).0)

-- parts that are the same, and the same is left behind them
pub data SamePart : Part → Part → Type 0 where
  by_name : {a b : Bor (List ℕ)} → SameLetters a.now b.now → SamePart (Member a) (Member b)
  by_number : {n : Subscript} → SamePart (Element n) (Element n)

pub data SameFirst : Result Split ℕ → Result Split ℕ → Type 0 where
  both : {p q : Part} {s t : Bor (List ℕ)} → SamePart p q → SameLetters s.now t.now → SameFirst (Ok (split_at p s)) (Ok (split_at q t))
  none : {n : ℕ} → SameFirst (Err n) (Err n)

choose : {x y z w : Result Split ℕ} (a b : Bool) → a ≡ b → SameFirst x y → SameFirst z w → SameFirst (if a then x else z) (if b then y else w)
choose {x = x} {y = y} {z = z} {w = w} a b e p q = subst (λ (c : Bool). SameFirst (if a then x else z) (if c then y else w)) e (by a)
  where
    by : (c : Bool) → SameFirst (if c then x else z) (if c then y else w)
    by true = p
    by false = q

stops : {n m : ℕ} → n ≡ m → SameFirst (Err n) (Err m)
stops {n = n} e = subst (λ (k : ℕ). SameFirst (Err n) (Err k)) e none

module _ (s t : Bor (List ℕ)) (l : SameLetters s.now t.now) where
  left_same : SameFirst (Err (length s.now)) (Err (length t.now))
  left_same = stops (long_same l)

  closing_same : (n : Subscript) → SameFirst (closing s n) (closing t n)
  unfolding closing
  closing_same n = choose (ends s.now) (ends t.now) (ends_same l) (both by_number l) left_same

closed_same : (s t : Bor (List ℕ)) → SameLetters s.now t.now → (n : Subscript) → SameFirst (closed s n) (closed t n)
unfolding closed
closed_same s t l n =
    choose (slice_index s.now 0 == 44) (slice_index t.now 0 == 44) (first_same (λ x. x == 44) comma l) (both by_number l)
    (choose (slice_index s.now 0 == 93) (slice_index t.now 0 == 93) (first_same (λ x. x == 93) closing_bracket l) (closing_same (after s 1) (after t 1) (drop_same 1 l) n) (left_same s t l))

numbered_same : (s t : Bor (List ℕ)) → SameLetters s.now t.now → (negative : Bool) → SameFirst (numbered s negative) (numbered t negative)
unfolding numbered
numbered_same s t l negative =
    choose (prefix_len is_digit s.now == 0) (prefix_len is_digit t.now == 0) (ap (λ (n : ℕ). n == 0) (run_same is_digit digit l)) (left_same s t l)
    (subst (λ (f : Result Split ℕ). SameFirst (closed (after s (prefix_len is_digit s.now)) (number_of s.now)) f) turned (closed_same (after s (prefix_len is_digit s.now)) (after t (prefix_len is_digit s.now)) (drop_same (prefix_len is_digit s.now) l) (number_of s.now)))
  where
    number_of : List ℕ → Subscript
    number_of d = record { negative = negative; magnitude = value 0 (take (prefix_len is_digit d) d) }

    turned : closed (after t (prefix_len is_digit s.now)) (number_of s.now) ≡ closed (after t (prefix_len is_digit t.now)) (number_of t.now)
    turned = ap₂ (λ (n : ℕ) (d : List ℕ). closed (after t n) (record { negative = negative; magnitude = value 0 d })) (run_same is_digit digit l) (digits_same l)

bracketed_same : (s t : Bor (List ℕ)) → SameLetters s.now t.now → SameFirst (bracketed s) (bracketed t)
unfolding bracketed
bracketed_same s t l =
    choose (slice_index s.now 0 == 45) (slice_index t.now 0 == 45) (first_same (λ x. x == 45) minus l) (numbered_same (after s 1) (after t 1) (drop_same 1 l) true) (numbered_same s t l false)

member_same : (s t : Bor (List ℕ)) → SameLetters s.now t.now → SameFirst (member s) (member t)
unfolding member
member_same s t l =
    choose (position_or_len is_mark s.now == 0) (position_or_len is_mark t.now == 0) (ap (λ (n : ℕ). n == 0) (name_long_same l)) (left_same s t l)
    (subst (λ (n : ℕ). SameFirst (Ok (split_at (Member (part s 0 (position_or_len is_mark s.now))) (after s (position_or_len is_mark s.now)))) (Ok (split_at (Member (part t 0 n)) (after t n)))) (name_long_same l)
    (both (by_name (take_same (position_or_len is_mark s.now) l)) (drop_same (position_or_len is_mark s.now) l)))

pub first_part_same : (s t : Bor (List ℕ)) → SameLetters s.now t.now → SameFirst (first_part s) (first_part t)
unfolding first_part
first_part_same s t l =
    choose (slice_index s.now 0 == 46) (slice_index t.now 0 == 46) (first_same (λ x. x == 46) dot l) (member_same (after s 1) (after t 1) (drop_same 1 l))
    (choose (slice_index s.now 0 == 91 || slice_index s.now 0 == 44) (slice_index t.now 0 == 91 || slice_index t.now 0 == 44)
    (ap₂ (λ (a b : Bool). a || b) (first_same (λ x. x == 91) opening l) (first_same (λ x. x == 44) comma l))
    (bracketed_same (after s 1) (after t 1) (drop_same 1 l)) (left_same s t l))
