-- A part of a text has a byte at least.
use Rattle.std.proofs.Common.{ℕ, ◌<◌, ◌≤◌, ◌≡◌, refl, sym, ap, le_of_eq, Bool, true, false, List, [], ◌∷◌, length, take, length-drop, Bor, arith, if◌then◌else◌}
use Rattle.std.specs.Prelude.{Result, Ok, Err, ◌==◌, ◌||◌, slice_index}
use Rattle.std.specs.List.{prefix_len, position_or_len}
use Rattle.le.proofs.Laws.{not_both}
use Rattle.part.specs.Slice.{part, after}
use Rattle.path.specs.declared.Subscript.{Subscript}
use Rattle.path.specs.declared.Split.{Split}
use Rattle.path.specs.declared.Part.TheVariants.{Member, Element}
use Rattle.path.specs.Path.{is_mark, is_digit, value, split_at, closing, closed, numbered, bracketed, member, first_part}

closing_behind : (s : Bor (List ℕ)) (n : Subscript) (p : Split) → closing s n ≡ Ok p → length p.rest.now ≤ length s.now
unfolding closing
closing_behind s n p h = grind arith

either : {Q : Type 0} (t : Bool) (x y : Result Split ℕ) (p : Split) → (t ≡ true → x ≡ Ok p → Q) → (t ≡ false → y ≡ Ok p → Q) → (if t then x else y) ≡ Ok p → Q
either true x y p a b h = a refl h
either false x y p a b h = b refl h

refused : {Q : Type 0} (n : ℕ) (p : Split) → Err n ≡ Ok p → Q
refused n p h = absurd (grind arith)

closed_behind : (s : Bor (List ℕ)) (n : Subscript) (p : Split) → closed s n ≡ Ok p → length p.rest.now ≤ length s.now
unfolding closed
closed_behind s n p h =
    either (slice_index s.now 0 == 44) (Ok (split_at (Element n) s)) (if slice_index s.now 0 == 93 then closing (after s 1) n else Err (length s.now)) p
    (λ q k. let is : split_at (Element n) s ≡ p = cc in le_of_eq (ap (λ (x : Split). length x.rest.now) (sym is)))
    (λ q k. either (slice_index s.now 0 == 93) (closing (after s 1) n) (Err (length s.now)) p (λ r m. omega (arith, closing_behind (after s 1) n p m, length-drop 1 s.now)) (λ r m. refused (length s.now) p m) k)
    h

numbered_behind : (s : Bor (List ℕ)) (negative : Bool) (p : Split) → numbered s negative ≡ Ok p → length p.rest.now ≤ length s.now
unfolding numbered
numbered_behind s negative p h =
    let n : ℕ = prefix_len is_digit s.now in
    let number : Subscript = record { negative = negative; magnitude = value 0 (take n s.now) } in
    either (n == 0) (Err (length s.now)) (closed (after s n) number) p (λ q k. refused (length s.now) p k) (λ q k. omega (arith, closed_behind (after s n) number p k, length-drop n s.now)) h

bracketed_behind : (s : Bor (List ℕ)) (p : Split) → bracketed s ≡ Ok p → length p.rest.now ≤ length s.now
unfolding bracketed
bracketed_behind s p h =
    either (slice_index s.now 0 == 45) (numbered (after s 1) true) (numbered s false) p
    (λ q k. omega (arith, numbered_behind (after s 1) true p k, length-drop 1 s.now))
    (λ q k. numbered_behind s false p k)
    h

member_behind : (s : Bor (List ℕ)) (p : Split) → member s ≡ Ok p → length p.rest.now ≤ length s.now
unfolding member
member_behind s p h =
    let n : ℕ = position_or_len is_mark s.now in
    either (n == 0) (Err (length s.now)) (Ok (split_at (Member (part s 0 n)) (after s n))) p (λ q k. refused (length s.now) p k)
    (λ q k.
    let is : split_at (Member (part s 0 n)) (after s n) ≡ p = cc in
    omega (arith, ap (λ (x : Split). length x.rest.now) (sym is), length-drop n s.now))
    h

dot_there : (s : List ℕ) → (slice_index s 0 == 46) ≡ true → 0 < length s
dot_there [] h = absurd (not_both h refl)
dot_there (x ∷ s) h = omega arith

bracket_there : (s : List ℕ) → (slice_index s 0 == 91 || slice_index s 0 == 44) ≡ true → 0 < length s
bracket_there [] h = absurd (not_both h refl)
bracket_there (x ∷ s) h = omega arith

pub shorter : (s : Bor (List ℕ)) (p : Split) → first_part s ≡ Ok p → length p.rest.now < length s.now
unfolding first_part
shorter s p h =
    either (slice_index s.now 0 == 46) (member (after s 1)) (if slice_index s.now 0 == 91 || slice_index s.now 0 == 44 then bracketed (after s 1) else Err (length s.now)) p
    (λ q k. omega (arith, member_behind (after s 1) p k, length-drop 1 s.now, dot_there s.now q))
    (λ q k. either (slice_index s.now 0 == 91 || slice_index s.now 0 == 44) (bracketed (after s 1)) (Err (length s.now)) p (λ r m. omega (arith, bracketed_behind (after s 1) p m, length-drop 1 s.now, bracket_there s.now r)) (λ r m. refused (length s.now) p m) k)
    h
