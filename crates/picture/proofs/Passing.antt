-- Rows go by sections in their order.
use Rattle.std.proofs.Common.{ℕ, zero, suc, ◌+◌, ◌-◌, ◌*◌, ◌<◌, ◌≤◌, ◌≡◌, Bool, true, false, List, [], ◌∷◌, ◌++◌, get_or, length, take, drop, refl, sym, ap, ap₂, ◌∙◌, append_assoc, append-nil, add-one, arith}
use Rattle.std.specs.Prelude.{min, nat_lt, if◌then◌else◌}
use Rattle.std.specs.List.{flat_map, range_with_len}
use Rattle.std.proofs.lemmas.List.{drop_more, drop_all, take_more, take_rest, take_all}
use Rattle.std.proofs.lemmas.List.Concat.{flat_map-append}
use borrow.Author.Tests.{leb-true}
use Rattle.sections.specs.declared.Section.{Section}
use Rattle.picture.specs.Rows.{behind, ends_by, within, row_text, row_of}

behind_cons : (start : ℕ) (x : Section) (xs : List Section) → behind start (x ∷ xs) ≡ (if ends_by start x then behind start xs else x ∷ xs)
unfolding behind
behind_cons start x xs = refl

behind_at : (start : ℕ) (xs : List Section) (i : ℕ) (d : Section) → i < length xs → behind start (drop i xs) ≡ (if ends_by start (get_or xs i d) then behind start (drop (i + 1) xs) else get_or xs i d ∷ drop (i + 1) xs)
behind_at start xs i d l = ap (behind start) (drop_more xs i d l) ∙ behind_cons start (get_or xs i d) (drop (i + 1) xs)

pub behind_more : (start : ℕ) (xs : List Section) (i : ℕ) (d : Section) (b : Bool) → b ≡ ends_by start (get_or xs i d) → i < length xs → b ≡ true → behind start (drop (i + 1) xs) ≡ behind start (drop i xs)
behind_more start xs i d b e l h = let t : ends_by start (get_or xs i d) ≡ true = sym e ∙ h in sym (rw t at (behind_at start xs i d l))

pub behind_here : (start : ℕ) (xs : List Section) (i : ℕ) (d : Section) (b : Bool) → b ≡ ends_by start (get_or xs i d) → i < length xs → b ≡ false → take (length xs - i) (drop i xs) ≡ behind start (drop i xs)
behind_here start xs i d b e l h =
    let t : ends_by start (get_or xs i d) ≡ false = sym e ∙ h in
    take_rest xs i ∙ drop_more xs i d l ∙ sym (rw t at (behind_at start xs i d l))

pub behind_end : (start : ℕ) (xs : List Section) (i : ℕ) → length xs ≤ i → take (length xs - length xs) (drop (length xs) xs) ≡ behind start (drop i xs)
unfolding behind
behind_end start xs i l = take_rest xs (length xs) ∙ drop_all (length xs) xs (omega arith) ∙ ap (behind start) (sym (drop_all i xs l))

within_cons : (end : ℕ) (x : Section) (xs : List Section) → within end (x ∷ xs) ≡ (if nat_lt x.at end then x ∷ within end xs else [])
unfolding within
within_cons end x xs = refl

within_at : (end : ℕ) (xs : List Section) (i : ℕ) (d : Section) → i < length xs → within end (drop i xs) ≡ (if nat_lt (get_or xs i d).at end then get_or xs i d ∷ within end (drop (i + 1) xs) else [])
within_at end xs i d l = ap (within end) (drop_more xs i d l) ∙ within_cons end (get_or xs i d) (drop (i + 1) xs)

pub within_more : (end : ℕ) (xs : List Section) (i : ℕ) (d : Section) → (get_or xs i d).at < end → i < length xs → take (i + 1) xs ++ within end (drop (i + 1) xs) ≡ take i xs ++ within end (drop i xs)
within_more end xs i d h l =
    let t : nat_lt (get_or xs i d).at end ≡ true = grind arith in
    ap (λ (p : List Section). p ++ within end (drop (i + 1) xs)) (take_more xs i d l) ∙ append_assoc (take i xs) (get_or xs i d ∷ []) (within end (drop (i + 1) xs))
    ∙ ap (λ (p : List Section). take i xs ++ p) (sym (rw t at (within_at end xs i d l)))

pub within_stop : (end : ℕ) (xs : List Section) (i : ℕ) (d : Section) → end ≤ (get_or xs i d).at → i < length xs → take i xs ≡ take i xs ++ within end (drop i xs)
within_stop end xs i d h l =
    let t : nat_lt (get_or xs i d).at end ≡ false = grind arith in
    sym (ap (λ (p : List Section). take i xs ++ p) (rw t at (within_at end xs i d l)) ∙ append-nil (take i xs))

pub within_end : (end : ℕ) (xs : List Section) (i : ℕ) → length xs ≤ i → xs ≡ take i xs ++ within end (drop i xs)
unfolding within
within_end end xs i l = sym (ap₂ (λ (p q : List Section). p ++ within end q) (take_all i xs l) (drop_all i xs l) ∙ append-nil xs)

-- what ends before a row ends before the next
pub behind_behind : (s t : ℕ) (xs : List Section) → s ≤ t → behind t (behind s xs) ≡ behind t xs
unfolding behind
behind_behind s t [] h = refl
behind_behind s t (x ∷ xs) h = go (ends_by s x) refl (behind_behind s t xs h)
  where
    go : (b : Bool) → ends_by s x ≡ b → behind t (behind s xs) ≡ behind t xs → behind t (if b then behind s xs else x ∷ xs) ≡ behind t (x ∷ xs)
    go true e more =
        let p : length x.bytes.now ≤ s - x.at = leb-true (length x.bytes.now) (s - x.at) e in
        let q : ends_by t x ≡ true = grind arith in
        rw q more
    go false e more = refl

range_more : (a n k : ℕ) → a + n ≡ k → range_with_len a (suc n) ≡ range_with_len a n ++ (k ∷ [])
range_more a zero k h = ap (λ (q : ℕ). q ∷ []) (omega arith)
range_more a (suc n) k h = ap (λ (l : List ℕ). a ∷ l) (range_more (a + 1) n k (omega arith))

range_next : (k : ℕ) → range_with_len 0 (k + 1) ≡ range_with_len 0 k ++ (k ∷ [])
range_next k = rw add-one (range_more 0 k k (omega arith))

-- a row more
pub row_more : (coloured : Bool) (n : ℕ) (all left before now : List Section) (k end : ℕ) → end ≡ 16 * k + min 16 (n - 16 * k) → 16 * k < n
    → before ≡ behind (16 * k) left → behind (16 * k) left ≡ behind (16 * k) all → now ≡ within end before
    → flat_map (row_of coloured n all) (range_with_len 0 k) ++ row_text coloured (16 * k) end now ≡ flat_map (row_of coloured n all) (range_with_len 0 (k + 1))
row_more coloured n all left before now k end e some b l w =
    let last : end ≡ min (16 * k + 16) n = omega arith in
    let own : now ≡ within (min (16 * k + 16) n) (behind (16 * k) all) = w ∙ ap₂ (λ (q : ℕ) (s : List Section). within q s) last (b ∙ l) in
    let row : row_text coloured (16 * k) end now ≡ row_of coloured n all k = ap₂ (λ (q : ℕ) (s : List Section). row_text coloured (16 * k) q s) last own in
    ap (λ (t : List ℕ). flat_map (row_of coloured n all) (range_with_len 0 k) ++ t) (row ∙ sym (append-nil (row_of coloured n all k)))
    ∙ sym (flat_map-append (row_of coloured n all) (range_with_len 0 k) (k ∷ []))
    ∙ ap (flat_map (row_of coloured n all)) (sym (range_next k))
