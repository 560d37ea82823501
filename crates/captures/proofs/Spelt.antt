-- What a text spells, character by character, is what its lines spell.
use Rattle.std.proofs.Common.{ℕ, ◌+◌, ◌-◌, ◌*◌, ◌<◌, ◌≤◌, ◌≡◌, refl, sym, ap, subst, ◌∙◌, Bool, true, false, ◌&&◌, List, [], ◌∷◌, ◌++◌, length, append-nil, arith}
use Rattle.std.specs.Prelude.{leb, cond, Option, Some, None, Result, Ok, Err, if◌then◌else◌}
use Rattle.std.specs.List.{onto_first, join_with_byte}
use Rattle.std.proofs.lemmas.List.Splits.{join_with_byte-slice_split}
use borrow.Author.Tests.{leb-true, ne_eqb, lt-ltb, le-ltb}
use Rattle.part.specs.Outcome.{and_then}
use Rattle.refusal.specs.Refusal.{limit}
use Rattle.refusal.specs.declared.Refusal.{Refusal}
use Rattle.refusal.specs.declared.Refusal.TheVariants.{TooLarge, BadHexadecimal}
use Rattle.hex.specs.Hex.{hex_digit_value, value_at, digit_or_error, pair_value, decode_pairs, decode_of}
use Rattle.hex.specs.declared.error.FromHexError.{FromHexError}
use Rattle.hex.proofs.HexLemmas.{decode_of-ok, decode_of-even, decode_pairs-ok, decode_pairs-digits}
use Rattle.hex.proofs.Pairs.{cons_byte, decode_pairs-ok_pair}
use Rattle.writing.specs.Checks.{entry_checked}
use Rattle.writing.proofs.Entry.{entry_passed}
use Rattle.captures.specs.Captures.{lines, spelt, joined, joining}
use Rattle.captures.specs.Meaning.{IsDigit, number, capital, small, Spells, end, line, byte, JoinMeant}
use Rattle.captures.proofs.Pairs.{pairs_read, bind_ok}
use Rattle.captures.proofs.Lines.{parts, join_checked}

-- ---- digits
pub digit_reads : (c v : ℕ) → IsDigit c v → hex_digit_value c ≡ Some v
digit_reads c v (number a e) = rw e (grind arith)
digit_reads c v (capital a b e) = rw e (grind arith)
digit_reads c v (small a b e) = rw e (grind arith)

by_test : (low high c v off : ℕ) (rest : Option ℕ) → (low ≤ c → c ≤ high → c - off ≡ v → IsDigit c v) → (rest ≡ Some v → IsDigit c v)
    → (p q : Bool) → leb low c ≡ p → leb c high ≡ q → (if p && q then Some (c - off) else rest) ≡ Some v → IsDigit c v
by_test low high c v off rest here on true true e f h = here (leb-true low c e) (leb-true c high f) cc
by_test low high c v off rest here on true false e f h = on h
by_test low high c v off rest here on false q e f h = on h

pub digit_is : (c v : ℕ) → hex_digit_value c ≡ Some v → IsDigit c v
digit_is c v =
    by_test 65 70 c v 55 _ (λ a b e. capital (omega arith) (omega arith) (omega arith))
    (by_test 97 102 c v 87 _ (λ a b e. small (omega arith) (omega arith) (omega arith))
    (by_test 48 57 c v 48 None (λ a b e. number (omega arith) (omega arith)) (λ h. cc) (leb 48 c) (leb c 57) refl refl)
    (leb 97 c) (leb c 102) refl refl)
    (leb 65 c) (leb c 70) refl refl

-- no digit is an LF
pub not_end : (c v : ℕ) → IsDigit c v → c ≡ 10 → ⊥
not_end c v (number a e) h = omega arith
not_end c v (capital a b e) h = omega arith
not_end c v (small a b e) h = omega arith

read_digit : (c i v : ℕ) (o : Option ℕ) → digit_or_error c i o ≡ Ok v → o ≡ Some v
read_digit c i v (Some w) h = ap Some cc
read_digit c i v None h = cc

-- ---- from lines to characters
line_spells : (i : ℕ) (l bytes rest more : List ℕ) → decode_pairs i l ≡ Ok bytes → Spells rest more → Spells (l ++ rest) (bytes ++ more)
unfolding decode_pairs
line_spells i [] bytes rest more h s = let e : [] ≡ bytes = cc in subst (λ (b : List ℕ). Spells rest (b ++ more)) e s
line_spells i (a ∷ []) bytes rest more h s = cc
line_spells i (a ∷ b ∷ l) bytes rest more h s =
    let p = bind_ok (pair_value a b i) _ bytes h in
    let q = bind_ok (value_at a i) _ p.0 p.1 in
    let r = bind_ok (value_at b (i + 1)) _ p.0 q.2 in
    let t = bind_ok (decode_pairs (i + 2) l) _ bytes p.2 in
    let byte_is : q.0 * 16 + r.0 ≡ p.0 = cc in
    let all : p.0 ∷ t.0 ≡ bytes = cc in
    let high = digit_is a q.0 (read_digit a i q.0 (hex_digit_value a) q.1) in
    let low = digit_is b r.0 (read_digit b (i + 1) r.0 (hex_digit_value b) r.1) in
    let ih = byte high low (line_spells (i + 2) l t.0 rest more t.1 s) in
    subst (λ (x : List ℕ). Spells (a ∷ b ∷ (l ++ rest)) (x ++ more)) (ap (λ (x : ℕ). x ∷ t.0) byte_is ∙ all) ih

of_line : (l bytes rest more : List ℕ) → decode_of l ≡ Ok bytes → Spells rest more → Spells (l ++ rest) (bytes ++ more)
of_line l bytes rest more h s = let k = decode_of-ok l bytes h in line_spells 0 l bytes rest more (sym (decode_of-even l k.0) ∙ h) s

joined_spells : (ls : List (List ℕ)) (bytes : List ℕ) → joined ls ≡ Ok bytes → Spells (join_with_byte 10 ls) bytes
unfolding joined
joined_spells [] bytes h = let e : [] ≡ bytes = cc in subst (λ (b : List ℕ). Spells [] b) e end
joined_spells (l ∷ []) bytes h =
    let p = parts (decode_of l) (joined []) bytes h in
    let none : [] ≡ p.more = cc (p.then) in
    let s = of_line l p.bytes [] [] p.first end in
    let b : p.bytes ++ [] ≡ bytes = ap (λ (m : List ℕ). p.bytes ++ m) none ∙ p.both in
    subst (λ (t : List ℕ). Spells t bytes) (append-nil l) (subst (λ (b : List ℕ). Spells (l ++ []) b) b s)
joined_spells (l ∷ m ∷ ls) bytes h =
    let p = parts (decode_of l) (joined (m ∷ ls)) bytes h in
    let ih = joined_spells (m ∷ ls) p.more p.then in
    subst (λ (b : List ℕ). Spells (l ++ (10 ∷ join_with_byte 10 (m ∷ ls))) b) p.both (of_line l p.bytes (10 ∷ join_with_byte 10 (m ∷ ls)) p.more p.first (line ih))

pub spells_of : (text bytes : List ℕ) → joined (lines text) ≡ Ok bytes → Spells text bytes
spells_of text bytes h = subst (λ (t : List ℕ). Spells t bytes) (join_with_byte-slice_split 10 text) (joined_spells (lines text) bytes h)

-- ---- from characters to lines
-- where the digits of a line begin does not matter to what they spell
shifted : (i j : ℕ) (s bytes : List ℕ) → decode_pairs i s ≡ Ok bytes → decode_pairs j s ≡ Ok bytes
shifted i j s bytes h =
    let k = decode_pairs-ok i s bytes h in
    let d = decode_pairs-digits j s (omega (arith, k.1)) k.0 in
    d.1 ∙ ap (λ (b : List ℕ). Ok b) (pairs_read j s d.0 d.1 ∙ sym (pairs_read i s bytes h))

-- two digits before a line
pair_more : (a b high low : ℕ) (l bytes : List ℕ) → hex_digit_value a ≡ Some high → hex_digit_value b ≡ Some low → decode_of l ≡ Ok bytes → decode_of (a ∷ b ∷ l) ≡ Ok ((high * 16 + low) ∷ bytes)
pair_more a b high low l bytes p q h =
    let k = decode_of-ok l bytes h in
    let ha : value_at a 0 ≡ Ok high = ap (digit_or_error a 0) p in
    let hb : value_at b (0 + 1) ≡ Ok low = ap (digit_or_error b (0 + 1)) q in
    let pair : pair_value a b 0 ≡ Ok (high * 16 + low) = rw (ha, hb) refl in
    decode_of-even (a ∷ b ∷ l) (omega (arith, k.0)) ∙ decode_pairs-ok_pair 0 a b (high * 16 + low) l pair
    ∙ ap (cons_byte (high * 16 + low)) (shifted 0 2 l bytes (sym (decode_of-even l k.0) ∙ h))

joined_first : (l bytes more : List ℕ) (ls : List (List ℕ)) → decode_of l ≡ Ok bytes → joined ls ≡ Ok more → joined (l ∷ ls) ≡ Ok (bytes ++ more)
unfolding joined
joined_first l bytes more ls h k = rw (h, k) refl

no_digits : decode_of [] ≡ Ok []
unfolding decode_pairs
no_digits = refl

onto_joined : (a b high low : ℕ) (ls : List (List ℕ)) (bytes : List ℕ) → hex_digit_value a ≡ Some high → hex_digit_value b ≡ Some low → joined ls ≡ Ok bytes → joined (onto_first a (onto_first b ls)) ≡ Ok ((high * 16 + low) ∷ bytes)
unfolding joined
onto_joined a b high low [] bytes p q h =
    joined_first (a ∷ b ∷ []) ((high * 16 + low) ∷ []) bytes [] (pair_more a b high low [] [] p q no_digits) h
onto_joined a b high low (l ∷ ls) bytes p q h =
    let r = parts (decode_of l) (joined ls) bytes h in
    joined_first (a ∷ b ∷ l) ((high * 16 + low) ∷ r.bytes) r.more ls (pair_more a b high low l r.bytes p q r.first) r.then
    ∙ ap (λ (x : List ℕ). Ok ((high * 16 + low) ∷ x)) r.both

goes_on : (c v : ℕ) (text : List ℕ) → IsDigit c v → lines (c ∷ text) ≡ onto_first c (lines text)
goes_on c v text d = ap (λ (b : Bool). cond b ([] ∷ lines text) (onto_first c (lines text))) (ne_eqb c 10 (not_end c v d))

pub spelt_joined : (text bytes : List ℕ) → Spells text bytes → joined (lines text) ≡ Ok bytes
unfolding joined
spelt_joined text bytes end = joined_first [] [] [] [] no_digits refl
spelt_joined (c ∷ text) bytes (line s) = joined_first [] [] bytes (lines text) no_digits (spelt_joined text bytes s)
spelt_joined (a ∷ b ∷ text) (v ∷ bytes) (byte high low s) =
    ap joined (goes_on a _ (b ∷ text) high ∙ ap (onto_first a) (goes_on b _ text low))
    ∙ onto_joined a b _ _ (lines text) bytes (digit_reads a _ high) (digit_reads b _ low) (spelt_joined text bytes s)

-- ---- what joining means
joined_bad : (ls : List (List ℕ)) (why : Refusal) → joined ls ≡ Err why → why ≡ BadHexadecimal
unfolding joined
joined_bad [] why h = cc
joined_bad (l ∷ ls) why h = by (decode_of l) (joined ls) (joined_bad ls why) h
  where
    by : (d : Result (List ℕ) FromHexError) (r : Result (List ℕ) Refusal) → (r ≡ Err why → why ≡ BadHexadecimal) → and_then (spelt d) (λ bytes. and_then r (λ more. Ok (bytes ++ more))) ≡ Err why → why ≡ BadHexadecimal
    by (Ok bytes) (Ok more) on k = cc
    by (Ok bytes) (Err w) on k = on k
    by (Err w) r on k = cc

bad : (text : List ℕ) → ((bytes : List ℕ) → Spells text bytes → ⊥) → joining text ≡ Err BadHexadecimal
unfolding joining
bad text none = by (joined (lines text)) refl
  where
    by : (r : Result (List ℕ) Refusal) → joined (lines text) ≡ r → and_then r entry_checked ≡ Err BadHexadecimal
    by (Ok bytes) h = absurd (none bytes (spells_of text bytes h))
    by (Err why) h = ap (λ (w : Refusal). Err w) (joined_bad (lines text) why h)

large : (text bytes : List ℕ) → Spells text bytes → limit < length bytes → joining text ≡ Err (TooLarge (length bytes))
unfolding entry_checked
large text bytes s h = join_checked text bytes (spelt_joined text bytes s) ∙ simp (lt-ltb limit (length bytes) h)

within : (text bytes : List ℕ) → Spells text bytes → length bytes ≤ limit → joining text ≡ Ok bytes
unfolding entry_checked
within text bytes s h = join_checked text bytes (spelt_joined text bytes s) ∙ simp (le-ltb limit (length bytes) h)

spelt_whole : (text bytes : List ℕ) → joining text ≡ Ok bytes → Spells text bytes × (length bytes ≤ limit)
unfolding joining
spelt_whole text bytes h = by (joined (lines text)) refl h
  where
    by : (r : Result (List ℕ) Refusal) → joined (lines text) ≡ r → and_then r entry_checked ≡ Ok bytes → Spells text bytes × (length bytes ≤ limit)
    by (Ok b) e k =
        let p = entry_passed b bytes k in
        (subst (λ (x : List ℕ). Spells text x) (sym p.1) (spells_of text b e), omega (arith, p.0, ap length p.1))
    by (Err why) e k = cc

pub join_meant : JoinMeant
join_meant = record { bad = bad; too_large = large; within = within; joined = spelt_whole }
