-- Bytes in digits, and what digits spell.
use Rattle.std.proofs.Common.{ℕ, zero, suc, ◌+◌, ◌*◌, ◌/◌, ◌%◌, ◌<◌, ◌≤◌, ◌≡◌, refl, sym, ap, ◌∙◌, Bool, true, false, List, [], ◌∷◌, ◌++◌, length, take, get_or, set, subst, arith}
use Rattle.std.specs.Prelude.{Option, Some, None, Result, Ok, Err, unwrap_or, is_ok, slice_index, IfOk, IsOkAnd}
use Rattle.std.specs.List.{list_all}
use Rattle.std.proofs.lemmas.List.Elements.{All-get_or}
use Rattle.std.proofs.lemmas.List.Sums.{AllPass-from_list_all, list_all-from_AllPass}
use Rattle.std.proofs.Math.Seq.{take_all}
use Rattle.le.specs.Put.{Wrote}
use Rattle.le.proofs.Laws.{take_more, put_none, put_one, wrote, after, same_bytes}
use Rattle.hex.specs.Hex.{encode_with, upper_digits, encode_upper, hex_digit_value, is_hex_digit, value_at, digit_or_error, pair_value, decode_pairs, decode_of, ◌>>=◌}
use Rattle.hex.specs.declared.error.FromHexError.{FromHexError}
use Rattle.hex.proofs.HexLemmas.{decode_of-ok, decode_of-digits, decode_of-even}
use Rattle.refusal.specs.declared.Refusal.TheVariants.{BadHexadecimal}
use Rattle.captures.specs.Captures.{spelt, told_length}

-- one byte more in digits
pub encode_more : (t xs ys : List ℕ) → encode_with t xs ++ encode_with t ys ≡ encode_with t (xs ++ ys)
unfolding encode_with
encode_more t [] ys = refl
encode_more t (x ∷ xs) ys = ap (λ (l : List ℕ). slice_index t (x / 16) ∷ slice_index t (x % 16) ∷ l) (encode_more t xs ys)

pub digits_more : (s : List ℕ) (i : ℕ) → i < length s → encode_upper (take i s) ++ encode_upper (get_or s i 0 ∷ []) ≡ encode_upper (take (i + 1) s)
digits_more s i h = encode_more upper_digits (take i s) (get_or s i 0 ∷ []) ∙ ap encode_upper (take_more s i h)

-- what a digit stands for, and what pairs of digits do
abbrev pub value_of : ℕ → ℕ
value_of c = unwrap_or (hex_digit_value c) 0

abbrev pub byte_of : ℕ → ℕ → ℕ
byte_of high low = value_of high * 16 + value_of low

unfoldable pub pair_bytes : List ℕ → List ℕ
pair_bytes [] = []
pair_bytes (a ∷ []) = []
pair_bytes (a ∷ b ∷ rest) = byte_of a b ∷ pair_bytes rest

pub bind_ok : {A B : Type 0} (r : Result A FromHexError) (f : A → Result B FromHexError) (y : B) → (r >>= f) ≡ Ok y → (x : A) × (r ≡ Ok x) × (f x ≡ Ok y)
bind_ok (Ok x) f y h = (x, refl, h)
bind_ok (Err e) f y h = cc

value_read : (c i v : ℕ) (o : Option ℕ) → digit_or_error c i o ≡ Ok v → v ≡ unwrap_or o 0
value_read c i v (Some w) h = cc
value_read c i v None h = cc

-- the bytes that are read are these
pub pairs_read : (i : ℕ) (s bytes : List ℕ) → decode_pairs i s ≡ Ok bytes → bytes ≡ pair_bytes s
unfolding decode_pairs pair_bytes
pairs_read i [] bytes h = cc
pairs_read i (a ∷ []) bytes h = cc
pairs_read i (a ∷ b ∷ rest) bytes h =
    let p = bind_ok (pair_value a b i) _ bytes h in
    let q = bind_ok (value_at a i) _ p.0 p.1 in
    let r = bind_ok (value_at b (i + 1)) _ p.0 q.2 in
    let t = bind_ok (decode_pairs (i + 2) rest) _ bytes p.2 in
    let high : q.0 ≡ value_of a = value_read a i q.0 (hex_digit_value a) q.1 in
    let low : r.0 ≡ value_of b = value_read b (i + 1) r.0 (hex_digit_value b) r.1 in
    let more : t.0 ≡ pair_bytes rest = pairs_read (i + 2) rest t.0 t.1 in
    let byte : q.0 * 16 + r.0 ≡ p.0 = cc in
    let all : p.0 ∷ t.0 ≡ bytes = cc in
    let is : p.0 ≡ byte_of a b = sym byte ∙ ap (λ (x : ℕ). x * 16 + r.0) high ∙ ap (λ (x : ℕ). value_of a * 16 + x) low in
    sym all ∙ ap (λ (x : ℕ). x ∷ t.0) is ∙ ap (λ (l : List ℕ). byte_of a b ∷ l) more

pub decoded : (s bytes : List ℕ) → decode_of s ≡ Ok bytes → bytes ≡ pair_bytes s
decoded s bytes h = let k = decode_of-ok s bytes h in pairs_read 0 s bytes (sym (decode_of-even s k.0) ∙ h)

-- the byte at a place of the bytes
pub pair_at : (s : List ℕ) (k : ℕ) → 2 * k + 1 < length s → get_or (pair_bytes s) k 0 ≡ byte_of (get_or s (2 * k) 0) (get_or s (2 * k + 1) 0)
unfolding pair_bytes
pair_at [] k h = absurd (omega arith)
pair_at (a ∷ []) k h = absurd (omega arith)
pair_at (a ∷ b ∷ rest) zero h = refl
pair_at (a ∷ b ∷ rest) (suc k) h =
    let e : 2 * suc k ≡ suc (suc (2 * k)) = omega arith in
    let f : suc (suc (2 * k)) + 1 ≡ suc (suc (2 * k + 1)) = omega arith in
    rw (e, f) (pair_at rest k (omega arith))

-- a text that is pairs of digits, digit by digit
pub record ArePairs (s : List ℕ) : Type 0 where
  pub even : length s % 2 ≡ 0
  pub digit : (k : ℕ) → k < length s → is_hex_digit (get_or s k 0) ≡ true
  pub long : length s ≡ 2 * length (pair_bytes s)

pub are_pairs : (s bytes : List ℕ) → decode_of s ≡ Ok bytes → ArePairs s
are_pairs s bytes h =
    let k = decode_of-ok s bytes h in
    record { even = k.0; digit = λ i l. All-get_or (λ c. is_hex_digit c ≡ true) s i 0 l k.1; long = k.2 ∙ ap (λ (b : List ℕ). 2 * length b) (decoded s bytes h) }

-- whether it is, as code tests it
pub tested : (s : List ℕ) → length s % 2 ≡ 0 → (b : Bool) → list_all is_hex_digit s ≡ b → b ≡ is_ok (decode_of s)
tested s even true e =
    let d = decode_of-digits s even (AllPass-from_list_all is_hex_digit s e) in
    sym (ap (is_ok {T = List ℕ} {E = FromHexError}) d.1)
tested s even false e = by (decode_of s) refl
  where
    by : (r : Result (List ℕ) FromHexError) → decode_of s ≡ r → false ≡ is_ok r
    by (Ok bytes) h = let f : true ≡ false = sym (list_all-from_AllPass is_hex_digit s (decode_of-ok s bytes h).1) ∙ e in cc
    by (Err why) h = refl

pub odd : (s : List ℕ) → (length s % 2 ≡ 0 → ⊥) → false ≡ is_ok (decode_of s)
odd s n = by (decode_of s) refl
  where
    by : (r : Result (List ℕ) FromHexError) → decode_of s ≡ r → false ≡ is_ok r
    by (Ok bytes) h = absurd (n (decode_of-ok s bytes h).0)
    by (Err why) h = refl

-- the length of what is spelt
pub told_bad : {E : Type 0} (r : Result (List ℕ) E) → is_ok r ≡ false → told_length (spelt r) ≡ Err BadHexadecimal
told_bad (Ok bytes) h = let z : ◌≡◌ {A = ℕ} 0 1 = cc in absurd (omega arith)
told_bad (Err why) h = refl

pub told_good : (s : List ℕ) → is_ok (decode_of s) ≡ true → told_length (spelt (decode_of s)) ≡ Ok (length s / 2)
told_good s = by (decode_of s) refl
  where
    by : (r : Result (List ℕ) FromHexError) → decode_of s ≡ r → is_ok r ≡ true → told_length (spelt r) ≡ Ok (length s / 2)
    by (Ok bytes) h e = let l = (decode_of-ok s bytes h).2 in let n : length bytes ≡ length s / 2 = omega (arith, l) in ap (λ (k : ℕ). Ok k) n
    by (Err why) h e = let z : ◌≡◌ {A = ℕ} 0 1 = cc in absurd (omega arith)

-- what is known of a result's value
pub ok_and : {A E : Type 0} (r : Result A E) (P : A → Type 0) → IsOkAnd r P → (x : A) × (r ≡ Ok x) × P x
ok_and (Ok x) P h = (x, refl, h)
ok_and (Err e) P h = absurd h

pub if_ok : {A E : Type 0} (r : Result A E) (P : A → Type 0) → ((x : A) → r ≡ Ok x → P x) → IfOk r P
if_ok (Ok x) P f = f x refl
if_ok (Err e) P f = tt

pub from_if : {A E : Type 0} {r : Result A E} (P : A → Type 0) {x : A} → r ≡ Ok x → IfOk r P → P x
from_if P e h = subst (λ t. IfOk t P) e h

pub to_and : {A E : Type 0} {r : Result A E} (P : A → Type 0) {x : A} → r ≡ Ok x → P x → IsOkAnd r P
to_and P e p = subst (λ t. IsOkAnd t P) (sym e) p

-- ---- the bytes of pairs, written one by one

-- pairs whose bytes have room from a place on
pub record Fit (s : List ℕ) (at lent : ℕ) : Type 0 where
  pub pairs : ArePairs s
  pub room : at + length (pair_bytes s) ≤ lent

pub fit : (s : List ℕ) (at lent : ℕ) → IsOkAnd (decode_of s) (λ bytes. at + length bytes ≤ lent) → Fit s at lent
fit s at lent h =
    let k = ok_and (decode_of s) (λ bytes. at + length bytes ≤ lent) h in
    record { pairs = are_pairs s k.0 k.1; room = omega (arith, k.2, ap length (decoded s k.0 k.1)) }

pub none_spelt : (old : List ℕ) (at : ℕ) → at ≤ length old → Wrote old at [] old (at + 0)
none_spelt old at h = record { is = sym (put_none old at); end = omega arith; room = omega arith; long = refl }

pub more_spelt : {old now : List ℕ} {at i : ℕ} (bytes : List ℕ) (b : ℕ) → Wrote old at (take i bytes) now (at + i) → i < length bytes → at + length bytes ≤ length old → b ≡ get_or bytes i 0
    → Wrote old at (take (i + 1) bytes) (set now (at + i) b) (at + (i + 1))
more_spelt {old} {now} {at} {i} bytes b w h room is =
    let one : Wrote now (at + i) (b ∷ []) (set now (at + i) b) (at + i + 1) = wrote (put_one now (at + i) b (omega (arith, w.long))) (omega arith) (omega (arith, w.long)) in
    let two = after w one in
    let e : take i bytes ++ (b ∷ []) ≡ take (i + 1) bytes = ap (λ (x : ℕ). take i bytes ++ (x ∷ [])) is ∙ take_more bytes i h in
    same_bytes e (record { is = two.is; end = omega (arith, two.end); room = two.room; long = two.long })

pub all_spelt : {old new : List ℕ} {at i next : ℕ} (bytes all : List ℕ) → Wrote old at (take i bytes) new (at + i) → length bytes ≤ i → next ≡ at + i → all ≡ bytes → Wrote old at all new next
all_spelt {old} {new} {at} {i} {next} bytes all w h n is =
    same_bytes (take_all i bytes h ∙ sym is) (record { is = w.is; end = omega (arith, w.end, n); room = w.room; long = w.long })

-- two digits are a byte of the pairs
pub spelt_at : (s : List ℕ) (k a b : ℕ) → 2 * k + 1 < length s → hex_digit_value (get_or s (2 * k) 0) ≡ Some a → hex_digit_value (get_or s (2 * k + 1) 0) ≡ Some b → a * 16 + b ≡ get_or (pair_bytes s) k 0
spelt_at s k a b h p q =
    let x : value_of (get_or s (2 * k) 0) ≡ a = ap (λ (o : Option ℕ). unwrap_or o 0) p in
    let y : value_of (get_or s (2 * k + 1) 0) ≡ b = ap (λ (o : Option ℕ). unwrap_or o 0) q in
    sym (pair_at s k h ∙ ap (λ (v : ℕ). v * 16 + value_of (get_or s (2 * k + 1) 0)) x ∙ ap (λ (v : ℕ). a * 16 + v) y)

-- a line has at most half as many bytes as digits
pub few_told : (s : List ℕ) (n : ℕ) → told_length (spelt (decode_of s)) ≡ Ok n → n * 2 ≤ length s
few_told s n = by (decode_of s) refl
  where
    by : (r : Result (List ℕ) FromHexError) → decode_of s ≡ r → told_length (spelt r) ≡ Ok n → n * 2 ≤ length s
    by (Ok bytes) h e = let l = (decode_of-ok s bytes h).2 in let m : length bytes ≡ n = cc in omega (arith, l, m)
    by (Err why) h e = let z : ◌≡◌ {A = ℕ} 0 1 = cc in absurd (omega arith)
