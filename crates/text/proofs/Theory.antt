-- There and back gives the same bytes, back and there the same text; a text is of bytes up to its first fault. Assumes nothing.
use Rattle.std.proofs.Common.{◌≡◌, refl, sym, ap, ◌∙◌, subst, ◌⊎◌, inl, inr, ⊎_elim, Option, Some, None, Result, Ok, Err, List, [], ◌∷◌, ◌++◌, append_assoc, append-nil, Bool, true, false, ltb, ℕ, zero, suc, ◌+◌, ◌-◌, ◌≤◌, ◌<◌, add-zero, arith, length, drop, get_or, length-append, ltb-false, ne_eqb, ◌==◌, All, Contains, encode_utf8_all, if◌then◌else◌}
use Rattle.std.proofs.lemmas.List.Elements.{All-nil, All-cons, All-head, All-tail, Contains-get_or}
use Rattle.std.proofs.lemmas.Grind.{get_or_default_zero}
use Rattle.std.proofs.lemmas.Str.{encode_same}
use Rattle.std.specs.Char.{encode_utf8}
use Rattle.std.specs.Str.Lossy.{utf8_valid_len}
use lib.Seq.{drop-append_seam}
use Rattle.refusal.specs.Refusal.{limit}
use Rattle.refusal.specs.declared.Refusal.{Refusal}
use Rattle.refusal.specs.declared.Refusal.TheVariants.{TooLarge, BadText}
use Rattle.text.proofs.Utf8.{le_or_lt, utf8_long, opens, opened, Opens}
use Rattle.text.proofs.Laws.{point_low, point_mid, point_high, in_limit}
use Rattle.text.proofs.Byte.{own, byte_sound}
use Rattle.text.proofs.Back.{is_scalar, encoded_byte, encoded_nothing, encoded_none, prefixed}
use Rattle.text.specs.RoundTrip.{AreBytes, IsWindows1252, IsWithin, Pair, BytesComeBack, TextComesBack}
use Rattle.text.specs.Faults.{StartsWith, IsNoUtf8, HasNoByte, TableMeant}
use Rattle.text.specs.Text.{points, code_point, text_of, decoded, decoding, byte_of, before, encoded_from, encoding, Begins, fault_kind}

-- ---- there and back
prefixed_none : (w : Result (List ℕ) Refusal) → prefixed [] w ≡ w
prefixed_none (Ok bs) = refl
prefixed_none (Err why) = refl

before_prefixed : (b : ℕ) (s : List ℕ) (w : Result (List ℕ) Refusal) → before b (prefixed s w) ≡ prefixed (b ∷ s) w
before_prefixed b s (Ok bs) = refl
before_prefixed b s (Err why) = refl

-- the text of bytes, and what comes after it
pub encoded_front : (s rest : List ℕ) (place : ℕ) → AreBytes s → encoded_from place (decoded s ++ rest) ≡ prefixed s (encoded_from (place + length (decoded s)) rest)
unfolding decoded
encoded_front [] rest place h = ap (λ (n : ℕ). encoded_from n rest) (sym (add-zero place)) ∙ sym (prefixed_none (encoded_from (place + 0) rest))
encoded_front (b ∷ s) rest place h =
    let q : place + length (text_of b) + length (decoded s) ≡ place + length (text_of b ++ decoded s) = omega (arith, length-append (text_of b) (decoded s)) in
    ap (encoded_from place) (append_assoc (text_of b) (decoded s) rest)
    ∙ encoded_byte place b (decoded s ++ rest) (h 0)
    ∙ ap (before b) (encoded_front s rest (place + length (text_of b)) (λ k. h (suc k)) ∙ ap (λ (n : ℕ). prefixed s (encoded_from n rest)) q)
    ∙ before_prefixed b s (encoded_from (place + length (text_of b ++ decoded s)) rest)

bytes_back : (s : List ℕ) → AreBytes s → encoded_from 0 (decoded s) ≡ Ok s
bytes_back s h =
    ap (encoded_from 0) (sym (append-nil (decoded s))) ∙ encoded_front s [] 0 h ∙ ap (prefixed s) (encoded_nothing (0 + length (decoded s))) ∙ ap Ok (append-nil s)

within_by : (b : Bool) (s : List ℕ) (w : Result (List ℕ) Refusal) (bs : List ℕ) → (if b then Err (TooLarge (length s)) else w) ≡ Ok bs → (b ≡ false) × (w ≡ Ok bs)
within_by true s w bs e = let z : ◌≡◌ {A = ℕ} 0 1 = cc in absurd (omega arith)
within_by false s w bs e = (refl, e)

decoded_longer : (s : List ℕ) → length s ≤ length (decoded s)
unfolding decoded
decoded_longer [] = omega arith
decoded_longer (b ∷ s) = omega (arith, (utf8_long (code_point b)).0, length-append (text_of b) (decoded s), decoded_longer s)

-- ---- the bytes and the code points that Windows-1252 has
table_long : length points ≡ 32
unfolding points
table_long = refl

pub has_code_point : (b : ℕ) → b < 256 → IsWindows1252 (code_point b)
has_code_point b h = ⊎_elim upper (λ k. inl (rw (point_low {b = b} k) k)) (le_or_lt 128 b)
  where
    in_table : 128 ≤ b → b < 160 → IsWindows1252 (code_point b)
    in_table k l = inr (inl (subst (Contains points) (sym (point_mid {b = b} k l)) (Contains-get_or points (b - 128) 0 (omega (arith, table_long)))))

    upper : 128 ≤ b → IsWindows1252 (code_point b)
    upper k = ⊎_elim (λ l. inr (inr (rw (point_high {b = b} l) (l, h)))) (in_table k) (le_or_lt 160 b)

pub record Source (p : ℕ) : Type 0 where
  pub byte : ℕ
  pub low : byte < 256
  pub is : code_point byte ≡ p

pub source : (p : ℕ) → IsWindows1252 p → Source p
source p h = ⊎_elim (λ l. record { byte = p; low = omega arith; is = point_low l }) (λ r. ⊎_elim in_table above r) h
  where
    in_table : Contains points p → Source p
    in_table c =
        let l : c.0 < 32 = omega (arith, c.1, table_long) in
        let e : 128 + c.0 - 128 ≡ c.0 = omega arith in
        record {
          byte = 128 + c.0;
          low = omega (arith, l);
          is = point_mid {b = 128 + c.0} (omega arith) (omega (arith, l)) ∙ ap (λ (k : ℕ). get_or points k 0) e ∙ sym (get_or_default_zero points c.0 p c.1) ∙ c.2;
        }

    above : (160 ≤ p) × (p < 256) → Source p
    above k = record { byte = p; low = k.1; is = point_high k.0 }

pub within_of : (s : List ℕ) → AreBytes s → IsWithin (decoded s)
unfolding decoded
within_of [] h = ([], All-nil IsWindows1252, refl)
within_of (b ∷ s) h =
    let r = within_of s (λ k. h (suc k)) in
    (code_point b ∷ r.0, All-cons IsWindows1252 (code_point b) r.0 (has_code_point b (h 0)) r.1, ap (λ (l : List ℕ). text_of b ++ l) r.2)

pub record Bytes (ps : List ℕ) : Type 0 where
  pub string : List ℕ
  pub bytes : AreBytes string
  pub told : decoded string ≡ encode_utf8_all ps

bytes_more : (b : ℕ) (s : List ℕ) → b < 256 → AreBytes s → AreBytes (b ∷ s)
bytes_more b s h f zero = h
bytes_more b s h f (suc k) = f k

no_bytes : AreBytes []
no_bytes k = omega arith

pub source_of : (ps : List ℕ) → All IsWindows1252 ps → Bytes ps
unfolding decoded
source_of [] h = record { string = []; bytes = no_bytes; told = refl }
source_of (p ∷ ps) h =
    let c = source p (All-head IsWindows1252 p ps h) in
    let r = source_of ps (All-tail IsWindows1252 p ps h) in
    record {
      string = c.byte ∷ r.string;
      bytes = bytes_more c.byte r.string c.low r.bytes;
      told = ap (λ (q : ℕ). encode_utf8 q ++ decoded r.string) c.is ∙ ap (λ (l : List ℕ). encode_utf8 p ++ l) r.told;
    }

-- ---- a fault, and a text up to its first
pub record Fault (t : List ℕ) (kind : ℕ) : Type 0 where
  pub some : 0 < length t
  pub here : ((kind ≡ 1) × IsNoUtf8 t) ⊎ ((kind ≡ 2) × HasNoByte t)

opens_of : {l : List ℕ} {p w : ℕ} → StartsWith l p w → Opens l
opens_of {l} {p} {w} s = record { char = p; after = drop w l; scalar = s.scalar; is = s.here }

starts_of : {l : List ℕ} (o : Opens l) → StartsWith l o.char (length (encode_utf8 o.char))
starts_of {l} o =
    let bs : List ℕ = encode_utf8 o.char in
    record { scalar = o.scalar; wide = refl; here = o.is ∙ ap (λ (x : List ℕ). bs ++ x) (sym (ap (drop (length bs)) o.is ∙ drop-append_seam bs o.after)) }

pub encoded_fault : (place : ℕ) (t : List ℕ) (kind : ℕ) → Fault t kind → encoded_from place t ≡ Err (BadText place kind)
encoded_fault place t kind f = encoded_none place t f.some none ∙ ap (λ (n : ℕ). Err (BadText place n)) right
  where
    none : (b : ℕ) → Begins t b → ⊥
    none b g =
        let s : StartsWith t (code_point b) (length (text_of b)) = record { scalar = is_scalar b g.byte; wide = refl; here = g.here } in
        ⊎_elim (λ u. u.1 (code_point b) (length (text_of b)) s) (λ u.
        let same = encode_same (code_point b) u.1.0 (drop (length (text_of b)) t) (drop u.1.1 t) (sym g.here ∙ u.1.2.here) in
        u.1.3 (subst IsWindows1252 same.0 (has_code_point b g.byte))) f.here

    right : fault_kind t ≡ kind
    right = ⊎_elim
        (λ u. ⊎_elim (λ e. ap (λ (n : ℕ). if n == 0 then 1 else 2) e ∙ sym u.0) (λ o. absurd (u.1 o.char (length (encode_utf8 o.char)) (starts_of o))) (opens t))
        (λ u. rw (ne_eqb (utf8_valid_len t) 0 (λ z. omega (arith, opened (opens_of u.1.2)))) (sym u.0)) f.here

-- bytes whose text is the front, and what follows it
pub record Split (t : List ℕ) : Type 0 where
  pub bytes : List ℕ
  pub are : AreBytes bytes
  pub rest : List ℕ
  pub is : t ≡ decoded bytes ++ rest
  pub end : (rest ≡ []) ⊎ ((kind : ℕ) × Fault rest kind)

no_byte : (p : ℕ) → byte_of p ≡ None → IsWindows1252 p → ⊥
no_byte p e h =
    let c = source p h in
    let found : Some c.byte ≡ None = sym (own c.byte c.low) ∙ ap byte_of c.is ∙ e in
    let z : ◌≡◌ {A = ℕ} 0 1 = cc in
    omega arith

split_by : (x : ℕ) (l : List ℕ) (o : Opens (x ∷ l)) → Split o.after → (f : Option ℕ) → byte_of o.char ≡ f → Split (x ∷ l)
unfolding decoded
split_by x l o r (Some b) e =
    let s = byte_sound e in
    record {
      bytes = b ∷ r.bytes;
      are = bytes_more b r.bytes s.1 r.are;
      rest = r.rest;
      is = o.is ∙ ap (λ (p : ℕ). encode_utf8 p ++ o.after) (sym s.0) ∙ ap (λ (x : List ℕ). text_of b ++ x) r.is ∙ sym (append_assoc (text_of b) (decoded r.bytes) r.rest);
      end = r.end;
    }
split_by x l o r None e = record {
  bytes = [];
  are = no_bytes;
  rest = x ∷ l;
  is = refl;
  end = inr (2, record { some = omega arith; here = inr (refl, (o.char, length (encode_utf8 o.char), starts_of o, no_byte o.char e)) });
}

split : (n : ℕ) (t : List ℕ) → length t ≤ n → Split t
unfolding decoded
split n [] long = record { bytes = []; are = no_bytes; rest = []; is = refl; end = inl refl }
split zero (x ∷ l) long = absurd (omega arith)
split (suc n) (x ∷ l) long =
    ⊎_elim
    (λ e. record { bytes = []; are = no_bytes; rest = x ∷ l; is = refl; end = inr (1, record { some = omega arith; here = inl (refl, λ p w s. omega (arith, e, opened (opens_of s))) }) })
    (λ o. split_by x l o (split n o.after (omega (arith, long, ap length o.is, length-append (encode_utf8 o.char) o.after, (utf8_long o.char).0))) (byte_of o.char) refl)
    (opens (x ∷ l))

-- what a text is written as, by its parts
pub record Parted (t : List ℕ) : Type 0 where
  pub split : Split t
  pub written : encoded_from 0 t ≡ prefixed split.bytes (encoded_from (length (decoded split.bytes)) split.rest)

pub parted : (t : List ℕ) → Parted t
parted t =
    let r = split (length t) t (omega arith) in
    let q : 0 + length (decoded r.bytes) ≡ length (decoded r.bytes) = omega arith in
    record { split = r; written = ap (encoded_from 0) r.is ∙ encoded_front r.bytes r.rest 0 r.are ∙ ap (λ (n : ℕ). prefixed r.bytes (encoded_from n r.rest)) q }

-- ---- both round trips
pair_of : (s : List ℕ) → AreBytes s → length s ≤ limit → Pair s (decoded s)
unfolding decoding encoding
pair_of s h l = record {
  bytes = h;
  text = within_of s h;
  told = in_limit s (Ok (decoded s)) l;
  written = λ m. in_limit (decoded s) (encoded_from 0 (decoded s)) m ∙ bytes_back s h;
}

pair_by : (s t : List ℕ) → AreBytes s → decoded s ≡ t → length t ≤ limit → Pair s t
pair_by s t h e l = subst (Pair s) e (pair_of s h (omega (arith, l, decoded_longer s, ap length e)))

pub bytes_come_back : BytesComeBack
unfolding decoding
bytes_come_back s h = (λ l. (decoded s, pair_of s h l), told)
  where
    told : (t : List ℕ) → decoding s ≡ Ok t → (length s ≤ limit) × Pair s t
    told t e =
        let r = within_by (ltb limit (length s)) s (Ok (decoded s)) t e in
        let l : length s ≤ limit = ltb-false limit (length s) r.0 in
        let q : decoded s ≡ t = cc in
        (l, subst (Pair s) q (pair_of s h l))

pub text_comes_back : TextComesBack
unfolding encoding
text_comes_back t = (whole, only)
  where
    whole : IsWithin t → length t ≤ limit → (s : List ℕ) × Pair s t
    whole w l =
        let r = source_of w.0 w.1 in
        (r.string, pair_by r.string t r.bytes (r.told ∙ sym w.2) l)

    only : (s : List ℕ) → encoding t ≡ Ok s → (length t ≤ limit) × Pair s t
    only s e =
        let r = within_by (ltb limit (length t)) t (encoded_from 0 t) s e in
        let p = parted t in
        let u = p.split in
        let l : length t ≤ limit = ltb-false limit (length t) r.0 in
        let written = sym p.written ∙ r.1 in
        ⊎_elim
        (λ none.
        let v : Ok (u.bytes ++ []) ≡ Ok s = ap (prefixed u.bytes) (sym (ap (encoded_from (length (decoded u.bytes))) none ∙ encoded_nothing (length (decoded u.bytes)))) ∙ written in
        let w : u.bytes ++ [] ≡ s = cc in
        (l, subst (λ (x : List ℕ). Pair x t) (sym (append-nil u.bytes) ∙ w) (pair_by u.bytes t u.are (sym (u.is ∙ ap (λ (x : List ℕ). decoded u.bytes ++ x) none ∙ append-nil (decoded u.bytes))) l)))
        (λ f.
        let v : Err (BadText (length (decoded u.bytes)) f.0) ≡ Ok s = ap (prefixed u.bytes) (sym (encoded_fault (length (decoded u.bytes)) u.rest f.0 f.1)) ∙ written in
        let z : ◌≡◌ {A = ℕ} 0 1 = cc in
        absurd (omega arith))
        u.end

-- ---- the table, and the bytes outside it
byte_more : (b p : ℕ) (s t : List ℕ) → code_point b ≡ p → length (b ∷ s) ≤ limit → decoding s ≡ Ok t → decoding (b ∷ s) ≡ Ok (encode_utf8 p ++ t)
unfolding decoding decoded
byte_more b p s t h l e =
    let r = within_by (ltb limit (length s)) s (Ok (decoded s)) t e in
    let q : decoded s ≡ t = cc in
    in_limit (b ∷ s) (Ok (decoded (b ∷ s))) l ∙ ap (λ (c : ℕ). Ok (encode_utf8 c ++ decoded s)) h ∙ ap (λ (x : List ℕ). Ok (encode_utf8 p ++ x)) q

inside : (b : ℕ) (s t : List ℕ) → 0x80 ≤ b → b < 0xA0 → length (b ∷ s) ≤ limit → decoding s ≡ Ok t → decoding (b ∷ s) ≡ Ok (encode_utf8 (get_or points (b - 0x80) 0) ++ t)
inside b s t h k l e = byte_more b (get_or points (b - 128) 0) s t (point_mid {b = b} h k) l e

others : (b : ℕ) (s t : List ℕ) → (b < 0x80) ⊎ (0xA0 ≤ b) → length (b ∷ s) ≤ limit → decoding s ≡ Ok t → decoding (b ∷ s) ≡ Ok (encode_utf8 b ++ t)
others b s t h l e = byte_more b b s t (⊎_elim (λ k. point_low k) (λ k. point_high k) h) l e

pub table_meant : TableMeant
unfolding points decoded decoding
table_meant = record { none = refl; inside = inside; others = others }
