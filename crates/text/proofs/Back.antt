-- A text from a place on, character after character, and the loops that go over it. Assumes nothing.
use Rattle.std.proofs.Common.{◌≡◌, refl, sym, ap, ◌∙◌, subst, ◌⊎◌, inl, inr, ⊎_elim, Option, Some, None, Result, Ok, Err, unwrap_or, List, [], ◌∷◌, ◌++◌, append_assoc, append-nil, ℕ, suc, ◌+◌, ◌-◌, ◌*◌, ◌/◌, ◌%◌, ◌≤◌, ◌<◌, ◌==◌, ltb, add-zero, add-one, arith, length, take, drop, get_or, set, chars, length-append, length-drop, get_or-drop, drop-drop, drop_of_length-le, take-suc-set, lt-ltb, le-ltb, ne_eqb, if◌then◌else◌}
use Rattle.std.specs.Char.{IsScalar, encode_utf8}
use Rattle.std.specs.Str.Lossy.{utf8_valid_len}
use Rattle.std.proofs.lemmas.Str.{encode_same, chars-nil}
use lib.Seq.{drop-append_seam}
use lib.Utf8.{low_scalar}
use Rattle.le.specs.Put.{Wrote}
use Rattle.le.proofs.Laws.{put_one, wrote, wrote_none, after, same_bytes}
use Rattle.writing.specs.Writing.{Writes}
use Rattle.refusal.specs.declared.Refusal.{Refusal}
use Rattle.refusal.specs.declared.Refusal.TheVariants.{BadText}
use Rattle.text.proofs.Utf8.{le_or_lt, utf8_1, utf8_2, utf8_3, utf8_long, at_front, drop_past, valid_more, chars_more, opens, opened, Opens, four_show}
use Rattle.text.proofs.Laws.{point_low, byte_low, same_writing, writes_none, writes_done}
use Rattle.text.proofs.Byte.{own, narrow_point, below_surrogates, byte_sound}
use Rattle.text.specs.Text.{code_point, text_of, byte_of, before, and_on, bytes_of, ended, encoded_from, counted, Begins, Leads, fault_kind}

-- ---- a text from a place on: a character, the end, and bytes of none
from_char : (place c : ℕ) (r : List ℕ) → IsScalar c → encoded_from place (encode_utf8 c ++ r) ≡ and_on (byte_of c) place (encoded_from (place + length (encode_utf8 c)) r)
unfolding encoded_from bytes_of
from_char place c r v =
    let bs : List ℕ = encode_utf8 c in
    let n : ℕ = utf8_valid_len r in
    let q : place + (length bs + n) ≡ place + length bs + n = omega arith in
    ap (λ (m : ℕ). bytes_of place (chars (take m (bs ++ r))) (ended (place + m) (drop m (bs ++ r)))) (valid_more c r v)
    ∙ ap (λ (cs : List ℕ). bytes_of place cs (ended (place + (length bs + n)) (drop (length bs + n) (bs ++ r)))) (chars_more c r v)
    ∙ ap (λ (l : List ℕ). and_on (byte_of c) place (bytes_of (place + length bs) (chars (take n r)) (ended (place + (length bs + n)) l))) (drop_past bs r n)
    ∙ ap (λ (m : ℕ). and_on (byte_of c) place (bytes_of (place + length bs) (chars (take n r)) (ended m (drop n r)))) q

pub is_scalar : (b : ℕ) → b < 256 → IsScalar (code_point b)
is_scalar b h = low_scalar (code_point b) (below_surrogates (narrow_point b h))

pub encoded_byte : (place b : ℕ) (r : List ℕ) → b < 256 → encoded_from place (text_of b ++ r) ≡ before b (encoded_from (place + length (text_of b)) r)
encoded_byte place b r h = from_char place (code_point b) r (is_scalar b h) ∙ ap (λ (o : Option ℕ). and_on o place (encoded_from (place + length (text_of b)) r)) (own b h)

pub encoded_nothing : (place : ℕ) → encoded_from place [] ≡ Ok []
unfolding encoded_from bytes_of utf8_valid_len
encoded_nothing place = ap (λ (cs : List ℕ). bytes_of place cs (Ok [])) chars-nil

encoded_bad : (place x : ℕ) (l : List ℕ) → utf8_valid_len (x ∷ l) ≡ 0 → encoded_from place (x ∷ l) ≡ Err (BadText place 1)
unfolding encoded_from bytes_of
encoded_bad place x l e =
    ap (λ (m : ℕ). bytes_of place (chars (take m (x ∷ l))) (ended (place + m) (drop m (x ∷ l)))) e
    ∙ ap (λ (cs : List ℕ). bytes_of place cs (Err (BadText (place + 0) 1))) chars-nil
    ∙ ap (λ (m : ℕ). Err (BadText m 1)) (add-zero place)

-- ---- the byte that leads a text
begins : {l : List ℕ} (p : ℕ) {b : ℕ} (r : List ℕ) → byte_of p ≡ Some b → l ≡ encode_utf8 p ++ r → Begins l b
begins {l} p {b} r e is =
    let s = byte_sound e in
    let t : drop (length (encode_utf8 p)) l ≡ r = ap (drop (length (encode_utf8 p))) is ∙ drop-append_seam (encode_utf8 p) r in
    record { byte = s.1; here = subst (λ (x : ℕ). l ≡ encode_utf8 x ++ drop (length (encode_utf8 x)) l) (sym s.0) (is ∙ ap (λ (x : List ℕ). encode_utf8 p ++ x) (sym t)) }

-- a code point that no byte has begins no text of a byte
none_begins : {l : List ℕ} (p : ℕ) (r : List ℕ) → byte_of p ≡ None → l ≡ encode_utf8 p ++ r → (b : ℕ) → Begins l b → ⊥
none_begins {l} p r e is b g =
    let same = encode_same (code_point b) p (drop (length (text_of b)) l) r (sym g.here ∙ is) in
    let f : Some b ≡ None = sym (own b g.byte) ∙ ap byte_of same.0 ∙ e in
    let z : ◌≡◌ {A = ℕ} 0 1 = cc in
    omega arith

pub leads_none : {l : List ℕ} → ((b : ℕ) → Begins l b → ⊥) → Leads l 0
leads_none none = record { some = λ h. absurd (h refl); none = λ e. none }

pub leads_point : {l : List ℕ} (p : ℕ) (r : List ℕ) → 128 ≤ p → l ≡ encode_utf8 p ++ r → Leads l (unwrap_or (byte_of p) 0)
leads_point {l} p r h is = by (byte_of p) refl
  where
    by : (f : Option ℕ) → byte_of p ≡ f → Leads l (unwrap_or f 0)
    by (Some b) e =
        let s = byte_sound e in
        record { some = λ n. begins p r e is; none = λ z. absurd (omega (arith, s.0, point_low {b = b} (omega arith))) }
    by None e = leads_none (none_begins p r e is)

pub encoded_none : (place : ℕ) (l : List ℕ) → 0 < length l → ((b : ℕ) → Begins l b → ⊥) → encoded_from place l ≡ Err (BadText place (fault_kind l))
encoded_none place [] some none = absurd (omega arith)
encoded_none place (x ∷ l) some none = ⊎_elim bad has (opens (x ∷ l))
  where
    bad : utf8_valid_len (x ∷ l) ≡ 0 → encoded_from place (x ∷ l) ≡ Err (BadText place (fault_kind (x ∷ l)))
    bad e = encoded_bad place x l e ∙ ap (λ (n : ℕ). Err (BadText place (if n == 0 then 1 else 2))) (sym e)

    has : Opens (x ∷ l) → encoded_from place (x ∷ l) ≡ Err (BadText place (fault_kind (x ∷ l)))
    has o = by (byte_of o.char) refl
      where
        by : (f : Option ℕ) → byte_of o.char ≡ f → encoded_from place (x ∷ l) ≡ Err (BadText place (fault_kind (x ∷ l)))
        by (Some b) e = absurd (none b (begins o.char o.after e o.is))
        by None e =
            let k : fault_kind (x ∷ l) ≡ 2 = rw (ne_eqb (utf8_valid_len (x ∷ l)) 0 (λ z. omega (arith, opened o))) refl in
            ap (encoded_from place) o.is ∙ from_char place o.char o.after o.scalar ∙ ap (λ (f : Option ℕ). and_on f place (encoded_from (place + length (encode_utf8 o.char)) o.after)) e ∙ ap (λ (n : ℕ). Err (BadText place n)) (sym k)

-- why none leads, by four bytes
pub fault_one : (l : List ℕ) → utf8_valid_len (take 4 l) ≡ 0 → 1 ≡ fault_kind l
fault_one l e = ap (λ (n : ℕ). if n == 0 then 1 else 2) (sym ((four_show l).0 e))

pub fault_two : (l : List ℕ) → 0 < utf8_valid_len (take 4 l) → 2 ≡ fault_kind l
fault_two l h = rw (ne_eqb (utf8_valid_len l) 0 (λ z. omega (arith, (four_show l).1 z))) refl

-- ---- what a character of Windows-1252 above 7F looks like: two bytes, or three from E2 on
record Shape (l : List ℕ) (b : ℕ) : Type 0 where
  long : length (text_of b) ≤ length l
  second : get_or l 1 0 / 64 ≡ 2
  is : ((0xC2 ≤ get_or l 0 0) × (get_or l 0 0 < 0xE0) × (length (text_of b) ≡ 2)) ⊎ ((get_or l 0 0 ≡ 0xE2) × (get_or l 2 0 / 64 ≡ 2) × (length (text_of b) ≡ 3))

shape : {l : List ℕ} {b : ℕ} → Begins l b → 128 ≤ get_or l 0 0 → Shape l b
shape {l} {b} g high = ⊎_elim above low (le_or_lt 128 p)
  where
    p : ℕ
    p = code_point b

    r : List ℕ
    r = drop (length (text_of b)) l

    low : p < 128 → Shape l b
    low h = let e : l ≡ p ∷ r = g.here ∙ ap (λ (x : List ℕ). x ++ r) (utf8_1 h) in absurd (omega (arith, ap (λ (x : List ℕ). get_or x 0 0) e))

    two : 128 ≤ p → p < 2048 → Shape l b
    two h k =
        let t = utf8_2 {p = p} h k in
        let e : l ≡ (192 + p / 64) ∷ (128 + p % 64) ∷ r = g.here ∙ ap (λ (x : List ℕ). x ++ r) t in
        let z = ap (λ (x : List ℕ). get_or x 0 0) e in
        let o = ap (λ (x : List ℕ). get_or x 1 0) e in
        record { long = omega (arith, ap length e, ap length t); second = omega (arith, o); is = inl (omega (arith, z), omega (arith, z), ap length t) }

    three : 0x2000 ≤ p → p < 0x3000 → Shape l b
    three h k =
        let t = utf8_3 {p = p} (omega arith) (omega arith) in
        let e : l ≡ (224 + p / 4096) ∷ (128 + p / 64 % 64) ∷ (128 + p % 64) ∷ r = g.here ∙ ap (λ (x : List ℕ). x ++ r) t in
        let z = ap (λ (x : List ℕ). get_or x 0 0) e in
        let o = ap (λ (x : List ℕ). get_or x 1 0) e in
        let w = ap (λ (x : List ℕ). get_or x 2 0) e in
        record { long = omega (arith, ap length e, ap length t); second = omega (arith, o); is = inr (omega (arith, z), omega (arith, w), ap length t) }

    above : 128 ≤ p → Shape l b
    above h = ⊎_elim (λ k. two h k) (λ k. three k.0 k.1) (narrow_point b g.byte)

module _ (s : List ℕ) (at : ℕ) (h : at < length s) (high : 128 ≤ get_or s at 0) where
  there : (k : ℕ) → get_or (drop at s) k 0 ≡ get_or s (at + k) 0
  there k = get_or-drop at s k 0

  shaped : {b : ℕ} → Begins (drop at s) b → Shape (drop at s) b
  shaped g = shape g (omega (arith, there 0, ap (λ (k : ℕ). get_or s k 0) (add-zero at)))

  -- how wide it is, by its first byte
  pub width_at : {b : ℕ} → Begins (drop at s) b → length (text_of b) ≡ (if ltb (get_or s at 0) 0xE0 then 2 else 3)
  width_at {b} g =
      let z = ap (λ (k : ℕ). get_or s k 0) (add-zero at) in
      ⊎_elim (λ t. rw (lt-ltb (get_or s at 0) 0xE0 (omega (arith, t.1, there 0, z))) t.2) (λ t. rw (le-ltb (get_or s at 0) 0xE0 (omega (arith, t.0, there 0, z))) t.2) (shaped g).is

  pub looks_short : length s - at < 2 → Leads (drop at s) 0
  looks_short k = leads_none (λ b g. let t = shaped g in ⊎_elim (λ u. omega (arith, t.long, u.2, length-drop at s)) (λ u. omega (arith, t.long, u.2, length-drop at s)) t.is)

  pub looks_alone : ¬ (get_or s (at + 1) 0 / 64 ≡ 2) → Leads (drop at s) 0
  looks_alone k = leads_none (λ b g. let t = shaped g in k (omega (arith, t.second, there 1)))

  pub looks_low : get_or s at 0 < 0xC2 → Leads (drop at s) 0
  looks_low k = leads_none (λ b g. let t = shaped g in ⊎_elim (λ u. omega (arith, u.0, there 0, ap (λ (k : ℕ). get_or s k 0) (add-zero at))) (λ u. omega (arith, u.0, there 0, ap (λ (k : ℕ). get_or s k 0) (add-zero at))) t.is)

  module _ (wide : 0xE0 ≤ get_or s at 0) where
    three_of : {b : ℕ} → Begins (drop at s) b → (get_or s at 0 ≡ 0xE2) × (get_or s (at + 2) 0 / 64 ≡ 2) × (3 ≤ length s - at)
    three_of g =
        let t = shaped g in
        let z = ap (λ (k : ℕ). get_or s k 0) (add-zero at) in
        ⊎_elim (λ u. absurd (omega (arith, u.1, there 0, z))) (λ u. (omega (arith, u.0, there 0, z), omega (arith, u.1, there 2), omega (arith, t.long, u.2, length-drop at s))) t.is

    pub looks_other : ¬ (get_or s at 0 ≡ 0xE2) → Leads (drop at s) 0
    looks_other k = leads_none (λ b g. k (three_of g).0)

    pub looks_cut : length s - at < 3 → Leads (drop at s) 0
    looks_cut k = leads_none (λ b g. let t = three_of g in omega (arith, t.2))

    pub looks_broken : ¬ (get_or s (at + 2) 0 / 64 ≡ 2) → Leads (drop at s) 0
    looks_broken k = leads_none (λ b g. k (three_of g).1)

  pub looks_two : 2 ≤ length s - at → get_or s (at + 1) 0 / 64 ≡ 2 → 0xC2 ≤ get_or s at 0 → get_or s at 0 < 0xE0 → Leads (drop at s) (unwrap_or (byte_of (get_or s at 0 % 32 * 64 + get_or s (at + 1) 0 % 64)) 0)
  looks_two k second low up =
      let b : ℕ = get_or s at 0 in
      let c : ℕ = get_or s (at + 1) 0 in
      let p : ℕ = b % 32 * 64 + c % 64 in
      let x : 192 + p / 64 ≡ b = omega arith in
      let y : 128 + p % 64 ≡ c = omega arith in
      let t : encode_utf8 p ≡ b ∷ c ∷ [] = rw (utf8_2 {p = p} (omega arith) (omega arith), x, y) in
      leads_point p (drop (at + 1 + 1) s) (omega arith) (at_front s at h ∙ ap (λ (l : List ℕ). b ∷ l) (at_front s (at + 1) (omega arith)) ∙ ap (λ (l : List ℕ). l ++ drop (at + 1 + 1) s) (sym t))

  pub looks_three : 3 ≤ length s - at → get_or s (at + 1) 0 / 64 ≡ 2 → get_or s at 0 ≡ 0xE2 → get_or s (at + 2) 0 / 64 ≡ 2 → Leads (drop at s) (unwrap_or (byte_of (0x2000 + get_or s (at + 1) 0 % 64 * 64 + get_or s (at + 2) 0 % 64)) 0)
  looks_three k second first third =
      let c : ℕ = get_or s (at + 1) 0 in
      let d : ℕ = get_or s (at + 2) 0 in
      let p : ℕ = 0x2000 + c % 64 * 64 + d % 64 in
      let q : at + 1 + 1 ≡ at + 2 = omega arith in
      let x : 224 + p / 4096 ≡ 0xE2 = omega arith in
      let y : 128 + p / 64 % 64 ≡ c = omega arith in
      let z : 128 + p % 64 ≡ d = omega arith in
      let t : encode_utf8 p ≡ 0xE2 ∷ c ∷ d ∷ [] = rw (utf8_3 {p = p} (omega arith) (omega arith), x, y, z) in
      leads_point p (drop (at + 2 + 1) s) (omega arith) (
      at_front s at h ∙ ap (λ (n : ℕ). n ∷ drop (at + 1) s) first
      ∙ ap (λ (l : List ℕ). 0xE2 ∷ l) (at_front s (at + 1) (omega arith) ∙ ap (λ (n : ℕ). c ∷ drop n s) q)
      ∙ ap (λ (l : List ℕ). 0xE2 ∷ c ∷ l) (at_front s (at + 2) (omega arith))
      ∙ ap (λ (l : List ℕ). l ++ drop (at + 2 + 1) s) (sym t)
      )
  -- a byte below 80 leads, too

pub leads_low : (s : List ℕ) (at : ℕ) → at < length s → get_or s at 0 < 128 → Begins (drop at s) (get_or s at 0)
leads_low s at h k =
    let b : ℕ = get_or s at 0 in
    let e = byte_low {b = b} k in
    let w : at + 1 ≡ at + length (text_of b) = omega (arith, ap length e) in
    record { byte = omega arith; here = at_front s at h ∙ ap (λ (n : ℕ). b ∷ drop n s) w ∙ ap (λ (l : List ℕ). b ∷ l) (sym (drop-drop (length (text_of b)) at s)) ∙ ap (λ (l : List ℕ). l ++ drop (length (text_of b)) (drop at s)) (sym e) }

pub width_low : {b : ℕ} → b < 128 → 1 ≡ length (text_of b)
width_low h = sym (ap length (byte_low h))

-- ---- past the byte that leads a text, at a place of it
module _ (s : List ℕ) (at : ℕ) {b : ℕ} (g : Begins (drop at s) b) where
  pub encoded_past : encoded_from at (drop at s) ≡ before b (encoded_from (at + length (text_of b)) (drop (at + length (text_of b)) s))
  encoded_past =
      let w : ℕ = length (text_of b) in
      ap (encoded_from at) g.here ∙ encoded_byte at b (drop w (drop at s)) g.byte ∙ ap (λ (l : List ℕ). before b (encoded_from (at + w) l)) (drop-drop w at s)

  pub inside_past : at ≤ length s → (1 ≤ length (text_of b)) × (at + length (text_of b) ≤ length s)
  inside_past h = ((utf8_long (code_point b)).0, omega (arith, ap length g.here, length-append (text_of b) (drop (length (text_of b)) (drop at s)), length-drop at s))

pub encoded_end : (s : List ℕ) (at : ℕ) → length s ≤ at → encoded_from at (drop at s) ≡ Ok []
encoded_end s at h = ap (encoded_from at) (drop_of_length-le s h) ∙ encoded_nothing at

-- ---- counting: a turn of the loop
counted_before : (n b : ℕ) (w : Result (List ℕ) Refusal) → counted n (before b w) ≡ counted (n + 1) w
counted_before n b (Ok bs) = ap Ok (omega arith)
counted_before n b (Err why) = refl

-- n bytes before a place, and the count of what is left
pub record Counting (s : List ℕ) (n at : ℕ) : Type 0 where
  pub inside : at ≤ length s
  pub few : n ≤ at
  pub left : counted n (encoded_from at (drop at s)) ≡ counted 0 (encoded_from 0 s)

pub record Counted (s : List ℕ) (n at w : ℕ) : Type 0 where
  pub some : 1 ≤ w
  pub inside : at + w ≤ length s
  pub more : Counting s (n + 1) (at + w)

counting_past : {s : List ℕ} {n at b : ℕ} → Counting s n at → Begins (drop at s) b → Counted s n at (length (text_of b))
counting_past {s} {n} {at} {b} c g =
    let v = inside_past s at g c.inside in
    let w : ℕ = length (text_of b) in
    record { some = v.0; inside = v.1; more = record { inside = v.1; few = omega (arith, c.few, v.0); left = sym (ap (counted n) (encoded_past s at g) ∙ counted_before n b (encoded_from (at + w) (drop (at + w) s))) ∙ c.left } }

pub counting_turn : {s : List ℕ} {n at b : ℕ} (w : ℕ) → Counting s n at → Begins (drop at s) b → w ≡ length (text_of b) → Counted s n at w
counting_turn {s} {n} {at} w c g e = subst (Counted s n at) (sym e) (counting_past c g)

-- ---- writing: what is written, and what is left to write
abbrev pub prefixed : List ℕ → Result (List ℕ) Refusal → Result (List ℕ) Refusal
prefixed cs (Ok bs) = Ok (cs ++ bs)
prefixed cs (Err why) = Err why

pub prefixed_before : (cs : List ℕ) (b : ℕ) (w : Result (List ℕ) Refusal) → prefixed cs (before b w) ≡ prefixed (cs ++ (b ∷ [])) w
prefixed_before cs b (Ok bs) = ap Ok (sym (append_assoc cs (b ∷ []) bs))
prefixed_before cs b (Err why) = refl

room_left : (cs : List ℕ) (b : ℕ) (w : Result (List ℕ) Refusal) (needed : ℕ) → counted 0 (prefixed cs (before b w)) ≡ Ok needed → length cs + 1 ≤ needed
room_left cs b (Ok bs) needed e = let n : 0 + length (cs ++ (b ∷ bs)) ≡ needed = cc in omega (arith, length-append cs (b ∷ bs))
room_left cs b (Err why) needed e = let z : ◌≡◌ {A = ℕ} 0 1 = cc in absurd (omega arith)

-- the first n bytes of the buffer are those of the text before a place
pub record Going (s old out : List ℕ) (n at : ℕ) : Type 0 where
  pub inside : at ≤ length s
  pub wrote : Wrote old 0 (take n out) out n
  pub left : prefixed (take n out) (encoded_from at (drop at s)) ≡ encoded_from 0 s

-- a turn of the loop: a character that is there, whose byte has room
pub record Turn (s old out : List ℕ) (needed n at b w : ℕ) : Type 0 where
  pub room : n + 1 ≤ needed
  pub some : 1 ≤ w
  pub inside : at + w ≤ length s
  pub byte : b < 256
  pub more : Going s old (set out n b) (n + 1) (at + w)

pub going_none : {s old : List ℕ} → Going s old old 0 0
going_none {s} = record { inside = omega arith; wrote = wrote_none (omega arith); left = nothing (encoded_from 0 s) }
  where
    nothing : (w : Result (List ℕ) Refusal) → prefixed [] w ≡ w
    nothing (Ok bs) = refl
    nothing (Err why) = refl

module _ {s old out : List ℕ} {n at : ℕ} (g : Going s old out n at) where
  pub going_end : length s ≤ at → Writes (encoded_from 0 s) old out (Ok n)
  going_end h =
      let e : encoded_from 0 s ≡ Ok (take n out) = sym g.left ∙ ap (prefixed (take n out)) (encoded_end s at h) ∙ ap Ok (append-nil (take n out)) in
      same_writing e (writes_done g.wrote)

  module _ {needed : ℕ} (fit : counted 0 (encoded_from 0 s) ≡ Ok needed) where
    -- a text that was counted has no fault
    pub going_leads : {b : ℕ} → at < length s → Leads (drop at s) b → Begins (drop at s) b
    going_leads {b} h leads = leads.some (λ z.
        let e = encoded_none at (drop at s) (omega (arith, length-drop at s)) (leads.none z) in
        let f : Err (BadText at (fault_kind (drop at s))) ≡ Ok needed = ap (counted 0) (ap (prefixed (take n out)) (sym e) ∙ g.left) ∙ fit in
        let y : ◌≡◌ {A = ℕ} 0 1 = cc in
        omega arith)

    module _ {b : ℕ} (w : ℕ) (led : Begins (drop at s) b) (e : w ≡ length (text_of b)) where
      rest : Result (List ℕ) Refusal
      rest = encoded_from (at + w) (drop (at + w) s)

      this : prefixed (take n out) (before b rest) ≡ encoded_from 0 s
      unfolding rest
      this = ap (λ (m : ℕ). prefixed (take n out) (before b (encoded_from (at + m) (drop (at + m) s)))) e ∙ ap (prefixed (take n out)) (sym (encoded_past s at led)) ∙ g.left

      pub going_turn : needed ≤ length old → Turn s old out needed n at b w
      unfolding rest
      going_turn r =
          let k : n + 1 ≤ needed = omega (arith, room_left (take n out) b rest needed (ap (counted 0) this ∙ fit)) in
          let i : n + 1 ≤ length out = omega arith in
          let v = inside_past s at led g.inside in
          let t : take n out ++ (b ∷ []) ≡ take (n + 1) (set out n b) = sym (ap (λ (m : ℕ). take m (set out n b)) (add-one n) ∙ take-suc-set out n b (omega arith)) in
          record {
            room = k;
            some = omega (arith, e, v.0);
            inside = omega (arith, e, v.1);
            byte = led.byte;
            more = record {
              inside = omega (arith, e, v.1);
              wrote = same_bytes t (after g.wrote (wrote (put_one out n b i) refl i));
              left = ap (λ (x : List ℕ). prefixed x rest) (sym t) ∙ sym (prefixed_before (take n out) b rest) ∙ this;
            };
          }

-- ---- what the count says of the answer
pub counted_refused : {old : List ℕ} {why : Refusal} (w : Result (List ℕ) Refusal) → counted 0 w ≡ Err why → Writes w old old (Err why)
counted_refused (Ok bs) e = let z : ◌≡◌ {A = ℕ} 0 1 = cc in absurd (omega arith)
counted_refused {old} {why} (Err other) e = let q : other ≡ why = cc in same_writing (ap Err q) writes_none

-- bytes below 80 stay as they are
pub encoded_same : (s : List ℕ) (place : ℕ) → ((k : ℕ) → get_or s k 0 < 128) → encoded_from place s ≡ Ok s
encoded_same [] place h = encoded_nothing place
encoded_same (x ∷ l) place h =
    let t = byte_low {b = x} (h 0) in
    ap (λ (bs : List ℕ). encoded_from place (bs ++ l)) (sym t) ∙ encoded_byte place x l (omega (arith, h 0)) ∙ ap (before x) (encoded_same l (place + length (text_of x)) (λ k. h (suc k)))
