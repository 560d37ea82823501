-- Laws of `encode_utf8`, `code_point` and `decoded`, and of a writer's answers. Assumes nothing.
use Rattle.std.proofs.Common.{Err, Ok, Result, ◌≡◌, refl, sym, ap, ◌∙◌, subst, ⊎_elim, List, [], ◌∷◌, ◌++◌, append_assoc, append-nil, ℕ, suc, ◌+◌, ◌-◌, ◌≤◌, ◌<◌, zero-add, arith, length, take, drop, get_or, length-append, take-append-drop, lt-ltb, le-ltb}
use Rattle.le.specs.Put.{Wrote}
use Rattle.le.proofs.Laws.{take_more, whole_length, whole_is}
use Rattle.refusal.specs.Refusal.{limit}
use Rattle.writing.specs.Writing.{Writes}
use Rattle.refusal.specs.declared.Refusal.{Refusal}
use Rattle.refusal.specs.declared.Refusal.TheVariants.{TooLarge, OutputTooSmall}
use Rattle.std.specs.Char.{encode_utf8}
use Rattle.text.proofs.Utf8.{le_or_lt, utf8_1}
use Rattle.text.specs.Text.{points, code_point, decoded, limited}

pub point_low : {b : ℕ} → b < 128 → code_point b ≡ b
unfolding code_point
point_low {b} h = rw (lt-ltb b 128 h)

pub point_mid : {b : ℕ} → 128 ≤ b → b < 160 → code_point b ≡ get_or points (b - 128) 0
unfolding code_point
point_mid {b} h k = rw (le-ltb b 128 h, lt-ltb b 160 k)

pub point_high : {b : ℕ} → 160 ≤ b → code_point b ≡ b
unfolding code_point
point_high {b} h = rw (le-ltb b 128 (omega arith), le-ltb b 160 h)

pub byte_low : {b : ℕ} → b < 128 → encode_utf8 (code_point b) ≡ b ∷ []
byte_low {b} h = ap encode_utf8 (point_low h) ∙ utf8_1 h

-- ---- the text of a byte string, byte after byte
decoded_append : (s t : List ℕ) → decoded (s ++ t) ≡ decoded s ++ decoded t
unfolding decoded
decoded_append [] t = refl
decoded_append (b ∷ s) t = ap (λ (l : List ℕ). encode_utf8 (code_point b) ++ l) (decoded_append s t) ∙ sym (append_assoc (encode_utf8 (code_point b)) (decoded s) (decoded t))

pub decoded_more : (s : List ℕ) (i : ℕ) → i < length s → decoded (take i s) ++ encode_utf8 (code_point (get_or s i 0)) ≡ decoded (take (i + 1) s)
unfolding decoded
decoded_more s i h =
    ap (λ (l : List ℕ). decoded (take i s) ++ l) (sym (append-nil (encode_utf8 (code_point (get_or s i 0)))))
    ∙ sym (decoded_append (take i s) (get_or s i 0 ∷ []))
    ∙ ap decoded (take_more s i h)

pub length_more : (s : List ℕ) (i : ℕ) → i < length s → length (decoded (take i s)) + length (encode_utf8 (code_point (get_or s i 0))) ≡ length (decoded (take (i + 1) s))
length_more s i h = omega (arith, ap length (decoded_more s i h), length-append (decoded (take i s)) (encode_utf8 (code_point (get_or s i 0))))

pub decoded_room : (s : List ℕ) (i : ℕ) → i < length s → length (decoded (take i s)) + length (encode_utf8 (code_point (get_or s i 0))) ≤ length (decoded s)
decoded_room s i h =
    let e : decoded s ≡ decoded (take (i + 1) s) ++ decoded (drop (i + 1) s) = ap decoded (sym (take-append-drop (i + 1) s)) ∙ decoded_append (take (i + 1) s) (drop (i + 1) s) in
    omega (arith, ap length e, length-append (decoded (take (i + 1) s)) (decoded (drop (i + 1) s)), length_more s i h)

-- bytes below 80 stay as they are
pub decoded_same : (s : List ℕ) → ((k : ℕ) → get_or s k 0 < 128) → decoded s ≡ s
unfolding decoded
decoded_same [] h = refl
decoded_same (b ∷ s) h = simp (point_low (h 0), utf8_1 (h 0), decoded_same s (λ k. h (suc k)))

-- ---- what a writer promises, by the way it comes to its answer
pub same_writing : {w v : Result (List ℕ) Refusal} {old new : List ℕ} {r : Result ℕ Refusal} → w ≡ v → Writes v old new r → Writes w old new r
same_writing {w} {v} {old} {new} {r} e p = subst (λ (x : Result (List ℕ) Refusal). Writes x old new r) (sym e) p

pub too_large : (s : List ℕ) (w : Result (List ℕ) Refusal) → limit < length s → limited s w ≡ Err (TooLarge (length s))
too_large s w h = rw (lt-ltb limit (length s) h)

pub in_limit : (s : List ℕ) (w : Result (List ℕ) Refusal) → length s ≤ limit → limited s w ≡ w
in_limit s w h = rw (le-ltb limit (length s) h)

pub writes_none : {old : List ℕ} {why : Refusal} → Writes (Err why) old old (Err why)
writes_none = record { said = refl; left = refl }

module _ {bs old : List ℕ} {needed : ℕ} (e : needed ≡ length bs) where
  pub writes_small : length old < needed → Writes (Ok bs) old old (Err (OutputTooSmall needed (length old)))
  writes_small h =
      let t = lt-ltb (length old) (length bs) (omega arith) in
      record { said = rw (t, e); left = rw t }

pub writes_done : {bs old new : List ℕ} {n : ℕ} → Wrote old 0 bs new n → Writes (Ok bs) old new (Ok n)
writes_done {bs} {old} {new} {n} w =
    let e = whole_length w in
    let t = le-ltb (length old) (length bs) (omega arith) in
    record { said = rw (t, e); left = rw t (whole_is w) }

-- ---- what holds of the first 16 and of the last 16 holds of all, up to 32
pub both_ends : (P : ℕ → Type 0) (from n : ℕ) → from + 16 ≡ n → n ≤ 32 → ((k : ℕ) → k < 16 → P (0 + k)) → ((k : ℕ) → k < 16 → P (from + k)) → (k : ℕ) → k < n → P k
both_ends P from n e h f g k l = ⊎_elim high (λ m. subst P (zero-add k) (f k m)) (le_or_lt 16 k)
  where
    high : 16 ≤ k → P k
    high m =
        let q : from + (k - from) ≡ k = omega arith in
        subst P q (g (k - from) (omega arith))
