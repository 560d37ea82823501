-- Strings in words read back.
use Rattle.std.proofs.Common.{◌≡◌, ℕ, ◌+◌, ◌-◌, ◌/◌, ◌%◌, ◌<◌, ◌≤◌, ◌⊎◌, ⊎_elim, inl, inr, Bool, true, false, T, eqb, eqb→eq, append-nil, length-append, zero-add, List, [], ◌∷◌, ◌++◌, codes, length, get_or, refl, sym, ap, subst, ◌∙◌, arith, encode_utf8_all, encode_utf8, if◌then◌else◌}
use Rattle.std.specs.Prelude.{map, min, ◌^◌, ◌==◌}
use Rattle.std.specs.List.{flat_map}
use Rattle.std.specs.Char.{is_control}
use Rattle.std.proofs.lemmas.List.Concat.{flat_map-cons}
use Rattle.std.proofs.lemmas.Str.{encodes-append, encode_ascii}
use Rattle.text.specs.Text.{points, code_point}
use Rattle.text.proofs.Table.{at, below_at}
use Rattle.text.proofs.Laws.{point_low, point_mid, point_high}
use Rattle.text.proofs.Byte.{points_ruled}
use Rattle.text.proofs.Utf8.{le_or_lt}
use Rattle.wording.specs.Wording.{capital}
use Rattle.wording.specs.Text.{pair, exact_char, shown_char, json_char, quoted, shown, shown_width, widths_on, width_of}
use Rattle.wording.specs.Meant.{IsControl, digit, IsEscaped, StringsQuoted, IsVisible, StringsShown}
use Rattle.wording.specs.Meant as meant

is : (c : ℕ) → is_control c ≡ true → IsControl c
is c e = grind arith

is_not : (c : ℕ) → is_control c ≡ false → IsControl c → ⊥
is_not c e h = grind arith

same_digit : ℕ → Bool
same_digit d = eqb (capital d) (digit d)

capital_is : (d : ℕ) → d < 16 → capital d ≡ digit d
unfolding same_digit
capital_is d h = eqb→eq (capital d) (digit d) (below_at same_digit 16 tt d h)

capital_low : (d : ℕ) → d < 16 → digit d < 128
capital_low d h = let e : capital d ≡ digit d = capital_is d h in grind arith

-- a control character is its own byte
own_control : ℕ → ℕ → Bool
own_control k x = if is_control x then eqb x (128 + k) else true

same_control : (b : ℕ) → is_control (code_point b) ≡ true → code_point b ≡ b
unfolding own_control points
same_control b e =
    ⊎_elim (λ h. ⊎_elim (λ l. point_high l) (λ l. middle h l) (le_or_lt 160 b)) (λ h. point_low h) (le_or_lt 128 b)
  where
    middle : 128 ≤ b → b < 160 → code_point b ≡ b
    middle h l =
        let k : ℕ = b - 128 in
        let x : ℕ = get_or points k 0 in
        let p : code_point b ≡ x = point_mid h l in
        let c : is_control x ≡ true = ap is_control (sym p) ∙ e in
        let t : T (eqb x (128 + k)) = subst (λ (z : Bool). T (if z then eqb x (128 + k) else true)) c (at own_control points tt k (omega arith)) in
        let q : x ≡ 128 + k = eqb→eq x (128 + k) t in
        omega arith

-- a character below 80 is its own byte
same_low : (b : ℕ) → code_point b < 128 → code_point b ≡ b
same_low b low =
    ⊎_elim (λ h. ⊎_elim (λ l. point_high l) (λ l. let p = point_mid h l in let r = (points_ruled (b - 128) (omega arith)).high in absurd (omega arith)) (le_or_lt 160 b)) (λ h. point_low h) (le_or_lt 128 b)

-- what is written of a character, and what it reads as
record Piece (text : List ℕ) (width : ℕ) (Reads : List ℕ → List ℕ → Type 0) (c : ℕ) : Type 0 where
  characters : List ℕ
  is : text ≡ encode_utf8_all characters
  wide : length characters ≡ width
  reads : (t s : List ℕ) → Reads t s → Reads (characters ++ t) (c ∷ s)

pair_is : (b : ℕ) → b < 256 → pair b ≡ digit (b / 16) ∷ digit (b % 16) ∷ []
pair_is b h = rw (capital_is (b / 16) (omega arith), capital_is (b % 16) (omega arith)) refl

encoded_pair : (b : ℕ) → b < 256 → pair b ≡ encode_utf8_all (digit (b / 16) ∷ digit (b % 16) ∷ [])
encoded_pair b h =
    let p = encode_ascii (digit (b / 16)) (capital_low (b / 16) (omega arith)) in
    let q = encode_ascii (digit (b % 16)) (capital_low (b % 16) (omega arith)) in
    pair_is b h ∙ sym (rw (p, q) refl)

shown_piece : (b : ℕ) → Piece (shown_char b) (width_of b) IsVisible (code_point b)
unfolding lib.Utf8.encode
shown_piece b = go (is_control (code_point b)) refl
  where
    go : (z : Bool) → is_control (code_point b) ≡ z → Piece (if z then codes "\\x" ++ pair b else exact_char b) (if z then 4 else 1) IsVisible (code_point b)
    go true e =
        let own : code_point b ≡ b = same_control b e in
        let control : IsControl (code_point b) = is (code_point b) e in
        let byte : code_point b < 160 = ⊎_elim (λ h. omega (arith, h)) (λ h. h.1) control in
        record {
          characters = codes "\\x" ++ digit (b / 16) ∷ digit (b % 16) ∷ [];
          is = ap (λ (t : List ℕ). codes "\\x" ++ t) (encoded_pair b (omega arith));
          wide = refl;
          reads = λ t s h. meant.IsVisible.numbered (code_point b) (b / 16) (b % 16) t s control (omega arith) (omega arith) (omega arith) h;
        }
    go false e = record {
      characters = code_point b ∷ [];
      is = sym (append-nil (exact_char b));
      wide = refl;
      reads = λ t s h. meant.IsVisible.itself (code_point b) t s (is_not (code_point b) e) h;
    }

json_piece : (b : ℕ) → (w : ℕ) × Piece (json_char b) w IsEscaped (code_point b)
unfolding lib.Utf8.encode
json_piece b = go (b == 34) refl (b == 92) refl (is_control (code_point b)) refl
  where
    marked : (c : ℕ) → c < 128 → (c ≡ 34) ⊎ (c ≡ 92) → b ≡ c → (t s : List ℕ) → IsEscaped t s → IsEscaped (92 ∷ c ∷ t) (code_point b ∷ s)
    marked c low special e t s h =
        let own : code_point b ≡ c = point_low (omega arith) ∙ e in
        subst (λ (x : ℕ). IsEscaped (92 ∷ c ∷ t) (x ∷ s)) (sym own) (meant.IsEscaped.marked c t s special h)

    go : (x : Bool) → (b == 34) ≡ x → (y : Bool) → (b == 92) ≡ y → (z : Bool) → is_control (code_point b) ≡ z
        → (w : ℕ) × Piece (if x then codes "\\\"" else if y then codes "\\\\" else if z then codes "\\u00" ++ pair b else exact_char b) w IsEscaped (code_point b)
    go true e y f z g = (2, record { characters = 92 ∷ 34 ∷ []; is = refl; wide = refl; reads = marked 34 (omega arith) (inl refl) (grind arith) })
    go false e true f z g = (2, record { characters = 92 ∷ 92 ∷ []; is = refl; wide = refl; reads = marked 92 (omega arith) (inr refl) (grind arith) })
    go false e false f true g =
        let own : code_point b ≡ b = same_control b g in
        let control : IsControl (code_point b) = is (code_point b) g in
        let byte : code_point b < 160 = ⊎_elim (λ h. omega (arith, h)) (λ h. h.1) control in (
          6,
          record {
            characters = codes "\\u00" ++ digit (b / 16) ∷ digit (b % 16) ∷ [];
            is = ap (λ (t : List ℕ). codes "\\u00" ++ t) (encoded_pair b (omega arith));
            wide = refl;
            reads = λ t s h. meant.IsEscaped.numbered (code_point b) (b / 16) (b % 16) t s control (omega arith) (omega arith) (omega arith) h;
          },
        )
    go false e false f false g =
        let other : (c : ℕ) → c < 128 → (b == c) ≡ false → code_point b ≡ c → ⊥ = λ c low ne is. (let own : code_point b ≡ b = same_low b (omega arith) in grind arith) in (
          1,
          record {
            characters = code_point b ∷ [];
            is = sym (append-nil (exact_char b));
            wide = refl;
            reads = λ t s h. meant.IsEscaped.itself (code_point b) t s (is_not (code_point b) g) (other 34 (omega arith) e) (other 92 (omega arith) f) h;
          },
        )

pub strings_quoted : StringsQuoted
unfolding quoted
strings_quoted s = let r = inside s in (r.0, ap (λ (t : List ℕ). codes "\"" ++ (t ++ codes "\"")) r.1, r.2)
  where
    inside : (s : List ℕ) → (t : List ℕ) × (flat_map json_char s ≡ encode_utf8_all t) × IsEscaped t (map code_point s)
    inside [] = ([], refl, meant.IsEscaped.nothing)
    inside (b ∷ s) =
        let p = (json_piece b).1 in
        let r = inside s in
        let e : flat_map json_char (b ∷ s) ≡ encode_utf8_all (p.characters ++ r.0)
        = flat_map-cons json_char b s ∙ ap (λ (t : List ℕ). t ++ flat_map json_char s) p.is ∙ ap (λ (t : List ℕ). encode_utf8_all p.characters ++ t) r.1 ∙ sym (encodes-append p.characters r.0) in
        (p.characters ++ r.0, e, p.reads r.0 (map code_point s) r.2)

pub strings_shown : StringsShown
unfolding shown shown_width widths_on
strings_shown s = let r = inside s in (r.0, r.1, r.2, λ h. r.3 0 (omega (arith, h)) ∙ zero-add (length r.0))
  where
    inside : (s : List ℕ) → (t : List ℕ) × (flat_map shown_char s ≡ encode_utf8_all t) × IsVisible t (map code_point s) × ((n : ℕ) → n + length t < 2 ^ 64 → widths_on n s ≡ n + length t)
    inside [] = ([], refl, meant.IsVisible.nothing, λ n h. omega arith)
    inside (b ∷ s) =
        let p = shown_piece b in
        let r = inside s in
        let e : flat_map shown_char (b ∷ s) ≡ encode_utf8_all (p.characters ++ r.0)
        = flat_map-cons shown_char b s ∙ ap (λ (t : List ℕ). t ++ flat_map shown_char s) p.is ∙ ap (λ (t : List ℕ). encode_utf8_all p.characters ++ t) r.1 ∙ sym (encodes-append p.characters r.0) in
        let l : length (p.characters ++ r.0) ≡ width_of b + length r.0 = length-append p.characters r.0 ∙ ap (λ (n : ℕ). n + length r.0) p.wide in (
          p.characters ++ r.0,
          e,
          p.reads r.0 (map code_point s) r.2,
          λ n h. let here : min (n + width_of b) (2 ^ 64 - 1) ≡ n + width_of b = omega arith in
              ap (λ (m : ℕ). widths_on m s) here ∙ r.3 (n + width_of b) (omega arith) ∙ omega arith,
        )
