-- What an answer on text says of the text.
use Rattle.std.proofs.Common.{◌≡◌, ◌≢◌, ℕ, suc, ◌+◌, ◌*◌, ◌/◌, ◌%◌, ◌^◌, ◌<◌, ◌≤◌, ◌⊎◌, ⊎_elim, inl, inr, Bool, true, false, T, eqb, eqb→eq, nat_lt, nat_le, List, [], ◌∷◌, ◌++◌, codes, length, drop, slice_index, refl, sym, ap, subst, ◌∙◌, arith, append_assoc, append-nil, length-append, if◌then◌else◌}
use Rattle.std.specs.Prelude.{All, filter, ◌==◌, Option, None, Some, Result, Ok, Err}
use Rattle.std.proofs.lemmas.Grind.{flat_map-append}
use Rattle.std.proofs.lemmas.List.Elements.{filter-append, All-append, All-cons, All-nil}
use Rattle.text.proofs.Table.{both, both_left, both_right, below_at}
use Rattle.refusal.specs.Refusal.{limit}
use Rattle.upload.specs.declared.Form.TheVariants.{Hexadecimal}
use Rattle.upload.specs.declared.Fault.{Fault}
use Rattle.upload.specs.declared.Fault.TheVariants.{TooLarge, NoDigit}
use Rattle.upload.specs.Upload.{Text, digit_value, is_space, one_more, at_column, after_digit, after_other, by_digit, after_character, and_then, after_text, nothing_read, whole, upload_in, has_mark, unmarked, after_binary}
use Rattle.upload.specs.Meant.{IsDigit, IsSpace, Reads, digits_of, IsAt, IsFirstOther, IsAbove, TextIs, HasMark}
use Rattle.upload.specs.Meant as meant

-- ---- digits
is_digit_at : ℕ → Option ℕ → Bool
is_digit_at c None = true
is_digit_at c (Some d) = if nat_lt d 16 then (if eqb (slice_index (codes "0123456789ABCDEF") d) c then true else eqb (slice_index (codes "0123456789abcdef") d) c) else false

test : ℕ → Bool
test c = is_digit_at c (digit_value c)

tested : (c d : ℕ) → T (is_digit_at c (Some d)) → IsDigit c d
unfolding is_digit_at
tested c d t = go (nat_lt d 16) refl (eqb (slice_index (codes "0123456789ABCDEF") d) c) refl t
  where
    go : (x : Bool) → nat_lt d 16 ≡ x → (y : Bool) → eqb (slice_index (codes "0123456789ABCDEF") d) c ≡ y
        → T (if x then (if y then true else eqb (slice_index (codes "0123456789abcdef") d) c) else false) → IsDigit c d
    go true e true f t = (grind arith, inl (eqb→eq _ _ (subst T (sym f) tt)))
    go true e false f t = (grind arith, inr (eqb→eq _ _ t))
    go false e y f t = absurd t

some_below : (c d : ℕ) → digit_value c ≡ Some d → c < 103
some_below c d e = grind arith

pub digit : (c d : ℕ) → digit_value c ≡ Some d → IsDigit c d
unfolding test is_digit_at
digit c d e = tested c d (subst (λ (o : Option ℕ). T (is_digit_at c o)) e (below_at test 103 tt c (some_below c d e)))

is_value : Option ℕ → ℕ → Bool
is_value None d = false
is_value (Some e) d = eqb e d

digit_back : ℕ → Bool
digit_back d = both (is_value (digit_value (slice_index (codes "0123456789ABCDEF") d)) d) (is_value (digit_value (slice_index (codes "0123456789abcdef") d)) d)

some : (o : Option ℕ) (d : ℕ) → T (is_value o d) → o ≡ Some d
unfolding is_value
some None d t = absurd t
some (Some e) d t = ap Some (eqb→eq e d t)

pub value : (c d : ℕ) → IsDigit c d → digit_value c ≡ Some d
unfolding digit_back is_value
value c d h =
    let t = below_at digit_back 16 tt d h.0 in
    let upper = some (digit_value (slice_index (codes "0123456789ABCDEF") d)) d (both_left _ _ t) in
    let lower = some (digit_value (slice_index (codes "0123456789abcdef") d)) d (both_right _ _ t) in
    ⊎_elim (λ e. subst (λ (x : ℕ). digit_value x ≡ Some d) e upper) (λ e. subst (λ (x : ℕ). digit_value x ≡ Some d) e lower) h.1

pub no_digit : (c : ℕ) → digit_value c ≡ None → (d : ℕ) → IsDigit c d → ⊥
no_digit c e d h = let f : Some d ≡ None = sym (value c d h) ∙ e in cc

pub space : (c : ℕ) → is_space c ≡ true → IsSpace c
space c e = go (c == 32) refl
  where
    go : (x : Bool) → (c == 32) ≡ x → IsSpace c
    go true f = inl (grind arith)
    go false f = inr (grind arith, grind arith)

pub no_space : (c : ℕ) → is_space c ≡ false → IsSpace c → ⊥
no_space c e h = grind arith

not_ten : (c d : ℕ) → digit_value c ≡ Some d → (c == 10) ≡ false
not_ten c d e = grind arith

-- ---- what was read, character after character
Reads-append : {s t ds es : List ℕ} → Reads s ds → Reads t es → Reads (s ++ t) (ds ++ es)
Reads-append meant.Reads.nothing r = r
Reads-append {t = u} {es = es} (meant.Reads.space c t ds h q) r = meant.Reads.space c (t ++ u) (ds ++ es) h (Reads-append q r)
Reads-append {t = u} {es = es} (meant.Reads.digit c d t ds h q) r = meant.Reads.digit c d (t ++ u) (ds ++ es) h (Reads-append q r)

abbrev half_of : Option ℕ → List ℕ
half_of None = []
half_of (Some d) = d ∷ []

half_most : (o : Option ℕ) → length (half_of o) ≤ 1
half_most None = omega arith
half_most (Some d) = omega arith

length-digits : (bs : List ℕ) → length (digits_of bs) ≡ 2 * length bs
length-digits [] = refl
length-digits (b ∷ bs) = let e = length-digits bs in omega (arith, e)

-- where the last character stands
record Behind (t : List ℕ) (line column : ℕ) : Type 0 where
  lines : List ℕ
  own : List ℕ
  parts : t ≡ lines ++ own
  ended : (lines ≡ []) ⊎ ((s : List ℕ) × (lines ≡ s ++ 10 ∷ []))
  unended : All (λ c. c ≢ 10) own
  line_is : line ≡ length (filter (λ c. c == 10) t) + 1
  column_is : column ≡ length own

record Known (t : List ℕ) (u : Text) : Type 0 where
  digits : List ℕ
  reads : Reads t digits
  bytes : digits ≡ digits_of u.bytes ++ half_of u.half
  few : length u.bytes ≤ limit
  behind : Behind t u.line u.column

digits-append : (bs : List ℕ) (high d : ℕ) → d < 16 → digits_of (bs ++ (high * 16 + d) ∷ []) ≡ digits_of bs ++ high ∷ d ∷ []
digits-append bs high d h =
    let p : (high * 16 + d) / 16 ≡ high = omega arith in
    let q : (high * 16 + d) % 16 ≡ d = omega arith in
    flat_map-append (λ (b : ℕ). b / 16 ∷ b % 16 ∷ []) bs ((high * 16 + d) ∷ []) ∙ rw (p, q) refl

behind_most : {t : List ℕ} {line column : ℕ} → Behind t line column → column ≤ length t
behind_most {t} b =
    let l : length t ≡ length b.lines + length b.own = ap (λ (s : List ℕ). length s) b.parts ∙ length-append b.lines b.own in
    omega (arith, l, b.column_is)

lines_most : (t : List ℕ) → length (filter (λ c. c == 10) t) ≤ length t
lines_most [] = omega arith
lines_most (c ∷ t) = let h = lines_most t in go (c == 10) h
  where
    go : (x : Bool) → length (filter (λ c. c == 10) t) ≤ length t → length (if x then c ∷ filter (λ c. c == 10) t else filter (λ c. c == 10) t) ≤ suc (length t)
    go true h = omega (arith, h)
    go false h = omega (arith, h)

same_lines : (t : List ℕ) (c : ℕ) → (c == 10) ≡ false → filter (λ c. c == 10) (t ++ c ∷ []) ≡ filter (λ c. c == 10) t
same_lines t c e = filter-append (λ c. c == 10) t (c ∷ []) ∙ ap (λ (x : Bool). filter (λ c. c == 10) t ++ (if x then c ∷ [] else [])) e ∙ append-nil _

grown : {t : List ℕ} {line column : ℕ} (c : ℕ) → Behind t line column → (c == 10) ≡ false → length t + 2 < 2 ^ 64 → Behind (t ++ c ∷ []) line (one_more column)
grown {t} {line} {column} c b e h =
    let most = behind_most b in
    let ne : c ≢ 10 = λ z. grind arith in
    record {
      lines = b.lines;
      own = b.own ++ c ∷ [];
      parts = ap (λ (s : List ℕ). s ++ c ∷ []) b.parts ∙ append_assoc b.lines b.own (c ∷ []);
      ended = b.ended;
      unended = All-append (λ c. c ≢ 10) b.own (c ∷ []) b.unended (All-cons (λ c. c ≢ 10) c [] ne (All-nil (λ c. c ≢ 10)));
      line_is = b.line_is ∙ ap (λ (s : List ℕ). length s + 1) (sym (same_lines t c e));
      column_is = let l = length-append b.own (c ∷ []) in omega (arith, l, b.column_is, most);
    }

next_line : {t : List ℕ} {line column : ℕ} (c : ℕ) → Behind t line column → (c == 10) ≡ true → length t + 2 < 2 ^ 64 → Behind (t ++ c ∷ []) (one_more line) 0
next_line {t} {line} {column} c b e h =
    let ten : c ≡ 10 = grind arith in
    let f : filter (λ c. c == 10) (t ++ c ∷ []) ≡ filter (λ c. c == 10) t ++ c ∷ [] = filter-append (λ c. c == 10) t (c ∷ []) ∙ ap (λ (x : Bool). filter (λ c. c == 10) t ++ (if x then c ∷ [] else [])) e in
    let l : length (filter (λ c. c == 10) (t ++ c ∷ [])) ≡ length (filter (λ c. c == 10) t) + 1 = ap (λ (s : List ℕ). length s) f ∙ length-append (filter (λ c. c == 10) t) (c ∷ []) in
    let most = lines_most t in
    record {
      lines = t ++ c ∷ [];
      own = [];
      parts = sym (append-nil (t ++ c ∷ []));
      ended = inr (t, ap (λ (x : ℕ). t ++ x ∷ []) ten);
      unended = All-nil (λ c. c ≢ 10);
      line_is = omega (arith, l, b.line_is, most);
      column_is = refl;
    }

-- what a character more makes of a text that is known
abbrev After : List ℕ → ℕ → List ℕ → Result Text Fault → Type 0
After t c rest (Ok v) = Known (t ++ c ∷ []) v
After t c rest (Err f) = TextIs (t ++ c ∷ rest) (Err f)

known_length : {t : List ℕ} {u : Text} (k : Known t u) → length k.digits ≡ 2 * length u.bytes + length (half_of u.half)
known_length {t} {u} k =
    ap (λ (s : List ℕ). length s) k.bytes ∙ length-append (digits_of u.bytes) (half_of u.half) ∙ ap (λ (n : ℕ). n + length (half_of u.half)) (length-digits u.bytes)

module _ (t : List ℕ) (u : Text) (c : ℕ) (rest : List ℕ) (k : Known t u) (small : length t + 2 < 2 ^ 64) where
  abbrev here : Text
  here = at_column u (one_more u.column)

  one_digit : (d : ℕ) → IsDigit c d → Reads (t ++ c ∷ []) (k.digits ++ d ∷ [])
  one_digit d h = Reads-append k.reads (meant.Reads.digit c d [] [] h meant.Reads.nothing)

  on_digit : (d : ℕ) → IsDigit c d → (c == 10) ≡ false → (h : Option ℕ) → u.half ≡ h → After t c rest (after_digit here h d)
  unfolding after_digit
  on_digit d is ten None e = record {
    digits = k.digits ++ d ∷ [];
    reads = one_digit d is;
    bytes = ap (λ (s : List ℕ). s ++ d ∷ []) (k.bytes ∙ ap (λ (o : Option ℕ). digits_of u.bytes ++ half_of o) e ∙ append-nil (digits_of u.bytes));
    few = k.few;
    behind = grown c k.behind ten small;
  }
  on_digit d is ten (Some high) e = go (nat_le limit (length u.bytes)) refl
    where
      bytes : k.digits ++ d ∷ [] ≡ digits_of u.bytes ++ high ∷ d ∷ []
      bytes = ap (λ (s : List ℕ). s ++ d ∷ []) (k.bytes ∙ ap (λ (o : Option ℕ). digits_of u.bytes ++ half_of o) e) ∙ append_assoc (digits_of u.bytes) (high ∷ []) (d ∷ [])

      go : (x : Bool) → nat_le limit (length u.bytes) ≡ x
          → After t c rest (if x then Err TooLarge else Ok (record here { bytes = u.bytes ++ (high * 16 + d) ∷ []; half = None }))
      go true f =
          let l : length (k.digits ++ d ∷ []) ≡ 2 * length u.bytes + 2 = ap (λ (s : List ℕ). length s) bytes ∙ length-append (digits_of u.bytes) (high ∷ d ∷ []) ∙ ap (λ (n : ℕ). n + 2) (length-digits u.bytes) in
          let full : limit ≤ length u.bytes = grind arith in
          let few = k.few in
          record {
            before = t ++ c ∷ [];
            rest = rest;
            digits = k.digits ++ d ∷ [];
            parts = sym (append_assoc t (c ∷ []) rest);
            reads = one_digit d is;
            many = omega (arith, l, full, few);
          }
      go false f =
          let l = length-append u.bytes ((high * 16 + d) ∷ []) in
          let less : length u.bytes < limit = grind arith in
          record {
            digits = k.digits ++ d ∷ [];
            reads = one_digit d is;
            bytes = bytes ∙ sym (digits-append u.bytes high d is.0) ∙ sym (append-nil _);
            few = omega (arith, l, less);
            behind = grown c k.behind ten small;
          }

  on_other : ((d : ℕ) → IsDigit c d → ⊥) → After t c rest (after_other here c)
  unfolding after_other
  on_other none = go (c == 10) refl (is_space c) refl
    where
      go : (x : Bool) → (c == 10) ≡ x → (y : Bool) → is_space c ≡ y
          → After t c rest (if x then Ok (record here { line = one_more u.line; column = 0 }) else if y then Ok here else Err (NoDigit c u.line (one_more u.column)))
      go true e y f = record {
        digits = k.digits ++ [];
        reads = Reads-append k.reads (meant.Reads.space c [] [] (inr (grind arith, grind arith)) meant.Reads.nothing);
        bytes = append-nil k.digits ∙ k.bytes;
        few = k.few;
        behind = next_line c k.behind e small;
      }
      go false e true f = record {
        digits = k.digits ++ [];
        reads = Reads-append k.reads (meant.Reads.space c [] [] (space c f) meant.Reads.nothing);
        bytes = append-nil k.digits ∙ k.bytes;
        few = k.few;
        behind = grown c k.behind e small;
      }
      go false e false f =
          let l = known_length k in
          let few = k.few in
          let half = half_most u.half in
          let most = behind_most k.behind in
          record {
            before = t;
            rest = rest;
            digits = k.digits;
            parts = refl;
            reads = k.reads;
            few = omega (arith, l, few, half);
            no_space = no_space c f;
            no_digit = none;
            at = record {
              lines = k.behind.lines;
              own = k.behind.own;
              parts = k.behind.parts;
              ended = k.behind.ended;
              unended = k.behind.unended;
              lines_ended = k.behind.line_is;
              behind = omega (arith, k.behind.column_is, most);
            };
          }

  step : After t c rest (after_character u c)
  unfolding after_character
  step = go (digit_value c) refl
    where
      go : (o : Option ℕ) → digit_value c ≡ o → After t c rest (by_digit o here c)
      go None e = on_other (no_digit c e)
      go (Some d) e = on_digit d (digit c d e) (not_ten c d e) u.half refl

-- what all of a text makes
abbrev Answer : List ℕ → Result Text Fault → Type 0
Answer t (Ok v) = Known t v
Answer t (Err f) = TextIs t (Err f)

all : (done : List ℕ) (u : Text) (s : List ℕ) → Known done u → length (done ++ s) + 2 < 2 ^ 64 → Answer (done ++ s) (after_text u s)
unfolding after_text
all done u [] k h = subst (λ (t : List ℕ). Known t u) (sym (append-nil done)) k
all done u (c ∷ s) k h =
    let l = length-append done (c ∷ s) in
    let same : length ((done ++ c ∷ []) ++ s) ≡ length (done ++ c ∷ s) = ap (λ (t : List ℕ). length t) (append_assoc done (c ∷ []) s) in
    on (after_character u c) (step done u c s k (omega (arith, l, h))) (λ v known. all (done ++ c ∷ []) v s known (omega (arith, same, h)))
  where
    on : (r : Result Text Fault) → After done c s r → ((v : Text) → Known (done ++ c ∷ []) v → Answer ((done ++ c ∷ []) ++ s) (after_text v s))
        → Answer (done ++ c ∷ s) (and_then r (λ u. after_text u s))
    on (Ok v) known f = subst (λ (t : List ℕ). Answer t (after_text v s)) (append_assoc done (c ∷ []) s) (f v known)
    on (Err e) m f = m

nothing_known : Known [] nothing_read
nothing_known = record {
  digits = [];
  reads = meant.Reads.nothing;
  bytes = refl;
  few = omega arith;
  behind = record { lines = []; own = []; parts = refl; ended = inl refl; unended = All-nil (λ c. c ≢ 10); line_is = refl; column_is = refl };
}

finish : (s : List ℕ) (r : Result Text Fault) → Answer s r → TextIs s (and_then r (λ t. whole t.half t.bytes))
finish s (Ok v) k = go v.half refl
  where
    go : (o : Option ℕ) → v.half ≡ o → TextIs s (whole o v.bytes)
    go None e = (subst (Reads s) (k.bytes ∙ ap (λ (o : Option ℕ). digits_of v.bytes ++ half_of o) e ∙ append-nil (digits_of v.bytes)) k.reads, k.few)
    go (Some d) e = (k.digits, k.reads, known_length k ∙ ap (λ (o : Option ℕ). 2 * length v.bytes + length (half_of o)) e)
finish s (Err f) m = m

text_meant : (s : List ℕ) → length s + 2 < 2 ^ 64 → TextIs s (upload_in Hexadecimal s)
text_meant s h = finish s (after_text nothing_read s) (all [] nothing_read s nothing_known h)

mark_of : (s : List ℕ) → has_mark s ≡ true → HasMark s
mark_of [] e = grind arith
mark_of (a ∷ []) e = grind arith
mark_of (a ∷ b ∷ []) e = grind arith
mark_of (a ∷ b ∷ c ∷ t) e =
    let p : a ≡ 0xEF = grind arith in
    let q : b ≡ 0xBB = grind arith in
    let r : c ≡ 0xBF = grind arith in
    (t, rw (p, q, r) refl)

unmarked_text : (s : List ℕ) → (HasMark s → ⊥) → unmarked Hexadecimal s ≡ s
unfolding unmarked
unmarked_text s bare = go (has_mark s) refl
  where
    go : (x : Bool) → has_mark s ≡ x → (if x then drop 3 s else s) ≡ s
    go true e = absurd (bare (mark_of s e))
    go false e = refl

pub uploads_meant : meant.UploadsMeant
unfolding unmarked after_binary
uploads_meant = record {
  text = λ s h bare. subst (λ (t : List ℕ). TextIs s (upload_in Hexadecimal t)) (sym (unmarked_text s bare)) (text_meant s h);
  marked = λ s h. text_meant s h;
  binary = λ s h. (let e : nat_lt limit (length s) ≡ false = grind arith in rw e refl);
  large = λ s h. (let e : nat_lt limit (length s) ≡ true = grind arith in rw e refl);
}
