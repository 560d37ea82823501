-- What is read is a part, and each part is read as itself.
use Rattle.std.proofs.Common.{ℕ, zero, suc, ◌+◌, ◌-◌, ◌*◌, ◌<◌, ◌≤◌, ◌≡◌, ◌≢◌, min, refl, sym, ap, ap₂, ◌∙◌, subst, Bool, true, false, not, List, [], ◌∷◌, ◌++◌, length, take, drop, get_or, length-take, length-drop, get_or-take, take-append-drop, arith, Bor, cond, if◌then◌else◌, eqb-true, ne_eqb, leb-true, le-leb}
use Rattle.std.specs.Prelude.{Result, Ok, Err, ◌==◌, ◌||◌, ◌&&◌, nat_le, slice_index}
use Rattle.std.specs.List.{All, prefix_len, position_or_len}
use Rattle.std.proofs.lemmas.List.Sums.{prefix_len_passes, prefix_len-le-length}
use Rattle.std.proofs.Math.Seq.{drop-append_seam, take-append_seam}
use Rattle.std.proofs.lemmas.List.{length-append}
use Rattle.le.proofs.Laws.{not_both}
use Rattle.part.specs.Slice.{part, after}
use Rattle.part.specs.End.{IsEnd}
use Rattle.part.proofs.Slice.{part_after, length_part, end_self, end_again, end_after}
use Rattle.path.specs.declared.Subscript.{Subscript}
use Rattle.path.specs.declared.Split.{Split}
use Rattle.path.specs.declared.Part.TheVariants.{Member, Element}
use Rattle.path.specs.Path.{is_mark, is_digit, ends, value, split_at, closing, closed, numbered, bracketed, member, first_part}
use Rattle.path.specs.Texts.{Ends, ended, dotted, opened, Opens, first, next, Signs, unsigned, minus, Closes, before_comma, at_bracket, IsName, AreDigits, decimal, IsPart, PartsMeant}
use Rattle.path.specs.Texts as texts

-- a number that is kept below a limit at each digit is kept below it at the end
kept : (n : ℕ) (s : List ℕ) → value (min n 8589934592) s ≡ min (decimal n s) 8589934592
unfolding value decimal
kept n [] = refl
kept n (d ∷ s) =
    let e : min (10 * min n 8589934592 + (d - 48)) 8589934592 ≡ min (10 * n + (d - 48)) 8589934592 = omega arith in
    ap (λ (k : ℕ). value k s) e ∙ kept (10 * n + (d - 48)) s

-- which bytes are marks and digits
unmarked : (b : ℕ) → not (is_mark b) ≡ true → (b ≢ 46) × (b ≢ 91)
unmarked b h = ((λ e. absurd (grind (arith, e))), (λ e. absurd (grind (arith, e))))

digit : (b : ℕ) → is_digit b ≡ true → (48 ≤ b) × (b ≤ 57)
digit b h = by (nat_le 48 b) (nat_le b 57) refl refl h
  where
    by : (t u : Bool) → nat_le 48 b ≡ t → nat_le b 57 ≡ u → (t && u) ≡ true → (48 ≤ b) × (b ≤ 57)
    by true true p q k = (leb-true 48 b p, leb-true b 57 q)
    by true false p q k = absurd (not_both k refl)
    by false u p q k = absurd (not_both k refl)

-- the first bytes that pass, all of them
passing : (p : ℕ → Bool) (P : ℕ → Type 0) → ((b : ℕ) → p b ≡ true → P b) → (s : List ℕ) → All P (take (prefix_len p s) s)
passing p P f s k d h =
    let within : k < prefix_len p s = omega (arith, h, length-take (prefix_len p s) s) in
    subst P (sym (get_or-take (prefix_len p s) s k d within)) (f (get_or s k d) (prefix_len_passes p s k d within))

pub ends_is : (s : List ℕ) → ends s ≡ true → Ends s
ends_is [] h = ended
ends_is (b ∷ s) h = by (b == 46) (b == 91) refl refl h
  where
    by : (t u : Bool) → (b == 46) ≡ t → (b == 91) ≡ u → (t || u) ≡ true → Ends (b ∷ s)
    by true u p q k = subst (λ (x : ℕ). Ends (x ∷ s)) (sym (eqb-true b 46 p)) dotted
    by false true p q k = subst (λ (x : ℕ). Ends (x ∷ s)) (sym (eqb-true b 91 q)) opened
    by false false p q k = absurd (not_both k refl)

-- behind the first mark, or at the end
stopped : (s : List ℕ) → ends (drop (position_or_len is_mark s) s) ≡ true
stopped [] = refl
stopped (b ∷ s) = by (is_mark b) refl (stopped s)
  where
    n : ℕ
    n = position_or_len is_mark s

    by : (t : Bool) → is_mark b ≡ t → ends (drop n s) ≡ true → ends (drop (cond (not t) (1 + n) 0) (b ∷ s)) ≡ true
    by true e more = e
    by false e more = let o : 1 + n ≡ suc n = omega arith in ap (λ (k : ℕ). ends (drop k (b ∷ s))) o ∙ more

-- one of two
cases : {Q : Type 0} (t : Bool) (x y r : Result Split ℕ) → (t ≡ true → x ≡ r → Q) → (t ≡ false → y ≡ r → Q) → (if t then x else y) ≡ r → Q
cases true x y r a b h = a refl h
cases false x y r a b h = b refl h

not_read : {Q : Type 0} (n : ℕ) (p : Split) → Err n ≡ Ok p → Q
not_read n p h = absurd (grind arith)

first_is : (s : List ℕ) (b : ℕ) → 0 < b → (slice_index s 0 == b) ≡ true → s ≡ b ∷ drop 1 s
first_is [] b l h = let e : 0 ≡ b = eqb-true 0 b h in absurd (omega (arith, e))
first_is (x ∷ s) b l h = ap (λ (y : ℕ). y ∷ s) (eqb-true x b h)

some : (n : ℕ) (s : List ℕ) → n ≤ length s → (n == 0) ≡ false → 0 < length (take n s)
some n s l h = by n l h
  where
    by : (n : ℕ) → n ≤ length s → (n == 0) ≡ false → 0 < length (take n s)
    by zero l h = absurd (not_both refl h)
    by (suc n) l h = omega (arith, length-take (suc n) s)

-- a text that begins with a byte, behind it
behind_first : (s : Bor (List ℕ)) (b : ℕ) (more : List ℕ) → s.now ≡ b ∷ more → IsEnd s (after s 1)
behind_first s b more e =
    let long : length s.now ≡ length (b ∷ more) = ap (λ (l : List ℕ). length l) e in
    end_after 1 (omega (arith, long)) (end_self s)

member_read : (s : Bor (List ℕ)) (p : Split) → s.now ≡ 46 ∷ drop 1 s.now → member (after s 1) ≡ Ok p → IsPart s p
unfolding member
member_read s p e h =
    let t : Bor (List ℕ) = after s 1 in
    let n : ℕ = position_or_len is_mark t.now in
    let within : n ≤ length t.now = prefix_len-le-length (λ b. not (is_mark b)) t.now in
    cases (n == 0) (Err (length t.now)) (Ok (split_at (Member (part t 0 n)) (after t n))) (Ok p) (λ q k. not_read (length t.now) p k)
    (λ q k.
    let is : split_at (Member (part t 0 n)) (after t n) ≡ p = cc in
    subst (IsPart s) is
    (texts.IsPart.member (part t 0 n) (after t n) (some n t.now within q, passing (λ b. not (is_mark b)) (λ b. (b ≢ 46) × (b ≢ 91)) unmarked t.now)
    (ends_is (drop n t.now) (stopped t.now)) (e ∙ ap (λ (l : List ℕ). 46 ∷ l) (sym (take-append-drop n t.now)))
    (part_after s 1 0 n ∙ ap (part s 1) (sym (length_part t 0 n (omega (arith, within))))) (end_after n within (behind_first s 46 (drop 1 s.now) e))))
    h

record Closed (t : Bor (List ℕ)) (n : Subscript) (p : Split) : Type 0 where
  rest : Bor (List ℕ)
  is : split_at (Element n) rest ≡ p
  closes : Closes rest.now t.now
  last : IsEnd t rest

closing_read : (t : Bor (List ℕ)) (n : Subscript) (p : Split) → (slice_index t.now 0 == 93) ≡ true → closing (after t 1) n ≡ Ok p → Closed t n p
unfolding closing
closing_read t n p e h =
    let begins : t.now ≡ 93 ∷ drop 1 t.now = first_is t.now 93 (omega arith) e in
    cases (ends (drop 1 t.now)) (Ok (split_at (Element n) (after t 1))) (Err (length (drop 1 t.now))) (Ok p)
    (λ q k. record { rest = after t 1; is = cc; closes = subst (Closes (drop 1 t.now)) (sym begins) (at_bracket (ends_is (drop 1 t.now) q)); last = behind_first t 93 (drop 1 t.now) begins })
    (λ q k. not_read (length (drop 1 t.now)) p k)
    h

closed_read : (t : Bor (List ℕ)) (n : Subscript) (p : Split) → closed t n ≡ Ok p → Closed t n p
unfolding closed
closed_read t n p h =
    cases (slice_index t.now 0 == 44) (Ok (split_at (Element n) t)) (if slice_index t.now 0 == 93 then closing (after t 1) n else Err (length t.now)) (Ok p)
    (λ q k. record { rest = t; is = cc; closes = before_comma (first_is t.now 44 (omega arith) q); last = end_self t })
    (λ q k. cases (slice_index t.now 0 == 93) (closing (after t 1) n) (Err (length t.now)) (Ok p) (λ r m. closing_read t n p r m) (λ r m. not_read (length t.now) p m) k)
    h

numbered_read : (s t : Bor (List ℕ)) (negative : Bool) (p : Split) (opening : ℕ) (sign : List ℕ)
    → Opens opening → Signs negative sign → IsEnd s t → s.now ≡ opening ∷ (sign ++ t.now) → numbered t negative ≡ Ok p → IsPart s p
unfolding numbered
numbered_read s t negative p opening sign o g last e h =
    let n : ℕ = prefix_len is_digit t.now in
    let number : Subscript = record { negative = negative; magnitude = value 0 (take n t.now) } in
    let within : n ≤ length t.now = prefix_len-le-length is_digit t.now in
    cases (n == 0) (Err (length t.now)) (closed (after t n) number) (Ok p) (λ q k. not_read (length t.now) p k)
    (λ q k.
    let c = closed_read (after t n) number p k in
    subst (IsPart s) c.is
    (texts.IsPart.element opening (value 0 (take n t.now)) negative sign (take n t.now) (drop n t.now) c.rest o g
    (some n t.now within q, passing is_digit (λ b. (48 ≤ b) × (b ≤ 57)) digit t.now) c.closes (kept 0 (take n t.now))
    (e ∙ ap (λ (l : List ℕ). opening ∷ (sign ++ l)) (sym (take-append-drop n t.now))) (end_again (end_after n within last) c.last)))
    h

bracketed_read : (s : Bor (List ℕ)) (p : Split) (opening : ℕ) → Opens opening → s.now ≡ opening ∷ drop 1 s.now → bracketed (after s 1) ≡ Ok p → IsPart s p
unfolding bracketed
bracketed_read s p opening o e h =
    let t : Bor (List ℕ) = after s 1 in
    let last : IsEnd s t = behind_first s opening (drop 1 s.now) e in
    cases (slice_index t.now 0 == 45) (numbered (after t 1) true) (numbered t false) (Ok p)
    (λ q k.
    let sign : t.now ≡ 45 ∷ drop 1 t.now = first_is t.now 45 (omega arith) q in
    numbered_read s (after t 1) true p opening (45 ∷ []) o minus (end_again last (behind_first t 45 (drop 1 t.now) sign)) (e ∙ ap (λ (l : List ℕ). opening ∷ l) sign) k)
    (λ q k. numbered_read s t false p opening [] o unsigned last e k)
    h

opening_read : (s : Bor (List ℕ)) (p : Split) (t u : Bool) → (slice_index s.now 0 == 91) ≡ t → (slice_index s.now 0 == 44) ≡ u → (t || u) ≡ true → bracketed (after s 1) ≡ Ok p → IsPart s p
opening_read s p true u q r h k = bracketed_read s p 91 first (first_is s.now 91 (omega arith) q) k
opening_read s p false true q r h k = bracketed_read s p 44 next (first_is s.now 44 (omega arith) r) k
opening_read s p false false q r h k = absurd (not_both h refl)

is_part : (s : Bor (List ℕ)) (p : Split) → first_part s ≡ Ok p → IsPart s p
unfolding first_part
is_part s p h =
    cases (slice_index s.now 0 == 46) (member (after s 1)) (if slice_index s.now 0 == 91 || slice_index s.now 0 == 44 then bracketed (after s 1) else Err (length s.now)) (Ok p)
    (λ q k. member_read s p (first_is s.now 46 (omega arith) q) k)
    (λ q k.
    cases (slice_index s.now 0 == 91 || slice_index s.now 0 == 44) (bracketed (after s 1)) (Err (length s.now)) (Ok p) (λ r m. opening_read s p (slice_index s.now 0 == 91) (slice_index s.now 0 == 44) refl refl r m)
    (λ r m. not_read (length s.now) p m) k)
    h

-- the other way: bytes that pass, and behind them one that does not, or none
counted : (p : ℕ → Bool) (P : ℕ → Type 0) → ((b : ℕ) → P b → p b ≡ true) → (own behind : List ℕ) → All P own → prefix_len p behind ≡ 0 → prefix_len p (own ++ behind) ≡ length own
counted p P f [] behind a h = h
counted p P f (b ∷ own) behind a h =
    let passes : p b ≡ true = f b (a 0 0 (omega arith)) in
    let more : prefix_len p (own ++ behind) ≡ length own = counted p P f own behind (λ k d l. a (suc k) d (omega (arith, l))) h in
    let step : prefix_len p (b ∷ (own ++ behind)) ≡ 1 + prefix_len p (own ++ behind) = simp passes refl in
    let last : 1 + prefix_len p (own ++ behind) ≡ length (b ∷ own) = omega (arith, more) in
    step ∙ last

named : (b : ℕ) → (b ≢ 46) × (b ≢ 91) → not (is_mark b) ≡ true
named b n = let dot : (b == 46) ≡ false = ne_eqb b 46 n.0 in let bracket : (b == 91) ≡ false = ne_eqb b 91 n.1 in rw (dot, bracket) refl

a_digit : (b : ℕ) → (48 ≤ b) × (b ≤ 57) → is_digit b ≡ true
a_digit b d = let low : nat_le 48 b ≡ true = le-leb 48 b d.0 in let high : nat_le b 57 ≡ true = le-leb b 57 d.1 in rw (low, high) refl

name_stops : (s : List ℕ) → Ends s → position_or_len is_mark s ≡ 0
name_stops s ended = refl
name_stops s dotted = refl
name_stops s opened = refl

pub has_ended : (s : List ℕ) → Ends s → ends s ≡ true
has_ended s ended = refl
has_ended s dotted = refl
has_ended s opened = refl

digits_stop : (rest s : List ℕ) → Closes rest s → prefix_len is_digit s ≡ 0
digits_stop rest s (before_comma e) = ap (prefix_len is_digit) e
digits_stop rest s (at_bracket e) = refl

-- what stands behind some bytes of a name, and is no part of it, stands at its end
pub stops_at_end : (name : List ℕ) (k : ℕ) → All (λ b. (b ≢ 46) × (b ≢ 91)) name → Ends (drop k name) → length name ≤ k
stops_at_end [] k a e = omega arith
stops_at_end (b ∷ name) zero a e = absurd (not_both (has_ended (b ∷ name) e) (mark (is_mark b) (named b (a 0 0 (omega arith)))))
  where
    mark : (t : Bool) → not t ≡ true → t ≡ false
    mark true h = absurd (not_both h refl)
    mark false h = refl
stops_at_end (b ∷ name) (suc k) a e = let on = stops_at_end name k (λ i d l. a (suc i) d (omega (arith, l))) e in omega (arith, on)

-- two ends of a text that are as long are one
same_end : (s x y : Bor (List ℕ)) → IsEnd s x → IsEnd s y → length x.now ≡ length y.now → x ≡ y
same_end s x y a b h = a.is ∙ ap (λ (k : ℕ). after s (length s.now - k)) h ∙ sym b.is

member_found : (s name rest : Bor (List ℕ)) → IsName name.now → Ends rest.now → s.now ≡ 46 ∷ (name.now ++ rest.now) → name ≡ part s 1 (length name.now) → IsEnd s rest
    → member (after s 1) ≡ Ok (split_at (Member name) rest)
unfolding member
member_found s name rest a g e here last =
    let t : Bor (List ℕ) = after s 1 in
    let n : ℕ = position_or_len is_mark t.now in
    let behind : t.now ≡ name.now ++ rest.now = ap (drop 1) e in
    let long : n ≡ length name.now = ap (position_or_len is_mark) behind ∙ counted (λ b. not (is_mark b)) (λ b. (b ≢ 46) × (b ≢ 91)) named name.now rest.now a.1 (name_stops rest.now g) in
    let size : length t.now ≡ length name.now + length rest.now = ap (λ (l : List ℕ). length l) behind ∙ length-append name.now rest.now in
    let more : n ≢ 0 = omega (arith, long, a.0) in
    let within : n ≤ length t.now = omega (arith, long, size) in
    let one : part t 0 n ≡ name = part_after s 1 0 n ∙ ap (part s 1) long ∙ sym here in
    let left : length (drop n t.now) ≡ length rest.now = omega (arith, length-drop n t.now, size, long) in
    let two : after t n ≡ rest = same_end s (after t n) rest (end_after n within (behind_first s 46 (name.now ++ rest.now) e)) last left in
    ap (λ (b : Bool). if b then Err (length t.now) else Ok (split_at (Member (part t 0 n)) (after t n))) (ne_eqb n 0 more) ∙ ap₂ (λ (x y : Bor (List ℕ)). Ok (split_at (Member x) y)) one two

closed_found : (s t rest : Bor (List ℕ)) (n : Subscript) → IsEnd s t → IsEnd s rest → Closes rest.now t.now → closed t n ≡ Ok (split_at (Element n) rest)
unfolding closed closing
closed_found s t rest n a b c = by t.now refl c
  where
    comma : (more : List ℕ) → t.now ≡ 44 ∷ more → length t.now ≡ length rest.now → closed t n ≡ Ok (split_at (Element n) rest)
    comma more e h =
        ap (λ (l : List ℕ). if slice_index l 0 == 44 then Ok (split_at (Element n) t) else if slice_index l 0 == 93 then closing (after t 1) n else Err (length l)) e
        ∙ ap (λ (x : Bor (List ℕ)). Ok (split_at (Element n) x)) (same_end s t rest a b h)

    bracket : t.now ≡ 93 ∷ rest.now → Ends rest.now → closed t n ≡ Ok (split_at (Element n) rest)
    bracket e g =
        let is : after t 1 ≡ rest = same_end s (after t 1) rest (end_again a (behind_first t 93 rest.now e)) b (ap (λ (l : List ℕ). length (drop 1 l)) e) in
        ap (λ (l : List ℕ). if slice_index l 0 == 44 then Ok (split_at (Element n) t) else if slice_index l 0 == 93 then closing (after t 1) n else Err (length l)) e
        ∙ ap (λ (x : Bor (List ℕ)). closing x n) is
        ∙ ap (λ (q : Bool). if q then Ok (split_at (Element n) rest) else Err (length rest.now)) (has_ended rest.now g)

    by : (l : List ℕ) → t.now ≡ l → Closes rest.now l → closed t n ≡ Ok (split_at (Element n) rest)
    by l e (before_comma {more = more} q) = comma more (e ∙ q) (ap (λ (l : List ℕ). length l) e)
    by l e (at_bracket g) = bracket e g

numbered_found : (s t rest : Bor (List ℕ)) (negative : Bool) (digits behind : List ℕ) → IsEnd s t → IsEnd s rest → AreDigits digits → Closes rest.now behind → t.now ≡ digits ++ behind
    → numbered t negative ≡ Ok (split_at (Element (record { negative = negative; magnitude = min (decimal 0 digits) 8589934592 })) rest)
unfolding numbered
numbered_found s t rest negative digits behind a b d c e =
    let n : ℕ = prefix_len is_digit t.now in
    let long : n ≡ length digits = ap (prefix_len is_digit) e ∙ counted is_digit (λ x. (48 ≤ x) × (x ≤ 57)) a_digit digits behind d.1 (digits_stop rest.now behind c) in
    let size : length t.now ≡ length digits + length behind = ap (λ (l : List ℕ). length l) e ∙ length-append digits behind in
    let more : n ≢ 0 = omega (arith, long, d.0) in
    let within : n ≤ length t.now = omega (arith, long, size) in
    let own : take n t.now ≡ digits = ap₂ (λ (k : ℕ) (l : List ℕ). take k l) long e ∙ take-append_seam digits behind in
    let left : drop n t.now ≡ behind = ap₂ (λ (k : ℕ) (l : List ℕ). drop k l) long e ∙ drop-append_seam digits behind in
    let number : value 0 (take n t.now) ≡ min (decimal 0 digits) 8589934592 = ap (value 0) own ∙ kept 0 digits in
    let closes : Closes rest.now (drop n t.now) = subst (Closes rest.now) (sym left) c in
    ap (λ (q : Bool). if q then Err (length t.now) else closed (after t n) (record { negative = negative; magnitude = value 0 (take n t.now) })) (ne_eqb n 0 more)
    ∙ ap (λ (k : ℕ). closed (after t n) (record { negative = negative; magnitude = k })) number
    ∙ closed_found s (after t n) rest (record { negative = negative; magnitude = min (decimal 0 digits) 8589934592 }) (end_after n within a) b closes

-- a number without a sign begins with none
no_sign : (digits behind : List ℕ) → AreDigits digits → (slice_index (digits ++ behind) 0 == 45) ≡ false
no_sign [] behind d = absurd (omega (arith, d.0))
no_sign (b ∷ digits) behind d = let other : b ≢ 45 = let low : 48 ≤ b = (d.1 0 0 (omega arith)).0 in omega (arith, low) in ne_eqb b 45 other

bracketed_found : (s t rest : Bor (List ℕ)) (negative : Bool) (sign digits behind : List ℕ) → Signs negative sign → IsEnd s t → IsEnd s rest → AreDigits digits → Closes rest.now behind → t.now ≡ sign ++ (digits ++ behind)
    → bracketed t ≡ Ok (split_at (Element (record { negative = negative; magnitude = min (decimal 0 digits) 8589934592 })) rest)
unfolding bracketed
bracketed_found s t rest negative sign digits behind unsigned a b d c e =
    ap (λ (q : Bool). if q then numbered (after t 1) true else numbered t false) (ap (λ (l : List ℕ). slice_index l 0 == 45) e ∙ no_sign digits behind d)
    ∙ numbered_found s t rest false digits behind a b d c e
bracketed_found s t rest negative sign digits behind minus a b d c e =
    ap (λ (l : List ℕ). if slice_index l 0 == 45 then numbered (after t 1) true else numbered t false) e
    ∙ numbered_found s (after t 1) rest true digits behind (end_again a (behind_first t 45 (digits ++ behind) e)) b d c (ap (drop 1) e)

opened_found : (s : Bor (List ℕ)) (opening : ℕ) (more : List ℕ) → Opens opening → s.now ≡ opening ∷ more → first_part s ≡ bracketed (after s 1)
unfolding first_part
opened_found s opening more first e = ap (λ (l : List ℕ). if slice_index l 0 == 46 then member (after s 1) else if slice_index l 0 == 91 || slice_index l 0 == 44 then bracketed (after s 1) else Err (length l)) e
opened_found s opening more next e = ap (λ (l : List ℕ). if slice_index l 0 == 46 then member (after s 1) else if slice_index l 0 == 91 || slice_index l 0 == 44 then bracketed (after s 1) else Err (length l)) e

dot_found : (s : Bor (List ℕ)) (more : List ℕ) → s.now ≡ 46 ∷ more → first_part s ≡ member (after s 1)
unfolding first_part
dot_found s more e = ap (λ (l : List ℕ). if slice_index l 0 == 46 then member (after s 1) else if slice_index l 0 == 91 || slice_index l 0 == 44 then bracketed (after s 1) else Err (length l)) e

is_read : (s : Bor (List ℕ)) (p : Split) → IsPart s p → first_part s ≡ Ok p
is_read s p (texts.IsPart.member name rest a g e here last) = dot_found s (name.now ++ rest.now) e ∙ member_found s name rest a g e here last
is_read s p (texts.IsPart.element opening n negative sign digits behind rest o g d c m e last) =
    opened_found s opening (sign ++ (digits ++ behind)) o e
    ∙ bracketed_found s (after s 1) rest negative sign digits behind g (behind_first s opening (sign ++ (digits ++ behind)) e) last d c (ap (drop 1) e)
    ∙ ap (λ (k : ℕ). Ok (split_at (Element (record { negative = negative; magnitude = k })) rest)) (sym m)

pub parts_meant : PartsMeant
parts_meant s p = (is_part s p, is_read s p)
