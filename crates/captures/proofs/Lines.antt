-- Lines of a text, one after another.
use Rattle.std.proofs.Common.{ℕ, zero, suc, ◌+◌, ◌<◌, ◌≤◌, ◌≡◌, refl, sym, ap, subst, ◌∙◌, Bool, true, false, List, [], ◌∷◌, ◌++◌, length, take, drop, arith, length-append}
use Rattle.std.specs.Prelude.{cond, Result, Ok, Err, Some, IfOk, IsOkAnd}
use Rattle.std.specs.List.{onto_first}
use Rattle.part.specs.Outcome.{and_then}
use Rattle.memchr.specs.Find.{is_byte, Passes, Nowhere, IsFirstByte}
use Rattle.hex.specs.Hex.{decode_of}
use Rattle.hex.specs.declared.error.FromHexError.{FromHexError}
use Rattle.refusal.specs.declared.Refusal.{Refusal}
use Rattle.le.specs.Put.{put, Wrote}
use Rattle.writing.specs.Checks.{size_checked, entry_checked}
use Rattle.writing.proofs.Entry.{entry_passed}
use Rattle.writing.proofs.Going.{Going, going, goes_on, gone, going_by}
use Rattle.captures.specs.Captures.{lines, spelt, told_length, joined, joining}
use Rattle.captures.proofs.Pairs.{ok_and, from_if, to_and}

below : (c : ℕ) (s : List ℕ) (k : ℕ) → Nowhere (Passes (is_byte 10) (c ∷ s)) 0 (suc k) → Nowhere (Passes (is_byte 10) s) 0 k
below c s k n j low high p = n (suc j) (omega arith) (omega (arith, high)) p

first_not : (c : ℕ) (s : List ℕ) (k : ℕ) → Nowhere (Passes (is_byte 10) (c ∷ s)) 0 (suc k) → (b : Bool) → is_byte 10 c ≡ b → b ≡ false
first_not c s k n true e = absurd (n 0 (omega arith) (omega arith) e)
first_not c s k n false e = refl

-- the first LF ends a line
lines_at : (s : List ℕ) (k : ℕ) → k < length s → Nowhere (Passes (is_byte 10) s) 0 k → Passes (is_byte 10) s k → lines s ≡ take k s ∷ lines (drop (suc k) s)
lines_at [] k h n p = absurd (omega (arith, h))
lines_at (c ∷ s) zero h n p = ap (λ (b : Bool). cond b ([] ∷ lines s) (onto_first c (lines s))) p
lines_at (c ∷ s) (suc k) h n p =
    let e : is_byte 10 c ≡ false = first_not c s k n (is_byte 10 c) refl in
    ap (λ (b : Bool). cond b ([] ∷ lines s) (onto_first c (lines s))) e
    ∙ ap (onto_first c) (lines_at s k (omega (arith, h)) (below c s k n) p)

pub lines_first : (s : List ℕ) (k : ℕ) → IsFirstByte (is_byte 10) s (Some k) → lines s ≡ take k s ∷ lines (drop (k + 1) s)
lines_first s k h = let e : k + 1 ≡ suc k = omega arith in lines_at s k h.0.high h.0.before h.1 ∙ ap (λ (n : ℕ). take k s ∷ lines (drop n s)) (sym e)

-- without one there is a single line
pub lines_last : (s : List ℕ) → Nowhere (Passes (is_byte 10) s) 0 (length s) → lines s ≡ s ∷ []
lines_last [] n = refl
lines_last (c ∷ s) n =
    let e : is_byte 10 c ≡ false = first_not c s (length s) n (is_byte 10 c) refl in
    ap (λ (b : Bool). cond b ([] ∷ lines s) (onto_first c (lines s))) e ∙ ap (onto_first c) (lines_last s (below c s (length s) n))

-- ---- how many bytes are spelt

-- so many bytes, and those of what is left
abbrev pub with_length : ℕ → Result (List ℕ) Refusal → Result ℕ Refusal
with_length n r = and_then r (λ bytes. Ok (n + length bytes))

pub none_before : (r : Result (List ℕ) Refusal) → with_length 0 r ≡ told_length r
none_before (Ok bytes) = ap (λ (k : ℕ). Ok k) (omega arith)
none_before (Err why) = refl

line_more : (n m : ℕ) (l : Result (List ℕ) Refusal) (ls : Result (List ℕ) Refusal) → told_length l ≡ Ok m → with_length n (and_then l (λ bytes. and_then ls (λ more. Ok (bytes ++ more)))) ≡ with_length (n + m) ls
line_more n m (Ok bytes) (Ok more) h =
    let e : length bytes ≡ m = cc in
    ap (λ (k : ℕ). Ok k) (omega (arith, e, length-append bytes more))
line_more n m (Ok bytes) (Err why) h = refl
line_more n m (Err why) ls h = cc

line_bad : (n : ℕ) (why : Refusal) (l : Result (List ℕ) Refusal) (ls : Result (List ℕ) Refusal) → told_length l ≡ Err why → with_length n (and_then l (λ bytes. and_then ls (λ more. Ok (bytes ++ more)))) ≡ Err why
line_bad n why (Ok bytes) ls h = cc
line_bad n why (Err w) ls h = let e : w ≡ why = cc in ap Err e

module _ (s : List ℕ) (k : ℕ) (first : IsFirstByte (is_byte 10) s (Some k)) (n : ℕ) where
  pub length_more : (m : ℕ) → told_length (spelt (decode_of (take k s))) ≡ Ok m → with_length n (joined (lines s)) ≡ with_length (n + m) (joined (lines (drop (k + 1) s)))
  unfolding joined
  length_more m h = ap (λ (ls : List (List ℕ)). with_length n (joined ls)) (lines_first s k first) ∙ line_more n m (spelt (decode_of (take k s))) (joined (lines (drop (k + 1) s))) h

  pub length_bad : (why : Refusal) → told_length (spelt (decode_of (take k s))) ≡ Err why → with_length n (joined (lines s)) ≡ Err why
  unfolding joined
  length_bad why h = ap (λ (ls : List (List ℕ)). with_length n (joined ls)) (lines_first s k first) ∙ line_bad n why (spelt (decode_of (take k s))) (joined (lines (drop (k + 1) s))) h

module _ (s : List ℕ) (none : Nowhere (Passes (is_byte 10) s) 0 (length s)) (n : ℕ) where
  pub length_last : (m : ℕ) → told_length (spelt (decode_of s)) ≡ Ok m → with_length n (joined (lines s)) ≡ Ok (n + m)
  unfolding joined
  length_last m h = ap (λ (ls : List (List ℕ)). with_length n (joined ls)) (lines_last s none) ∙ line_more n m (spelt (decode_of s)) (Ok []) h ∙ ap (λ (k : ℕ). Ok k) (omega arith)

  pub length_last_bad : (why : Refusal) → told_length (spelt (decode_of s)) ≡ Err why → with_length n (joined (lines s)) ≡ Err why
  unfolding joined
  length_last_bad why h = ap (λ (ls : List (List ℕ)). with_length n (joined ls)) (lines_last s none) ∙ line_bad n why (spelt (decode_of s)) (Ok []) h

-- ---- the bytes that are spelt, written

-- the bytes of the lines that are left come next
pub record Left (text rest old now : List ℕ) (at : ℕ) : Type 0 where
  pub more : List ℕ
  pub whole : List ℕ
  pub is : joined (lines rest) ≡ Ok more
  pub all : joined (lines text) ≡ Ok whole
  pub goes : Going old now at more whole

pub all_left : (text old : List ℕ) → IsOkAnd (joined (lines text)) (λ bytes. length bytes ≤ length old) → Left text text old old 0
all_left text old h =
    let k = ok_and (joined (lines text)) (λ bytes. length bytes ≤ length old) h in
    record { more = k.0; whole = k.0; is = k.1; all = k.1; goes = going old k.0 k.2 }

-- the bytes of a line, and of those behind it
pub record Parts (l : Result (List ℕ) FromHexError) (ls : Result (List ℕ) Refusal) (all : List ℕ) : Type 0 where
  pub bytes : List ℕ
  pub more : List ℕ
  pub first : l ≡ Ok bytes
  pub then : ls ≡ Ok more
  pub both : bytes ++ more ≡ all

pub parts : (l : Result (List ℕ) FromHexError) (ls : Result (List ℕ) Refusal) (all : List ℕ) → and_then (spelt l) (λ bytes. and_then ls (λ more. Ok (bytes ++ more))) ≡ Ok all → Parts l ls all
parts (Ok bytes) (Ok more) all h = record { bytes = bytes; more = more; first = refl; then = refl; both = cc }
parts (Ok bytes) (Err why) all h = cc
parts (Err why) ls all h = cc

module _ {text rest old now : List ℕ} {at : ℕ} (left : Left text rest old now at) where
  -- a line is next
  line_next : (l : List ℕ) (ls : List (List ℕ)) → lines rest ≡ l ∷ ls → Parts (decode_of l) (joined ls) left.more
  unfolding joined
  line_next l ls e = parts (decode_of l) (joined ls) left.more (sym (ap joined e) ∙ left.is)

  pub line_fits : (l : List ℕ) (ls : List (List ℕ)) → lines rest ≡ l ∷ ls → IsOkAnd (decode_of l) (λ bytes. at + length bytes ≤ length now)
  line_fits l ls e =
      let p = line_next l ls e in
      to_and (λ bytes. at + length bytes ≤ length now) p.first (omega (arith, left.goes.room, ap length p.both, length-append p.bytes p.more))

  pub line_goes : (new : List ℕ) (next : ℕ) (l behind : List ℕ) → IfOk (decode_of l) (λ bytes. Wrote now at bytes new next) → lines rest ≡ l ∷ lines behind → Left text behind old new next
  line_goes new next l behind written e =
      let p = line_next l (lines behind) e in
      record {
        more = p.more;
        whole = left.whole;
        is = p.then;
        all = left.all;
        goes = goes_on p.bytes (going_by (sym p.both) left.goes) (from_if (λ bytes. Wrote now at bytes new next) p.first written);
      }

  pub line_ends : (new : List ℕ) (next : ℕ) (l : List ℕ) → IfOk (decode_of l) (λ bytes. Wrote now at bytes new next) → lines rest ≡ l ∷ [] → IfOk (joined (lines text)) (λ bytes. new ≡ put old 0 bytes)
  unfolding joined
  line_ends new next l written e =
      let p = line_next l [] e in
      let none : p.more ≡ [] = cc (p.then) in
      let done = goes_on p.bytes (going_by (sym p.both) left.goes) (from_if (λ bytes. Wrote now at bytes new next) p.first written) in
      subst (λ (r : Result (List ℕ) Refusal). IfOk r (λ bytes. new ≡ put old 0 bytes)) (sym left.all) (gone (going_by none done))

-- ---- the whole of it

-- what is told of a length
pub told : (r : Result (List ℕ) Refusal) (n : ℕ) → told_length r ≡ Ok n → (bytes : List ℕ) × (r ≡ Ok bytes) × (length bytes ≡ n)
told (Ok bytes) n h = (bytes, refl, cc)
told (Err why) n h = cc

pub told_refused : (r : Result (List ℕ) Refusal) (why : Refusal) → told_length r ≡ Err why → r ≡ Err why
told_refused (Ok bytes) why h = cc
told_refused (Err w) why h = let is : w ≡ why = cc in ap Err is

pub join_bad : (text : List ℕ) (why : Refusal) → told_length (joined (lines text)) ≡ Err why → joining text ≡ Err why
unfolding joining
join_bad text why h = ap (λ (r : Result (List ℕ) Refusal). and_then r entry_checked) (told_refused (joined (lines text)) why h)

pub join_checked : (text bytes : List ℕ) → joined (lines text) ≡ Ok bytes → joining text ≡ entry_checked bytes
unfolding joining
join_checked text bytes h = ap (λ (r : Result (List ℕ) Refusal). and_then r entry_checked) h

-- what is joined are the bytes of the lines
pub joined_is : (text bytes : List ℕ) → joining text ≡ Ok bytes → joined (lines text) ≡ Ok bytes
unfolding joining
joined_is text bytes h = by (joined (lines text)) h
  where
    by : (r : Result (List ℕ) Refusal) → and_then r entry_checked ≡ Ok bytes → r ≡ Ok bytes
    by (Ok b) k = ap Ok (sym (entry_passed b bytes k).1)
    by (Err why) k = cc

-- the size of what is spelt, checked
module _ (text : List ℕ) (n : ℕ) (h : told_length (joined (lines text)) ≡ Ok n) where
  checked : (r : Result Unit Refusal) → size_checked n ≡ r → joining text ≡ and_then r (λ u. joined (lines text))
  unfolding entry_checked
  checked r e =
      let t = told (joined (lines text)) n h in
      join_checked text t.0 t.1 ∙ ap (λ (k : ℕ). and_then (size_checked k) (λ u. Ok t.0)) t.2
      ∙ ap (λ (r : Result Unit Refusal). and_then r (λ u. Ok t.0)) e ∙ ap (λ (x : Result (List ℕ) Refusal). and_then r (λ u. x)) (sym t.1)

  pub size_passed : (u : Unit {0}) → size_checked n ≡ Ok u → told_length (joining text) ≡ Ok n
  size_passed u e = ap told_length (checked (Ok u) e) ∙ h

  pub size_refused : (why : Refusal) → size_checked n ≡ Err why → told_length (joining text) ≡ Err why
  size_refused why e = ap told_length (checked (Err why) e)
