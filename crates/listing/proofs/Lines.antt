-- What is read so far, its lines, and what is written of them.
use Rattle.std.proofs.Common.{◌≡◌, ℕ, zero, suc, ◌+◌, ◌-◌, ◌<◌, ◌≤◌, Bool, true, false, List, [], ◌∷◌, ◌++◌, length, take, drop, refl, sym, ap, subst, ◌∙◌, arith, append_assoc, append-nil, length-append, length-take-le, take_at}
use Rattle.std.specs.Prelude.{ltb, cond, OnOk, OnErr, IfSome}
use Rattle.std.specs.List.{onto_first}
use Rattle.std.specs.declared.option.Option.{Option}
use Rattle.std.specs.declared.option.Option.TheVariants.{None, Some}
use Rattle.std.specs.declared.result.Result.{Result}
use Rattle.std.specs.declared.result.Result.TheVariants.{Ok, Err}
use Rattle.std.specs.Io.KnownBytes.{Appends, Consumes, IsAtEnd, Keeps}
use Rattle.std.proofs.KnownBytes.{Appends-trans, Appends-kept, Consumes-trans}
use borrow.Author.Tests.{lt-ltb, ltb-true, ltb-false}
use Rattle.memchr.specs.Find.{is_byte, Passes, Nowhere}
use Rattle.refusal.specs.declared.Mode.{Mode}
use Rattle.listing.specs.Listing.{longest, line_text, header, lines, lines_text, listing, listing_of_ended, goes_on, AppendsFront, Reading}
use Rattle.listing.proofs.Rows.{behind, behind_is, front_more, front_longer, front_whole}
use Rattle.listing.specs.declared.Line.{Line}

-- the first line of some lines goes on
onto_goes : (c : ℕ) (w : List ℕ) (ls : List (List ℕ)) → onto_first c (goes_on w ls) ≡ goes_on (c ∷ w) ls
onto_goes c w [] = refl
onto_goes c w (l ∷ ls) = refl

goes_twice : (u w : List ℕ) (ls : List (List ℕ)) → goes_on u (goes_on w ls) ≡ goes_on (u ++ w) ls
goes_twice u w [] = refl
goes_twice u w (l ∷ ls) = ap (λ (x : List ℕ). x ∷ ls) (sym (append_assoc u w l))

onto_not_none : (c : ℕ) (ls : List (List ℕ)) → goes_on [] (onto_first c ls) ≡ onto_first c ls
onto_not_none c [] = refl
onto_not_none c (l ∷ ls) = refl

-- there is always a line
some_line : (s : List ℕ) → goes_on [] (lines s) ≡ lines s
some_line [] = refl
some_line (c ∷ s) = by (is_byte 10 c)
  where
    by : (b : Bool) → goes_on [] (cond b ([] ∷ lines s) (onto_first c (lines s))) ≡ cond b ([] ∷ lines s) (onto_first c (lines s))
    by true = refl
    by false = onto_not_none c (lines s)

below : (c : ℕ) (s : List ℕ) (k : ℕ) → Nowhere (Passes (is_byte 10) (c ∷ s)) 0 (suc k) → Nowhere (Passes (is_byte 10) s) 0 k
below c s k n j low high p = n (suc j) (omega arith) (omega (arith, high)) p

first_not : (c : ℕ) (s : List ℕ) (k : ℕ) → Nowhere (Passes (is_byte 10) (c ∷ s)) 0 (suc k) → (b : Bool) → is_byte 10 c ≡ b → b ≡ false
first_not c s k n true e = absurd (n 0 (omega arith) (omega arith) e)
first_not c s k n false e = refl

-- no LF: the line goes on
pub no_feed : (w t : List ℕ) → Nowhere (Passes (is_byte 10) w) 0 (length w) → lines (w ++ t) ≡ goes_on w (lines t)
no_feed [] t n = sym (some_line t)
no_feed (c ∷ w) t n =
    let e : is_byte 10 c ≡ false = first_not c w (length w) n (is_byte 10 c) refl in
    ap (λ (b : Bool). cond b ([] ∷ lines (w ++ t)) (onto_first c (lines (w ++ t)))) e
    ∙ ap (onto_first c) (no_feed w t (below c w (length w) n)) ∙ onto_goes c w (lines t)

-- the first LF ends a line
pub feed_at : (s : List ℕ) (k : ℕ) (t : List ℕ) → k < length s → Nowhere (Passes (is_byte 10) s) 0 k → Passes (is_byte 10) s k → lines (s ++ t) ≡ take k s ∷ lines (drop (suc k) s ++ t)
feed_at [] k t h n p = absurd (omega (arith, h))
feed_at (c ∷ s) zero t h n p = ap (λ (b : Bool). cond b ([] ∷ lines (s ++ t)) (onto_first c (lines (s ++ t)))) p
feed_at (c ∷ s) (suc k) t h n p =
    let e : is_byte 10 c ≡ false = first_not c s k n (is_byte 10 c) refl in
    ap (λ (b : Bool). cond b ([] ∷ lines (s ++ t)) (onto_first c (lines (s ++ t)))) e
    ∙ ap (onto_first c) (feed_at s k t (omega (arith, h)) (below c s k n) p)

-- no more lines than characters, and one
onto_few : (c : ℕ) (ls : List (List ℕ)) → length (onto_first c ls) ≤ suc (length ls)
onto_few c [] = omega arith
onto_few c (l ∷ ls) = omega arith

few_lines : (s : List ℕ) → length (lines s) ≤ suc (length s)
few_lines [] = omega arith
few_lines (c ∷ s) = by (is_byte 10 c) (few_lines s)
  where
    by : (b : Bool) → length (lines s) ≤ suc (length s) → length (cond b ([] ∷ lines s) (onto_first c (lines s))) ≤ suc (suc (length s))
    by true h = omega (arith, h)
    by false h = omega (arith, h, onto_few c (lines s))

-- what is held of a line
held_more : (n : ℕ) (u w : List ℕ) → take n u ++ take (n - length (take n u)) w ≡ take n (u ++ w)
held_more zero u w = refl
held_more (suc n) [] w = let e : suc n - 0 ≡ suc n = omega arith in ap (λ (m : ℕ). take m w) e
held_more (suc n) (c ∷ u) w =
    let e : suc n - suc (length (take n u)) ≡ n - length (take n u) = omega arith in
    ap (λ (m : ℕ). c ∷ (take n u ++ take m w)) e ∙ ap (λ (x : List ℕ). c ∷ x) (held_more n u w)

take_long : (n : ℕ) (u : List ℕ) → n < length u → length (take n u) ≡ n
take_long n u h = length-take-le n u (omega (arith, h))

take_short : (n : ℕ) (u : List ℕ) → length u ≤ n → take n u ≡ u
take_short zero [] h = refl
take_short zero (c ∷ u) h = absurd (omega (arith, h))
take_short (suc n) [] h = refl
take_short (suc n) (c ∷ u) h = ap (λ (x : List ℕ). c ∷ x) (take_short n u (omega (arith, h)))

-- it prints what the whole line does
pub held_text : (mode : Mode) (number : ℕ) (u : List ℕ) → line_text mode number (take (longest + 1) u) ≡ line_text mode number u
unfolding line_text
held_text mode number u = by (ltb (longest + 1) (length u)) refl
  where
    by : (b : Bool) → ltb (longest + 1) (length u) ≡ b → line_text mode number (take (longest + 1) u) ≡ line_text mode number u
    by true e =
        let l : longest + 1 < length u = ltb-true (longest + 1) (length u) e in
        let k : length (take (longest + 1) u) ≡ longest + 1 = take_long (longest + 1) u l in
        let a : ltb longest (length (take (longest + 1) u)) ≡ true = lt-ltb longest (length (take (longest + 1) u)) (omega (arith, k)) in
        let b : ltb longest (length u) ≡ true = lt-ltb longest (length u) (omega (arith, l)) in
        simp (a, b)
    by false e = ap (line_text mode number) (take_short (longest + 1) u (ltb-false (longest + 1) (length u) e))

pub one_more : (mode : Mode) (n : ℕ) (xs : List (List ℕ)) (l : List ℕ) → lines_text mode n (xs ++ (l ∷ [])) ≡ lines_text mode n xs ++ line_text mode (n + length xs) l
one_more mode n [] l = let e : n ≡ n + 0 = omega arith in append-nil (line_text mode n l) ∙ ap (λ (m : ℕ). line_text mode m l) e
one_more mode n (x ∷ xs) l =
    let e : n + 1 + length xs ≡ n + suc (length xs) = omega arith in
    ap (λ (y : List ℕ). line_text mode n x ++ y) (one_more mode (n + 1) xs l ∙ ap (λ (m : ℕ). lines_text mode (n + 1) xs ++ line_text mode m l) e)
    ∙ sym (append_assoc (line_text mode n x) (lines_text mode (n + 1) xs) (line_text mode (n + suc (length xs)) l))

-- nothing is read
pub begins : {mode : Mode} {before now : Option (List ℕ)} {line : Line} → Appends before now header → line.number ≡ 1 → line.digits.items ≡ [] → Reading mode [] [] before now line
begins w n d = record {
  done = [];
  last = [];
  splits = λ t. sym (some_line t);
  number = n;
  held = d;
  written = w;
}

module _ {mode : Mode} {before now : Option (List ℕ)} {line : Line} where
  -- a part is read, and still to be looked at
  pub comes : (read part : List ℕ) → Reading mode read [] before now line → Reading mode (read ++ part) part before now line
  comes read part r = record {
    done = r.done;
    last = r.last;
    splits = λ t. ap lines (append_assoc read part t) ∙ r.splits (part ++ t);
    number = r.number;
    held = r.held;
    written = r.written;
  }

  -- the output is flushed
  pub flushes : (read rest : List ℕ) (after : Option (List ℕ)) → Reading mode read rest before now line → Keeps now after → Reading mode read rest before after line
  flushes read rest after r k = record {
    done = r.done;
    last = r.last;
    splits = r.splits;
    number = r.number;
    held = r.held;
    written = Appends-kept before now after _ r.written k;
  }

  -- what has no LF is held
  pub holds : (read rest : List ℕ) (next : Line) → Reading mode read rest before now line → Nowhere (Passes (is_byte 10) rest) 0 (length rest)
      → next.number ≡ line.number → next.digits.items ≡ line.digits.items ++ take (longest + 1 - length line.digits.items) rest → Reading mode read [] before now next
  holds read rest next r n e d = record {
    done = r.done;
    last = r.last ++ rest;
    splits = λ t. r.splits t ∙ ap (λ (x : List (List ℕ)). r.done ++ goes_on r.last x) (no_feed rest t n) ∙ ap (λ (x : List (List ℕ)). r.done ++ x) (goes_twice r.last rest (lines t));
    number = e ∙ r.number;
    held = d ∙ ap (λ (x : List ℕ). x ++ take (longest + 1 - length x) rest) r.held ∙ held_more (longest + 1) r.last rest;
    written = r.written;
  }

  -- a line ends, and is listed
  pub turns : (read rest : List ℕ) (k : ℕ) (full next : Line) (after : Option (List ℕ)) → Reading mode read rest before now line → k < length rest
      → Nowhere (Passes (is_byte 10) rest) 0 k → Passes (is_byte 10) rest k
      → full.number ≡ line.number → full.digits.items ≡ line.digits.items ++ take (longest + 1 - length line.digits.items) (take k rest)
      → Appends now after (line_text mode full.number full.digits.items) → next.number ≡ full.number + 1 → next.digits.items ≡ []
      → Reading mode read (drop (suc k) rest) before after next
  turns read rest k full next after r h n p e d w f z =
      let whole : List ℕ = r.last ++ take k rest in
      let held : full.digits.items ≡ take (longest + 1) whole = d ∙ ap (λ (x : List ℕ). x ++ take (longest + 1 - length x) (take k rest)) r.held ∙ held_more (longest + 1) r.last (take k rest) in
      let number : full.number ≡ 1 + length r.done = e ∙ r.number in
      let text : line_text mode full.number full.digits.items ≡ line_text mode (1 + length r.done) whole =
      ap (line_text mode full.number) held ∙ held_text mode full.number whole ∙ ap (λ (m : ℕ). line_text mode m whole) number in
      let l : length (r.done ++ (whole ∷ [])) ≡ length r.done + 1 = length-append r.done (whole ∷ []) in
      record {
        done = r.done ++ (whole ∷ []);
        last = [];
        splits = λ t.
            r.splits t ∙ ap (λ (x : List (List ℕ)). r.done ++ goes_on r.last x) (feed_at rest k t h n p)
            ∙ sym (append_assoc r.done (whole ∷ []) (lines (drop (suc k) rest ++ t)))
            ∙ ap (λ (x : List (List ℕ)). (r.done ++ (whole ∷ [])) ++ x) (sym (some_line (drop (suc k) rest ++ t)));
        number = omega (arith, f, number, l);
        held = z;
        written = subst (Appends before after)
            (ap (λ (x : List ℕ). (header ++ lines_text mode 1 r.done) ++ x) text ∙ append_assoc header (lines_text mode 1 r.done) _ ∙ ap (λ (x : List ℕ). header ++ x) (sym (one_more mode 1 r.done whole)))
            (Appends-trans before now after _ _ r.written w);
      }

  whole_is : (read : List ℕ) (r : Reading mode read [] before now line) → lines read ≡ r.done ++ (r.last ∷ [])
  whole_is read r = ap lines (sym (append-nil read)) ∙ r.splits [] ∙ ap (λ (x : List ℕ). r.done ++ (x ∷ [])) (append-nil r.last)

  -- so the number of the line under way is no more than that of the characters read, and one
  pub number_fits : (read : List ℕ) → Reading mode read [] before now line → line.number ≤ length read + 1
  number_fits read r = omega (arith, r.number, few_lines read, ap length (whole_is read r), length-append r.done (r.last ∷ []))

  -- the input ends, and the line under way is listed
  pub finishes : (read : List ℕ) (after : Option (List ℕ)) → Reading mode read [] before now line → Appends now after (line_text mode line.number line.digits.items) → Appends before after (listing mode read)
  unfolding listing
  finishes read after r w =
      let text : line_text mode line.number line.digits.items ≡ line_text mode (1 + length r.done) r.last =
      ap (line_text mode line.number) r.held ∙ held_text mode line.number r.last ∙ ap (λ (m : ℕ). line_text mode m r.last) r.number in
      subst (Appends before after)
      (ap (λ (x : List ℕ). (header ++ lines_text mode 1 r.done) ++ x) text ∙ append_assoc header (lines_text mode 1 r.done) _
      ∙ ap (λ (x : List ℕ). header ++ x) (sym (one_more mode 1 r.done r.last)) ∙ ap (λ (x : List (List ℕ)). header ++ lines_text mode 1 x) (sym (whole_is read r)))
      (Appends-trans before now after _ _ r.written w)

  -- the lines that have ended are listed
  pub so_far : (read : List ℕ) → Reading mode read [] before now line → Appends before now (listing_of_ended mode read)
  unfolding listing_of_ended
  so_far read r =
      let e = whole_is read r in
      let n : length (lines read) - 1 ≡ length r.done = omega (arith, ap length e, length-append r.done (r.last ∷ [])) in
      subst (Appends before now)
      (ap (λ (x : List (List ℕ)). header ++ lines_text mode 1 x) (sym (ap (λ (m : ℕ). take m (lines read)) n ∙ ap (take (length r.done)) e ∙ take_at r.done (r.last ∷ []) (length r.done) refl)))
      r.written

-- all that the reader had is read
pub all_read : (mode : Mode) (before after : Option (List ℕ)) (input left : Option (List ℕ)) (read : List ℕ) → Consumes input left read → IsAtEnd left
    → Appends before after (listing mode read) → IfSome input (λ s. Appends before after (listing mode s))
all_read mode before after None left read c e w = tt
all_read mode before after (Some x) None read c e w = absurd c
all_read mode before after (Some x) (Some y) read c e w = subst (λ (l : List ℕ). Appends before after (listing mode l)) (sym (c ∙ ap (λ (l : List ℕ). read ++ l) e ∙ append-nil read)) w

-- a read gave nothing, and the line under way is listed
pub at_end : (mode : Mode) (before now after input left left' : Option (List ℕ)) (line : Line) (read buf : List ℕ) (n : ℕ) → n ≡ 0 → Consumes input left read → Consumes left left' (take n buf) → IsAtEnd left'
    → Reading mode read [] before now line → Appends now after (line_text mode line.number line.digits.items) → IfSome input (λ s. Appends before after (listing mode s))
at_end mode before now after input left left' line read buf n z c d e r w =
    let none : read ++ take n buf ≡ read = ap (λ (m : ℕ). read ++ take m buf) z ∙ append-nil read in
    all_read mode before after input left' read (subst (Consumes input left') none (Consumes-trans input left left' read (take n buf) c d)) e (finishes read after r w)

pub all_kept : (mode : Mode) (input before now after : Option (List ℕ)) → IfSome input (λ s. Appends before now (listing mode s)) → Keeps now after → IfSome input (λ s. Appends before after (listing mode s))
all_kept mode None before now after w k = tt
all_kept mode (Some s) before now after w k = Appends-kept before now after (listing mode s) w k

pub on_ok : {T E P Q : Type 0} (r : Result T E) → (P → Q) → OnOk r P → OnOk r Q
on_ok (Ok x) f p = f p
on_ok (Err e) f p = tt

-- what is left behind a line and its LF
pub after_line : (s : List ℕ) (k : ℕ) → behind s (k + 1) ≡ drop (suc k) s
after_line s k = let e : k + 1 ≡ suc k = omega arith in behind_is s (k + 1) ∙ ap (λ (m : ℕ). drop m s) e

-- ---- what is written where an error ends it
lines_append : (mode : Mode) (n : ℕ) (xs ys : List (List ℕ)) → lines_text mode n (xs ++ ys) ≡ lines_text mode n xs ++ lines_text mode (n + length xs) ys
lines_append mode n [] ys = let e : n ≡ n + 0 = omega arith in ap (λ (m : ℕ). lines_text mode m ys) e
lines_append mode n (x ∷ xs) ys =
    let e : n + 1 + length xs ≡ n + suc (length xs) = omega arith in
    ap (λ (l : List ℕ). line_text mode n x ++ l) (lines_append mode (n + 1) xs ys ∙ ap (λ (m : ℕ). lines_text mode (n + 1) xs ++ lines_text mode m ys) e)
    ∙ sym (append_assoc (line_text mode n x) (lines_text mode (n + 1) xs) (lines_text mode (n + suc (length xs)) ys))

-- of a listing the lines that are done, and those behind them
listing_parts : (mode : Mode) (s : List ℕ) (xs ys : List (List ℕ)) → lines s ≡ xs ++ ys → (header ++ lines_text mode 1 xs) ++ lines_text mode (1 + length xs) ys ≡ listing mode s
unfolding listing
listing_parts mode s xs ys e =
    append_assoc header (lines_text mode 1 xs) (lines_text mode (1 + length xs) ys)
    ∙ ap (λ (l : List ℕ). header ++ l) (sym (lines_append mode 1 xs ys) ∙ ap (lines_text mode 1) (sym e))

module _ {mode : Mode} {before now : Option (List ℕ)} {line : Line} where
  -- the lines that have ended, whatever is read behind
  pub front_so_far : (read rest more : List ℕ) → Reading mode read rest before now line → AppendsFront before now (listing mode (read ++ more))
  front_so_far read rest more r = record {
    front = header ++ lines_text mode 1 r.done;
    left = lines_text mode (1 + length r.done) (goes_on r.last (lines (rest ++ more)));
    is = listing_parts mode (read ++ more) r.done (goes_on r.last (lines (rest ++ more))) (r.splits more);
    appended = r.written;
  }

  -- and then a front of the line that ends
  pub front_of_line : (read rest more : List ℕ) (k : ℕ) (full : Line) (after : Option (List ℕ)) → Reading mode read rest before now line → k < length rest
      → Nowhere (Passes (is_byte 10) rest) 0 k → Passes (is_byte 10) rest k
      → full.number ≡ line.number → full.digits.items ≡ line.digits.items ++ take (longest + 1 - length line.digits.items) (take k rest)
      → AppendsFront now after (line_text mode full.number full.digits.items) → AppendsFront before after (listing mode (read ++ more))
  front_of_line read rest more k full after r h n p e d f =
      let whole : List ℕ = r.last ++ take k rest in
      let behind : List (List ℕ) = lines (drop (suc k) rest ++ more) in
      let held : full.digits.items ≡ take (longest + 1) whole = d ∙ ap (λ (x : List ℕ). x ++ take (longest + 1 - length x) (take k rest)) r.held ∙ held_more (longest + 1) r.last (take k rest) in
      let number : full.number ≡ 1 + length r.done = e ∙ r.number in
      let text : line_text mode full.number full.digits.items ≡ line_text mode (1 + length r.done) whole =
      ap (line_text mode full.number) held ∙ held_text mode full.number whole ∙ ap (λ (m : ℕ). line_text mode m whole) number in
      let split : lines (read ++ more) ≡ r.done ++ (whole ∷ behind) = r.splits more ∙ ap (λ (x : List (List ℕ)). r.done ++ goes_on r.last x) (feed_at rest k more h n p) in
      front_more (header ++ lines_text mode 1 r.done) (lines_text mode (1 + length r.done + 1) behind) r.written
      (subst (AppendsFront now after) text f)
      (listing_parts mode (read ++ more) r.done (whole ∷ behind) split)

  -- and of the last, where the input ends
  pub front_at_end : (read : List ℕ) (after : Option (List ℕ)) → Reading mode read [] before now line → AppendsFront now after (line_text mode line.number line.digits.items) → AppendsFront before after (listing mode read)
  front_at_end read after r f =
      let text : line_text mode line.number line.digits.items ≡ line_text mode (1 + length r.done) r.last =
      ap (line_text mode line.number) r.held ∙ held_text mode line.number r.last ∙ ap (λ (m : ℕ). line_text mode m r.last) r.number in
      front_more (header ++ lines_text mode 1 r.done) [] r.written
      (subst (AppendsFront now after) text f)
      (listing_parts mode read r.done (r.last ∷ []) (whole_is read r))

-- of the header alone
pub header_front : (mode : Mode) (s : List ℕ) {before after : Option (List ℕ)} → AppendsFront before after header → AppendsFront before after (listing mode s)
unfolding listing
header_front mode s f = front_longer (lines_text mode 1 (lines s)) f

-- of all that the reader has
pub front_of_input : (mode : Mode) (before after input left : Option (List ℕ)) (read : List ℕ) → Consumes input left read
    → ((more : List ℕ) → AppendsFront before after (listing mode (read ++ more))) → IfSome input (λ s. AppendsFront before after (listing mode s))
front_of_input mode before after None left read c f = tt
front_of_input mode before after (Some x) None read c f = absurd c
front_of_input mode before after (Some x) (Some y) read c f = subst (λ (s : List ℕ). AppendsFront before after (listing mode s)) (sym c) (f y)

pub front_all_read : (mode : Mode) (before after input left : Option (List ℕ)) (read : List ℕ) → Consumes input left read → IsAtEnd left
    → AppendsFront before after (listing mode read) → IfSome input (λ s. AppendsFront before after (listing mode s))
front_all_read mode before after None left read c e f = tt
front_all_read mode before after (Some x) None read c e f = absurd c
front_all_read mode before after (Some x) (Some y) read c e f = subst (λ (l : List ℕ). AppendsFront before after (listing mode l)) (sym (c ∙ ap (λ (l : List ℕ). read ++ l) e ∙ append-nil read)) f

-- a read gave nothing, and of the line under way a front is listed
pub front_ended : (mode : Mode) (before now after input left left' : Option (List ℕ)) (line : Line) (read buf : List ℕ) (n : ℕ) → n ≡ 0 → Consumes input left read → Consumes left left' (take n buf) → IsAtEnd left'
    → Reading mode read [] before now line → AppendsFront now after (line_text mode line.number line.digits.items) → IfSome input (λ s. AppendsFront before after (listing mode s))
front_ended mode before now after input left left' line read buf n z c d e r f =
    let none : read ++ take n buf ≡ read = ap (λ (m : ℕ). read ++ take m buf) z ∙ append-nil read in
    front_all_read mode before after input left' read (subst (Consumes input left') none (Consumes-trans input left left' read (take n buf) c d)) e (front_at_end read after r f)

pub front_listed : (mode : Mode) (input before after : Option (List ℕ)) → IfSome input (λ s. Appends before after (listing mode s)) → IfSome input (λ s. AppendsFront before after (listing mode s))
front_listed mode None before after w = tt
front_listed mode (Some s) before after w = front_whole w

pub front_any : {P : List ℕ → Type 0} (input : Option (List ℕ)) → ((s : List ℕ) → P s) → IfSome input P
front_any None f = tt
front_any (Some s) f = f s

-- an error, whichever
pub on_err : {T E P : Type 0} (r : Result T E) → P → OnErr r P
on_err (Ok x) p = tt
on_err (Err e) p = p
