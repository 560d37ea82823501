-- The text of a number and two figures: proved.
use Rattle.std.proofs.Common.{ℕ, ◌≡◌, ◌+◌, ◌%◌, ◌<◌, ◌≤◌, ◌^◌, refl, ap, subst, Bool, true, false, List, [], ◌++◌, length, length-append, arith, Ok, Err}
use Rattle.std.specs.Prelude.{Option, Some, None, codes, decimal, eqb, if◌then◌else◌}
use Rattle.std.proofs.lemmas.Fmt.{length-decimal-le}
use borrow.Author.Tests.{ne_eqb}
use Rattle.refusal.specs.declared.Refusal.{Refusal}
use Rattle.refusal.specs.declared.Refusal.TheVariants.{
  UnexpectedLength,
  TooShort,
  EntryLengthMismatch,
  ClaimBelowHeader,
  TooLarge,
  OutputTooSmall,
  TooLong,
  SectionsDisagree,
  BadBlock,
  ZeroEntryLength,
  BadText,
  BadHexadecimal,
  NameNotFound,
  NoSuchNumber,
  TooDeep,
  EndByte,
  NotInSheet,
  BadSheet,
  NotPlain,
  BadPath,
  NoSuchMember,
  NoSuchType,
  WrongDimensions,
  NoOffset,
  OffsetTooLarge,
  TooManyAliases,
}
use Rattle.refusal.specs.Refusal.{figures_of}
use Rattle.refusal.specs.Text.{text_of}
use Rattle.refusal_text.specs.Told.{unfound, refusal_of, refusal_from_10, text_if, writing_text}
use Rattle.refusal_text.specs.Meant.{TextsMeant}

-- what is written of a number that a refusal has, and of one that none has
pub written : (number e g : ℕ) (why : Refusal) → refusal_of number e g ≡ Some why → writing_text number e g ≡ Ok (text_of why)
unfolding writing_text
written number e g why h = ap (text_if number) h

pub not_written : (number e g : ℕ) → refusal_of number e g ≡ None → writing_text number e g ≡ Err (NoSuchNumber 24 number)
unfolding writing_text
not_written number e g h = ap (text_if number) h

abbrev Own : Refusal → Type 0
Own why = ((place byte : ℕ) → why ≡ EndByte place byte → byte < 256) → writing_text (figures_of why).number (figures_of why).expected (figures_of why).got ≡ Ok (text_of why)

own_end : (place byte : ℕ) → Own (EndByte place byte)
unfolding refusal_of refusal_from_10
own_end place byte h =
    let k : byte < 256 = h place byte refl in
    let e : byte % 256 ≡ byte = omega arith in
    written 16 place byte (EndByte place byte) (ap (λ (b : ℕ). Some (EndByte place b)) e)

own : (why : Refusal) → Own why
unfolding writing_text refusal_of refusal_from_10 unfound
own (UnexpectedLength needed present) h = refl
own (TooShort needed present) h = refl
own (EntryLengthMismatch needed available) h = refl
own (ClaimBelowHeader header claim) h = refl
own (TooLarge length) h = refl
own (OutputTooSmall needed lent) h = refl
own (TooLong most actual) h = refl
own (SectionsDisagree section) h = refl
own (BadBlock count good) h = refl
own ZeroEntryLength h = refl
own (BadText place kind) h = refl
own BadHexadecimal h = refl
own NameNotFound h = refl
own (NoSuchNumber count asked) h = refl
own TooDeep h = refl
own (EndByte place byte) h = own_end place byte h
own (NotInSheet entry reason) h = refl
own (BadSheet row column) h = refl
own (NotPlain place) h = refl
own (BadPath place) h = refl
own (NoSuchMember place) h = refl
own (NoSuchType place) h = refl
own (WrongDimensions place dimensions) h = refl
own (NoOffset place flag) h = refl
own (OffsetTooLarge offset) h = refl
own (TooManyAliases place) h = refl

none_past : (number e g : ℕ) → 24 < number → refusal_of number e g ≡ None
unfolding refusal_of refusal_from_10
none_past number e g h =
    let other = λ (k : ℕ) (l : k ≤ 24). ne_eqb number k (λ (q : number ≡ k). omega (arith, q, l, h)) in
    simp (
      other 1 (omega arith),
      other 2 (omega arith),
      other 3 (omega arith),
      other 4 (omega arith),
      other 5 (omega arith),
      other 6 (omega arith),
      other 7 (omega arith),
      other 8 (omega arith),
      other 9 (omega arith),
      other 10 (omega arith),
      other 11 (omega arith),
      other 12 (omega arith),
      other 13 (omega arith),
      other 14 (omega arith),
      other 15 (omega arith),
      other 16 (omega arith),
      other 17 (omega arith),
      other 18 (omega arith),
      other 19 (omega arith),
      other 20 (omega arith),
      other 21 (omega arith),
      other 22 (omega arith),
      other 23 (omega arith),
      other 24 (omega arith),
    )

-- how long a text is
decimal_most : (n : ℕ) → n < 2 ^ 64 → length (decimal n) ≤ 20
decimal_most n h = length-decimal-le 20 n (omega arith) (omega (arith, h)) h

one_long : (before : List ℕ) (n : ℕ) (after : List ℕ) → n < 2 ^ 64 → length before + length after ≤ 108 → length (before ++ (decimal n ++ after)) ≤ 128
one_long before n after h l = omega (arith, length-append before (decimal n ++ after), length-append (decimal n) after, decimal_most n h, l)

two_long : (before : List ℕ) (n : ℕ) (between : List ℕ) (m : ℕ) (after : List ℕ) → n < 2 ^ 64 → m < 2 ^ 64 → length before + length between + length after ≤ 88
    → length (before ++ (decimal n ++ (between ++ (decimal m ++ after)))) ≤ 128
two_long before n between m after h k l =
    omega (
      arith,
      length-append before (decimal n ++ (between ++ (decimal m ++ after))),
      length-append (decimal n) (between ++ (decimal m ++ after)),
      length-append between (decimal m ++ after),
      length-append (decimal m) after,
      decimal_most n h,
      decimal_most m k,
      l,
    )

-- what is written of an answer to which refusal it is
abbrev Short : ℕ → Option Refusal → Type 0
Short number o = (text : List ℕ) → text_if number o ≡ Ok text → length text ≤ 128

told_short : (number : ℕ) (why : Refusal) → length (text_of why) ≤ 128 → Short number (Some why)
told_short number why l text h = let e : text_of why ≡ text = cc in subst (λ (xs : List ℕ). length xs ≤ 128) e l

none_short : (number : ℕ) → Short number None
none_short number text h = cc

-- one number more
pick : (number : ℕ) (why : Refusal) (others : Option Refusal) (b : Bool) → length (text_of why) ≤ 128 → Short number others → Short number (if b then Some why else others)
pick number why others true l t = told_short number why l
pick number why others false l t = t

one_of : (why other : Refusal) (b : Bool) → length (text_of why) ≤ 128 → length (text_of other) ≤ 128 → length (text_of (if b then why else other)) ≤ 128
one_of why other true l m = l
one_of why other false l m = m

unfound_short : (e g : ℕ) → e < 2 ^ 64 → length (text_of (unfound e g)) ≤ 128
unfolding unfound
unfound_short e g h =
    one_of (NoSuchMember e) _ (eqb g 1) (one_long (codes "name not found: no member at byte ") e (codes " of the path") h (omega arith))
    (one_of (NoSuchType e) _ (eqb g 2) (one_long (codes "name not found: no data type at byte ") e (codes " of the path") h (omega arith)) (omega arith))

short : (number e g : ℕ) → e < 2 ^ 64 → g < 2 ^ 64 → Short number (refusal_of number e g)
unfolding refusal_of refusal_from_10
short number e g h k =
    let low : g % 256 < 2 ^ 64 = omega (arith, k) in
    pick number (UnexpectedLength e g) _ (eqb number 1) (two_long (codes "unexpected length: ") e (codes " needed, ") g (codes " present") h k (omega arith))
    (pick number (TooShort e g) _ (eqb number 2) (two_long (codes "too short: ") e (codes " needed, ") g (codes " present") h k (omega arith))
    (pick number (EntryLengthMismatch e g) _ (eqb number 3) (two_long (codes "entry length mismatch: ") e (codes " claimed or needed, ") g (codes " available") h k (omega arith))
    (pick number (ClaimBelowHeader e g) _ (eqb number 4) (two_long (codes "claim below the header: ") e (codes " in the header, ") g (codes " claimed") h k (omega arith))
    (pick number (TooLarge g) _ (eqb number 5) (one_long (codes "too large: 16777216 at most, ") g (codes " given") k (omega arith))
    (pick number (OutputTooSmall e g) _ (eqb number 6) (two_long (codes "output too small: ") e (codes " needed, ") g (codes " lent") h k (omega arith))
    (pick number (TooLong e g) _ (eqb number 7) (two_long (codes "string or count too long: ") e (codes " at most, ") g (codes " given") h k (omega arith))
    (pick number (SectionsDisagree e) _ (eqb number 8) (one_long (codes "symbol flags and sections disagree: section ") e [] h (omega arith))
    (pick number (BadBlock e g) _ (eqb number 9) (two_long (codes "block is not its count of good records: ") e (codes " counted, ") g (codes " good at its start") h k (omega arith))
    (pick number ZeroEntryLength _ (eqb number 10) (omega arith)
    (pick number (BadText e g) _ (eqb number 11) (two_long (codes "text: fault ") g (codes " at byte ") e [] k h (omega arith))
    (pick number BadHexadecimal _ (eqb number 12) (omega arith)
    (pick number (unfound e g) _ (eqb number 13) (unfound_short e g h)
    (pick number (NoSuchNumber e g) _ (eqb number 14) (two_long (codes "no such number: ") e (codes " there, ") g (codes " asked") h k (omega arith))
    (pick number TooDeep _ (eqb number 15) (omega arith)
    (pick number (EndByte e (g % 256)) _ (eqb number 16) (two_long (codes "end byte is not 0: ") (g % 256) (codes " at byte ") e [] low h (omega arith))
    (pick number (NotInSheet e g) _ (eqb number 17) (two_long (codes "not for a sheet: entry ") e (codes ", reason ") g [] h k (omega arith))
    (pick number (BadSheet e g) _ (eqb number 18) (two_long (codes "bad sheet: row ") e (codes ", column ") g [] h k (omega arith))
    (pick number (NotPlain e) _ (eqb number 19) (one_long (codes "not in plain form: byte ") e (codes " departs") h (omega arith))
    (pick number (BadPath e) _ (eqb number 20) (one_long (codes "no path of a variable: fault at byte ") e [] h (omega arith))
    (pick number (WrongDimensions e g) _ (eqb number 21) (two_long (codes "wrong dimensions: subscripts at byte ") e (codes " of the path, ") g (codes " dimensions there") h k (omega arith))
    (pick number (NoOffset e g) _ (eqb number 22) (two_long (codes "no offset: flag ") g (codes " at byte ") e (codes " of the path") k h (omega arith))
    (pick number (OffsetTooLarge g) _ (eqb number 23) (one_long (codes "index offset too large: 4294967295 at most, ") g (codes " here") k (omega arith))
    (pick number (TooManyAliases e) _ (eqb number 24) (one_long (codes "too many aliases: more than 16 at byte ") e (codes " of the path") h (omega arith))
    (none_short number))))))))))))))))))))))))

-- a text that is written is short
short_written : (number e g : ℕ) → e < 2 ^ 64 → g < 2 ^ 64 → (text : List ℕ) → writing_text number e g ≡ Ok text → length text ≤ 128
unfolding writing_text
short_written number e g h k text w = short number e g h k text w

none_zero : (e g : ℕ) → refusal_of 0 e g ≡ None
unfolding refusal_of refusal_from_10
none_zero e g = refl

pub texts_meant : TextsMeant
texts_meant = record {
  own = own;
  none = λ e g. not_written 0 e g (none_zero e g);
  past = λ number e g h. not_written number e g (none_past number e g h);
  short = short_written;
}
