-- Which part of a path a refusal tells, and in which words.
use Rattle.std.proofs.Common.{ℕ, suc, ◌+◌, ◌≤◌, ◌≡◌, ◌≢◌, refl, sym, ap, ◌∙◌, Bool, true, false, List, [], ◌∷◌, ◌++◌, length, drop, arith, Bor, cond, if◌then◌else◌, not, length-append}
use Rattle.std.specs.Prelude.{Option, Some, None, nat_lt}
use Rattle.std.specs.Fmt.{digits}
use Rattle.std.specs.List.{All, position_or_len}
use Rattle.std.proofs.Math.Seq.{drop-append-add}
use borrow.Author.Tests.{lt-ltb, le-ltb}
use native.Mathlib.Nat.{add-zero}
use Rattle.part.specs.Slice.{part}
use Rattle.refusal.specs.Refusal.{figures_of}
use Rattle.refusal.specs.declared.Refusal.{Refusal}
use Rattle.refusal.specs.declared.Refusal.TheVariants.{UnexpectedLength, TooShort, EntryLengthMismatch, ClaimBelowHeader, TooLarge, OutputTooSmall, TooLong, SectionsDisagree, BadBlock, ZeroEntryLength, BadText, BadHexadecimal, NameNotFound, NoSuchNumber, TooDeep, EndByte, NotInSheet, BadSheet, NotPlain, BadPath, NoSuchMember, NoSuchType, WrongDimensions, NoOffset, OffsetTooLarge, TooManyAliases}
use Rattle.wording.specs.Wording.{grouped, grouped_by, refusal_text}
use Rattle.bind_report.specs.Words.{reason_text, place_of, ends_part, part_from, part_at}
use Rattle.bind_report.specs.Meant.{met_at, GoesOn, ended, dot, opening, closing, comma, IsPartAt, PartsMeant, ReasonsMeant}

placed : (why : Refusal) → place_of why ≡ met_at (figures_of why)
placed (UnexpectedLength a b) = refl
placed (TooShort a b) = refl
placed (EntryLengthMismatch a b) = refl
placed (ClaimBelowHeader a b) = refl
placed (TooLarge a) = refl
placed (OutputTooSmall a b) = refl
placed (TooLong a b) = refl
placed (SectionsDisagree a) = refl
placed (BadBlock a b) = refl
placed ZeroEntryLength = refl
placed (BadText a b) = refl
placed BadHexadecimal = refl
placed NameNotFound = refl
placed (NoSuchNumber a b) = refl
placed TooDeep = refl
placed (EndByte a b) = refl
placed (NotInSheet a b) = refl
placed (BadSheet a b) = refl
placed (NotPlain a) = refl
placed (BadPath a) = refl
placed (NoSuchMember a) = refl
placed (NoSuchType a) = refl
placed (WrongDimensions a b) = refl
placed (NoOffset a b) = refl
placed (OffsetTooLarge a) = refl
placed (TooManyAliases a) = refl

goes_by : (b : ℕ) → (b ≢ 46) × (b ≢ 91) × (b ≢ 93) × (b ≢ 44) → ends_part b ≡ false
goes_by b h = grind arith

abbrev IsInside : ℕ → Type 0
IsInside b = (b ≢ 46) × (b ≢ 91) × (b ≢ 93) × (b ≢ 44)

so_long : (text rest : List ℕ) → All IsInside text → GoesOn rest → position_or_len ends_part (text ++ rest) ≡ length text
so_long [] rest h ended = refl
so_long [] rest h dot = refl
so_long [] rest h opening = refl
so_long [] rest h closing = refl
so_long [] rest h comma = refl
so_long (b ∷ text) rest h g = by (ends_part b) (goes_by b (h 0 0 (omega arith))) (so_long text rest (λ k d lt. h (suc k) d (omega (arith, lt))) g)
  where
    by : (t : Bool) → t ≡ false → position_or_len ends_part (text ++ rest) ≡ length text → cond (not t) (1 + position_or_len ends_part (text ++ rest)) 0 ≡ suc (length text)
    by true e more = absurd (grind arith)
    by false e more = omega (arith, more)

dropped : (before rest : List ℕ) → drop (length before) (before ++ rest) ≡ rest
dropped before rest = ap (λ (n : ℕ). drop n (before ++ rest)) (sym (add-zero (length before))) ∙ drop-append-add before rest 0

abbrev chosen : Bool → Bor (List ℕ) → ℕ → ℕ → Option (Bor (List ℕ))
chosen t path place n = if t then None else Some (part path place n)

there : (path : Bor (List ℕ)) (place : ℕ) (text : List ℕ) → IsPartAt path.now place text → part_from path place ≡ Some (part path place (length text))
unfolding part_from
there path place text h =
    let behind : drop place path.now ≡ text ++ h.rest
    = ap (λ (s : List ℕ). drop place s) h.is ∙ ap (λ (n : ℕ). drop n (h.before ++ (text ++ h.rest))) (sym h.there) ∙ dropped h.before (text ++ h.rest) in
    let n : position_or_len ends_part (drop place path.now) ≡ length text = ap (position_or_len ends_part) behind ∙ so_long text h.rest h.inside h.behind in
    let l : length path.now ≡ length h.before + length (text ++ h.rest) = ap length h.is ∙ length-append h.before (text ++ h.rest) in
    let within : place ≤ length path.now = omega (arith, l, h.there) in
    ap (λ (k : ℕ). chosen (nat_lt (length path.now) place) path place k) n ∙ ap (λ (t : Bool). chosen t path place (length text)) (le-ltb (length path.now) place within)

pub parts_meant : PartsMeant
unfolding part_from
parts_meant = record {
  at = λ path why place text m h. ap (part_at path) (placed why ∙ m) ∙ there path place text h;
  past = λ path why place m h. ap (part_at path) (placed why ∙ m) ∙ ap (λ (t : Bool). chosen t path place (position_or_len ends_part (drop place path.now))) (lt-ltb (length path.now) place h);
  none = λ path why m. ap (part_at path) (placed why ∙ m);
}

else_alike : (why : Refusal) → (figures_of why).number ≢ 14 → reason_text why ≡ refusal_text why
unfolding reason_text
else_alike (UnexpectedLength a b) h = refl
else_alike (TooShort a b) h = refl
else_alike (EntryLengthMismatch a b) h = refl
else_alike (ClaimBelowHeader a b) h = refl
else_alike (TooLarge a) h = refl
else_alike (OutputTooSmall a b) h = refl
else_alike (TooLong a b) h = refl
else_alike (SectionsDisagree a) h = refl
else_alike (BadBlock a b) h = refl
else_alike ZeroEntryLength h = refl
else_alike (BadText a b) h = refl
else_alike BadHexadecimal h = refl
else_alike NameNotFound h = refl
else_alike (NoSuchNumber a b) h = absurd (h refl)
else_alike TooDeep h = refl
else_alike (EndByte a b) h = refl
else_alike (NotInSheet a b) h = refl
else_alike (BadSheet a b) h = refl
else_alike (NotPlain a) h = refl
else_alike (BadPath a) h = refl
else_alike (NoSuchMember a) h = refl
else_alike (NoSuchType a) h = refl
else_alike (WrongDimensions a b) h = refl
else_alike (NoOffset a b) h = refl
else_alike (OffsetTooLarge a) h = refl
else_alike (TooManyAliases a) h = refl

pub reasons_meant : ReasonsMeant
unfolding reason_text grouped grouped_by digits
reasons_meant = record {
  subscript = refl;
  all_else = else_alike;
}
