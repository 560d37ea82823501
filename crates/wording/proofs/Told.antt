-- Numbers and refusals in words tell what they should.
use Rattle.std.proofs.Common.{◌≡◌, ℕ, zero, suc, ◌+◌, ◌*◌, ◌/◌, ◌%◌, ◌^◌, ◌<◌, ◌≤◌, Bool, true, false, List, [], ◌∷◌, ◌++◌, codes, decimal, refl, sym, ap, subst, ◌∙◌, arith}
use Rattle.std.specs.Prelude.{nat_lt}
use Rattle.std.specs.Fmt.{digits}
use Rattle.std.proofs.lemmas.Fmt.{decimal_digit}
use Rattle.refusal.specs.Refusal.{figures_of}
use Rattle.refusal.specs.declared.Refusal.{Refusal}
use Rattle.refusal.specs.declared.Refusal.TheVariants.{UnexpectedLength, TooShort, EntryLengthMismatch, ClaimBelowHeader, TooLarge, OutputTooSmall, TooLong, SectionsDisagree, BadBlock, ZeroEntryLength, BadText, BadHexadecimal, NameNotFound, NoSuchNumber, TooDeep, EndByte, NotInSheet, BadSheet, NotPlain, BadPath, NoSuchMember, NoSuchType, WrongDimensions, NoOffset, OffsetTooLarge, TooManyAliases}
use Rattle.wording.specs.Wording.{three_digits, grouped_by, grouped, many, bytes, dimensions, figure, refusal_text}
use Rattle.wording.specs.Meant.{TellsNumber, low, high, NumbersTold, RefusalsTold}
use Rattle.wording.proofs.Grouping.{grouped_small, grouped_high}

three : (n : ℕ) → n < 1000 → three_digits n ≡ (48 + n / 100) ∷ (48 + n / 10 % 10) ∷ (48 + n % 10) ∷ []
three n h = rw (decimal_digit (n / 100) (omega arith), decimal_digit (n / 10 % 10) (omega arith), decimal_digit (n % 10) (omega arith)) refl

told : (k n : ℕ) → n < 1000 ^ suc k → TellsNumber (grouped_by k n) n
told zero n h = subst (λ (t : List ℕ). TellsNumber t n) (sym (grouped_small zero n (omega (arith, h)))) (low n (omega (arith, h)))
told (suc k) n h = go (told k (n / 1000) (omega (arith, h))) (nat_lt n 1000) refl
  where
    go : TellsNumber (grouped_by k (n / 1000)) (n / 1000) → (b : Bool) → nat_lt n 1000 ≡ b → TellsNumber (grouped_by (suc k) n) n
    go front true e = subst (λ (t : List ℕ). TellsNumber t n) (sym (grouped_small (suc k) n (grind arith))) (low n (grind arith))
    go front false e =
        let large : 1000 ≤ n = grind arith in
        let r : ℕ = n % 1000 in
        let text : grouped_by (suc k) n ≡ grouped_by k (n / 1000) ++ (codes "," ++ (48 + r / 100) ∷ (48 + r / 10 % 10) ∷ (48 + r % 10) ∷ [])
        = grouped_high k n large ∙ ap (λ (t : List ℕ). grouped_by k (n / 1000) ++ (codes "," ++ t)) (three r (omega arith)) in
        let value : 1000 * (n / 1000) + 100 * (r / 100) + 10 * (r / 10 % 10) + r % 10 ≡ n = omega arith in
        subst (λ (t : List ℕ). TellsNumber t n) (sym text)
        (subst (TellsNumber _) value (high (grouped_by k (n / 1000)) (n / 1000) (r / 100) (r / 10 % 10) (r % 10) front (omega arith) (omega arith) (omega arith) (omega arith)))

pub numbers_told : NumbersTold
unfolding grouped
numbers_told n h = told 6 n (omega (arith, h))

numbered : (why : Refusal) → (rest : List ℕ) × (refusal_text why ≡ codes "refusal " ++ (decimal (figures_of why).number ++ (codes ", " ++ rest)))
unfolding refusal_text digits
numbered (UnexpectedLength a b) = (_, refl)
numbered (TooShort a b) = (_, refl)
numbered (EntryLengthMismatch a b) = (_, refl)
numbered (ClaimBelowHeader a b) = (_, refl)
numbered (TooLarge a) = (_, refl)
numbered (OutputTooSmall a b) = (_, refl)
numbered (TooLong a b) = (_, refl)
numbered (SectionsDisagree a) = (_, refl)
numbered (BadBlock a b) = (_, refl)
numbered ZeroEntryLength = (_, refl)
numbered (BadText a b) = (_, refl)
numbered BadHexadecimal = (_, refl)
numbered NameNotFound = (_, refl)
numbered (NoSuchNumber a b) = (_, refl)
numbered TooDeep = (_, refl)
numbered (EndByte a b) = (_, refl)
numbered (NotInSheet a b) = (_, refl)
numbered (BadSheet a b) = (_, refl)
numbered (NotPlain a) = (_, refl)
numbered (BadPath a) = (_, refl)
numbered (NoSuchMember a) = (_, refl)
numbered (NoSuchType a) = (_, refl)
numbered (WrongDimensions a b) = (_, refl)
numbered (NoOffset a b) = (_, refl)
numbered (OffsetTooLarge a) = (_, refl)
numbered (TooManyAliases a) = (_, refl)

pub refusals_told : RefusalsTold
unfolding refusal_text figure many bytes dimensions grouped grouped_by digits
refusals_told = record {
  number = numbered;
  unexpected = refl;
  short = refl;
  mismatch = refl;
  below = refl;
  large = refl;
  output = refl;
  long = refl;
  guid = refl;
  attributes = refl;
  extended = refl;
  refactor = refl;
  block = refl;
  zero = refl;
  utf8 = refl;
  lacks = refl;
  hexadecimal = refl;
  name = refl;
  numbered = refl;
  deep = refl;
  end = refl;
  flagged_guid = refl;
  flagged_attributes = refl;
  flagged_extended = refl;
  unread = refl;
  shape = refl;
  group = refl;
  index_offset = refl;
  size = refl;
  type_id = refl;
  flags = refl;
  high = refl;
  plain = refl;
  no_path = refl;
  no_member = refl;
  no_type = refl;
  dimension = refl;
  dimensions = refl;
  below_bit = refl;
  reference = refl;
  property = refl;
  interface = refl;
  pointer = refl;
  static_member = refl;
  offset = refl;
  aliases = refl;
}
