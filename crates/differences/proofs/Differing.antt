-- Of two symbols' sections exactly those parts are told that one has alone or whose bytes differ: proved.
use Rattle.std.proofs.Common.{ℕ, ◌+◌, ◌<◌, ◌≡◌, ◌^◌, refl, sym, ap, ap₂, ◌∙◌, Bool, true, false, List, [], ◌∷◌, length}
use Rattle.std.specs.Prelude.{Option, Some, None, ◌||◌, eqb, if◌then◌else◌}
use Rattle.std.specs.List.{AllByRecursion, cons_option}
use Rattle.std.specs.Ordering.{nat_cmp, ordering_then, ordering_reverse}
use Rattle.std.specs.declared.cmp.Ordering.{Ordering}
use Rattle.std.specs.declared.cmp.Ordering.TheVariants.{Less, Equal, Greater}
use Rattle.std.proofs.lemmas.Map.Lookups.{exact_unsigned}
use Rattle.symbol.specs.declared.AdsSymbolInfo.{AdsSymbolInfo}
use Rattle.sections.specs.Parts.{kind, number, part_order}
use Rattle.sections.specs.declared.Part.{Part}
use Rattle.sections.specs.declared.Part.TheVariants.{Length, Group, Offset, Size, TypeId, Flags, High, StringLengths, Name, «Type», Comment, Guid, AttributeCount, Attribute, ExtendedFlags, FormerName, Unread}
use Rattle.sections.specs.declared.Section.{Section}
use Rattle.values.specs.Alike.{same_bytes, tells_the_same}
use Rattle.values.specs.Values.{value_of}
use Rattle.values.specs.declared.Value.{Value}
use Rattle.values.proofs.Same.{alike_bytes, bytes_alike, same_meant}
use Rattle.differences.specs.declared.Difference.{Difference}
use Rattle.differences.specs.First.{first_byte}
use Rattle.differences.specs.Parts.{by_order, is_lengths, told_apart, told_in, in_part, in_front, in_parts}
use Rattle.differences.specs.Meant.{AreTold, Differ, IsBefore}
use Rattle.differences.specs.Meant as meant
use Rattle.differences.proofs.Front.{first_apart}
use Rattle.differences.proofs.Ascending.{parts_total, Ascends, before_on}

-- a part by its kind and its number
part_at : ℕ → ℕ → Part
part_at k n =
    if eqb k 0 then Length
    else if eqb k 1 then Group
    else if eqb k 2 then Offset
    else if eqb k 3 then Size
    else if eqb k 4 then TypeId
    else if eqb k 5 then Flags
    else if eqb k 6 then High
    else if eqb k 7 then StringLengths
    else if eqb k 8 then Name
    else if eqb k 9 then «Type»
    else if eqb k 10 then Comment
    else if eqb k 11 then Guid
    else if eqb k 12 then AttributeCount
    else if eqb k 13 then Attribute n
    else if eqb k 14 then ExtendedFlags
    else if eqb k 15 then FormerName n
    else Unread

part_again : (p : Part) → part_at (kind p) (number p) ≡ p
unfolding part_at
part_again Length = refl
part_again Group = refl
part_again Offset = refl
part_again Size = refl
part_again TypeId = refl
part_again Flags = refl
part_again High = refl
part_again StringLengths = refl
part_again Name = refl
part_again «Type» = refl
part_again Comment = refl
part_again Guid = refl
part_again AttributeCount = refl
part_again (Attribute n) = refl
part_again ExtendedFlags = refl
part_again (FormerName n) = refl
part_again Unread = refl

both_equal : (a b : Ordering) → ordering_then a b ≡ Equal → (a ≡ Equal) × (b ≡ Equal)
both_equal Less b h = cc
both_equal Equal b h = (refl, h)
both_equal Greater b h = cc

-- parts that stand alike are the same
pub same_part : (p q : Part) → part_order p q ≡ Equal → p ≡ q
same_part p q h =
    let e = both_equal (nat_cmp (kind p) (kind q)) (nat_cmp (number p) (number q)) h in
    sym (part_again p) ∙ ap₂ part_at (exact_unsigned (kind p) (kind q) e.0) (exact_unsigned (number p) (number q) e.1) ∙ part_again q

pub lengths_are : (p : Part) → is_lengths p ≡ true → p ≡ StringLengths
lengths_are StringLengths h = refl
lengths_are p h = cc

-- each begins and ends at a number of 64 bits
abbrev pub Fit : List Section → Type 0
Fit xs = AllByRecursion (λ (x : Section). x.at + length x.bytes.now < 2 ^ 64) xs

no : false ≡ true → ⊥
no h = cc

told_by : (x y : Section) (v w : Value) → x.at + length x.bytes.now < 2 ^ 64 → y.at + length y.bytes.now < 2 ^ 64 → (b : Bool) → tells_the_same v w ≡ b
    → let p : Value × Value = if b then first_byte x.at x.bytes.now y.at y.bytes.now else (v, w) in AreTold x y v w p.0 p.1
told_by x y v w f g true e = meant.AreTold.first (same_meant.told_alike v w e) (first_apart x.at y.at x.bytes.now y.bytes.now f g)
told_by x y v w f g false e = meant.AreTold.values (λ s. no (sym e ∙ same_meant.alike v w s))

module _ (r s : AdsSymbolInfo) where
  abbrev both : Section → Section → Bool → Option Difference
  both x y b = if b then None else Some (told_in x.part (told_apart x y (value_of r x.part x.bytes) (value_of s y.part y.bytes)))

  both_by : (x y : Section) (xs ys : List Section) (ds : List Difference) → x.part ≡ y.part → x.at + length x.bytes.now < 2 ^ 64 → y.at + length y.bytes.now < 2 ^ 64
      → (a b : Bool) → is_lengths x.part ≡ a → same_bytes x.bytes.now y.bytes.now ≡ b
      → Differ r s xs ys ds → Differ r s (x ∷ xs) (y ∷ ys) (cons_option (both x y (a || b)) ds)
  both_by x y xs ys ds p f g true b e h on = let l : x.part ≡ StringLengths = lengths_are x.part e in meant.Differ.lengths l (sym p ∙ l) on
  both_by x y xs ys ds p f g false true e h on = meant.Differ.alike p (bytes_alike x.bytes.now y.bytes.now h) on
  both_by x y xs ys ds p f g false false e h on =
      let v : Value = value_of r x.part x.bytes in
      let w : Value = value_of s y.part y.bytes in
      meant.Differ.apart p (λ l. no (sym e ∙ ap is_lengths l)) (λ l. no (sym h ∙ alike_bytes x.bytes.now y.bytes.now l))
      (told_by x y v w f g (tells_the_same v w) refl) on

  front : (x : Section) (xs ys : List Section) → Ascends (x ∷ xs) → Fit (x ∷ xs) → Ascends ys → Fit ys
      → ((zs : List Section) → Ascends zs → Fit zs → Differ r s xs zs (in_parts r s xs zs))
      → Differ r s (x ∷ xs) ys (in_front r s x (in_parts r s xs) ys)
  unfolding in_front
  front x xs [] up fit up_b fit_b more = meant.Differ.only_in_a tt (more [] tt tt)
  front x xs (y ∷ ys) up fit up_b fit_b more = by (part_order x.part y.part) refl (front x xs ys up fit up_b.1 fit_b.1 more)
    where
      by : (o : Ordering) → part_order x.part y.part ≡ o → Differ r s (x ∷ xs) ys (in_front r s x (in_parts r s xs) ys)
          → Differ r s (x ∷ xs) (y ∷ ys)
          (by_order o
          (cons_option (in_part r s (Some x) None) (in_parts r s xs (y ∷ ys)))
          (cons_option (in_part r s (Some x) (Some y)) (in_parts r s xs ys))
          (cons_option (in_part r s None (Some y)) (in_front r s x (in_parts r s xs) ys)))
      by Less e on = meant.Differ.only_in_a (e, before_on x.part y.part ys e up_b.0) (more (y ∷ ys) up_b fit_b)
      by Equal e on = both_by x y xs ys _ (same_part x.part y.part e) fit.0 fit_b.0 (is_lengths x.part) (same_bytes x.bytes.now y.bytes.now) refl refl (more ys up_b.1 fit_b.1)
      by Greater e on =
          let l : part_order y.part x.part ≡ Less = parts_total.antisymm y.part x.part ∙ ap ordering_reverse e in
          meant.Differ.only_in_b (l, before_on y.part x.part xs l up.0) on

  pub differing : (xs ys : List Section) → Ascends xs → Fit xs → Ascends ys → Fit ys → Differ r s xs ys (in_parts r s xs ys)
  unfolding in_parts
  differing [] [] up fit up_b fit_b = meant.Differ.done
  differing [] (y ∷ ys) up fit up_b fit_b = meant.Differ.only_in_b tt (differing [] ys tt tt up_b.1 fit_b.1)
  differing (x ∷ xs) ys up fit up_b fit_b = front x xs ys up fit up_b fit_b (λ zs u f. differing xs zs up.1 fit.1 u f)
