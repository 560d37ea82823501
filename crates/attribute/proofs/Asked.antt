-- What an answer to a number or a name means: proved.
use Rattle.std.proofs.Common.{◌≡◌, ℕ, suc, Bool, true, false, List, [], ◌∷◌, ◌++◌, Ok, Result, refl, sym, ap, ◌∙◌, subst, arith}
use Rattle.std.specs.Prelude.{nat_eq, find, ok_or, Some, if◌then◌else◌}
use Rattle.std.specs.Cmp.Lexicographic.{pointwise, same_text, other_text}
use Rattle.refusal.specs.declared.Refusal.{Refusal}
use Rattle.refusal.specs.declared.Refusal.TheVariants.{NameNotFound}
use Rattle.refusal.proofs.ByNumber.{numbers_meant}
use Rattle.attribute.specs.declared.AdsAttribute.{AdsAttribute}
use Rattle.attribute.specs.Attribute.{named}
use Rattle.attribute.specs.Asked.{AttributesShown, NoneNamed, FirstNamed, found, nowhere, AttributesNamed, OneNamed}
use Rattle.std.proofs.lemmas.List.Elements.{All-cons}

pub attributes_shown : AttributesShown
attributes_shown all number = numbers_meant all number

-- the first of some has the name, or the answer is that of the others
none_later : (name : List ℕ) (a : AdsAttribute) (all : List AdsAttribute) → (a.name.now ≡ name → ⊥) → NoneNamed name all → NoneNamed name (a ∷ all)
none_later name a all = All-cons (λ b. b.name.now ≡ name → ⊥) a all

later : (name : List ℕ) (a : AdsAttribute) (all : List AdsAttribute) (t : Result AdsAttribute Refusal) → (a.name.now ≡ name → ⊥) → FirstNamed all name t → FirstNamed (a ∷ all) name t
later name a all t not (found before behind b e is has none) = found (a ∷ before) behind b (ap (λ l. a ∷ l) e) is has (none_later name a before not none)
later name a all t not (nowhere is none) = nowhere is (none_later name a all not none)

named_first : (name : List ℕ) (a : AdsAttribute) (all : List AdsAttribute) (b : Bool) → pointwise nat_eq a.name.now name ≡ b → named (a ∷ all) name ≡ (if b then Ok a else named all name)
named_first name a all true e = ap (λ (t : Bool). ok_or (if t then Some a else find (λ x. pointwise nat_eq x.name.now name) all) NameNotFound) e
named_first name a all false e = ap (λ (t : Bool). ok_or (if t then Some a else find (λ x. pointwise nat_eq x.name.now name) all) NameNotFound) e

turn : (name : List ℕ) (a : AdsAttribute) (all : List AdsAttribute) (b : Bool) → pointwise nat_eq a.name.now name ≡ b → FirstNamed all name (named all name) → FirstNamed (a ∷ all) name (named (a ∷ all) name)
turn name a all true e rest = found [] all a refl (named_first name a all true e) (same_text _ _ (sym e)) (λ k d h. absurd (omega arith))
turn name a all false e rest = later name a all (named (a ∷ all) name) (other_text _ _ (sym e)) (subst (FirstNamed all name) (sym (named_first name a all false e)) rest)

pub attributes_named : AttributesNamed
attributes_named [] name = nowhere refl (λ k d h. absurd (omega arith))
attributes_named (a ∷ all) name = turn name a all (pointwise nat_eq a.name.now name) refl (attributes_named all name)

-- two that are first are one
head : {name : List ℕ} (a : AdsAttribute) (all : List AdsAttribute) → NoneNamed name (a ∷ all) → a.name.now ≡ name → ⊥
head a all none = none 0 a (omega arith)

tail : {name : List ℕ} (a : AdsAttribute) (all : List AdsAttribute) → NoneNamed name (a ∷ all) → NoneNamed name all
tail a all none k d h = none (suc k) d (omega arith)

module _ (name : List ℕ) (a b : AdsAttribute) (behind rest : List AdsAttribute) (has : a.name.now ≡ name) (also : b.name.now ≡ name) where
  same_first : (p q : List AdsAttribute) → p ++ (a ∷ behind) ≡ q ++ (b ∷ rest) → NoneNamed name p → NoneNamed name q → a ≡ b
  same_first [] [] e m n = cc
  same_first [] (y ∷ q) e m n = absurd (let s : a ≡ y = cc in head y q n (ap (λ (x : AdsAttribute). x.name.now) (sym s) ∙ has))
  same_first (x ∷ p) [] e m n = absurd (let s : x ≡ b = cc in head x p m (ap (λ (x : AdsAttribute). x.name.now) s ∙ also))
  same_first (x ∷ p) (y ∷ q) e m n = same_first p q (cc) (tail x p m) (tail y q n)

not_none : (name : List ℕ) (a : AdsAttribute) (before behind : List AdsAttribute) → a.name.now ≡ name → NoneNamed name (before ++ (a ∷ behind)) → ⊥
not_none name a [] behind has none = head a behind none has
not_none name a (x ∷ before) behind has none = not_none name a before behind has (tail x (before ++ (a ∷ behind)) none)

pub one_named : OneNamed
one_named all name x y (found p behind a e is has none) (found q rest b f it also free) = is ∙ ap Ok (same_first name a b behind rest has also p q (sym e ∙ f) none free) ∙ sym it
one_named all name x y (found p behind a e is has none) (nowhere it free) = absurd (not_none name a p behind has (subst (NoneNamed name) e free))
one_named all name x y (nowhere is none) (found q rest b f it also free) = absurd (not_none name b q rest also (subst (NoneNamed name) f none))
one_named all name x y (nowhere is none) (nowhere it free) = is ∙ sym it
