-- A turn of the way along two symbols' sections.
use Rattle.std.proofs.Common.{◌≡◌, List, [], ◌∷◌, ◌++◌, refl, sym, ap, ap₂, ◌∙◌, length, append_assoc, append-nil, ◌+◌, ◌<◌, arith}
use Rattle.std.specs.Prelude.{Option, Some, None, slice_get}
use Rattle.std.specs.List.{cons_option}
use Rattle.std.specs.declared.cmp.Ordering.{Ordering}
use Rattle.std.specs.declared.cmp.Ordering.TheVariants.{Less, Equal, Greater}
use Rattle.symbol.specs.declared.AdsSymbolInfo.{AdsSymbolInfo}
use Rattle.sections.specs.Parts.{part_order}
use Rattle.sections.specs.declared.Section.{Section}
use Rattle.differences.specs.declared.Difference.{Difference}
use Rattle.differences.specs.Parts.{by_order, next, behind, in_part, in_front, in_parts}

pub turn : (r s : AdsSymbolInfo) (xs ys : List Section)
    → let n : Option Section × Option Section = next (slice_get xs 0) (slice_get ys 0) in
    in_parts r s xs ys ≡ cons_option (in_part r s n.0 n.1) (in_parts r s (behind n.0 xs) (behind n.1 ys))
unfolding in_parts in_front
turn r s [] [] = refl
turn r s [] (y ∷ ys) = refl
turn r s (x ∷ xs) [] = refl
turn r s (x ∷ xs) (y ∷ ys) = by (part_order x.part y.part)
  where
    by : (o : Ordering)
        → let n : Option Section × Option Section = by_order o (Some x, None) (Some x, Some y) (None, Some y) in
        by_order o
        (cons_option (in_part r s (Some x) None) (in_parts r s xs (y ∷ ys)))
        (cons_option (in_part r s (Some x) (Some y)) (in_parts r s xs ys))
        (cons_option (in_part r s None (Some y)) (in_front r s x (in_parts r s xs) ys))
        ≡ cons_option (in_part r s n.0 n.1) (in_parts r s (behind n.0 (x ∷ xs)) (behind n.1 (y ∷ ys)))
    by Less = refl
    by Equal = refl
    by Greater = refl

pub ended : (r s : AdsSymbolInfo) → in_parts r s [] [] ≡ []
unfolding in_parts
ended r s = refl

behind_one : (o : Option Difference) (ds : List Difference) → cons_option o [] ++ ds ≡ cons_option o ds
behind_one None ds = refl
behind_one (Some d) ds = refl

-- what was told before a turn and what is left then are what was told after it and what is left
pub goes : (r s : AdsSymbolInfo) (xs ys rest others : List Section) (n : Option Section × Option Section) (told : Option Difference) (items more all : List Difference)
    → n ≡ next (slice_get xs 0) (slice_get ys 0) → told ≡ in_part r s n.0 n.1 → more ≡ items ++ cons_option told [] → rest ≡ behind n.0 xs → others ≡ behind n.1 ys
    → items ++ in_parts r s xs ys ≡ all → more ++ in_parts r s rest others ≡ all
goes r s xs ys rest others n told items more all is t m p q h =
    let step : in_parts r s xs ys ≡ cons_option told (in_parts r s rest others) =
    turn r s xs ys
    ∙ ap (λ (k : Option Section × Option Section). cons_option (in_part r s k.0 k.1) (in_parts r s (behind k.0 xs) (behind k.1 ys))) (sym is)
    ∙ ap₃ (λ (o : Option Difference) (u v : List Section). cons_option o (in_parts r s u v)) (sym t) (sym p) (sym q) in
    ap (λ (l : List Difference). l ++ in_parts r s rest others) m
    ∙ append_assoc items (cons_option told []) (in_parts r s rest others)
    ∙ ap (λ (l : List Difference). items ++ l) (behind_one told (in_parts r s rest others) ∙ sym step)
    ∙ h
  where
    ap₃ : {A B C D : Type 0} (f : A → B → C → D) {a b : A} {c d : B} {u v : C} → a ≡ b → c ≡ d → u ≡ v → f a c u ≡ f b d v
    ap₃ f p q r = λ i. f (p i) (q i) (r i)

-- and a section is left behind
fewer_by : (x y : Section) (xs ys : List Section) (o : Ordering)
    → let n : Option Section × Option Section = by_order o (Some x, None) (Some x, Some y) (None, Some y) in
    length (behind n.0 (x ∷ xs)) + length (behind n.1 (y ∷ ys)) < length (x ∷ xs) + length (y ∷ ys)
fewer_by x y xs ys Less = omega arith
fewer_by x y xs ys Equal = omega arith
fewer_by x y xs ys Greater = omega arith

fewer : (xs ys : List Section) → 0 < length xs + length ys
    → let n : Option Section × Option Section = next (slice_get xs 0) (slice_get ys 0) in length (behind n.0 xs) + length (behind n.1 ys) < length xs + length ys
fewer [] [] h = h
fewer [] (y ∷ ys) h = omega arith
fewer (x ∷ xs) [] h = omega arith
fewer (x ∷ xs) (y ∷ ys) h = fewer_by x y xs ys (part_order x.part y.part)

pub falls : (xs ys rest others : List Section) (n : Option Section × Option Section) → n ≡ next (slice_get xs 0) (slice_get ys 0) → rest ≡ behind n.0 xs → others ≡ behind n.1 ys
    → 0 < length xs + length ys → length rest + length others < length xs + length ys
falls xs ys rest others n is p q h =
    let a : length rest ≡ length (behind (next (slice_get xs 0) (slice_get ys 0)).0 xs) = ap (λ (l : List Section). length l) p ∙ ap (λ (k : Option Section × Option Section). length (behind k.0 xs)) is in
    let b : length others ≡ length (behind (next (slice_get xs 0) (slice_get ys 0)).1 ys) = ap (λ (l : List Section). length l) q ∙ ap (λ (k : Option Section × Option Section). length (behind k.1 ys)) is in
    let f = fewer xs ys h in
    omega (arith, a, b, f)

-- where nothing is left
no_more : (xs : List Section) → length xs ≡ 0 → xs ≡ []
no_more [] h = refl
no_more (x ∷ xs) h = absurd (omega (arith, h))

pub all_told : (r s : AdsSymbolInfo) (xs ys : List Section) (items all : List Difference) → length xs + length ys ≡ 0 → items ++ in_parts r s xs ys ≡ all → items ≡ all
all_told r s xs ys items all none h =
    sym (append-nil items) ∙ ap (λ (l : List Difference). items ++ l) (sym (ended r s) ∙ sym (ap₂ (in_parts r s) (no_more xs (omega (arith, none))) (no_more ys (omega (arith, none))))) ∙ h
