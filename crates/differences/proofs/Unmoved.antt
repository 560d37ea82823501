-- Nothing is told of two accepted entries with the same bytes, wherever these lie: proved.
use Rattle.std.proofs.Common.{ℕ, ◌+◌, ◌-◌, ◌≡◌, refl, sym, ap, ap₂, subst, ◌∙◌, Bool, true, false, List, [], ◌∷◌, ◌++◌, length, take, drop, Bor}
use Rattle.std.specs.Prelude.{Option, Some, None, Result, Ok, Err, ◌||◌, eqb, leb, min, is_some, if◌then◌else◌}
use Rattle.std.specs.List.{cons_option}
use Rattle.std.specs.declared.cmp.Ordering.{Ordering}
use Rattle.std.specs.declared.cmp.Ordering.TheVariants.{Equal}
use Rattle.le.specs.Le.{has}
use Rattle.part.specs.Slice.{part}
use Rattle.refusal.specs.declared.Mode.{Mode}
use Rattle.refusal.specs.declared.Refusal.{Refusal}
use Rattle.walk.specs.Mapped.{map_ok}
use Rattle.attribute.specs.Attribute as attribute
use Rattle.attribute.specs.Told as attributes
use Rattle.attribute.specs.declared.AdsAttribute.{AdsAttribute}
use Rattle.refactor.specs.Refactor as refactor
use Rattle.refactor.specs.Told as refactors
use Rattle.refactor.specs.declared.AdsRefactorInfo.{AdsRefactorInfo}
use Rattle.symbol.specs.Symbol.{attributes_flag, symbol_of}
use Rattle.symbol.specs.Told.{Told, told_of}
use Rattle.symbol.specs.declared.AdsSymbolInfo.{AdsSymbolInfo}
use Rattle.symbol.proofs.Anywhere.{symbols_anywhere}
use Rattle.sections.specs.Parts.{part_order}
use Rattle.sections.specs.Sections.{Cut, cut, cut_off, cut_all, header_parts, string_parts, attribute_parts, former_parts, cut_entry, sections_of}
use Rattle.sections.specs.declared.Part.{Part}
use Rattle.sections.specs.declared.Part.TheVariants.{Name, «Type», Comment, Guid, AttributeCount, Attribute, ExtendedFlags, FormerName, Unread}
use Rattle.sections.specs.declared.Section.{Section}
use Rattle.values.specs.Values.{value_of}
use Rattle.values.specs.Alike.{same_bytes}
use Rattle.values.proofs.Same.{alike_bytes}
use Rattle.differences.specs.declared.Difference.{Difference}
use Rattle.differences.specs.Differences.{in_symbols}
use Rattle.differences.specs.Parts.{by_order, is_lengths, told_apart, told_in, in_part, in_front, in_parts}
use Rattle.differences.proofs.Ascending.{part_itself}

-- the same parts with the same bytes
abbrev AllSame : List Section → List Section → Type 0
AllSame [] [] = Unit {0}
AllSame [] (y ∷ ys) = ⊥
AllSame (x ∷ xs) [] = ⊥
AllSame (x ∷ xs) (y ∷ ys) = (x.part ≡ y.part) × (x.bytes.now ≡ y.bytes.now) × AllSame xs ys

one_more : (xs ys : List Section) (x y : Section) → AllSame xs ys → x.part ≡ y.part → x.bytes.now ≡ y.bytes.now → AllSame (xs ++ (x ∷ [])) (ys ++ (y ∷ []))
one_more [] [] x y h p b = (p, b, tt)
one_more [] (z ∷ ys) x y h p b = absurd h
one_more (z ∷ xs) [] x y h p b = absurd h
one_more (z ∷ xs) (w ∷ ys) x y h p b = (h.0, h.1, one_more xs ys x y h.2 p b)

-- as much was cut off
record Same (c d : Cut) : Type 0 where
  own : c.own.now ≡ d.own.now
  at : c.at ≡ d.at
  all : AllSame c.all d.all

cut_by : (p : Part) (k : ℕ) (c d : Cut) → Same c d → (b : Bool)
    → Same (if b then c else record { own = c.own; all = c.all ++ (record { part = p; at = c.at; bytes = part c.own c.at k } ∷ []); at = c.at + k })
    (if b then d else record { own = d.own; all = d.all ++ (record { part = p; at = d.at; bytes = part d.own d.at k } ∷ []); at = d.at + k })
cut_by p k c d g true = g
cut_by p k c d g false =
    record {
      own = g.own;
      at = ap (λ (n : ℕ). n + k) g.at;
      all = one_more c.all d.all _ _ g.all refl (ap₂ (λ (n : ℕ) (l : List ℕ). take k (drop n l)) g.at g.own);
    }

cut_same : (p : Part) (n : ℕ) (c d : Cut) → Same c d → Same (cut p n c) (cut p n d)
unfolding cut
cut_same p n c d g =
    let m : min n (length c.own.now - c.at) ≡ min n (length d.own.now - d.at) = ap₂ (λ (l : List ℕ) (k : ℕ). min n (length l - k)) g.own g.at in
    subst (λ (k : ℕ). Same (cut_off p (min n (length c.own.now - c.at)) c) (cut_off p k d)) m (cut_by p (min n (length c.own.now - c.at)) c d g (eqb (min n (length c.own.now - c.at)) 0))

all_same : (ps : List (Part × ℕ)) (c d : Cut) → Same c d → Same (cut_all ps c) (cut_all ps d)
all_same [] c d g = g
all_same (p ∷ ps) c d g = all_same ps _ _ (cut_same p.0 p.1 c d g)

-- however the same parts are told
all_same_of : (ps qs : List (Part × ℕ)) (c d : Cut) → ps ≡ qs → Same c d → Same (cut_all ps c) (cut_all qs d)
all_same_of ps qs c d h g = subst (λ (rs : List (Part × ℕ)). Same (cut_all ps c) (cut_all rs d)) h (all_same ps c d g)

if_same : (a b : Bool) (c d e f : Cut) → a ≡ b → Same c d → Same e f → Same (if a then c else e) (if b then d else f)
if_same true true c d e f h g k = g
if_same true false c d e f h g k = absurd (no h)
  where
    no : true ≡ false → ⊥
    no h = cc
if_same false true c d e f h g k = absurd (no h)
  where
    no : false ≡ true → ⊥
    no h = cc
if_same false false c d e f h g k = k

abbrev told_attributes : ℕ → List attributes.Told → List (Part × ℕ)
told_attributes k [] = []
told_attributes k (a ∷ more) = (Attribute k, length a.name + length a.value + 4) ∷ told_attributes (k + 1) more

attributes_told : (k : ℕ) (all : List AdsAttribute) → attribute_parts k all ≡ told_attributes k (attributes.told all)
attributes_told k [] = refl
attributes_told k (a ∷ all) = ap (λ (l : List (Part × ℕ)). (Attribute k, length a.name.now + length a.value.now + 4) ∷ l) (attributes_told (k + 1) all)

abbrev told_names : ℕ → List refactors.Told → List (Part × ℕ)
told_names k [] = []
told_names k (f ∷ more) = (FormerName k, length f.name + 7) ∷ told_names (k + 1) more

names_told : (k : ℕ) (all : List AdsRefactorInfo) → former_parts k all ≡ told_names k (refactors.told all)
names_told k [] = refl
names_told k (f ∷ all) = ap (λ (l : List (Part × ℕ)). (FormerName k, length f.name.now + 7) ∷ l) (names_told (k + 1) all)

same_sections : (e f : Bor (List ℕ)) (r s : AdsSymbolInfo) → e.now ≡ f.now → told_of r ≡ told_of s → AllSame (sections_of e r) (sections_of f s)
unfolding sections_of cut_entry
same_sections e f r s h t =
    let header = all_same header_parts (record { own = e; all = []; at = 0 }) (record { own = f; all = []; at = 0 }) (record { own = h; at = refl; all = tt }) in
    let strings : string_parts r ≡ string_parts s =
    ap (λ (u : Told). (Name, length u.name + 1) ∷ («Type», length u.type_name + 1) ∷ (Comment, length u.comment + 1) ∷ []) t in
    let texts = all_same_of (string_parts r) (string_parts s) _ _ strings header in
    let guid = if_same (is_some r.guid) (is_some s.guid) _ _ _ _ (ap (λ (u : Told). is_some u.guid) t) (cut_same Guid 16 _ _ texts) texts in
    let flagged : has r.flags.0 attributes_flag ≡ has s.flags.0 attributes_flag = ap (λ (u : Told). has u.flags.0 attributes_flag) t in
    let count = if_same _ _ _ _ _ _ flagged (if_same _ _ _ _ _ _ (ap₂ (λ (l : List ℕ) (k : ℕ). leb 2 (length l - k)) guid.own guid.at) (cut_same AttributeCount 2 _ _ guid) guid) guid in
    let shown : attribute_parts 0 (attribute.left r.attributes) ≡ attribute_parts 0 (attribute.left s.attributes) =
    attributes_told 0 (attribute.left r.attributes) ∙ ap (λ (u : Told). told_attributes 0 u.attributes) t ∙ sym (attributes_told 0 (attribute.left s.attributes)) in
    let listed = all_same_of _ _ _ _ shown count in
    let extended = if_same (is_some r.extended_flags) (is_some s.extended_flags) _ _ _ _ (ap (λ (u : Told). is_some u.extended_flags) t) (cut_same ExtendedFlags 4 _ _ listed) listed in
    let former : former_parts 0 (refactor.left r.refactor_infos) ≡ former_parts 0 (refactor.left s.refactor_infos) =
    names_told 0 (refactor.left r.refactor_infos) ∙ ap (λ (u : Told). told_names 0 u.refactor_infos) t ∙ sym (names_told 0 (refactor.left s.refactor_infos)) in
    let names = all_same_of _ _ _ _ former extended in
    (unread _ _ names).all
  where
    unread : (c d : Cut) → Same c d → Same (cut Unread (length c.own.now) c) (cut Unread (length d.own.now) d)
    unread c d g = subst (λ (l : List ℕ). Same (cut Unread (length c.own.now) c) (cut Unread (length l) d)) g.own (cut_same Unread (length c.own.now) c d g)

or_true : (a b : Bool) → b ≡ true → (a || b) ≡ true
or_true true b h = refl
or_true false b h = h

none_told : (r s : AdsSymbolInfo) (xs ys : List Section) → AllSame xs ys → in_parts r s xs ys ≡ []
unfolding in_parts in_front
none_told r s [] [] h = refl
none_told r s [] (y ∷ ys) h = absurd h
none_told r s (x ∷ xs) [] h = absurd h
none_told r s (x ∷ xs) (y ∷ ys) h =
    let order : part_order x.part y.part ≡ Equal = ap (part_order x.part) (sym h.0) ∙ part_itself x.part in
    let passed : (is_lengths x.part || same_bytes x.bytes.now y.bytes.now) ≡ true = or_true (is_lengths x.part) (same_bytes x.bytes.now y.bytes.now) (alike_bytes x.bytes.now y.bytes.now h.1) in
    let rest : List Difference = in_parts r s xs ys in
    ap
    (λ (o : Ordering).
    by_order o (cons_option (in_part r s (Some x) None) (in_parts r s xs (y ∷ ys))) (cons_option (in_part r s (Some x) (Some y)) rest)
    (cons_option (in_part r s None (Some y)) (in_front r s x (in_parts r s xs) ys)))
    order
    ∙ ap
    (λ (b : Bool).
    cons_option (if◌then◌else◌ {A = Option Difference} b None (Some (told_in x.part (told_apart x y (value_of r x.part x.bytes) (value_of s y.part y.bytes))))) rest)
    passed
    ∙ none_told r s xs ys h.2

abbrev answer : Told → Result Told Refusal
answer t = Ok t

abbrev refusal : Refusal → Result Told Refusal
refusal why = Err why

one_answer : (a b : Told) → answer a ≡ answer b → b ≡ a
one_answer a b h = cc

no_answer : (why : Refusal) (a : Told) → refusal why ≡ answer a → ⊥
no_answer why a h = cc

read_as : (r : AdsSymbolInfo) (t : Result AdsSymbolInfo Refusal) → map_ok told_of t ≡ Ok (told_of r) → (s : AdsSymbolInfo) × (t ≡ Ok s) × (told_of r ≡ told_of s)
read_as r (Ok s) h = (s, refl, one_answer (told_of s) (told_of r) h)
read_as r (Err why) h = absurd (no_answer why (told_of r) h)

-- an entry with the same bytes is read too, and nothing is told of the two
pub same_told : (mode : Mode) (e f : Bor (List ℕ)) (r : AdsSymbolInfo) → symbol_of mode e ≡ Ok r → e.now ≡ f.now
    → (s : AdsSymbolInfo) × (symbol_of mode f ≡ Ok s) × (in_symbols e r f s ≡ [])
unfolding in_symbols
same_told mode e f r p h =
    let t = read_as r (symbol_of mode f) (sym (symbols_anywhere mode e f h) ∙ ap (map_ok told_of) p) in
    (t.0, t.1, none_told r t.0 (sections_of e r) (sections_of f t.0) (same_sections e f r t.0 h t.2))
