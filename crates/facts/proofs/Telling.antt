-- What is told of a symbol stands in its entry.
use Rattle.std.proofs.Common.{ℕ, ◌+◌, ◌≡◌, Bool, true, false, List, [], ◌∷◌, ◌++◌, codes, decimal, length, map, take, drop, refl, sym, ap, ap₂, ◌∙◌, append_assoc, append-nil}
use Rattle.std.specs.Prelude.{Option, None, Some, if◌then◌else◌}
use Rattle.std.specs.Fmt.{digits}
use Rattle.std.specs.List.{flat_map}
use Rattle.std.specs.Borrow.{Bor}
use Rattle.std.proofs.lemmas.List.Concat.{flat_map-append}
use Rattle.std.proofs.lemmas.List.Folds.{flat_map-map}
use Rattle.le.specs.Le.{le2}
use Rattle.part.specs.End.{IsString}
use Rattle.flags.specs.declared.symbol_flags.AdsSymbol2Flags.{AdsSymbol2Flags}
use Rattle.attribute.specs.Attribute as attribute
use Rattle.attribute.specs.declared.AdsAttribute.{AdsAttribute}
use Rattle.refactor.specs.Refactor as refactor
use Rattle.refactor.specs.declared.AdsRefactorInfo.{AdsRefactorInfo}
use Rattle.symbol.specs.Inside.{IsInside}
use Rattle.symbol.proofs.Lies.{symbols_inside}
use Rattle.symbol.specs.declared.AdsSymbolInfo.{AdsSymbolInfo}
use Rattle.wording.specs.Wording.{bytes}
use Rattle.values.specs.Names.{flags_text, former_text, four_digits, or_none}
use Rattle.why.specs.declared.Reason.{Reason}
use Rattle.why.specs.declared.Reasons.{Reasons}
use Rattle.facts.specs.Facts.{because, falls_short, strings_text, place_text, address_text, numbers_text, optional_text, extended_or, guid_or, below, more_attributes, no_more, attributes_text, more_names, names_text, facts_text}
use Rattle.facts.specs.Told.{fact, list, extended_told, guid_told, attribute_told, more_told, attributes_told, names_told, why_none, FactsMeant}

strings_are : (s : AdsSymbolInfo) → strings_text s ≡ fact (codes "name") (or_none s.name.now) ++ (fact (codes "type") (or_none s.type_name.now) ++ fact (codes "comment") (or_none s.comment.now))
unfolding strings_text
strings_are s = simp append_assoc refl

place_are : (at : ℕ) (s : AdsSymbolInfo) → place_text at s ≡ fact (codes "place") (codes "at " ++ (decimal at ++ (codes ", " ++ bytes s.length))) ++ fact (codes "size") (bytes s.size)
unfolding place_text
place_are at s = simp append_assoc refl

address_are : (s : AdsSymbolInfo) → address_text s ≡ fact (codes "address") (codes "group 0x" ++ (digits 16 true s.index_group.0 ++ (codes ", offset 0x" ++ digits 16 true s.index_offset.0)))
unfolding address_text
address_are s = simp append_assoc refl

numbers_are : (s : AdsSymbolInfo) → numbers_text s ≡ fact (codes "type id") (decimal s.data_type_id) ++ (fact (codes "flags") (flags_text s.flags.0) ++ fact (codes "high") (codes "0x" ++ four_digits s.high))
unfolding numbers_text
numbers_are s = simp append_assoc refl

extended_is : (o : Option AdsSymbol2Flags) (why : Reason) → extended_or why o ≡ extended_told o why
extended_is None why = refl
extended_is (Some flags) why = refl

guid_is : (o : Option (List ℕ)) (why : Reason) → guid_or why o ≡ guid_told o why
guid_is None why = refl
guid_is (Some id) why = refl

optional_are : (s : AdsSymbolInfo) (why : Reasons) → optional_text s why ≡ fact (codes "extended") (extended_told s.extended_flags why.extended_flags) ++ fact (codes "GUID") (guid_told s.guid why.guid)
unfolding optional_text
optional_are s why = ap₂ (λ (x y : List ℕ). fact (codes "extended") x ++ fact (codes "GUID") y) (extended_is s.extended_flags why.extended_flags) (guid_is s.guid why.guid)

no_more_is : (why : Reason) → no_more why ≡ flat_map (fact []) (more_told why)
no_more_is why = go (falls_short why)
  where
    go : (b : Bool) → (if b then below (codes "no more: " ++ because why) else []) ≡ flat_map (fact []) (if b then (codes "no more: " ++ because why) ∷ [] else [])
    go true = sym (append-nil (below (codes "no more: " ++ because why)))
    go false = refl

attributes_are : (all : List AdsAttribute) (why : Reason) → attributes_text all why ≡ list (codes "attributes") (attributes_told all why)
unfolding attributes_text more_attributes
attributes_are [] why = sym (append-nil (fact (codes "attributes") (why_none why)))
attributes_are (a ∷ more) why =
    ap (λ (t : List ℕ). fact (codes "attributes") (attribute_told a) ++ t)
    (ap₂ (λ (x y : List ℕ). x ++ y) (sym (flat_map-map (fact []) attribute_told more)) (no_more_is why) ∙ sym (flat_map-append (fact []) (map attribute_told more) (more_told why)))

names_are : (all : List AdsRefactorInfo) (why : Reason) → names_text all why ≡ list (codes "former names") (names_told all why)
unfolding names_text more_names
names_are [] why = sym (append-nil (fact (codes "former names") (why_none why)))
names_are (r ∷ more) why =
    ap (λ (t : List ℕ). fact (codes "former names") (former_text r.name.now) ++ t) (sym (flat_map-map (fact []) (λ (q : AdsRefactorInfo). former_text q.name.now) more))

-- one line after another
regrouped : (a b c d e f g h i j k l m n : List ℕ)
    → (a ++ (b ++ c)) ++ ((d ++ e) ++ (f ++ ((g ++ (h ++ i)) ++ ((j ++ k) ++ (l ++ (m ++ n))))))
    ≡ a ++ (b ++ (c ++ (d ++ (e ++ (f ++ (g ++ (h ++ (i ++ (j ++ (k ++ (l ++ (m ++ n))))))))))))
regrouped a b c d e f g h i j k l m n = simp append_assoc refl

by_record : (at : ℕ) (s : AdsSymbolInfo) (why : Reasons)
    → facts_text at s why
    ≡ fact (codes "name") (or_none s.name.now)
    ++ (fact (codes "type") (or_none s.type_name.now)
    ++ (fact (codes "comment") (or_none s.comment.now)
    ++ (fact (codes "place") (codes "at " ++ (decimal at ++ (codes ", " ++ bytes s.length)))
    ++ (fact (codes "size") (bytes s.size)
    ++ (fact (codes "address") (codes "group 0x" ++ (digits 16 true s.index_group.0 ++ (codes ", offset 0x" ++ digits 16 true s.index_offset.0)))
    ++ (fact (codes "type id") (decimal s.data_type_id)
    ++ (fact (codes "flags") (flags_text s.flags.0)
    ++ (fact (codes "high") (codes "0x" ++ four_digits s.high)
    ++ (fact (codes "extended") (extended_told s.extended_flags why.extended_flags)
    ++ (fact (codes "GUID") (guid_told s.guid why.guid)
    ++ (list (codes "attributes") (attributes_told (attribute.left s.attributes) why.attributes)
    ++ (list (codes "former names") (names_told (refactor.left s.refactor_infos) why.refactor_infos)
    ++ fact (codes "unread") (bytes (length s.unread.now))))))))))))))
unfolding facts_text
by_record at s why =
    ap₂ (λ (x y : List ℕ). x ++ y) (strings_are s)
    (ap₂ (λ (x y : List ℕ). x ++ y) (place_are at s)
    (ap₂ (λ (x y : List ℕ). x ++ y) (address_are s)
    (ap₂ (λ (x y : List ℕ). x ++ y) (numbers_are s)
    (ap₂ (λ (x y : List ℕ). x ++ y) (optional_are s why)
    (ap₂ (λ (x y : List ℕ). x ++ y) (attributes_are (attribute.left s.attributes) why.attributes)
    (ap₂ (λ (x y : List ℕ). x ++ y) (names_are (refactor.left s.refactor_infos) why.refactor_infos) refl))))))
    ∙ regrouped
    (fact (codes "name") (or_none s.name.now))
    (fact (codes "type") (or_none s.type_name.now))
    (fact (codes "comment") (or_none s.comment.now))
    (fact (codes "place") (codes "at " ++ (decimal at ++ (codes ", " ++ bytes s.length))))
    (fact (codes "size") (bytes s.size))
    (fact (codes "address") (codes "group 0x" ++ (digits 16 true s.index_group.0 ++ (codes ", offset 0x" ++ digits 16 true s.index_offset.0))))
    (fact (codes "type id") (decimal s.data_type_id))
    (fact (codes "flags") (flags_text s.flags.0))
    (fact (codes "high") (codes "0x" ++ four_digits s.high))
    (fact (codes "extended") (extended_told s.extended_flags why.extended_flags))
    (fact (codes "GUID") (guid_told s.guid why.guid))
    (list (codes "attributes") (attributes_told (attribute.left s.attributes) why.attributes))
    (list (codes "former names") (names_told (refactor.left s.refactor_infos) why.refactor_infos))
    (fact (codes "unread") (bytes (length s.unread.now)))

string_is : (e s : Bor (List ℕ)) (at n : ℕ) → IsString e at s → length s.now ≡ n → or_none s.now ≡ or_none (take n (drop at e.now))
string_is e s at n h l = ap or_none (ap (λ (b : Bor (List ℕ)). b.now) h.is ∙ ap (λ (k : ℕ). take k (drop at e.now)) l)

pub facts_meant : FactsMeant
facts_meant mode e s at why h =
    let i : IsInside e s = symbols_inside mode e s h in
    let name = string_is e s.name 30 (le2 e.now 24) i.name i.name_length in
    let kind = string_is e s.type_name (31 + length s.name.now) (le2 e.now 26) i.type_name i.type_name_length
    ∙ ap (λ (k : ℕ). or_none (take (le2 e.now 26) (drop (31 + k) e.now))) i.name_length in
    let comment = string_is e s.comment (32 + length s.name.now + length s.type_name.now) (le2 e.now 28) i.comment i.comment_length
    ∙ ap (λ (k : ℕ). or_none (take (le2 e.now 28) (drop (32 + k + length s.type_name.now) e.now))) i.name_length
    ∙ ap (λ (k : ℕ). or_none (take (le2 e.now 28) (drop (32 + le2 e.now 24 + k) e.now))) i.type_name_length in
    by_record at s why ∙ rw (i.long, name, kind, comment, i.size, i.index_group, i.index_offset, i.data_type_id, i.flags, i.high) refl
