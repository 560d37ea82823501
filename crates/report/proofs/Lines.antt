-- The lines of JSON have their members.
use Rattle.std.proofs.Common.{◌≡◌, ℕ, ◌+◌, List, [], ◌∷◌, ◌++◌, codes, decimal, length, map, refl, sym, ap, ◌∙◌, append_assoc, append-nil}
use Rattle.std.specs.Prelude.{take, drop, Option, None, Some, Result}
use Rattle.std.specs.List.{flat_map, join_with_byte}
use Rattle.std.specs.Borrow.{Bor}
use Rattle.le.specs.Le.{le2}
use Rattle.refusal.specs.Refusal.{figures_of}
use Rattle.refusal.specs.declared.Refusal.{Refusal}
use Rattle.attribute.specs.Attribute as attribute
use Rattle.refactor.specs.Refactor as refactor
use Rattle.symbol.specs.Inside.{IsInside}
use Rattle.symbol.proofs.Lies.{symbols_inside}
use Rattle.symbol.specs.declared.AdsSymbolInfo.{AdsSymbolInfo}
use Rattle.report.specs.Json.{symbol_text, strings_text, numbers_text, sections_text, attributes_text, more_attributes, formers_text, more_formers, refused_text, figures_text, guid_text, attribute_text, extended_text, guid_or_null}
use Rattle.part.specs.End.{IsString}
use Rattle.attribute.specs.declared.AdsAttribute.{AdsAttribute}
use Rattle.refactor.specs.declared.AdsRefactorInfo.{AdsRefactorInfo}
use Rattle.flags.specs.declared.symbol_flags.AdsSymbol2Flags.{AdsSymbol2Flags}
use Rattle.wording.specs.Text.{quoted}
use Rattle.wording.specs.Wording.{refusal_text}
use Rattle.report.specs.Report.{json_line, json_by}
use Rattle.report.specs.Meant.{member, object, array, symbol_members, refused_members, number_or_null, string_or_null, LinesMeant}

-- members with commas between them, before some text
written : List (List ℕ) → List ℕ → List ℕ
written [] t = t
written (x ∷ []) t = x ++ t
written (x ∷ y ∷ xs) t = x ++ (44 ∷ written (y ∷ xs) t)

closed : (xs : List (List ℕ)) (t : List ℕ) → join_with_byte 44 xs ++ t ≡ written xs t
unfolding written
closed [] t = refl
closed (x ∷ []) t = refl
closed (x ∷ y ∷ xs) t = append_assoc x (44 ∷ join_with_byte 44 (y ∷ xs)) t ∙ ap (λ (z : List ℕ). x ++ (44 ∷ z)) (closed (y ∷ xs) t)

joined : {X : Type 0} (f : X → List ℕ) (x : X) (xs : List X) → f x ++ flat_map (λ y. codes "," ++ f y) xs ≡ join_with_byte 44 (map f (x ∷ xs))
joined f x [] = append-nil (f x)
joined f x (y ∷ ys) = ap (λ (t : List ℕ). f x ++ (44 ∷ t)) (joined f y ys)

abbrev attribute_object : AdsAttribute → List ℕ
attribute_object a = object (member (codes "name") (quoted a.name.now) ∷ member (codes "value") (quoted a.value.now) ∷ [])

attribute_is : (a : AdsAttribute) → attribute_text a ≡ attribute_object a
unfolding written
attribute_is a = ap (λ (t : List ℕ). codes "{" ++ t) (sym (closed (member (codes "name") (quoted a.name.now) ∷ member (codes "value") (quoted a.value.now) ∷ []) (codes "}")))

more_are : (all : List AdsAttribute) → more_attributes all ≡ flat_map (λ a. codes "," ++ attribute_object a) all
unfolding more_attributes
more_are [] = refl
more_are (a ∷ all) = ap (λ (t : List ℕ). (codes "," ++ t) ++ more_attributes all) (attribute_is a) ∙ ap (λ (t : List ℕ). (codes "," ++ attribute_object a) ++ t) (more_are all)

attributes_are : (all : List AdsAttribute) → attributes_text all ≡ join_with_byte 44 (map attribute_object all)
unfolding attributes_text
attributes_are [] = refl
attributes_are (a ∷ all) =
    ap (λ (t : List ℕ). t ++ more_attributes all) (attribute_is a) ∙ ap (λ (t : List ℕ). attribute_object a ++ t) (more_are all) ∙ joined attribute_object a all

formers_are : (all : List AdsRefactorInfo) → formers_text all ≡ join_with_byte 44 (map (λ r. quoted r.name.now) all)
unfolding formers_text more_formers
formers_are [] = refl
formers_are (r ∷ all) = joined (λ r. quoted r.name.now) r all

-- the members of a symbol by its record, in three parts
abbrev strings : AdsSymbolInfo → List (List ℕ)
strings s =
    member (codes "length") (decimal s.length)
    ∷ member (codes "name") (quoted s.name.now)
    ∷ member (codes "type") (quoted s.type_name.now)
    ∷ member (codes "comment") (quoted s.comment.now)
    ∷ []

abbrev numbers : AdsSymbolInfo → List (List ℕ)
numbers s =
    member (codes "size") (decimal s.size)
    ∷ member (codes "group") (decimal s.index_group.0)
    ∷ member (codes "offset") (decimal s.index_offset.0)
    ∷ member (codes "type_id") (decimal s.data_type_id)
    ∷ member (codes "flags") (decimal s.flags.0)
    ∷ member (codes "high") (decimal s.high)
    ∷ []

abbrev sections : AdsSymbolInfo → List (List ℕ)
sections s =
    member (codes "extended_flags") (number_or_null s.extended_flags)
    ∷ member (codes "guid") (string_or_null s.guid)
    ∷ member (codes "attributes") (array (map attribute_object (attribute.left s.attributes)))
    ∷ member (codes "former_names") (array (map (λ r. quoted r.name.now) (refactor.left s.refactor_infos)))
    ∷ member (codes "unread") (decimal (length s.unread.now))
    ∷ []

extended_is : (o : Option AdsSymbol2Flags) → extended_text o ≡ number_or_null o
extended_is None = refl
extended_is (Some flags) = refl

guid_is : (o : Option (List ℕ)) → guid_or_null o ≡ string_or_null o
guid_is None = refl
guid_is (Some g) = refl

sections_are : (s : AdsSymbolInfo) → sections_text s ≡ join_with_byte 44 (sections s)
unfolding sections_text
sections_are s =
    let unread : List ℕ = decimal (length s.unread.now) in
    let rest : List ℕ = codes "],\"unread\":" ++ unread in
    let names : List ℕ = join_with_byte 44 (map (λ r. quoted r.name.now) (refactor.left s.refactor_infos)) in
    let own : List ℕ = join_with_byte 44 (map attribute_object (attribute.left s.attributes)) in
    let e : formers_text (refactor.left s.refactor_infos) ++ rest ≡ (names ++ codes "]") ++ (codes ",\"unread\":" ++ unread)
    = ap (λ (t : List ℕ). t ++ rest) (formers_are (refactor.left s.refactor_infos)) ∙ sym (append_assoc names (codes "]") (codes ",\"unread\":" ++ unread)) in
    let f : attributes_text (attribute.left s.attributes) ++ (codes "],\"former_names\":[" ++ (formers_text (refactor.left s.refactor_infos) ++ rest))
    ≡ (own ++ codes "]") ++ (codes ",\"former_names\":[" ++ ((names ++ codes "]") ++ (codes ",\"unread\":" ++ unread)))
    = ap (λ (t : List ℕ). t ++ (codes "],\"former_names\":[" ++ (formers_text (refactor.left s.refactor_infos) ++ rest))) (attributes_are (attribute.left s.attributes))
    ∙ ap (λ (t : List ℕ). own ++ (codes "],\"former_names\":[" ++ t)) e
    ∙ sym (append_assoc own (codes "]") (codes ",\"former_names\":[" ++ ((names ++ codes "]") ++ (codes ",\"unread\":" ++ unread)))) in
    ap (λ (t : List ℕ). codes "\"extended_flags\":" ++ (t ++ (codes ",\"guid\":" ++ (guid_or_null s.guid ++ (codes ",\"attributes\":[" ++ (attributes_text (attribute.left s.attributes) ++ (codes "],\"former_names\":[" ++ (formers_text (refactor.left s.refactor_infos) ++ rest)))))))) (extended_is s.extended_flags)
    ∙ ap (λ (t : List ℕ). codes "\"extended_flags\":" ++ (number_or_null s.extended_flags ++ (codes ",\"guid\":" ++ (t ++ (codes ",\"attributes\":[" ++ (attributes_text (attribute.left s.attributes) ++ (codes "],\"former_names\":[" ++ (formers_text (refactor.left s.refactor_infos) ++ rest)))))))) (guid_is s.guid)
    ∙ ap (λ (t : List ℕ). codes "\"extended_flags\":" ++ (number_or_null s.extended_flags ++ (codes ",\"guid\":" ++ (string_or_null s.guid ++ (codes ",\"attributes\":[" ++ t))))) f

abbrev record_members : ℕ → AdsSymbolInfo → List (List ℕ)
record_members place s = member (codes "place") (decimal place) ∷ (strings s ++ (numbers s ++ sections s))

symbol_is : (place : ℕ) (s : AdsSymbolInfo) → symbol_text place s ≡ object (record_members place s)
unfolding symbol_text strings_text numbers_text written
symbol_is place s =
    let c : sections_text s ++ codes "}" ≡ written (sections s) (codes "}")
    = ap (λ (t : List ℕ). t ++ codes "}") (sections_are s) ∙ closed (sections s) (codes "}") in
    let n : numbers_text s ++ (codes "," ++ (sections_text s ++ codes "}")) ≡ written (numbers s) (codes "," ++ written (sections s) (codes "}"))
    = ap (λ (t : List ℕ). numbers_text s ++ (codes "," ++ t)) c ∙ closed (numbers s) (codes "," ++ written (sections s) (codes "}")) in
    let m : strings_text s ++ (codes "," ++ (numbers_text s ++ (codes "," ++ (sections_text s ++ codes "}")))) ≡ written (strings s) (codes "," ++ written (numbers s) (codes "," ++ written (sections s) (codes "}")))
    = ap (λ (t : List ℕ). strings_text s ++ (codes "," ++ t)) n ∙ closed (strings s) (codes "," ++ written (numbers s) (codes "," ++ written (sections s) (codes "}"))) in
    ap (λ (t : List ℕ). codes "{\"place\":" ++ (decimal place ++ (codes "," ++ t))) m
    ∙ ap (λ (t : List ℕ). codes "{" ++ t) (sym (closed (record_members place s) (codes "}")))

refused_is : (place : ℕ) (why : Refusal) → refused_text place why ≡ object (refused_members place why)
unfolding refused_text figures_text written
refused_is place why =
    let three : List (List ℕ) = member (codes "refused") (decimal (figures_of why).number) ∷ member (codes "expected") (decimal (figures_of why).expected) ∷ member (codes "got") (decimal (figures_of why).got) ∷ [] in
    let r : List ℕ = codes ",\"reason\":\"" ++ (refusal_text why ++ codes "\"}") in
    let q : codes "\"" ++ (refusal_text why ++ (codes "\"" ++ codes "}")) ≡ (codes "\"" ++ (refusal_text why ++ codes "\"")) ++ codes "}"
    = ap (λ (t : List ℕ). codes "\"" ++ t) (sym (append_assoc (refusal_text why) (codes "\"") (codes "}"))) in
    ap (λ (t : List ℕ). codes "{\"place\":" ++ (decimal place ++ (codes "," ++ t))) (closed three r)
    ∙ ap (λ (t : List ℕ). codes "{\"place\":" ++ (decimal place ++ (codes "," ++ written three (codes ",\"reason\":" ++ t)))) q
    ∙ ap (λ (t : List ℕ). codes "{" ++ t) (sym (closed (refused_members place why) (codes "}")))

string_is : (e s : Bor (List ℕ)) (at n : ℕ) → IsString e at s → length s.now ≡ n → quoted s.now ≡ quoted (take n (drop at e.now))
string_is e s at n h l = ap quoted (ap (λ (b : Bor (List ℕ)). b.now) h.is ∙ ap (λ (k : ℕ). take k (drop at e.now)) l)

by_bytes : (place : ℕ) (e : Bor (List ℕ)) (s : AdsSymbolInfo) → IsInside e s → object (record_members place s) ≡ object (symbol_members place e.now s)
by_bytes place e s i =
    let name = string_is e s.name 30 (le2 e.now 24) i.name i.name_length in
    let kind = string_is e s.type_name (31 + length s.name.now) (le2 e.now 26) i.type_name i.type_name_length
    ∙ ap (λ (k : ℕ). quoted (take (le2 e.now 26) (drop (31 + k) e.now))) i.name_length in
    let comment = string_is e s.comment (32 + length s.name.now + length s.type_name.now) (le2 e.now 28) i.comment i.comment_length
    ∙ ap (λ (k : ℕ). quoted (take (le2 e.now 28) (drop (32 + k + length s.type_name.now) e.now))) i.name_length
    ∙ ap (λ (k : ℕ). quoted (take (le2 e.now 28) (drop (32 + le2 e.now 24 + k) e.now))) i.type_name_length in
    rw (i.long, name, kind, comment, i.size, i.index_group, i.index_offset, i.data_type_id, i.flags, i.high) refl

pub lines_meant : LinesMeant
unfolding guid_text json_line
lines_meant = record {
  accepted = λ mode e s p h a. ap (λ (r : Result AdsSymbolInfo Refusal). json_by p.start r ++ codes "\n") a
      ∙ ap (λ (t : List ℕ). t ++ codes "\n") (symbol_is p.start s ∙ by_bytes p.start e s (symbols_inside mode e s h));
  refused = λ p why a. ap (λ (r : Result AdsSymbolInfo Refusal). json_by p.start r ++ codes "\n") a ∙ ap (λ (t : List ℕ). t ++ codes "\n") (refused_is p.start why);
  guid = refl;
}
