-- What `find` writes, by the bytes of the entry: proved.
use Rattle.std.proofs.Common.{ℕ, ◌+◌, ◌≡◌, refl, ap, ◌∙◌, List, [], ◌∷◌, ◌++◌, codes, decimal, length, take, drop, Bor, Result, Ok, Err}
use Rattle.std.proofs.lemmas.List.Concat.{flat_map-cons}
use Rattle.le.specs.Le.{le2}
use Rattle.part.specs.Outcome.{outcome}
use Rattle.refusal.specs.declared.Refusal.{Refusal}
use Rattle.attribute.specs.declared.AdsAttribute.{AdsAttribute}
use Rattle.attribute.specs.Asked.{FirstNamed}
use Rattle.attribute.specs.Attribute as attribute
use Rattle.attribute.proofs.Asked.{attributes_named, one_named}
use Rattle.symbol.specs.declared.AdsSymbolInfo.{AdsSymbolInfo}
use Rattle.symbol.proofs.Lies.{symbols_inside}
use Rattle.wording.specs.Text.{exact, exact_char}
use Rattle.finding.specs.declared.Found.{Found}
use Rattle.finding.specs.Find.{value, value_text, attribute_text}
use Rattle.finding.specs.Written.{in_utf8, FoundWritten}

exact_is : (s : List ℕ) → exact s ≡ in_utf8 s
unfolding exact
exact_is [] = refl
exact_is (b ∷ s) = flat_map-cons exact_char b s ∙ ap (λ (t : List ℕ). exact_char b ++ t) (exact_is s)

-- what is written of the answer to a name
answered : (f : Found AdsSymbolInfo) (name : List ℕ) (r : Result AdsAttribute Refusal) → FirstNamed (attribute.left f.entry.attributes) name r → attribute_text f name ≡ outcome r value_text (λ why. [])
unfolding attribute_text
answered f name r h =
    let all = attribute.left f.entry.attributes in
    ap (λ (x : Result AdsAttribute Refusal). outcome x value_text (λ why. [])) (one_named all name (value f name) r (attributes_named all name) h)

pub found_written : FoundWritten
found_written = record {
  place = λ mode e f h.
      let i = symbols_inside mode e f.entry h in
      let is : f.entry.type_name.now ≡ take (le2 e.now 26) (drop (31 + le2 e.now 24) e.now)
      = ap (λ (b : Bor (List ℕ)). b.now) i.type_name.is ∙ ap (λ (k : ℕ). take k (drop (31 + length f.entry.name.now) e.now)) i.type_name_length ∙ ap (λ (k : ℕ). take (le2 e.now 26) (drop (31 + k) e.now)) i.name_length in
      ap (λ (t : List ℕ). decimal f.at ++ (codes " " ++ (t ++ codes "\n"))) (exact_is f.entry.type_name.now ∙ ap in_utf8 is);
  value = λ f name a h. answered f name (Ok a) h ∙ ap (λ (t : List ℕ). t ++ codes "\n") (exact_is a.value.now);
  none = λ f name why h. answered f name (Err why) h;
}
