-- Values word for word: computed.
use Rattle.std.proofs.Common.{ℕ, ◌≡◌, List, ◌∷◌, refl, sym, ap, ◌∙◌}
use Rattle.std.specs.Fmt.{digits}
use Rattle.report.specs.Json.{guid_text}
use Rattle.wording.specs.Text.{quoted, shown}
use Rattle.wording.specs.Wording.{bytes, many, grouped, grouped_by, figure, refusal_text}
use Rattle.values.specs.Names.{context_text, extended_bits_text, extended_text, flags_text, former_text, four_digits, nameless_text, or_none, symbol_bits_text}
use Rattle.values.specs.Shown.{value_json, value_text}
use Rattle.values.specs.ValuesMeant.{ValuesMeant}

some_text : (s : List ℕ) (b : ℕ) (more : List ℕ) → s ≡ b ∷ more → or_none s ≡ shown s
unfolding or_none
some_text s b more h = ap or_none h ∙ sym (ap shown h)

some_name : (s : List ℕ) (b : ℕ) (more : List ℕ) → s ≡ b ∷ more → former_text s ≡ shown s
unfolding former_text
some_name s b more h = ap former_text h ∙ sym (ap shown h)

pub values_meant : ValuesMeant
unfolding digits guid_text quoted bytes many grouped grouped_by figure refusal_text context_text extended_bits_text extended_text flags_text former_text four_digits nameless_text or_none symbol_bits_text value_json value_text
values_meant = record {
  absent = (refl, refl);
  bytes = (refl, refl);
  number = (refl, refl);
  hexadecimal = (refl, refl);
  high = (refl, refl);
  flags = (refl, refl);
  extended_flags = (refl, refl);
  text = λ s b more h. (some_text s.now b more h, refl);
  no_text = λ s h. (ap or_none h, ap quoted h);
  guid = (refl, refl);
  attribute = λ a. (refl, refl);
  former_name = λ s b more h. (some_name s.now b more h, refl);
  no_former_name = λ s h. (ap former_text h, ap quoted h);
  refused = (refl, refl);
  byte = (refl, refl);
}
