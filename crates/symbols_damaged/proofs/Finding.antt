-- The attributes of a symbol, by their names, where another upload differs inside some entries: proved.
use Rattle.std.proofs.Common.{ℕ, ◌≡◌, refl, sym, ap, ◌∙◌, List, Option, Some, None, Result, Ok, Err, option_map}
use Rattle.part.specs.Slice.{part}
use Rattle.refusal.specs.declared.Refusal.{Refusal}
use Rattle.entry.proofs.Alike.{walked_alike}
use Rattle.walk.specs.Mapped.{map_ok}
use Rattle.walk.specs.Step.{step_at}
use Rattle.damage.proofs.Stays as stays
use Rattle.attribute.specs.Attribute.{listed}
use Rattle.attribute.specs.Told as attributes
use Rattle.attribute.specs.Named.{named_told}
use Rattle.attribute.proofs.Named.{named_tells}
use Rattle.symbol.specs.declared.AdsSymbolInfo.{AdsSymbolInfo}
use Rattle.symbol.specs.Symbol.{symbol_of}
use Rattle.symbol.specs.Told.{Told, told_of}
use Rattle.symbol.proofs.Anywhere.{symbols_anywhere}
use Rattle.symbols_damaged.specs.Finding.{attribute_told, AttributesStay}

-- what a step tells of an attribute by its name, by what it tells
attribute_of : List ℕ → Option (Result Told Refusal) → Option (Result attributes.Told Refusal)
attribute_of name None = None
attribute_of name (Some (Err why)) = None
attribute_of name (Some (Ok told)) = Some (named_told told.attributes name)

attribute_by : (name : List ℕ) (x : Option (Result AdsSymbolInfo Refusal)) → attribute_told name x ≡ attribute_of name (option_map (map_ok told_of) x)
unfolding attribute_of
attribute_by name None = refl
attribute_by name (Some (Err why)) = refl
attribute_by name (Some (Ok symbol)) = ap Some (named_tells (listed symbol.attributes.bytes symbol.attributes.count) name)

pub attributes_stay : AttributesStay
attributes_stay mode name s t places d =
    let same = λ (at size : ℕ) (e : (part s at size).now ≡ (part t at size).now). symbols_anywhere mode (part s at size) (part t at size) e in
    record {
      begin = (walked_alike s.now t.now places d).begin;
      goes = λ at r. ap (λ c. c.at) (stays.cursor_alike (symbol_of mode) told_of s t places d same at r);
      other = λ at r off.
          attribute_by name (step_at (symbol_of mode) s at).answer
          ∙ ap (attribute_of name) (stays.answer_alike (symbol_of mode) told_of s t places d same at r off)
          ∙ sym (attribute_by name (step_at (symbol_of mode) t at).answer);
    }
