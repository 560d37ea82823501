-- docs/FORMAT.md, "The command's text" and "Text": what `find` writes, by the bytes of the entry.
use Rattle.std.specs.Prelude.{ℕ, ◌+◌, ◌≡◌, List, [], ◌++◌, codes, decimal, encode_utf8_all, map, take, drop, Ok, Err}
use Rattle.std.specs.Borrow.{Bor}
use Rattle.le.specs.Le.{le2}
use Rattle.refusal.specs.declared.Mode.{Mode}
use Rattle.refusal.specs.declared.Refusal.{Refusal}
use Rattle.text.specs.Text.{code_point}
use Rattle.attribute.specs.declared.AdsAttribute.{AdsAttribute}
use Rattle.attribute.specs.Asked.{FirstNamed}
use Rattle.attribute.specs.Attribute as attribute
use Rattle.symbol.specs.declared.AdsSymbolInfo.{AdsSymbolInfo}
use Rattle.symbol.specs.Symbol.{symbol_of}
use Rattle.finding.specs.declared.Found.{Found}
use Rattle.finding.specs.Find.{place_text, attribute_text}

-- the characters of Windows-1252 in UTF-8
abbrev pub in_utf8 : List ℕ → List ℕ
in_utf8 s = encode_utf8_all (map code_point s)

pub record FoundWritten : Type 0 where
  -- the place, a space, and the type that stands in the entry
  pub place : (mode : Mode) (e : Bor (List ℕ)) (f : Found AdsSymbolInfo) → symbol_of mode e ≡ Ok f.entry
      → place_text f ≡ decimal f.at ++ (codes " " ++ (in_utf8 (take (le2 e.now 26) (drop (31 + le2 e.now 24) e.now)) ++ codes "\n"))
  -- the value of the first attribute whose name has these very bytes, and nothing where none has it
  pub value : (f : Found AdsSymbolInfo) (name : List ℕ) (a : AdsAttribute) → FirstNamed (attribute.left f.entry.attributes) name (Ok a) → attribute_text f name ≡ in_utf8 a.value.now ++ codes "\n"
  pub none : (f : Found AdsSymbolInfo) (name : List ℕ) (why : Refusal) → FirstNamed (attribute.left f.entry.attributes) name (Err why) → attribute_text f name ≡ []
