-- docs/FORMAT.md, "The command's text". What stands in JSON of an entry, a line each.
use Rattle.std.specs.Prelude.{ℕ, List, [], ◌∷◌, ◌++◌, length, get_or, codes, decimal, Option, Some, None}
use Rattle.std.specs.List.{flat_map}
use Rattle.wording.specs.Text.{pair, quoted}
use Rattle.wording.specs.Wording.{refusal_text}
use Rattle.refusal.specs.Refusal.{figures_of}
use Rattle.refusal.specs.declared.Figures.{Figures}
use Rattle.refusal.specs.declared.Refusal.{Refusal}
use Rattle.flags.specs.declared.symbol_flags.AdsSymbol2Flags.{AdsSymbol2Flags}
use Rattle.attribute.specs.declared.AdsAttribute.{AdsAttribute}
use Rattle.attribute.specs.Attribute as attribute
use Rattle.refactor.specs.declared.AdsRefactorInfo.{AdsRefactorInfo}
use Rattle.refactor.specs.Refactor as refactor
use Rattle.symbol.specs.declared.AdsSymbolInfo.{AdsSymbolInfo}

unfoldable pub figures_text : Figures → List ℕ
figures_text why =
    codes "\"refused\":" ++ (decimal why.number
    ++ (codes ",\"expected\":" ++ (decimal why.expected
    ++ (codes ",\"got\":" ++ decimal why.got))))

-- a refused entry: the refusal's number, its two figures and its words
unfoldable pub refused_text : ℕ → Refusal → List ℕ
refused_text place why =
    codes "{\"place\":" ++ (decimal place ++ (codes "," ++ (figures_text (figures_of why) ++ (codes ",\"reason\":\"" ++ (refusal_text why ++ codes "\"}")))))

unfoldable pub strings_text : AdsSymbolInfo → List ℕ
strings_text s =
    codes "\"length\":" ++ (decimal s.length
    ++ (codes ",\"name\":" ++ (quoted s.name.now
    ++ (codes ",\"type\":" ++ (quoted s.type_name.now
    ++ (codes ",\"comment\":" ++ quoted s.comment.now))))))

unfoldable pub numbers_text : AdsSymbolInfo → List ℕ
numbers_text s =
    codes "\"size\":" ++ (decimal s.size
    ++ (codes ",\"group\":" ++ (decimal s.index_group.0
    ++ (codes ",\"offset\":" ++ (decimal s.index_offset.0
    ++ (codes ",\"type_id\":" ++ (decimal s.data_type_id
    ++ (codes ",\"flags\":" ++ (decimal s.flags.0
    ++ (codes ",\"high\":" ++ decimal s.high))))))))))

abbrev pub extended_text : Option AdsSymbol2Flags → List ℕ
extended_text None = codes "null"
extended_text (Some flags) = decimal flags.0

-- the first three fields of a GUID are little-endian numbers, the rest bytes
abbrev pub byte : List ℕ → ℕ → List ℕ
byte g k = pair (get_or g k 0)

unfoldable pub guid_text : List ℕ → List ℕ
guid_text g =
    codes "{" ++ (byte g 3 ++ (byte g 2 ++ (byte g 1 ++ (byte g 0
    ++ (codes "-" ++ (byte g 5 ++ (byte g 4
    ++ (codes "-" ++ (byte g 7 ++ (byte g 6
    ++ (codes "-" ++ (byte g 8 ++ (byte g 9
    ++ (codes "-" ++ (byte g 10 ++ (byte g 11 ++ (byte g 12 ++ (byte g 13 ++ (byte g 14 ++ (byte g 15 ++ codes "}"))))))))))))))))))))

abbrev pub guid_or_null : Option (List ℕ) → List ℕ
guid_or_null None = codes "null"
guid_or_null (Some g) = codes "\"" ++ (guid_text g ++ codes "\"")

abbrev pub attribute_text : AdsAttribute → List ℕ
attribute_text a = codes "{\"name\":" ++ (quoted a.name.now ++ (codes ",\"value\":" ++ (quoted a.value.now ++ codes "}")))

-- with commas between them
unfoldable pub more_attributes : List AdsAttribute → List ℕ
more_attributes all = flat_map (λ a. codes "," ++ attribute_text a) all

unfoldable pub attributes_text : List AdsAttribute → List ℕ
attributes_text [] = []
attributes_text (a ∷ all) = attribute_text a ++ more_attributes all

abbrev pub former_text : AdsRefactorInfo → List ℕ
former_text r = quoted r.name.now

unfoldable pub more_formers : List AdsRefactorInfo → List ℕ
more_formers all = flat_map (λ r. codes "," ++ former_text r) all

unfoldable pub formers_text : List AdsRefactorInfo → List ℕ
formers_text [] = []
formers_text (r ∷ all) = former_text r ++ more_formers all

unfoldable pub sections_text : AdsSymbolInfo → List ℕ
sections_text s =
    codes "\"extended_flags\":" ++ (extended_text s.extended_flags
    ++ (codes ",\"guid\":" ++ (guid_or_null s.guid
    ++ (codes ",\"attributes\":[" ++ (attributes_text (attribute.left s.attributes)
    ++ (codes "],\"former_names\":[" ++ (formers_text (refactor.left s.refactor_infos)
    ++ (codes "],\"unread\":" ++ decimal (length s.unread.now)))))))))

unfoldable pub symbol_text : ℕ → AdsSymbolInfo → List ℕ
symbol_text place s =
    codes "{\"place\":" ++ (decimal place ++ (codes "," ++ (strings_text s ++ (codes "," ++ (numbers_text s ++ (codes "," ++ (sections_text s ++ codes "}")))))))
