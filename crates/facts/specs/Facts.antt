-- docs/FORMAT.md, "The command's text" and "Why": what `show` tells of a symbol, a line a fact.
use Rattle.std.specs.Prelude.{ℕ, ◌==◌, Bool, true, false, List, [], ◌∷◌, ◌++◌, codes, decimal, length, Option, None, Some, if◌then◌else◌}
use Rattle.std.specs.Fmt.{digits}
use Rattle.std.specs.List.{flat_map}
use Rattle.wording.specs.Text.{shown}
use Rattle.wording.specs.Wording.{bytes, refusal_text}
use Rattle.flags.specs.declared.symbol_flags.AdsSymbol2Flags.{AdsSymbol2Flags}
use Rattle.attribute.specs.Attribute as attribute
use Rattle.attribute.specs.declared.AdsAttribute.{AdsAttribute}
use Rattle.refactor.specs.Refactor as refactor
use Rattle.refactor.specs.declared.AdsRefactorInfo.{AdsRefactorInfo}
use Rattle.symbol.specs.declared.AdsSymbolInfo.{AdsSymbolInfo}
use Rattle.report.specs.Json.{guid_text}
use Rattle.values.specs.Names.{extended_text, flags_text, former_text, four_digits, or_none}
use Rattle.why.specs.declared.Reason.{Reason}
use Rattle.why.specs.declared.Reason.TheVariants.{NotFlagged, NoExtendedFlags, NoRoom, Whole, Refused, Owed}
use Rattle.why.specs.declared.Reasons.{Reasons}
use Rattle.why_report.specs.Text.{missing}

-- why a section is not shown, or no more of it
unfoldable pub because : Reason → List ℕ
because NotFlagged = codes "not flagged"
because NoExtendedFlags = codes "there are no extended flags"
because (NoRoom at left) = codes "flagged, but " ++ (bytes left ++ (codes " " ++ ((if left == 1 then codes "is" else codes "are") ++ (codes " left at place " ++ decimal at))))
because (Whole at count) = codes "their count is " ++ decimal count
because (Refused before at why) = codes "record " ++ (decimal before ++ (codes " is refused at place " ++ (decimal at ++ (codes ", " ++ refusal_text why))))
because (Owed announced owed) = missing announced owed

-- a list that shows something was to show more
abbrev pub falls_short : Reason → Bool
falls_short (Refused before at why) = true
falls_short (Owed announced owed) = true
falls_short _ = false

-- a line: what is told, and what
abbrev pub line : List ℕ → List ℕ → List ℕ
line head value = head ++ (value ++ codes "\n")

unfoldable pub strings_text : AdsSymbolInfo → List ℕ
strings_text s =
    codes "name          " ++ (or_none s.name.now
    ++ (codes "\ntype          " ++ (or_none s.type_name.now
    ++ (codes "\ncomment       " ++ (or_none s.comment.now ++ codes "\n")))))

unfoldable pub place_text : ℕ → AdsSymbolInfo → List ℕ
place_text at s =
    codes "place         at " ++ (decimal at ++ (codes ", " ++ (bytes s.length
    ++ (codes "\nsize          " ++ (bytes s.size ++ codes "\n")))))

unfoldable pub address_text : AdsSymbolInfo → List ℕ
address_text s =
    codes "address       group 0x" ++ (digits 16 true s.index_group.0 ++ (codes ", offset 0x" ++ (digits 16 true s.index_offset.0 ++ codes "\n")))

unfoldable pub numbers_text : AdsSymbolInfo → List ℕ
numbers_text s =
    codes "type id       " ++ (decimal s.data_type_id
    ++ (codes "\nflags         " ++ (flags_text s.flags.0
    ++ (codes "\nhigh          0x" ++ (four_digits s.high ++ codes "\n")))))

abbrev pub none : Reason → List ℕ
none why = codes "none: " ++ because why

abbrev pub extended_or : Reason → Option AdsSymbol2Flags → List ℕ
extended_or why (Some flags) = extended_text flags.0
extended_or why None = none why

abbrev pub guid_or : Reason → Option (List ℕ) → List ℕ
guid_or why (Some id) = guid_text id
guid_or why None = none why

unfoldable pub optional_text : AdsSymbolInfo → Reasons → List ℕ
optional_text s why =
    line (codes "extended      ") (extended_or why.extended_flags s.extended_flags)
    ++ line (codes "GUID          ") (guid_or why.guid s.guid)

-- the lines of a list behind its first
abbrev pub below : List ℕ → List ℕ
below value = line (codes "              ") value

abbrev pub attribute_text : AdsAttribute → List ℕ
attribute_text a = shown a.name.now ++ (codes " = " ++ shown a.value.now)

unfoldable pub more_attributes : List AdsAttribute → List ℕ
more_attributes all = flat_map (λ a. below (attribute_text a)) all

abbrev pub no_more : Reason → List ℕ
no_more why = if falls_short why then below (codes "no more: " ++ because why) else []

unfoldable pub attributes_text : List AdsAttribute → Reason → List ℕ
attributes_text [] why = line (codes "attributes    ") (none why)
attributes_text (a ∷ more) why = line (codes "attributes    ") (attribute_text a) ++ (more_attributes more ++ no_more why)

unfoldable pub more_names : List AdsRefactorInfo → List ℕ
more_names all = flat_map (λ r. below (former_text r.name.now)) all

unfoldable pub names_text : List AdsRefactorInfo → Reason → List ℕ
names_text [] why = line (codes "former names  ") (none why)
names_text (r ∷ more) why = line (codes "former names  ") (former_text r.name.now) ++ more_names more

unfoldable pub facts_text : ℕ → AdsSymbolInfo → Reasons → List ℕ
facts_text at s why =
    strings_text s
    ++ (place_text at s
    ++ (address_text s
    ++ (numbers_text s
    ++ (optional_text s why
    ++ (attributes_text (attribute.left s.attributes) why.attributes
    ++ (names_text (refactor.left s.refactor_infos) why.refactor_infos
    ++ line (codes "unread        ") (bytes (length s.unread.now))))))))
