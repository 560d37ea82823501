-- docs/FORMAT.md, "The command's text" and "Symbol entries": what `show` tells of a symbol, by the bytes of its entry.
use Rattle.std.specs.Prelude.{ℕ, ◌+◌, ◌-◌, ◌≡◌, List, [], ◌∷◌, ◌++◌, codes, decimal, length, map, take, drop, true, replicate, Option, None, Some, Ok, if◌then◌else◌}
use Rattle.std.specs.Fmt.{digits}
use Rattle.std.specs.List.{flat_map}
use Rattle.std.specs.Borrow.{Bor}
use Rattle.le.specs.Le.{le2, le4}
use Rattle.refusal.specs.declared.Mode.{Mode}
use Rattle.flags.specs.declared.symbol_flags.AdsSymbol2Flags.{AdsSymbol2Flags}
use Rattle.attribute.specs.Attribute as attribute
use Rattle.attribute.specs.declared.AdsAttribute.{AdsAttribute}
use Rattle.refactor.specs.Refactor as refactor
use Rattle.refactor.specs.declared.AdsRefactorInfo.{AdsRefactorInfo}
use Rattle.symbol.specs.Symbol.{symbol_of}
use Rattle.symbol.specs.declared.AdsSymbolInfo.{AdsSymbolInfo}
use Rattle.wording.specs.Text.{shown}
use Rattle.wording.specs.Wording.{bytes}
use Rattle.report.specs.Json.{guid_text}
use Rattle.values.specs.Names.{extended_text, flags_text, former_text, four_digits, or_none}
use Rattle.why.specs.declared.Reason.{Reason}
use Rattle.why.specs.declared.Reasons.{Reasons}
use Rattle.facts.specs.Facts.{because, falls_short, facts_text}

-- a line: a heading, with spaces up to 14 characters, and a value
abbrev pub fact : List ℕ → List ℕ → List ℕ
fact heading value = heading ++ (replicate (14 - length heading) 32 ++ (value ++ codes "\n"))

-- lines of which the first alone has the heading
abbrev pub list : List ℕ → List (List ℕ) → List ℕ
list heading [] = []
list heading (first ∷ more) = fact heading first ++ flat_map (fact []) more

-- a string of the entry, by the place of its length
abbrev pub string_at : List ℕ → ℕ → ℕ → List ℕ
string_at e at length_at = or_none (take (le2 e length_at) (drop at e))

abbrev pub why_none : Reason → List ℕ
why_none why = codes "none: " ++ because why

abbrev pub extended_told : Option AdsSymbol2Flags → Reason → List ℕ
extended_told (Some flags) why = extended_text flags.0
extended_told None why = why_none why

abbrev pub guid_told : Option (List ℕ) → Reason → List ℕ
guid_told (Some id) why = guid_text id
guid_told None why = why_none why

abbrev pub attribute_told : AdsAttribute → List ℕ
attribute_told a = shown a.name.now ++ (codes " = " ++ shown a.value.now)

abbrev pub more_told : Reason → List (List ℕ)
more_told why = if falls_short why then (codes "no more: " ++ because why) ∷ [] else []

abbrev pub attributes_told : List AdsAttribute → Reason → List (List ℕ)
attributes_told [] why = why_none why ∷ []
attributes_told (a ∷ more) why = map attribute_told (a ∷ more) ++ more_told why

abbrev pub names_told : List AdsRefactorInfo → Reason → List (List ℕ)
names_told [] why = why_none why ∷ []
names_told (r ∷ more) why = map (λ q. former_text q.name.now) (r ∷ more)

-- of a symbol that was read from an entry e, which starts at a place, whatever the mode
abbrev pub FactsMeant : Type 0
FactsMeant =
    (mode : Mode) (e : Bor (List ℕ)) (s : AdsSymbolInfo) (at : ℕ) (why : Reasons) → symbol_of mode e ≡ Ok s
    → facts_text at s why
    ≡ fact (codes "name") (string_at e.now 30 24)
    ++ (fact (codes "type") (string_at e.now (31 + le2 e.now 24) 26)
    ++ (fact (codes "comment") (string_at e.now (32 + le2 e.now 24 + le2 e.now 26) 28)
    ++ (fact (codes "place") (codes "at " ++ (decimal at ++ (codes ", " ++ bytes (length e.now))))
    ++ (fact (codes "size") (bytes (le4 e.now 12))
    ++ (fact (codes "address") (codes "group 0x" ++ (digits 16 true (le4 e.now 4) ++ (codes ", offset 0x" ++ digits 16 true (le4 e.now 8))))
    ++ (fact (codes "type id") (decimal (le4 e.now 16))
    ++ (fact (codes "flags") (flags_text (le2 e.now 20))
    ++ (fact (codes "high") (codes "0x" ++ four_digits (le2 e.now 22))
    ++ (fact (codes "extended") (extended_told s.extended_flags why.extended_flags)
    ++ (fact (codes "GUID") (guid_told s.guid why.guid)
    ++ (list (codes "attributes") (attributes_told (attribute.left s.attributes) why.attributes)
    ++ (list (codes "former names") (names_told (refactor.left s.refactor_infos) why.refactor_infos)
    ++ fact (codes "unread") (bytes (length s.unread.now))))))))))))))
