-- docs/FORMAT.md, "Modes": a symbol in the two modes, by the bytes behind its strings.
use Rattle.std.specs.Prelude.{ℕ, zero, suc, List, [], ◌∷◌, ◌++◌, map, length, if◌then◌else◌}
use Rattle.std.specs.Borrow.{Bor}
use Rattle.le.specs.Le.{has}
use Rattle.part.specs.Outcome.{outcome}
use Rattle.refusal.specs.declared.Mode.TheVariants.{Present, Checked}
use Rattle.attribute.specs.Attribute as attribute
use Rattle.attribute.specs.Behind.{byte_behind, bytes_behind}
use Rattle.attribute.specs.Modes.{Modes}
use Rattle.refactor.specs.declared.AdsRefactorInfo.{AdsRefactorInfo}
use Rattle.refactor.specs.Refactor as refactor
use Rattle.symbol.specs.declared.AdsSymbolInfo.{AdsSymbolInfo}
use Rattle.symbol.specs.Symbol.{extended_word, symbol_of}

-- the records that a chain meets: up to the last, or up to one that is refused, for which the chain is dropped
unfoldable pub met : Bor (List ℕ) → ℕ → List AdsRefactorInfo
met s zero = []
met s (suc left) = outcome (refactor.first_of s) (λ p. p.0 ∷ (if p.0.next_refactor_info then met p.1 left else [])) (λ why. [])

-- of records that lie in an entry, of each that byte behind its name
abbrev pub names_behind : Bor (List ℕ) → List AdsRefactorInfo → List (ℕ × ℕ)
names_behind e all = map (λ (r : AdsRefactorInfo). byte_behind e r.name) all

-- the end bytes that are met in a symbol, in the order in which they are met
abbrev pub end_bytes : Bor (List ℕ) → AdsSymbolInfo → List (ℕ × ℕ)
end_bytes e r =
    byte_behind e r.name ∷ byte_behind e r.type_name ∷ byte_behind e r.comment
    ∷ (bytes_behind e (attribute.listed r.attributes.bytes r.attributes.count)
    ++ (if has (extended_word r.extended_flags) 0x0004 then names_behind e (met r.refactor_infos.bytes (length r.refactor_infos.bytes.now)) else []))

abbrev pub SymbolsModes : Type 0
SymbolsModes = (e : Bor (List ℕ)) → Modes (end_bytes e) (symbol_of Checked e) (symbol_of Present e)
