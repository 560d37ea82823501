-- docs/FORMAT.md, "Binding" and "Name index": which entry has a name, through the slots of a name index, by halving, whatever the slots hold.
use Rattle.std.specs.Prelude.{ℕ, List, Result, take, drop}
use Rattle.std.specs.Borrow.{Bor}
use Rattle.refusal.specs.declared.Mode.{Mode}
use Rattle.refusal.specs.declared.Refusal.{Refusal}
use Rattle.symbol.specs.Symbol.{symbol_of}
use Rattle.data_type.specs.DataType.{type_of}
use Rattle.name_order.specs.declared.places.NamePlaces.{NamePlaces}
use Rattle.name_order.specs.Order.{named_before}
use Rattle.name_order.specs.Halving.{halved}
use Rattle.named.specs.Kinds.{symbol_places, field_places}
use Rattle.name_find.specs.Find.{find_indexed}
use Rattle.bind.specs.declared.Upload.{Upload}

-- the first slot that is not before the name, if it has the name: 5, else 13
abbrev pub found : {R : Type 0} → NamePlaces → (R → List ℕ) → (Bor (List ℕ) → Result R Refusal) → Upload → List ℕ → Result ℕ Refusal
found w name_of read u name = find_indexed name_of read u.bytes (take 1 (drop (halved (named_before w u.bytes.now name) u.slots.now) u.slots.now)) name

unfoldable pub symbol_found : Mode → Upload → List ℕ → Result ℕ Refusal
symbol_found mode u name = found symbol_places (λ r. r.name.now) (symbol_of mode) u name

unfoldable pub type_found : Mode → Upload → List ℕ → Result ℕ Refusal
type_found mode u name = found field_places (λ r. r.field.name.now) (type_of mode) u name
