-- docs/FORMAT.md, "Finding". What finding looks at before it reads an entry.
use Rattle.std.specs.Prelude.{ℕ, ◌+◌, Bool, false, List, ltb, eqb, length, if◌then◌else◌}
use Rattle.le.specs.Le.{le2, part}
use Rattle.names.specs.Near.{ends_near}
use Rattle.name_order.specs.declared.places.NamePlaces.{NamePlaces}

-- these bytes, taken for an entry or for what stands from one on, have room for the name where a name stands, tell its length and are near it at its last byte
unfoldable pub looks_named : NamePlaces → List ℕ → List ℕ → Bool
looks_named w e name =
    if ltb (length e) (w.name + length name) then false
    else if eqb (le2 e w.length) (length name) then ends_near (part e w.name (length name)) name
    else false
