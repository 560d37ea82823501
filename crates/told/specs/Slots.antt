-- docs/FORMAT.md, "Symbol entries", "Field entries", "Attributes" and "Refactor records": what the slots of a record hold, in order, and what lent slots and GUID bytes hold after a call: as they were unless there is a record.
use Rattle.std.specs.Prelude.{ℕ, ◌+◌, ◌-◌, Bool, cond, List, [], ◌∷◌, length, Option, Some, None, Result, Ok, Err, is_some}
use Rattle.std.specs.Borrow.{Bor}
use Rattle.refusal.specs.declared.Refusal.{Refusal}
use Rattle.symbol.specs.declared.AdsSymbolInfo.{AdsSymbolInfo}
use Rattle.symbol.specs.Symbol.{extended_word}
use Rattle.field.specs.declared.AdsFieldInfo.{AdsFieldInfo}
use Rattle.places.specs.declared.AttributePlaces.{AttributePlaces}
use Rattle.places.specs.declared.RefactorPlaces.{RefactorPlaces}

-- 1 for true
abbrev pub bit : Bool → ℕ
bit b = cond b 1 0

-- lent slots that held `old`, after a call that finds a record whose slots are these; and after a step
abbrev pub slots_after : {A B : Type 0} → (A → B) → Result A Refusal → B → B
slots_after slots (Ok r) old = slots r
slots_after slots (Err why) old = old

abbrev pub step_after : {A B : Type 0} → (A → B) → Option (Result A Refusal) → B → B
step_after slots None old = old
step_after slots (Some found) old = slots_after slots found old

-- where a list begins that reaches to the end of an entry of so many bytes
abbrev pub list_at : ℕ → Bor (List ℕ) → ℕ
list_at entry list = entry - length list.now

-- the strings' places go from the header on, each with its end byte
unfoldable pub symbol_slots : AdsSymbolInfo → List ℕ
symbol_slots r =
    r.length
    ∷ r.index_group.0
    ∷ r.index_offset.0
    ∷ r.size
    ∷ r.data_type_id
    ∷ r.flags.0
    ∷ r.high
    ∷ 30
    ∷ length r.name.now
    ∷ (31 + length r.name.now)
    ∷ length r.type_name.now
    ∷ (32 + length r.name.now + length r.type_name.now)
    ∷ length r.comment.now
    ∷ bit (is_some r.guid)
    ∷ list_at r.length r.attributes.bytes
    ∷ r.attributes.count
    ∷ bit (is_some r.extended_flags)
    ∷ extended_word r.extended_flags
    ∷ list_at r.length r.refactor_infos.bytes
    ∷ r.refactor_infos.count
    ∷ length r.unread.now
    ∷ []

-- 16 zeros where there is none
abbrev pub guid_bytes : Option (List ℕ) → List ℕ
guid_bytes None = 0 ∷ 0 ∷ 0 ∷ 0 ∷ 0 ∷ 0 ∷ 0 ∷ 0 ∷ 0 ∷ 0 ∷ 0 ∷ 0 ∷ 0 ∷ 0 ∷ 0 ∷ 0 ∷ []
guid_bytes (Some bytes) = bytes

abbrev pub symbol_guid : AdsSymbolInfo → List ℕ
symbol_guid r = guid_bytes r.guid

-- likewise
unfoldable pub field_slots : AdsFieldInfo → List ℕ
field_slots r =
    r.length
    ∷ r.version
    ∷ r.hash_value
    ∷ r.type_hash_value
    ∷ r.size
    ∷ r.offset
    ∷ r.type_id
    ∷ r.flags.0
    ∷ 42
    ∷ length r.name.now
    ∷ (43 + length r.name.now)
    ∷ length r.type_name.now
    ∷ (44 + length r.name.now + length r.type_name.now)
    ∷ length r.comment.now
    ∷ bit (is_some r.guid)
    ∷ list_at r.length r.attributes.bytes
    ∷ r.attributes.count
    ∷ []

abbrev pub field_guid : AdsFieldInfo → List ℕ
field_guid r = guid_bytes r.guid

abbrev pub attribute_slots : AttributePlaces → List ℕ
attribute_slots a = a.name ∷ a.name_len ∷ a.value ∷ a.value_len ∷ a.next ∷ []

abbrev pub refactor_slots : RefactorPlaces → List ℕ
refactor_slots r = r.count ∷ bit r.followed ∷ r.name ∷ r.name_len ∷ r.next ∷ []
