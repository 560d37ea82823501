-- docs/FORMAT.md, "Symbol entries": every number of a symbol stands at its place, and every part lies in its entry, in layout order.
use Rattle.std.specs.Prelude.{ℕ, ◌+◌, ◌-◌, ◌≡◌, Bool, false, List, Some, None, Ok, is_some, leb, length, take, drop, if◌then◌else◌}
use Rattle.std.specs.Borrow.{Bor}
use Rattle.le.specs.Le.{le2, le4, has}
use Rattle.part.specs.End.{IsEnd, IsString, rest_at}
use Rattle.refusal.specs.declared.Mode.{Mode}
use Rattle.attribute.specs.Attribute as attribute
use Rattle.attribute.specs.Inside.{AttributesLie}
use Rattle.refactor.specs.Refactor as refactor
use Rattle.refactor.specs.Inside.{RefactorsLie}
use Rattle.symbol.specs.declared.AdsSymbolInfo.{AdsSymbolInfo}
use Rattle.symbol.specs.Symbol.{symbol_of}

-- where what follows the strings begins, the GUID, and the attributes that are shown
abbrev pub behind_strings : AdsSymbolInfo → ℕ
behind_strings r = 33 + length r.name.now + length r.type_name.now + length r.comment.now

abbrev pub behind_guid : AdsSymbolInfo → ℕ
behind_guid r = behind_strings r + (if is_some r.guid then 16 else 0)

abbrev pub behind_attributes : Bor (List ℕ) → AdsSymbolInfo → ℕ
behind_attributes e r = rest_at e (attribute.after_listed r.attributes.bytes r.attributes.count)

-- a section is there where its bit is set in the flags and so many bytes are left from a place on
abbrev pub is_there : Bor (List ℕ) → ℕ → ℕ → ℕ → Bool
is_there e bit at size = if has (le2 e.now 20) bit then leb size (length e.now - at) else false

-- the header, three strings, a GUID, the attributes that are shown, extended flags, the chain, and what is unread to the end
pub record IsInside (e : Bor (List ℕ)) (r : AdsSymbolInfo) : Type 0 where
  pub long : r.length ≡ length e.now
  pub index_group : r.index_group.0 ≡ le4 e.now 4
  pub index_offset : r.index_offset.0 ≡ le4 e.now 8
  pub size : r.size ≡ le4 e.now 12
  pub data_type_id : r.data_type_id ≡ le4 e.now 16
  pub flags : r.flags.0 ≡ le2 e.now 20
  pub high : r.high ≡ le2 e.now 22
  pub name_length : length r.name.now ≡ le2 e.now 24
  pub type_name_length : length r.type_name.now ≡ le2 e.now 26
  pub comment_length : length r.comment.now ≡ le2 e.now 28
  pub name : IsString e 30 r.name
  pub type_name : IsString e (31 + length r.name.now) r.type_name
  pub comment : IsString e (32 + length r.name.now + length r.type_name.now) r.comment
  pub guid : r.guid ≡ (if is_there e 0x0008 (behind_strings r) 16 then Some (take 16 (drop (behind_strings r) e.now)) else None)
  -- behind their count
  pub attributes_at : rest_at e r.attributes.bytes ≡ behind_guid r + (if is_there e 0x1000 (behind_guid r) 2 then 2 else 0)
  pub attributes : AttributesLie e (rest_at e r.attributes.bytes) (attribute.listed r.attributes.bytes r.attributes.count) (behind_attributes e r)
  pub extended_flags : r.extended_flags ≡ (if is_there e 0x8000 (behind_attributes e r) 4 then Some (record { 0 = le4 e.now (behind_attributes e r) }) else None)
  pub chain_at : rest_at e r.refactor_infos.bytes ≡ behind_attributes e r + (if is_some r.extended_flags then 4 else 0)
  pub refactor_infos : RefactorsLie e (rest_at e r.refactor_infos.bytes) (refactor.listed r.refactor_infos.bytes r.refactor_infos.count) (rest_at e r.unread)
  pub unread : IsEnd e r.unread
  -- the bytes that the two lists are read from reach to the entry's end
  pub attribute_bytes : IsEnd e r.attributes.bytes
  pub refactor_bytes : IsEnd e r.refactor_infos.bytes

-- whatever the mode
abbrev pub SymbolsInside : Type 0
SymbolsInside = (mode : Mode) (e : Bor (List ℕ)) (r : AdsSymbolInfo) → symbol_of mode e ≡ Ok r → IsInside e r
