-- docs/FORMAT.md, "Plain form": an entry in plain form, by the writer and without it.
use Rattle.std.specs.Prelude.{ℕ, ◌+◌, ◌<◌, ◌≤◌, ◌≡◌, ◌↔◌, true, List, Ok, is_some, ltb, length, get_or}
use Rattle.std.specs.List.{All}
use Rattle.std.specs.Borrow.{Bor}
use Rattle.le.specs.Le.{le2, le4, has}
use Rattle.refusal.specs.declared.Mode.TheVariants.{Present}
use Rattle.attribute.specs.BlockMeant as attribute
use Rattle.refactor.specs.BlockMeant as refactor
use Rattle.symbol.specs.declared.AdsSymbolInfo.{AdsSymbolInfo}
use Rattle.symbol.specs.Symbol.{extended_word, symbol_of}
use Rattle.symbol.specs.Writing.{symbol_written}
use Rattle.symbol.specs.Inside.{behind_guid}
use Rattle.symbol.specs.Again.{new_of}

-- bytes that a slice holds
abbrev pub HoldsBytes : Bor (List ℕ) → Type 0
HoldsBytes e = All (λ b. b < 256) e.now

-- the bytes of the attributes, and of the refactor records, that are shown
abbrev pub attribute_block : AdsSymbolInfo → List ℕ
attribute_block r = (new_of r).attributes.bytes.now

abbrev pub refactor_block : AdsSymbolInfo → List ℕ
refactor_block r = (new_of r).refactor_infos.bytes.now

module _ (e : Bor (List ℕ)) where
  -- by the writer: the entry is what it gives for a record that was read of it
  abbrev pub IsWrittenSo : AdsSymbolInfo → Type 0
  IsWrittenSo r = symbol_written (new_of r) ≡ Ok e.now

  -- a number of attributes stands where they begin, and it is that of those that are shown
  pub record IsComplete (r : AdsSymbolInfo) : Type 0 where
    pub there : behind_guid r + 2 ≤ length e.now
    pub all : le2 e.now (behind_guid r) ≡ r.attributes.count

  -- without it: the entry claims its own length; what is flagged is there, and the list of attributes is complete; the attributes and the chain are good; each end
  -- byte is 0, those of attributes and refactor records by their being good; and nothing is unread
  pub record IsInForm (r : AdsSymbolInfo) : Type 0 where
    pub within : length e.now ≤ 16777216
    pub claims : le4 e.now 0 ≡ length e.now
    pub guid : has r.flags.0 0x0008 ≡ is_some r.guid
    pub attributes : has r.flags.0 0x1000 ≡ true → IsComplete r
    pub extended_flags : has r.flags.0 0x8000 ≡ is_some r.extended_flags
    pub chain : has (extended_word r.extended_flags) 0x0004 ≡ ltb 0 r.refactor_infos.count
    pub good_attributes : attribute.Good (attribute_block r) 0 (length (attribute_block r)) r.attributes.count
    pub good_chain : refactor.Good (refactor_block r) r.refactor_infos.count 0 (length (refactor_block r)) r.refactor_infos.count
    pub name_ended : get_or e.now (30 + length r.name.now) 0 ≡ 0
    pub type_ended : get_or e.now (31 + length r.name.now + length r.type_name.now) 0 ≡ 0
    pub comment_ended : get_or e.now (32 + length r.name.now + length r.type_name.now + length r.comment.now) 0 ≡ 0
    pub read_whole : length r.unread.now ≡ 0

-- the two are the same
abbrev pub PlainInForm : Type 0
PlainInForm = (e : Bor (List ℕ)) (r : AdsSymbolInfo) → HoldsBytes e → symbol_of Present e ≡ Ok r → (IsWrittenSo e r ↔ IsInForm e r)
