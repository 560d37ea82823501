-- docs/FORMAT.md, "Binding" and "Fit records": a member of a symbol that was written is bound to what was written.
use Rattle.std.specs.Prelude.{ℕ, ◌+◌, ◌*◌, ◌<◌, ◌≤◌, ◌≡◌, false, List, [], ◌∷◌, ◌++◌, Ok, length, if◌then◌else◌}
use Rattle.std.specs.Borrow.{Bor}
use Rattle.le.specs.Le.{has}
use Rattle.refusal.specs.Refusal.{limit}
use Rattle.refusal.specs.declared.Mode.{Mode}
use Rattle.names.specs.Meaning.{SameLetters}
use Rattle.path.specs.Texts.{IsName}
use Rattle.regrown.specs.Regrown.{Grown, upload}
use Rattle.symbol.specs.declared.writer.NewSymbol.{NewSymbol}
use Rattle.symbol.specs.Symbol.{symbol_of}
use Rattle.symbol.specs.Writing.{symbol_bytes}
use Rattle.symbols_regrown.specs.Kind as symbols
use Rattle.field.specs.declared.writer.NewField.{NewField}
use Rattle.field.specs.Writing.{field_bytes}
use Rattle.fields_regrown.specs.Kind as fields
use Rattle.data_type.specs.declared.AdsDataTypeInfo.{AdsDataTypeInfo}
use Rattle.data_type.specs.DataType.{type_of}
use Rattle.named.specs.Kinds.{symbol_places, field_places}
use Rattle.bind.specs.declared.Address.{Address}
use Rattle.bind.specs.declared.Upload.{Upload}
use Rattle.bind.specs.Found.{symbol_found, type_found}
use Rattle.bind.specs.Reading.{behind, own_of}
use Rattle.bind.specs.Binding.{binding}
use Rattle.bindings_meant.specs.Reaches.{IsIndexed, TypeNamed}

-- fit symbols and fit fields, each with what its entry is grown by
abbrev pub FitSymbol : Type 0
FitSymbol = Grown symbols.IsFit

abbrev pub FitField : Type 0
FitField = Grown fields.IsFit

abbrev pub symbol_name : NewSymbol → List ℕ
symbol_name n = n.name.now

abbrev pub field_name : NewField → List ℕ
field_name p = p.name.now

-- none of some records has a name
pub data NoneHas {P : Type 0} {Fit : P → Type 0} (name_of : P → List ℕ) (name : List ℕ) : List (Grown Fit) → Type 0 where
  nobody : NoneHas name_of name []
  another : {g : Grown Fit} {more : List (Grown Fit)} → ¬ SameLetters (name_of g.parts) name → NoneHas name_of name more → NoneHas name_of name (g ∷ more)

-- an upload of symbols that were written, with its name index; none before one of them has its name
pub record SymbolsWritten (mode : Mode) (u : Upload) (before : List FitSymbol) (symbol : FitSymbol) (later : List FitSymbol) : Type 0 where
  pub indexed : IsIndexed symbol_places (symbol_of mode) u
  pub bytes : u.bytes.now ≡ upload symbols.IsFit symbol_bytes (before ++ (symbol ∷ later))
  pub first : NoneHas symbol_name symbol.parts.name.now before

-- an upload of data types, with its name index, whose first of a name is no array, is no reference, no property and not static, and has members that were written; none before one of them has its name
pub record MembersWritten (mode : Mode) (u : Upload) (name : List ℕ) (before : List FitField) (member : FitField) (later : List FitField) : Type 0 where
  pub indexed : IsIndexed field_places (type_of mode) u
  pub start : ℕ
  pub named : TypeNamed mode u.bytes name start
  pub data_type : AdsDataTypeInfo
  pub read : type_of mode (own_of (behind u.bytes start)) ≡ Ok data_type
  pub no_array : data_type.arrays.bytes.now ≡ []
  pub reference : has data_type.field.flags.0 0x4 ≡ false
  pub property : has data_type.field.flags.0 0x40 ≡ false
  pub static_member : has data_type.field.flags.0 0x20000 ≡ false
  pub count : data_type.sub_items.count ≡ length (before ++ (member ∷ later))
  pub rest : List ℕ
  pub bytes : data_type.sub_items.bytes.now ≡ upload fields.IsFit field_bytes (before ++ (member ∷ later)) ++ rest
  pub small : length (upload fields.IsFit field_bytes (before ++ (member ∷ later))) ≤ limit
  pub first : NoneHas field_name member.parts.name.now before

-- a symbol and a member have an address together: the symbol is no bit and no reference, the member no reference, no property and not static, and the sum of their offsets is one of 32 bits
abbrev pub bits_before : NewSymbol → NewField → ℕ
bits_before n p = 8 * n.index_offset.0 + p.offset * (if has p.flags.0 0x20 then 1 else 8)

pub record HaveAddress (n : NewSymbol) (p : NewField) : Type 0 where
  pub bit : has n.flags.0 0x2 ≡ false
  pub symbol_reference : has n.flags.0 0x4 ≡ false
  pub reference : has p.flags.0 0x4 ≡ false
  pub property : has p.flags.0 0x40 ≡ false
  pub static_member : has p.flags.0 0x20000 ≡ false
  pub in_group : bits_before n p < 8 * 4294967296

-- an address tells what was written of them
pub record IsBoth (n : NewSymbol) (p : NewField) (a : Address) : Type 0 where
  pub group : a.group ≡ n.index_group
  pub bits : 8 * a.offset.0 + a.bit ≡ bits_before n p
  pub in_byte : a.bit < 8
  pub size : a.size ≡ p.size
  pub size_in_bits : a.size_in_bits ≡ has p.flags.0 0x20
  pub type_name : a.type_name.now ≡ p.type_name.now

-- the path of a symbol's name, a dot and a member's name, which is no symbol's name as a whole
pub record IsPath (n : NewSymbol) (p : NewField) (all : List FitSymbol) (path : List ℕ) : Type 0 where
  pub is : path ≡ n.name.now ++ (46 ∷ p.name.now)
  pub small : length path ≤ limit
  pub name : IsName p.name.now
  pub nobodys : NoneHas symbol_name path all

abbrev pub WrittenBound : Type 0
WrittenBound =
    (mode : Mode) (symbols types : Upload) (path : Bor (List ℕ)) (before : List FitSymbol) (symbol : FitSymbol) (later : List FitSymbol) (others : List FitField) (member : FitField) (more : List FitField)
    → SymbolsWritten mode symbols before symbol later → MembersWritten mode types symbol.parts.type_name.now others member more
    → IsPath symbol.parts member.parts (before ++ (symbol ∷ later)) path.now → HaveAddress symbol.parts member.parts
    → (a : Address) × ((binding (symbol_found mode symbols) (type_found mode types) symbols.bytes types.bytes path ≡ Ok a) × IsBoth symbol.parts member.parts a)
