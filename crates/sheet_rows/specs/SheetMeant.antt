-- docs/FORMAT.md, "Sheet": the rows of a sheet, and its first fault, by its bytes.
use Rattle.std.specs.Prelude.{ℕ, ◌+◌, ◌<◌, ◌≡◌, false, List, [], ◌∷◌, Ok, Err, codes, length}
use Rattle.std.specs.Borrow.{Bor}
use Rattle.le.specs.Le.{has}
use Rattle.refusal.specs.declared.Refusal.{Refusal}
use Rattle.refusal.specs.declared.Refusal.TheVariants.{BadSheet}
use Rattle.sheet_rows.specs.declared.cells.Cells.{Cells}
use Rattle.sheet_rows.specs.declared.numbers.Numbers.{Numbers}
use Rattle.sheet_rows.specs.Rows.{Line, lines_of}
use Rattle.sheet_rows.specs.Meant.{IsNumber, IsRow, texts_of}

-- the words of the header
abbrev pub words : List (List ℕ)
words =
    codes "group" ∷ codes "offset" ∷ codes "size" ∷ codes "type id" ∷ codes "flags" ∷ codes "high" ∷ codes "name" ∷ codes "type" ∷ codes "comment" ∷ []

-- the number of a cell, below one that is above its field
pub record IsValue (end : ℕ) (text : List ℕ) (n : ℕ) : Type 0 where
  pub number : IsNumber text n
  pub fits : n < end

-- flags of a symbol without sections
pub record IsBare (text : List ℕ) (n : ℕ) : Type 0 where
  pub value : IsValue 65536 text n
  pub guid : has n 0x0008 ≡ false
  pub attributes : has n 0x1000 ≡ false
  pub extended_flags : has n 0x8000 ≡ false

pub record HasNumbers (c : Cells) (n : Numbers) : Type 0 where
  pub index_group : IsValue 4294967296 c.places.first.now n.index_group
  pub index_offset : IsValue 4294967296 c.places.second.now n.index_offset
  pub size : IsValue 4294967296 c.places.third.now n.size
  pub data_type_id : IsValue 4294967296 c.kinds.first.now n.data_type_id
  pub flags : IsBare c.kinds.second.now n.flags
  pub high : IsValue 65536 c.kinds.third.now n.high

abbrev pub Has : ℕ → List ℕ → Type 0
Has end text = (n : ℕ) × IsValue end text n

abbrev pub HasBare : List ℕ → Type 0
HasBare text = (n : ℕ) × IsBare text n

-- the first of six columns whose cell is bad
pub data IsFirstBad (c : Cells) : ℕ → Type 0 where
  index_group : (Has 4294967296 c.places.first.now → ⊥) → IsFirstBad c 1
  index_offset : Has 4294967296 c.places.first.now → (Has 4294967296 c.places.second.now → ⊥) → IsFirstBad c 2
  size : Has 4294967296 c.places.first.now → Has 4294967296 c.places.second.now → (Has 4294967296 c.places.third.now → ⊥) → IsFirstBad c 3
  data_type_id : Has 4294967296 c.places.first.now → Has 4294967296 c.places.second.now → Has 4294967296 c.places.third.now
      → (Has 4294967296 c.kinds.first.now → ⊥) → IsFirstBad c 4
  flags : Has 4294967296 c.places.first.now → Has 4294967296 c.places.second.now → Has 4294967296 c.places.third.now
      → Has 4294967296 c.kinds.first.now → (HasBare c.kinds.second.now → ⊥) → IsFirstBad c 5
  high : Has 4294967296 c.places.first.now → Has 4294967296 c.places.second.now → Has 4294967296 c.places.third.now
      → Has 4294967296 c.kinds.first.now → HasBare c.kinds.second.now → (Has 65536 c.kinds.third.now → ⊥) → IsFirstBad c 6

-- rows one after another, to the end
pub data AreLines : List ℕ → List Line → Type 0 where
  none : AreLines [] []
  row : {s rest : List ℕ} {l : Line} {lines : List Line} → IsRow (texts_of l.cells) s rest → HasNumbers l.cells l.numbers → AreLines rest lines → AreLines s (l ∷ lines)

-- rows of which the first has a number, up to one with a fault: its number, and 0 for its shape or its first bad column
pub data IsFault : List ℕ → ℕ → ℕ → ℕ → Type 0 where
  shape : {s : List ℕ} {at : ℕ} → 0 < length s → ((c : Cells) (rest : List ℕ) → IsRow (texts_of c) s rest → ⊥) → IsFault s at at 0
  column : {s rest : List ℕ} {at k : ℕ} {c : Cells} → IsRow (texts_of c) s rest → IsFirstBad c k → IsFault s at at k
  behind : {s rest : List ℕ} {at row k : ℕ} {c : Cells} {n : Numbers} → IsRow (texts_of c) s rest → HasNumbers c n → IsFault rest (at + 1) row k → IsFault s at row k

-- a sheet without a fault is the header, row 1, and its rows; another has its first fault there or below
pub data IsSheetFault (s : List ℕ) : ℕ → ℕ → Type 0 where
  header : ((rest : List ℕ) → IsRow words s rest → ⊥) → IsSheetFault s 1 0
  below : {rest : List ℕ} {row k : ℕ} → IsRow words s rest → IsFault rest 2 row k → IsSheetFault s row k

pub record SheetsMeant : Type 0 where
  pub good : (s : Bor (List ℕ)) (lines : List Line) → lines_of s ≡ Ok lines → (rest : List ℕ) × IsRow words s.now rest × AreLines rest lines
  pub bad : (s : Bor (List ℕ)) (why : Refusal) → lines_of s ≡ Err why → (row : ℕ) × (column : ℕ) × (why ≡ BadSheet row column) × IsSheetFault s.now row column
