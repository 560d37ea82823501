-- docs/FORMAT.md, "Sheet": in which order a sheet is refused, and what is made of it else.
use Rattle.std.specs.Prelude.{ℕ, ◌<◌, ◌≤◌, ◌≡◌, ◌↔◌, ◌^◌, ◌-◌, min, List, [], ◌∷◌, Result, Ok, Err, length}
use Rattle.std.specs.Borrow.{Bor}
use Rattle.refusal.specs.declared.Refusal.{Refusal}
use Rattle.refusal.specs.declared.Refusal.TheVariants.{BadText, TooLong, TooLarge}
use Rattle.text.specs.RoundTrip.{AreBytes}
use Rattle.text.specs.Faults.{IsFirstFault}
use Rattle.sheet.specs.CellsMeant.{Doubled}
use Rattle.sheet_rows.specs.declared.cells.Cells.{Cells}
use Rattle.sheet_rows.specs.Rows.{Line, lines_of}
use Rattle.sheet_import.specs.Strings.{IsText}
use Rattle.sheet_import.specs.Import.{upload_of, importing}

-- the strings whose texts, each quote twice, a row's last cells are
pub record Strings (c : Cells) : Type 0 where
  pub name : List ℕ
  pub type_name : List ℕ
  pub comment : List ℕ
  pub name_bytes : AreBytes name
  pub type_bytes : AreBytes type_name
  pub comment_bytes : AreBytes comment
  pub name_text : Doubled name c.strings.first.now
  pub type_text : Doubled type_name c.strings.second.now
  pub comment_text : Doubled comment c.strings.third.now

pub record Fit (c : Cells) : Type 0 where
  pub strings : Strings c
  pub name : length strings.name ≤ 65535
  pub type_name : length strings.type_name ≤ 65535
  pub comment : length strings.comment ≤ 65535

-- the length of the first of them that does not fit
pub data IsLong (c : Cells) : ℕ → Type 0 where
  name : (s : Strings c) → 65535 < length s.name → IsLong c (length s.name)
  type_name : (s : Strings c) → length s.name ≤ 65535 → 65535 < length s.type_name → IsLong c (length s.type_name)
  comment : (s : Strings c) → length s.name ≤ 65535 → length s.type_name ≤ 65535 → 65535 < length s.comment → IsLong c (length s.comment)

-- of rows
pub data AllFit : List Line → Type 0 where
  none : AllFit []
  row : {l : Line} {lines : List Line} → Fit l.cells → AllFit lines → AllFit (l ∷ lines)

pub data FirstLong : List Line → ℕ → Type 0 where
  here : {l : Line} {lines : List Line} {n : ℕ} → IsLong l.cells n → FirstLong (l ∷ lines) n
  behind : {l : Line} {lines : List Line} {n : ℕ} → Fit l.cells → FirstLong lines n → FirstLong (l ∷ lines) n

-- why a sheet is refused, or what is made of it
pub data IsImport (s : Bor (List ℕ)) : Result (List ℕ) Refusal → Type 0 where
  rows : {why : Refusal} → lines_of s ≡ Err why → IsImport s (Err why)
  text : {lines : List Line} {place kind : ℕ} → lines_of s ≡ Ok lines → IsFirstFault s.now place kind → IsImport s (Err (BadText place kind))
  long : {lines : List Line} {n : ℕ} → lines_of s ≡ Ok lines → IsText s.now → FirstLong lines n → IsImport s (Err (TooLong 65535 n))
  large : {lines : List Line} → lines_of s ≡ Ok lines → IsText s.now → AllFit lines → 16777216 < length (upload_of lines)
      → IsImport s (Err (TooLarge (min (length (upload_of lines)) (2 ^ 64 - 1))))
  written : {lines : List Line} → lines_of s ≡ Ok lines → IsText s.now → AllFit lines → length (upload_of lines) ≤ 16777216 → IsImport s (Ok (upload_of lines))

-- of these cases one is met, whatever the sheet, and where one is met nothing else is told
abbrev pub ImportsMeant : Type 0
ImportsMeant = (s : Bor (List ℕ)) (answer : Result (List ℕ) Refusal) → (importing s ≡ answer) ↔ IsImport s answer
