-- docs/FORMAT.md, "Sheet": the string of a cell.
use Rattle.std.specs.Prelude.{ℕ, ◌≡◌, List, [], ◌∷◌, Result, Ok, Err, eqb, if◌then◌else◌}
use Rattle.refusal.specs.declared.Refusal.{Refusal}
use Rattle.text.specs.RoundTrip.{AreBytes}
use Rattle.text.specs.Text.{decoded, encoded_from}
use Rattle.sheet.specs.Cells.{escaped_all}
use Rattle.sheet_rows.specs.declared.cells.Three.{Three}

-- the bytes of a text; a text with a fault has none
abbrev pub or_none : Result (List ℕ) Refusal → List ℕ
or_none (Ok bytes) = bytes
or_none (Err why) = []

unfoldable pub bytes_of : List ℕ → List ℕ
bytes_of text = or_none (encoded_from 0 text)

-- two quotes are one
unfoldable pub undoubled : List ℕ → List ℕ
undoubled [] = []
undoubled (b ∷ []) = b ∷ []
undoubled (b ∷ c ∷ s) = if eqb b 34 then b ∷ undoubled s else b ∷ undoubled (c ∷ s)

unfoldable pub string_of : List ℕ → List ℕ
string_of text = undoubled (bytes_of text)

-- a text without a fault
pub record IsText (text : List ℕ) : Type 0 where
  pub bytes : List ℕ
  pub are : AreBytes bytes
  pub is : text ≡ decoded bytes

-- that of a cell: each of its quotes stands twice
pub record IsCellText (text : List ℕ) : Type 0 where
  pub string : List ℕ
  pub are : AreBytes string
  pub is : text ≡ escaped_all string

pub record AreStrings (cells : Three) : Type 0 where
  pub name : IsCellText cells.first.now
  pub type_name : IsCellText cells.second.now
  pub comment : IsCellText cells.third.now
