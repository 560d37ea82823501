-- docs/FORMAT.md, "The command's text": what stands in the lines of JSON of an upload, and what an upload's entries are counted as.
use Rattle.std.specs.Prelude.{ℕ, ◌+◌, ◌≡◌, List, [], ◌∷◌, ◌++◌, codes, decimal, length, map, take, drop, Option, None, Some, Ok, Err}
use Rattle.std.specs.List.{join_with_byte}
use Rattle.std.specs.Borrow.{Bor}
use Rattle.le.specs.Le.{le2, le4}
use Rattle.refusal.specs.Refusal.{figures_of}
use Rattle.refusal.specs.declared.Mode.{Mode}
use Rattle.refusal.specs.declared.Refusal.{Refusal}
use Rattle.attribute.specs.Attribute as attribute
use Rattle.refactor.specs.Refactor as refactor
use Rattle.flags.specs.declared.symbol_flags.AdsSymbol2Flags.{AdsSymbol2Flags}
use Rattle.symbol.specs.Symbol.{symbol_of}
use Rattle.symbol.specs.declared.AdsSymbolInfo.{AdsSymbolInfo}
use Rattle.walk.specs.declared.Piece.{Piece}
use Rattle.wording.specs.Text.{quoted}
use Rattle.wording.specs.Wording.{refusal_text}
use Rattle.report.specs.declared.Upload.{Upload}
use Rattle.upload.specs.declared.Form.TheVariants.{Binary, Hexadecimal}
use Rattle.refusal.specs.declared.Mode.TheVariants.{Present, Checked}
use Rattle.report.specs.Json.{guid_text}
use Rattle.report.specs.Report.{json_line, refused_line, summary_text, upload_text}

-- a member of an object, and an object and an array with commas and no space
abbrev pub member : List ℕ → List ℕ → List ℕ
member name value = codes "\"" ++ (name ++ (codes "\":" ++ value))

abbrev pub object : List (List ℕ) → List ℕ
object members = codes "{" ++ (join_with_byte 44 members ++ codes "}")

abbrev pub array : List (List ℕ) → List ℕ
array items = codes "[" ++ (join_with_byte 44 items ++ codes "]")

-- a part of an entry, a string there by its length's place
abbrev pub string_at : List ℕ → ℕ → ℕ → List ℕ
string_at e at length_at = quoted (take (le2 e length_at) (drop at e))

abbrev pub number_or_null : Option AdsSymbol2Flags → List ℕ
number_or_null None = codes "null"
number_or_null (Some flags) = decimal flags.0

abbrev pub string_or_null : Option (List ℕ) → List ℕ
string_or_null None = codes "null"
string_or_null (Some guid) = codes "\"" ++ (guid_text guid ++ codes "\"")

-- the line of an accepted entry e that starts at a place, by its bytes
abbrev pub symbol_members : ℕ → List ℕ → AdsSymbolInfo → List (List ℕ)
symbol_members place e s =
    member (codes "place") (decimal place)
    ∷ member (codes "length") (decimal (length e))
    ∷ member (codes "name") (string_at e 30 24)
    ∷ member (codes "type") (string_at e (31 + le2 e 24) 26)
    ∷ member (codes "comment") (string_at e (32 + le2 e 24 + le2 e 26) 28)
    ∷ member (codes "size") (decimal (le4 e 12))
    ∷ member (codes "group") (decimal (le4 e 4))
    ∷ member (codes "offset") (decimal (le4 e 8))
    ∷ member (codes "type_id") (decimal (le4 e 16))
    ∷ member (codes "flags") (decimal (le2 e 20))
    ∷ member (codes "high") (decimal (le2 e 22))
    ∷ member (codes "extended_flags") (number_or_null s.extended_flags)
    ∷ member (codes "guid") (string_or_null s.guid)
    ∷ member (codes "attributes") (array (map (λ a. object (member (codes "name") (quoted a.name.now) ∷ member (codes "value") (quoted a.value.now) ∷ [])) (attribute.left s.attributes)))
    ∷ member (codes "former_names") (array (map (λ r. quoted r.name.now) (refactor.left s.refactor_infos)))
    ∷ member (codes "unread") (decimal (length s.unread.now))
    ∷ []

abbrev pub refused_members : ℕ → Refusal → List (List ℕ)
refused_members place why =
    member (codes "place") (decimal place)
    ∷ member (codes "refused") (decimal (figures_of why).number)
    ∷ member (codes "expected") (decimal (figures_of why).expected)
    ∷ member (codes "got") (decimal (figures_of why).got)
    ∷ member (codes "reason") (codes "\"" ++ (refusal_text why ++ codes "\""))
    ∷ []

-- each line is an object with these members in this order, and a line feed. A GUID by its bytes
pub record LinesMeant : Type 0 where
  pub accepted : (mode : Mode) (e : Bor (List ℕ)) (s : AdsSymbolInfo) (p : Piece AdsSymbolInfo) → symbol_of mode e ≡ Ok s → p.answer ≡ Ok s
      → json_line p ≡ object (symbol_members p.start e.now s) ++ codes "\n"
  pub refused : (p : Piece AdsSymbolInfo) (why : Refusal) → p.answer ≡ Err why → json_line p ≡ object (refused_members p.start why) ++ codes "\n"
  pub guid : guid_text (0x33 ∷ 0x22 ∷ 0x11 ∷ 0x00 ∷ 0x55 ∷ 0x44 ∷ 0x77 ∷ 0x66 ∷ 0x88 ∷ 0x99 ∷ 0xAA ∷ 0xBB ∷ 0xCC ∷ 0xDD ∷ 0xEE ∷ 0xFF ∷ [])
      ≡ codes "{00112233-4455-6677-8899-AABBCCDDEEFF}"

-- the texts of `check`, by some uploads and tallies, and the line of each refused entry
pub record TextsMeant : Type 0 where
  pub checked : (u : Upload) → u.path.now ≡ codes "rig.bin" → length u.bytes.now ≡ 1455 → u.form ≡ Binary → u.mode ≡ Checked
      → upload_text u ≡ codes "rig.bin (binary, 1,455 bytes, checked)"
  pub present : (u : Upload) → u.path.now ≡ codes "-" → length u.bytes.now ≡ 1 → u.form ≡ Hexadecimal → u.mode ≡ Present
      → upload_text u ≡ codes "- (hexadecimal text, 1 byte)"
  pub many : summary_text (record { accepted = 1200; refused = 34; grown = 1; unread = 56 }) ≡ codes "1,234 entries: 1,200 accepted, 34 refused\nleft unread: 56 bytes, in 1 entry\n"
  pub one : summary_text (record { accepted = 1; refused = 0; grown = 0; unread = 0 }) ≡ codes "1 entry: 1 accepted, 0 refused\n"
  pub refused : (p : Piece AdsSymbolInfo) (why : Refusal) → p.answer ≡ Err why
      → refused_line p ≡ codes "at " ++ (decimal p.start ++ (codes ": " ++ (refusal_text why ++ codes "\n")))
