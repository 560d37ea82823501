-- docs/FORMAT.md, "The command's text": the lines of `compare --json`.
use Rattle.std.specs.Prelude.{ℕ, Bool, true, false, List, [], ◌∷◌, ◌++◌, codes, decimal, if◌then◌else◌, Option, Some, None, Result, Ok, Err}
use Rattle.std.specs.Borrow.{Bor}
use Rattle.refusal.specs.declared.Mode.{Mode}
use Rattle.refusal.specs.declared.Refusal.{Refusal}
use Rattle.wording.specs.Text.{quoted}
use Rattle.report.specs.Json.{refused_text}
use Rattle.pairing.specs.declared.pieces.Piece.{Piece}
use Rattle.pairing.specs.declared.pieces.Shift.{Shift}
use Rattle.pairing.specs.declared.pieces.Shift.TheVariants.{Later, Earlier}
use Rattle.comparison.specs.declared.moved.Moved.{Moved}
use Rattle.pairing.specs.declared.rows.Row.{Row}
use Rattle.pairing.specs.Rows.{is_alike, name_in}
use Rattle.sections.specs.Parts.{part_text}
use Rattle.sections.specs.declared.Part.{Part}
use Rattle.values.specs.Shown.{value_json}
use Rattle.differences.specs.declared.Difference.{Difference}
use Rattle.comparison.specs.Entries.{shift_behind, told_of_both}
use Rattle.comparison.specs.Moved.{moved_in}

-- negative where it is earlier
abbrev pub later_text : Shift → List ℕ
later_text (Later n) = decimal n
later_text (Earlier n) = codes "-" ++ decimal n

unfoldable pub moved_line : Option Moved → List ℕ
moved_line None = []
moved_line (Some m) = codes "{\"later_in_b\":" ++ (later_text m.shift ++ (codes ",\"a\":{\"place\":" ++ (decimal m.place_in_a ++ (codes "},\"b\":{\"place\":" ++ (decimal m.place_in_b ++ codes "}}\n")))))

abbrev pub side_by : ℕ → Result (Bor (List ℕ)) Refusal → List ℕ
side_by place (Ok name) = codes "{\"place\":" ++ (decimal place ++ codes "}")
side_by place (Err why) = refused_text place why

-- what one upload has of an entry
abbrev pub side_text : Option Piece → List ℕ
side_text None = codes "null"
side_text (Some p) = side_by p.place p.name

abbrev pub name_text : Option (Bor (List ℕ)) → List ℕ
name_text None = codes "null"
name_text (Some name) = quoted name.now

-- an entry's line up to its parts
unfoldable pub front_text : Row → List ℕ
front_text r =
    codes "{\"name\":" ++ (name_text (name_in r.a r.b) ++ (codes ",\"a\":" ++ (side_text r.a ++ (codes ",\"b\":" ++ (side_text r.b ++ codes ",\"parts\":[")))))

abbrev pub title_text : Option Part → List ℕ
title_text None = codes "refusal"
title_text (Some p) = part_text p

unfoldable pub difference_json : Difference → List ℕ
difference_json d = codes "{\"part\":\"" ++ (title_text d.part ++ (codes "\",\"a\":" ++ (value_json d.in_a ++ (codes ",\"b\":" ++ (value_json d.in_b ++ codes "}")))))

abbrev pub comma : Bool → List ℕ
comma is_first = if is_first then [] else codes ","

-- with a comma between two of them
unfoldable pub parts_json : Bool → List Difference → List ℕ
parts_json is_first [] = []
parts_json is_first (d ∷ ds) = comma is_first ++ (difference_json d ++ parts_json false ds)

-- the parts of an entry that both have
abbrev pub parts_in : Mode → Option Piece → Option Piece → List ℕ
parts_in mode None q = []
parts_in mode (Some p) None = []
parts_in mode (Some p) (Some q) = parts_json true (told_of_both mode p q)

unfoldable pub entry_line : Mode → Row → List ℕ
entry_line mode r = front_text r ++ (parts_in mode r.a r.b ++ codes "]}\n")

-- what moved, and the entry if it differs
unfoldable pub row_lines : Mode → Shift → Row → List ℕ
row_lines mode before r = moved_line (moved_in before r.a r.b) ++ (if is_alike r.a r.b then [] else entry_line mode r)

unfoldable pub json_lines : Mode → Shift → List Row → List ℕ
json_lines mode before [] = []
json_lines mode before (r ∷ rows) = row_lines mode before r ++ json_lines mode (shift_behind before r) rows
