-- docs/FORMAT.md, "The command's text". What stands in lines of an upload: where it is from, what was refused in it and where, how many entries it has.
use Rattle.std.specs.Prelude.{ℕ, ◌+◌, ◌-◌, ◌^◌, ◌==◌, min, List, [], ◌∷◌, ◌++◌, length, codes, decimal, Result, Ok, Err, if◌then◌else◌}
use Rattle.std.specs.List.{flat_map}
use Rattle.wording.specs.Wording.{refusal_text, grouped, many, bytes}
use Rattle.upload.specs.declared.Form.{Form}
use Rattle.upload.specs.declared.Form.TheVariants.{Binary, Hexadecimal}
use Rattle.refusal.specs.declared.Mode.{Mode}
use Rattle.refusal.specs.declared.Mode.TheVariants.{Present, Checked}
use Rattle.refusal.specs.declared.Refusal.{Refusal}
use Rattle.symbol.specs.declared.AdsSymbolInfo.{AdsSymbolInfo}
use Rattle.symbol.specs.Symbol.{symbol_of}
use Rattle.walk.specs.declared.Piece.{Piece}
use Rattle.walk.specs.Pieces.{pieces}
use Rattle.report.specs.declared.Upload.{Upload}
use Rattle.report.specs.declared.Tally.{Tally}
use Rattle.report.specs.Json.{symbol_text, refused_text}

abbrev pub form_text : Form → List ℕ
form_text Binary = codes "binary"
form_text Hexadecimal = codes "hexadecimal text"

abbrev pub mode_text : Mode → List ℕ
mode_text Present = []
mode_text Checked = codes ", checked"

-- where it is from, what it was read as, and how long it is
unfoldable pub upload_text : Upload → List ℕ
upload_text u = u.path.now ++ (codes " (" ++ (form_text u.form ++ (codes ", " ++ (bytes (length u.bytes.now) ++ (mode_text u.mode ++ codes ")")))))

-- more, as far as a number goes
abbrev pub plus : ℕ → ℕ → ℕ
plus a b = min (a + b) (2 ^ 64 - 1)

abbrev pub nothing_counted : Tally
nothing_counted = record { accepted = 0; refused = 0; grown = 0; unread = 0 }

abbrev pub all_of : Tally → ℕ
all_of t = plus t.accepted t.refused

unfoldable pub counted : Tally → Result AdsSymbolInfo Refusal → Tally
counted t (Ok s) = record t {
  accepted = plus t.accepted 1;
  grown = if length s.unread.now == 0 then t.grown else plus t.grown 1;
  unread = plus t.unread (length s.unread.now);
}
counted t (Err why) = record t { refused = plus t.refused 1 }

unfoldable pub tallied : Tally → List (Piece AdsSymbolInfo) → Tally
tallied t [] = t
tallied t (p ∷ ps) = tallied (counted t p.answer) ps

abbrev pub tally_of : List (Piece AdsSymbolInfo) → Tally
tally_of ps = tallied nothing_counted ps

abbrev pub entries : ℕ → List ℕ
entries n = many n (codes "entry") (codes "entries")

unfoldable pub counts_text : Tally → List ℕ
counts_text t = entries (all_of t) ++ (codes ": " ++ (grouped t.accepted ++ (codes " accepted, " ++ (grouped t.refused ++ codes " refused\n"))))

unfoldable pub unread_text : Tally → List ℕ
unread_text t = if t.grown == 0 then [] else codes "left unread: " ++ (bytes t.unread ++ (codes ", in " ++ (entries t.grown ++ codes "\n")))

unfoldable pub summary_text : Tally → List ℕ
summary_text t = counts_text t ++ unread_text t

-- the line of an entry that was refused; none of one that was accepted
abbrev pub refused_by : ℕ → Result AdsSymbolInfo Refusal → List ℕ
refused_by at (Ok s) = []
refused_by at (Err why) = codes "at " ++ (decimal at ++ (codes ": " ++ (refusal_text why ++ codes "\n")))

unfoldable pub refused_line : Piece AdsSymbolInfo → List ℕ
refused_line p = refused_by p.start p.answer

unfoldable pub check_text : Upload → List ℕ
check_text u =
    (upload_text u ++ codes "\n") ++ (flat_map refused_line (pieces (symbol_of u.mode) u.bytes) ++ summary_text (tally_of (pieces (symbol_of u.mode) u.bytes)))

-- a line of JSON for each entry
abbrev pub json_by : ℕ → Result AdsSymbolInfo Refusal → List ℕ
json_by at (Ok s) = symbol_text at s
json_by at (Err why) = refused_text at why

unfoldable pub json_line : Piece AdsSymbolInfo → List ℕ
json_line p = json_by p.start p.answer ++ codes "\n"
