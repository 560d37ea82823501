-- docs/FORMAT.md, "Listing". What is listed of an input: a header, and for each line the rows of the upload that it spells.
use Rattle.std.specs.Prelude.{ℕ, ◌+◌, ◌-◌, ◌==◌, ◌≡◌, ◌≢◌, ◌≤◌, ltb, List, [], ◌∷◌, ◌++◌, length, take, codes, Option, Some, None, Ok, Err, ⊤, if◌then◌else◌}
use Rattle.std.specs.List.{flat_map, slice_split, enumerate_from}
use Rattle.std.specs.Io.KnownBytes.{Appends, Consumes}
use Rattle.std.specs.Borrow.{Bor}
use Rattle.std.specs.declared.result.Result.{Result}
use Rattle.hex.specs.Hex.{decode_of}
use Rattle.refusal.specs.Refusal.{figures_of}
use Rattle.refusal.specs.declared.Mode.{Mode}
use Rattle.refusal.specs.declared.Refusal.{Refusal}
use Rattle.refusal.specs.declared.Refusal.TheVariants.{BadHexadecimal}
use Rattle.walk.specs.declared.Piece.{Piece}
use Rattle.walk.specs.Pieces.{pieces}
use Rattle.symbol.specs.declared.AdsSymbolInfo.{AdsSymbolInfo}
use Rattle.symbol.specs.Symbol.{symbol_of}
use Rattle.listing.specs.Row.{hex, entry_row, refusal_row}
use Rattle.listing.specs.declared.Line.{Line}
use Rattle.listing.specs.declared.Failure.{Failure}
use Rattle.listing.specs.declared.Failure.TheVariants.{Input, Endless, Output}
use Rattle.std.specs.IoError.{error_kind}
use Rattle.std.specs.declared.io.ErrorKind.TheVariants.{Interrupted}

-- the digits of the longest upload that is listed, 16,384 bytes
abbrev pub longest : ℕ
longest = 32768

-- the row of what was read at a place of an upload
abbrev pub answer_row : ℕ → ℕ → Result AdsSymbolInfo Refusal → List ℕ
answer_row line start (Ok symbol) = entry_row line start symbol (hex symbol.name.now) (hex symbol.type_name.now)
answer_row line start (Err why) = refusal_row line start (figures_of why)

unfoldable pub row : ℕ → Piece AdsSymbolInfo → List ℕ
row line piece = answer_row line piece.start piece.answer ++ codes "\n"

-- the upload that a line spells: what is listed of it does not depend on where it lies in memory
abbrev pub lying : List ℕ → Bor (List ℕ)
lying s = record { ref_ptr = (0, 0); now = s }

-- the rows of a line of digits in either case; an odd number of them, another character or more than the longest are no upload
abbrev pub rows : Mode → ℕ → Option (List ℕ) → List ℕ
rows mode line (Some s) = flat_map (row line) (pieces (symbol_of mode) (lying s))
rows mode line None = refusal_row line 0 (figures_of BadHexadecimal) ++ codes "\n"

abbrev pub ok_of : {E : Type 0} → Result (List ℕ) E → Option (List ℕ)
ok_of (Ok s) = Some s
ok_of (Err e) = None

unfoldable pub line_text : Mode → ℕ → List ℕ → List ℕ
line_text mode line digits = rows mode line (if ltb longest (length digits) then None else ok_of (decode_of digits))

abbrev pub header : List ℕ
header = codes "line at len group offset size type flags unread attrs refs name typename high\n"

-- lines end at LF, and the last may lack it; they count from 1
abbrev pub lines : List ℕ → List (List ℕ)
lines s = slice_split (λ c. c == 10) s

abbrev pub lines_text : Mode → ℕ → List (List ℕ) → List ℕ
lines_text mode first ls = flat_map (λ l. line_text mode l.0 l.1) (enumerate_from first ls)

unfoldable pub listing : Mode → List ℕ → List ℕ
listing mode s = header ++ lines_text mode 1 (lines s)

-- the same of those lines alone that have ended
unfoldable pub listing_of_ended : Mode → List ℕ → List ℕ
listing_of_ended mode s = header ++ lines_text mode 1 (take (length (lines s) - 1) (lines s))

-- the most that a line's number can be, 2 ^ 64 - 1; and so many bytes that those of their lines, and of the next 8,192 bytes, fit
abbrev pub most_number : ℕ
most_number = 18446744073709551615

abbrev pub most : ℕ
most = 18446744073709543423

-- of these bytes some were appended, from the first on
pub record AppendsFront (before after : Option (List ℕ)) (bs : List ℕ) : Type 0 where
  pub front : List ℕ
  pub left : List ℕ
  pub is : front ++ left ≡ bs
  pub appended : Appends before after front

-- so many bytes were read, or more, and their whole lines are listed
abbrev pub Listed : Mode → ℕ → Option (List ℕ) → Option (List ℕ) → Option (List ℕ) → Option (List ℕ) → Type 0
Listed mode least input left before after = (read : List ℕ) × Consumes input left read × Appends before after (listing_of_ended mode read) × (least ≤ length read)

-- where a listing stopped: at an error of the reader that is no interruption, or since there is too much to count; of other errors no more is said than of all, that a front of the listing was appended
abbrev pub Stopped : Mode → Option (List ℕ) → Option (List ℕ) → Option (List ℕ) → Option (List ℕ) → Failure → Type 0
Stopped mode input left before after (Input e) = Listed mode 0 input left before after × (error_kind e ≢ Interrupted)
Stopped mode input left before after Endless = Listed mode most input left before after
Stopped mode input left before after (Output e) = ⊤

-- a line that began with some characters, and the lines after it
abbrev pub goes_on : List ℕ → List (List ℕ) → List (List ℕ)
goes_on line [] = line ∷ []
goes_on line (l ∷ ls) = (line ++ l) ∷ ls

-- where the program stands: of what was `read`, `rest` is still to be looked at. The lines that have ended are listed, and of the one under way no more
-- is held than tells that it is too long
pub record Reading (mode : Mode) (read rest : List ℕ) (before now : Option (List ℕ)) (line : Line) : Type 0 where
  pub done : List (List ℕ)
  pub last : List ℕ
  pub splits : (t : List ℕ) → lines (read ++ t) ≡ done ++ goes_on last (lines (rest ++ t))
  pub number : line.number ≡ 1 + length done
  pub held : line.digits.items ≡ take (longest + 1) last
  pub written : Appends before now (header ++ lines_text mode 1 done)
