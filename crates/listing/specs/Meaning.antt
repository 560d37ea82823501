-- docs/FORMAT.md, "Listing": six lines and what is listed of them, letter by letter; and which lines are bad.
use Rattle.std.specs.Prelude.{ℕ, ◌<◌, ◌≤◌, ◌≡◌, List, ◌++◌, Ok, Err, length, codes, decimal}
use Rattle.std.specs.List.{flat_map}
use Rattle.hex.specs.Hex.{decode_of}
use Rattle.hex.specs.declared.error.FromHexError.{FromHexError}
use Rattle.refusal.specs.declared.Mode.{Mode}
use Rattle.refusal.specs.declared.Mode.TheVariants.{Present}
use Rattle.walk.specs.Pieces.{pieces}
use Rattle.symbol.specs.Symbol.{symbol_of}
use Rattle.listing.specs.Listing.{lying, row, line_text, listing}

-- two small entries and three bytes behind them; an empty line; an entry with attributes, extended flags and a chain, without a type name, in small letters; and three bad ones: with a CR before the LF, of an odd number of digits, and what is no byte, without an LF
abbrev pub six_lines : List ℕ
six_lines = codes "2500000020400000080000000200000002000000000000000100030000005A00494E5400002500000021400000100000000400000003000000000000000100030000004100494E540000250000\n\n3b00000020400000080000001000000005000000009007000100000000005a00000002000000000000000000040000000000000000000000000000\n5A\r\n5A0\n0G"

abbrev pub six_listed : List ℕ
six_listed = codes "line at len group offset size type flags unread attrs refs name typename high\n1 0 37 16416 8 2 2 0 0 0 0 5A 494E54 0\n1 37 37 16417 16 4 3 0 0 0 0 41 494E54 0\n1 74 refused 2 78 77\n3 0 59 16416 8 16 5 36864 4 2 1 5A - 7\n4 0 refused 12 0 0\n5 0 refused 12 0 0\n6 0 refused 12 0 0\n"

-- the row of a bad line
abbrev pub bad_row : ℕ → List ℕ
bad_row line = decimal line ++ codes " 0 refused 12 0 0\n"

-- the lines in letters; digits of 16,384 bytes or fewer are read, and what spells no bytes is bad, and so is a digit more
pub record ListingMeant : Type 0 where
  pub letters : listing Present six_lines ≡ six_listed
  pub good : (mode : Mode) (line : ℕ) (digits frame : List ℕ) → length digits ≤ 32768 → decode_of digits ≡ Ok frame → line_text mode line digits ≡ flat_map (row line) (pieces (symbol_of mode) (lying frame))
  pub bad : (mode : Mode) (line : ℕ) (digits : List ℕ) (why : FromHexError) → decode_of digits ≡ Err why → line_text mode line digits ≡ bad_row line
  pub long : (mode : Mode) (line : ℕ) (digits : List ℕ) → 32768 < length digits → line_text mode line digits ≡ bad_row line
