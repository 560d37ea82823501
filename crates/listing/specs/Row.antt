-- docs/FORMAT.md, "Listing". The rows of a listing: numbers in decimal, bytes in hexadecimal, one space between.
use Rattle.std.specs.Prelude.{ℕ, ◌==◌, length, List, ◌++◌, codes, decimal, if◌then◌else◌}
use Rattle.hex.specs.Hex.{encode_upper}
use Rattle.refusal.specs.declared.Figures.{Figures}
use Rattle.symbol.specs.declared.AdsSymbolInfo.{AdsSymbolInfo}

-- two digits for each byte, in capitals, and "-" where there is none
unfoldable pub hex : List ℕ → List ℕ
hex s = if length s == 0 then codes "-" else encode_upper s

-- a number, and a space after it
abbrev pub field : ℕ → List ℕ → List ℕ
field n more = decimal n ++ (codes " " ++ more)

-- line at len group offset size type flags unread attrs refs name typename high, where the two names are spelt so
unfoldable pub entry_row : ℕ → ℕ → AdsSymbolInfo → List ℕ → List ℕ → List ℕ
entry_row line start info name type_name =
    field line (field start (field info.length (field info.index_group.0 (field info.index_offset.0 (field info.size (field info.data_type_id
    (field info.flags.0 (field (length info.unread.now) (field info.attributes.count (field info.refactor_infos.count
    (name ++ (codes " " ++ (type_name ++ (codes " " ++ decimal info.high))))))))))))))

-- why there is no entry: number, E and G
unfoldable pub refusal_row : ℕ → ℕ → Figures → List ℕ
refusal_row line start why =
    field line (decimal start ++ (codes " refused " ++ field why.number (field why.expected (decimal why.got))))
