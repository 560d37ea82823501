-- docs/FORMAT.md, "The command's text": six paths, of whose addresses every number is another, and what is written of them.
use Rattle.std.specs.Prelude.{ℕ, ◌≡◌, Bool, true, false, List, [], ◌∷◌, ◌++◌, codes, take, Result, Ok, Err}
use Rattle.std.specs.Borrow.{Bor}
use Rattle.refusal.specs.declared.Refusal.{Refusal}
use Rattle.refusal.specs.declared.Refusal.TheVariants.{NameNotFound, NoSuchNumber, BadPath}
use Rattle.bind.specs.declared.Address.{Address}
use Rattle.bind.specs.declared.reading.Place.{Place}
use Rattle.bind.specs.declared.reading.Place.TheVariants.{Symbol, DataType}
use Rattle.bind_report.specs.declared.Bound.{Bound}
use Rattle.bind_report.specs.Json.{lines_text}
use Rattle.bind_report.specs.Table.{table_text}
use Rattle.bind_report.specs.Words.{are_all_bound}

-- bytes that lie anywhere
abbrev lying : ℕ × ℕ → List ℕ → Bor (List ℕ)
lying there s = record { ref_ptr = there; now = s }

abbrev asked : ℕ × ℕ → List ℕ → Result Address Refusal → Bound
asked there path answer = record { path = lying there path; answer = answer }

abbrev at : ℕ × ℕ → ℕ → ℕ → ℕ → ℕ → Bool → List ℕ → Place → Result Address Refusal
at there group offset bit size in_bits type_name place =
    Ok (record { group = record { 0 = group }; offset = record { 0 = offset }; bit = bit; size = size; size_in_bits = in_bits; type_name = lying there type_name; place = place })

-- an address in whole bytes, one of a bit, one of some bits from the first on; a subscript outside its bounds, a name without a byte, and no such symbol,
-- asked with a control character
abbrev pub sample : ℕ × ℕ → List Bound
sample there =
    asked there (codes "M.Lens") (at there 16448 21216 0 848 false (codes "ST_Lens") (Symbol 1455))
    ∷ asked there (codes "M.Lens.bOn") (at there 61472 31 3 1 true (codes "BIT") (DataType 77))
    ∷ asked there (codes "M.Lens.b") (at there 7 2748 0 12 true (codes "B") (DataType 204))
    ∷ asked there (codes "M.Lens.aT[99].f") (Err (NoSuchNumber 32 10))
    ∷ asked there (codes "M.Lens..f") (Err (BadPath 7))
    ∷ asked there (27 ∷ codes "Z") (Err NameNotFound)
    ∷ []

abbrev pub lines : List ℕ
lines =
    codes "{\"path\":\"M.Lens\",\"group\":16448,\"offset\":21216,\"bit\":0,\"size\":848,\"size_in_bits\":false,\"type\":\"ST_Lens\",\"entry\":{\"upload\":\"symbols\",\"place\":1455}}\n"
    ++ (codes "{\"path\":\"M.Lens.bOn\",\"group\":61472,\"offset\":31,\"bit\":3,\"size\":1,\"size_in_bits\":true,\"type\":\"BIT\",\"entry\":{\"upload\":\"types\",\"place\":77}}\n"
    ++ (codes "{\"path\":\"M.Lens.b\",\"group\":7,\"offset\":2748,\"bit\":0,\"size\":12,\"size_in_bits\":true,\"type\":\"B\",\"entry\":{\"upload\":\"types\",\"place\":204}}\n"
    ++ (codes "{\"path\":\"M.Lens.aT[99].f\",\"refused\":14,\"expected\":32,\"got\":10,\"reason\":\"refusal 14, no such number: 32 elements there, and none is the subscript at byte 10 of the path\",\"part\":\"99\"}\n"
    ++ (codes "{\"path\":\"M.Lens..f\",\"refused\":20,\"expected\":7,\"got\":0,\"reason\":\"refusal 20, no path of a variable: fault at byte 7 of the path\",\"part\":\"\"}\n"
    ++ codes "{\"path\":\"\\u001BZ\",\"refused\":13,\"expected\":0,\"got\":0,\"reason\":\"refusal 13, name not found\",\"part\":null}\n"))))

abbrev pub table : List ℕ
table =
    codes "path              group   offset     size  type     entry\n"
    ++ (codes "M.Lens           0x4040   0x52E0      848  ST_Lens  symbols 1455\n"
    ++ (codes "M.Lens.bOn       0xF020   0x1F.3    1 bit  BIT      types 77\n"
    ++ (codes "M.Lens.b            0x7  0xABC.0  12 bits  B        types 204\n"
    ++ (codes "M.Lens.aT[99].f  refusal 14, no such number: 32 elements there, and none is the subscript at byte 10 of the path: 99\n"
    ++ (codes "M.Lens..f        refusal 20, no path of a variable: fault at byte 7 of the path\n"
    ++ codes "\\x1BZ            refusal 13, name not found\n")))))

pub record PathsSampled : Type 0 where
  pub as_json : (there : ℕ × ℕ) → lines_text (sample there) ≡ lines
  pub as_table : (there : ℕ × ℕ) → table_text (sample there) ≡ table
  pub refused : (there : ℕ × ℕ) → are_all_bound (sample there) ≡ false
  pub bound : (there : ℕ × ℕ) → are_all_bound (take 3 (sample there)) ≡ true
