-- docs/FORMAT.md, "The command's text": flag words with the names of their bits, and strings that may be empty, for people.
use Rattle.std.specs.Prelude.{ℕ, ◌-◌, ◌*◌, ◌/◌, ◌%◌, ◌==◌, true, List, [], ◌∷◌, ◌++◌, codes, decimal, if◌then◌else◌}
use Rattle.std.specs.Fmt.{digits}
use Rattle.std.specs.Int.RustNames.{bit_and}
use Rattle.std.specs.List.{flat_map}
use Rattle.wording.specs.Text.{pair, shown}

unfoldable pub four_digits : ℕ → List ℕ
four_digits n = pair (n / 256) ++ pair (n % 256)

-- each name with its bits, from the lowest on
abbrev pub symbol_names : List (List ℕ × ℕ)
symbol_names =
    (codes "PERSISTENT", 0x0001) ∷ (codes "BIT_VALUE", 0x0002) ∷ (codes "REFERENCE_TO", 0x0004) ∷ (codes "TYPE_GUID", 0x0008)
    ∷ (codes "TCOM_INTERFACE_PTR", 0x0010) ∷ (codes "READ_ONLY", 0x0020) ∷ (codes "ITF_METHOD_ACCESS", 0x0040) ∷ (codes "METHOD_DEREF", 0x0080)
    ∷ (codes "CONTEXT_MASK", 0x0F00) ∷ (codes "ATTRIBUTES", 0x1000) ∷ (codes "STATIC", 0x2000) ∷ (codes "INIT_ON_RESET", 0x4000)
    ∷ (codes "EXTENDED_FLAGS", 0x8000) ∷ []

abbrev pub extended_names : List (List ℕ × ℕ)
extended_names =
    (codes "PLC_POINTER_TYPE", 0x01) ∷ (codes "REDUNDANCY_IGNORE", 0x02) ∷ (codes "REFACTOR_INFO", 0x04) ∷ (codes "ONLINE_CHANGE_PTR_REF_TYPE", 0x08)
    ∷ (codes "VARIANT_TYPE", 0x10) ∷ []

-- a name of which some bits are set
abbrev pub named_text : List ℕ → ℕ → List ℕ
named_text name set = if set == 0 then [] else codes ", " ++ name

-- the names of a word's bits
abbrev pub bits_text : ℕ → List (List ℕ × ℕ) → List ℕ
bits_text word names = flat_map (λ n. named_text n.0 (bit_and word n.1)) names

unfoldable pub symbol_bits_text : ℕ → List ℕ
symbol_bits_text word = bits_text word symbol_names

unfoldable pub extended_bits_text : ℕ → List ℕ
extended_bits_text word = bits_text word extended_names

unfoldable pub nameless_text : ℕ → List ℕ
nameless_text rest = if rest == 0 then [] else codes ", and 0x" ++ (digits 16 true rest ++ codes ", which has no name")

unfoldable pub context_text : ℕ → List ℕ
context_text number = if number == 0 then [] else codes ", context " ++ decimal number

-- the context is the four bits from 8 on
unfoldable pub flags_text : ℕ → List ℕ
flags_text word =
    codes "0x" ++ (four_digits word ++ (if word == 0 then codes ", none"
    else symbol_bits_text (word - word / 256 % 16 * 256) ++ context_text (word / 256 % 16)))

unfoldable pub extended_text : ℕ → List ℕ
extended_text word =
    codes "0x" ++ (four_digits (word / 65536) ++ (four_digits (word % 65536) ++ (if word == 0 then codes ", none"
    else extended_bits_text word ++ nameless_text (word - bit_and word 0x1F))))

-- a string, and a former name
abbrev pub or_else : List ℕ → List ℕ → List ℕ
or_else none [] = none
or_else none (b ∷ s) = shown (b ∷ s)

unfoldable pub or_none : List ℕ → List ℕ
or_none s = or_else (codes "none") s

unfoldable pub former_text : List ℕ → List ℕ
former_text s = or_else (codes "(no name)") s
