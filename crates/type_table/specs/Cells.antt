-- docs/FORMAT.md, "The command's text": the cells of text in the table of data types.
use Rattle.std.specs.Prelude.{ℕ, ◌+◌, Bool, true, false, List, [], ◌∷◌, ◌++◌, length, codes, ℤ, pos, ◌+ℤ◌, ◌-ℤ◌, if◌then◌else◌}
use Rattle.std.specs.Fmt.{signed_decimal}
use Rattle.std.specs.Int.{w32, cast_signed}
use Rattle.wording.specs.Text.{shown}
use Rattle.attribute.specs.declared.AdsAttribute.{AdsAttribute}
use Rattle.data_type.specs.declared.array.AdsArrayInfo.{AdsArrayInfo}
use Rattle.report.specs.Report.{plus}
use Rattle.type_tree.specs.Joined.{joined}

abbrev pub is_none : {X : Type 0} → List X → Bool
is_none [] = true
is_none (x ∷ xs) = false

abbrev pub only_if : Bool → ℕ → ℕ
only_if is_set width = if is_set then width else 0

-- how many characters some words have, and two more for each
unfoldable pub words_width : List (List ℕ) → ℕ
words_width [] = 0
words_width (w ∷ ws) = length w + 2 + words_width ws

-- the indices of an array record, the lowest with a sign
abbrev pub lowest : AdsArrayInfo → ℤ
lowest a = cast_signed w32 a.lower_bound

abbrev pub highest : AdsArrayInfo → ℤ
highest a = lowest a +ℤ pos a.elements -ℤ pos 1

unfoldable pub array_cell : AdsArrayInfo → List ℕ
array_cell a = signed_decimal (lowest a) ++ (codes ".." ++ signed_decimal (highest a))

unfoldable pub array_cells : List AdsArrayInfo → List ℕ
array_cells all = if is_none all then [] else codes "[" ++ (joined (codes ", ") array_cell all ++ codes "]")

-- with the brackets, or the comma and the space before it
unfoldable pub array_width : AdsArrayInfo → ℕ
array_width a = length (signed_decimal (lowest a)) + length (signed_decimal (highest a)) + 4

unfoldable pub arrays_on : ℕ → List AdsArrayInfo → ℕ
arrays_on n [] = n
arrays_on n (a ∷ all) = arrays_on (plus n (array_width a)) all

abbrev pub arrays_width : List AdsArrayInfo → ℕ
arrays_width all = arrays_on 0 all

unfoldable pub attribute_cell : AdsAttribute → List ℕ
attribute_cell a = shown a.name.now ++ (codes " = " ++ shown a.value.now)
