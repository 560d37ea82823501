-- docs/FORMAT.md, "The command's text": the words of a line that are options, and those that are operands.
use Rattle.std.specs.Prelude.{ℕ, Bool, List, [], ◌∷◌, ◌==◌, ◌&&◌, nat_lt, length, slice_index, codes, if◌then◌else◌}
use Rattle.std.specs.Str.{bytes_eq}
use Rattle.std.specs.Borrow.{Bor}

abbrev pub Word : Type 0
Word = Bor (List ℕ)

-- a dash, and more behind it
abbrev pub is_option : List ℕ → Bool
is_option w = nat_lt 1 (length w) && slice_index w 0 == 45

abbrev pub ends_options : List ℕ → Bool
ends_options w = bytes_eq w (codes "--")

-- all but the options; behind `--` all
unfoldable pub operands_of : List Word → List Word
operands_of [] = []
operands_of (w ∷ line) =
    if is_option w.now then (if ends_options w.now then line else operands_of line)
    else w ∷ operands_of line
