-- docs/FORMAT.md, "The command's text": what the options of a line say.
use Rattle.std.specs.Prelude.{ℕ, true, false, List, [], ◌∷◌, ◌==◌, Option, Some, None, Result, Ok, Err, slice_index, codes, if◌then◌else◌}
use Rattle.std.specs.List.{list_any, before_first}
use Rattle.std.specs.Str.{bytes_eq}
use Rattle.upload.specs.declared.Form.{Form}
use Rattle.upload.specs.declared.Form.TheVariants.{Binary, Hexadecimal}
use Rattle.refusal.specs.declared.Mode.TheVariants.{Present, Checked}
use Rattle.arguments.specs.declared.options.Flag.{Flag}
use Rattle.arguments.specs.declared.options.Flag.TheVariants as flag
use Rattle.arguments.specs.declared.options.Options.{Options}
use Rattle.arguments.specs.declared.options.Said.{Said}
use Rattle.arguments.specs.declared.options.Said.TheVariants.{Help, Version, Given}
use Rattle.arguments.specs.declared.misuse.Misuse.{Misuse}
use Rattle.arguments.specs.declared.misuse.Misuse.TheVariants.{UnknownOption, UnknownLetters, Valued, Against}
use Rattle.arguments.specs.declared.misuse.Rule.TheVariants.{OneForm}
use Rattle.arguments.specs.Words.{Word, is_option, ends_options}

abbrev pub none_given : Options
none_given = record { form = None; mode = Present; json = false; sorted = false }

-- an option's word, and whom it is for
abbrev pub word_of : Flag → List ℕ
word_of flag.Binary = codes "--binary"
word_of flag.Hexadecimal = codes "--hex"
word_of flag.Checked = codes "--checked"
word_of flag.Json = codes "--json"
word_of flag.Sorted = codes "--sorted"

abbrev pub users_of : Flag → List ℕ
users_of flag.Binary = codes "a file"
users_of flag.Hexadecimal = codes "a file"
users_of flag.Checked = codes "a file"
users_of flag.Json = codes "list, branch, type, compare and bind"
users_of flag.Sorted = codes "list"

unfoldable pub flag_of : List ℕ → Option Flag
flag_of name =
    if bytes_eq name (codes "--binary") then Some flag.Binary
    else if bytes_eq name (codes "--hex") then Some flag.Hexadecimal
    else if bytes_eq name (codes "--checked") then Some flag.Checked
    else if bytes_eq name (codes "--json") then Some flag.Json
    else if bytes_eq name (codes "--sorted") then Some flag.Sorted
    else None

-- a file has one form, which may be told twice
abbrev pub in_form : Form → Options → Option Form → Option Options
in_form Binary o (Some Hexadecimal) = None
in_form Hexadecimal o (Some Binary) = None
in_form f o before = Some (record o { form = Some f })

unfoldable pub with_flag : Options → Flag → Option Options
with_flag o flag.Binary = in_form Binary o o.form
with_flag o flag.Hexadecimal = in_form Hexadecimal o o.form
with_flag o flag.Checked = Some (record o { mode = Checked })
with_flag o flag.Json = Some (record o { json = true })
with_flag o flag.Sorted = Some (record o { sorted = true })

-- no option has a value
unfoldable pub alone : Word → Said → Result Said Misuse
alone w said = if list_any (λ b. b == 61) w.now then Err (Valued w) else Ok said

abbrev pub without_value : Word → Option Options → Result Said Misuse
without_value w None = Err (Against OneForm)
without_value w (Some o) = alone w (Given o)

unfoldable pub marked : Options → Flag → Word → Result Said Misuse
marked o f w = without_value w (with_flag o f)

abbrev by_flag : Options → Word → Option Flag → Result Said Misuse
by_flag o w None = Err (UnknownOption w)
by_flag o w (Some f) = marked o f w

-- two dashes and a name, behind which a value may stand
unfoldable pub long : Options → Word → Result Said Misuse
long o w =
    let name : List ℕ = before_first (λ b. b == 61) w.now in
    if bytes_eq name (codes "--help") then alone w Help
    else if bytes_eq name (codes "--version") then alone w Version
    else by_flag o w (flag_of name)

-- a dash and one letter
unfoldable pub short : Word → Result Said Misuse
short w = if bytes_eq w.now (codes "-h") then Ok Help else if bytes_eq w.now (codes "-V") then Ok Version else Err (UnknownLetters w)

unfoldable pub taken : Options → Word → Result Said Misuse
taken o w = if slice_index w.now 1 == 45 then long o w else short w

-- help and the version end the reading
abbrev pub and_then : (Options → Result Said Misuse) → Result Said Misuse → Result Said Misuse
and_then f (Ok (Given o)) = f o
and_then f (Ok Help) = Ok Help
and_then f (Ok Version) = Ok Version
and_then f (Err why) = Err why

unfoldable pub options_from : Options → List Word → Result Said Misuse
options_from o [] = Ok (Given o)
options_from o (w ∷ line) =
    if is_option w.now then (if ends_options w.now then Ok (Given o) else and_then (λ more. options_from more line) (taken o w))
    else options_from o line

abbrev pub options_of : List Word → Result Said Misuse
options_of line = options_from none_given line
