-- docs/FORMAT.md, "The command's text": the commands, and the options that are for each.
use Rattle.std.specs.Prelude.{ℕ, Bool, true, false, not, ◌&&◌, List, Option, Some, None, option_map, codes, if◌then◌else◌}
use Rattle.std.specs.Str.{bytes_eq}
use Rattle.upload.specs.declared.Form.{Form}
use Rattle.upload.specs.declared.Form.TheVariants.{Binary, Hexadecimal}
use Rattle.refusal.specs.declared.Mode.{Mode}
use Rattle.refusal.specs.declared.Mode.TheVariants.{Present, Checked}
use Rattle.arguments.specs.declared.command.Command.{Command}
use Rattle.arguments.specs.declared.command.Command.TheVariants.{Room, Captures, Sheet, OfFile}
use Rattle.arguments.specs.declared.command.Task.{Task}
use Rattle.arguments.specs.declared.command.Task.TheVariants.{Find, Show, Why, List as Lists, Branch, Types, Check, Plain, Compare, Salvage, Bind}
use Rattle.arguments.specs.declared.options.Flag.TheVariants as flag
use Rattle.arguments.specs.declared.options.Options.{Options}
use Rattle.arguments.specs.declared.misuse.Misuse.{Misuse}
use Rattle.arguments.specs.declared.misuse.Misuse.TheVariants.{NotFor, Against}
use Rattle.arguments.specs.declared.misuse.Rule.TheVariants.{PlainAsItIs}
use Rattle.arguments.specs.Words.{Word}

unfoldable pub task_of : List ℕ → Option Task
task_of w =
    if bytes_eq w (codes "find") then Some Find
    else if bytes_eq w (codes "show") then Some Show
    else if bytes_eq w (codes "why") then Some Why
    else if bytes_eq w (codes "list") then Some Lists
    else if bytes_eq w (codes "branch") then Some Branch
    else if bytes_eq w (codes "type") then Some Types
    else if bytes_eq w (codes "check") then Some Check
    else if bytes_eq w (codes "plain") then Some Plain
    else if bytes_eq w (codes "compare") then Some Compare
    else if bytes_eq w (codes "salvage") then Some Salvage
    else if bytes_eq w (codes "bind") then Some Bind
    else None

unfoldable pub command_of : List ℕ → Option Command
command_of w =
    if bytes_eq w (codes "room") then Some Room
    else if bytes_eq w (codes "captures") then Some Captures
    else if bytes_eq w (codes "sheet") then Some Sheet
    else option_map OfFile (task_of w)

abbrev pub has_json : Command → Bool
has_json (OfFile Lists) = true
has_json (OfFile Branch) = true
has_json (OfFile Types) = true
has_json (OfFile Compare) = true
has_json (OfFile Bind) = true
has_json _ = false

abbrev pub has_sorted : Command → Bool
has_sorted (OfFile Lists) = true
has_sorted _ = false

abbrev form_and_mode : Word → Option Form → Mode → Option Misuse
form_and_mode w (Some Binary) mode = Some (NotFor flag.Binary w)
form_and_mode w (Some Hexadecimal) mode = Some (NotFor flag.Hexadecimal w)
form_and_mode w None Checked = Some (NotFor flag.Checked w)
form_and_mode w None Present = None

-- a length is of no file
unfoldable pub unsuited_to_room : Options → Word → Option Misuse
unsuited_to_room o w = form_and_mode w o.form o.mode

abbrev unsuited_to_plain : Mode → Option Misuse
unsuited_to_plain Checked = Some (Against PlainAsItIs)
unsuited_to_plain Present = None

abbrev unsuited_mode : Options → Word → Command → Option Misuse
unsuited_mode o w Room = unsuited_to_room o w
unsuited_mode o w (OfFile Plain) = unsuited_to_plain o.mode
unsuited_mode o w _ = None

-- the first of the options that is not for a command
unfoldable pub unsuited : Options → Command → Word → Option Misuse
unsuited o c w =
    if o.json && not (has_json c) then Some (NotFor flag.Json w)
    else if o.sorted && not (has_sorted c) then Some (NotFor flag.Sorted w)
    else unsuited_mode o w c
