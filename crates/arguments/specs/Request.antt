-- docs/FORMAT.md, "The command's text": what a line asks for.
use Rattle.std.specs.Prelude.{ℕ, ◌==◌, ◌&&◌, ◌||◌, nat_le, nat_lt, not, Bool, true, false, List, Option, Some, None, Result, Ok, Err, length, slice_get, ok_or, is_some, codes, if◌then◌else◌}
use Rattle.std.specs.List.{list_all}
use Rattle.std.specs.Str.{bytes_eq}
use Rattle.std.specs.Str.Parse.{digits_value}
use Rattle.std.specs.Borrow.{Bor}
use Rattle.refusal.specs.declared.Mode.{Mode}
use Rattle.refusal.specs.declared.Mode.TheVariants.{Present, Checked}
use Rattle.arguments.specs.declared.command.Command.{Command}
use Rattle.arguments.specs.declared.command.Command.TheVariants as command
use Rattle.arguments.specs.declared.command.Task.{Task}
use Rattle.arguments.specs.declared.command.Task.TheVariants as task
use Rattle.arguments.specs.declared.options.Options.{Options}
use Rattle.arguments.specs.declared.options.Said.{Said}
use Rattle.arguments.specs.declared.options.Said.TheVariants as said
use Rattle.arguments.specs.declared.misuse.Misuse.{Misuse}
use Rattle.arguments.specs.declared.misuse.Misuse.TheVariants.{Against, Unfit, Lacks, Extra}
use Rattle.arguments.specs.declared.misuse.Rule.{Rule}
use Rattle.arguments.specs.declared.misuse.Rule.TheVariants.{HasCommand, CapturesUnchecked, CapturesOfLines, SheetUnchecked, SheetOfText, CompareOnce, BindOnce}
use Rattle.arguments.specs.declared.misuse.Need.{Need}
use Rattle.arguments.specs.declared.misuse.Need.TheVariants as need
use Rattle.arguments.specs.declared.misuse.Expected.TheVariants as expected
use Rattle.arguments.specs.declared.request.Line.{Line}
use Rattle.arguments.specs.declared.request.Captures.{Captures}
use Rattle.arguments.specs.declared.request.Captures.TheVariants.{Split, Each, Join}
use Rattle.arguments.specs.declared.request.Asked.{Asked}
use Rattle.arguments.specs.declared.request.Asked.TheVariants as asks
use Rattle.arguments.specs.declared.request.Request.{Request}
use Rattle.arguments.specs.declared.request.Request.TheVariants as request
use Rattle.arguments.specs.Words.{Word, operands_of}
use Rattle.arguments.specs.Options.{options_of}
use Rattle.arguments.specs.Command.{command_of, unsuited}

-- what is wrong first is told
abbrev pub on_ok : {A B : Type 0} → Result A Misuse → (A → Result B Misuse) → Result B Misuse
on_ok (Ok x) f = f x
on_ok (Err why) f = Err why

abbrev pub unless : {A : Type 0} → Option Rule → Result A Misuse → Result A Misuse
unless (Some rule) r = Err (Against rule)
unless None r = r

-- the operand of a number, where the command is number 0
abbrev pub given : Line → ℕ → Option Word
given l n = slice_get (operands_of l.words.now) n

abbrev pub needed : Line → ℕ → Need → Result Word Misuse
needed l n what = ok_or (given l n) (Lacks l.command what)

abbrev pub is_digit : ℕ → Bool
is_digit b = nat_le 48 b && nat_le b 57

-- digits, zeros before them or not, and no sign
unfoldable pub length_of : Word → Result ℕ Misuse
length_of w =
    if length w.now == 0 || not (list_all is_digit w.now) then Err (Unfit expected.Digits w)
    else if nat_lt (digits_value 10 w.now) 18446744073709551616 then Ok (digits_value 10 w.now)
    else Err (Unfit expected.Length w)

unfoldable pub room_of : Line → Result Request Misuse
room_of l = on_ok (on_ok (needed l 1 need.Length) length_of) (λ n. Ok (request.Room n))

unfoldable pub make_of : Word → Result Captures Misuse
make_of w =
    if bytes_eq w.now (codes "split") then Ok Split
    else if bytes_eq w.now (codes "each") then Ok Each
    else if bytes_eq w.now (codes "join") then Ok Join
    else Err (Unfit expected.Make w)

abbrev is_checked : Mode → Bool
is_checked Checked = true
is_checked Present = false

abbrev is_split : Captures → Bool
is_split Split = true
is_split _ = false

-- of lines the form is known, and no entry is read
unfoldable pub against_captures : Options → Captures → Option Rule
against_captures o make =
    if is_checked o.mode then Some CapturesUnchecked
    else if is_some o.form && not (is_split make) then Some CapturesOfLines
    else None

unfoldable pub captures_of : Line → Result Request Misuse
captures_of l = on_ok (on_ok (needed l 1 need.Make) make_of) (λ make.
    unless (against_captures l.options make) (on_ok (needed l 2 need.File) (λ file. Ok (request.Captures file l.options.form make))))

unfoldable pub export_of : Line → Result Request Misuse
export_of l = on_ok (needed l 2 need.File) (λ file. Ok (request.SheetExport file l.options.form))

unfoldable pub import_of : Line → Result Request Misuse
import_of l =
    if is_some l.options.form then Err (Against SheetOfText)
    else on_ok (needed l 2 need.Sheet) (λ file. on_ok (needed l 3 need.Upload) (λ to. Ok (request.SheetImport file to)))

-- export reads in the present mode, and a sheet is text
unfoldable pub sheet_of : Line → Result Request Misuse
sheet_of l = on_ok (needed l 1 need.Way) (λ way.
    if is_checked l.options.mode then Err (Against SheetUnchecked)
    else if bytes_eq way.now (codes "export") then export_of l
    else if bytes_eq way.now (codes "import") then import_of l
    else Err (Unfit expected.Way way))

-- a second file, where standard input is not both
unfoldable pub other_file : Line → List ℕ → Rule → Result Word Misuse
other_file l file both = on_ok (needed l 2 need.OtherFile) (λ other.
    if bytes_eq file (codes "-") && bytes_eq other.now (codes "-") then Err (Against both) else Ok other)

unfoldable pub find_of : Line → Result Asked Misuse
find_of l = on_ok (needed l 2 need.Symbol) (λ name. Ok (asks.Find name (given l 3)))

unfoldable pub compare_of : Line → List ℕ → Result Asked Misuse
compare_of l file = on_ok (other_file l file CompareOnce) (λ other. Ok (asks.Compare other l.options.json))

-- the paths are all operands that are left, one at least
unfoldable pub bind_of : Line → List ℕ → Result Asked Misuse
bind_of l file = on_ok (other_file l file BindOnce) (λ types. on_ok (needed l 3 need.Variable) (λ path.
    Ok (asks.Bind types (record { line = l.words; first = 3 }) l.options.json)))

unfoldable pub of_a_word : Line → Task → Result Asked Misuse
of_a_word l task.Show = on_ok (needed l 2 need.Symbol) (λ name. Ok (asks.Show name))
of_a_word l task.Why = on_ok (needed l 2 need.Symbol) (λ name. Ok (asks.Why name))
of_a_word l task.Branch = on_ok (needed l 2 need.Text) (λ text. Ok (asks.Branch text l.options.json))
of_a_word l _ = on_ok (needed l 2 need.Kept) (λ to. Ok (asks.Salvage to))

unfoldable pub asked_of : Line → Task → List ℕ → Result Asked Misuse
asked_of l task.Find file = find_of l
asked_of l task.List file = Ok (asks.List l.options.sorted l.options.json)
asked_of l task.Types file = Ok (asks.Types (given l 2) l.options.json)
asked_of l task.Check file = Ok asks.Check
asked_of l task.Plain file = Ok asks.Plain
asked_of l task.Compare file = compare_of l file
asked_of l task.Bind file = bind_of l file
asked_of l task file = of_a_word l task

unfoldable pub run_of : Line → Task → Result Request Misuse
run_of l task = on_ok (needed l 1 need.File) (λ file. on_ok (asked_of l task file.now) (λ what.
    Ok (request.Run (record { file = file; form = l.options.form; mode = l.options.mode; asked = what }))))

abbrev pub ask : Line → Command → Result Request Misuse
ask l command.Room = room_of l
ask l command.Captures = captures_of l
ask l command.Sheet = sheet_of l
ask l (command.OfFile task) = run_of l task

-- how many operands there are at most, with the command
abbrev pub most_asked : Asked → Option ℕ
most_asked (asks.Find name attribute) = Some 4
most_asked (asks.Bind types paths json) = None
most_asked (asks.List sorted json) = Some 2
most_asked asks.Check = Some 2
most_asked asks.Plain = Some 2
most_asked _ = Some 3

abbrev pub most : Request → Option ℕ
most request.Help = None
most request.Version = None
most (request.Room n) = Some 2
most (request.Run run) = most_asked run.asked
most (request.Captures file form make) = Some 3
most (request.SheetExport file form) = Some 3
most (request.SheetImport file to) = Some 4

abbrev no_extra : Line → Request → Option Word → Result Request Misuse
no_extra l r None = Ok r
no_extra l r (Some w) = Err (Extra l.command w)

abbrev within : Line → Request → Option ℕ → Result Request Misuse
within l r None = Ok r
within l r (Some n) = no_extra l r (given l n)

unfoldable pub without_more : Line → Request → Result Request Misuse
without_more l r = within l r (most r)

abbrev if_suited : Option Misuse → Result Request Misuse → Result Request Misuse
if_suited None r = r
if_suited (Some why) r = Err why

unfoldable pub suited : Line → Command → Result Request Misuse
suited l c = if_suited (unsuited l.options c l.command) (on_ok (ask l c) (without_more l))

abbrev line_of : Bor (List Word) → Options → Word → Line
line_of words o w = record { words = words; command = w; options = o }

abbrev pub of_command : Bor (List Word) → Options → Word → Option Command → Result Request Misuse
of_command words o w None = Err (Unfit expected.Command w)
of_command words o w (Some c) = suited (line_of words o w) c

abbrev pub of_word : Bor (List Word) → Options → Option Word → Result Request Misuse
of_word words o None = Err (Against HasCommand)
of_word words o (Some w) = of_command words o w (command_of w.now)

unfoldable pub request_of : Bor (List Word) → Options → Result Request Misuse
request_of words o = of_word words o (slice_get (operands_of words.now) 0)

abbrev pub as_said : Bor (List Word) → Result Said Misuse → Result Request Misuse
as_said words (Ok (said.Given o)) = request_of words o
as_said words (Ok said.Help) = Ok request.Help
as_said words (Ok said.Version) = Ok request.Version
as_said words (Err why) = Err why

-- the options first, then the command, then what does not suit it
unfoldable pub read_of : Bor (List Word) → Result Request Misuse
read_of words = as_said words (options_of words.now)
