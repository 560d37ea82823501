-- docs/FORMAT.md, "The command's text": what each command asks for, with every operand another text.
use Rattle.std.specs.Prelude.{ℕ, ◌≡◌, true, false, List, [], ◌∷◌, ◌++◌, Some, None, Result, Ok, Err, codes, map}
use Rattle.std.specs.Borrow.{Bor}
use Rattle.upload.specs.declared.Form.TheVariants.{Binary, Hexadecimal}
use Rattle.refusal.specs.declared.Mode.TheVariants.{Present, Checked}
use Rattle.arguments.specs.declared.misuse.Misuse.{Misuse}
use Rattle.arguments.specs.declared.misuse.Misuse.TheVariants.{Against, Unfit, Lacks, Extra, NotFor}
use Rattle.arguments.specs.declared.misuse.Rule.TheVariants.{HasCommand, CompareOnce, BindOnce}
use Rattle.arguments.specs.declared.misuse.Need.TheVariants.{Symbol}
use Rattle.arguments.specs.declared.misuse.Expected.TheVariants.{Digits, Length}
use Rattle.arguments.specs.declared.options.Flag.TheVariants as flag
use Rattle.arguments.specs.declared.request.Captures.TheVariants.{Split, Each, Join}
use Rattle.arguments.specs.declared.request.Asked.{Asked}
use Rattle.arguments.specs.declared.request.Asked.TheVariants as asked
use Rattle.arguments.specs.declared.request.Request.{Request}
use Rattle.arguments.specs.declared.request.Request.TheVariants as request
use Rattle.arguments.specs.Words.{Word}
use Rattle.arguments.specs.Request.{read_of}
use Rattle.arguments.specs.Meant.{lying}

abbrev pub line : List (List ℕ) → Bor (List Word)
line texts = record { ref_ptr = (0, 0); now = map lying texts }

abbrev pub read : List (List ℕ) → Result Request Misuse
read texts = read_of (line texts)

abbrev pub of_file : Asked → Result Request Misuse
of_file a = Ok (request.Run (record { file = lying (codes "a"); form = None; mode = Present; asked = a }))

abbrev pub b : Word
b = lying (codes "b")

-- with a form and a mode
abbrev pub given : List (List ℕ)
given = codes "--hex" ∷ codes "--checked" ∷ []

abbrev pub with_given : Asked → Result Request Misuse
with_given a = Ok (request.Run (record { file = lying (codes "a"); form = Some Hexadecimal; mode = Checked; asked = a }))

abbrev pub bound : List (List ℕ)
bound = codes "bind" ∷ codes "a" ∷ codes "b" ∷ codes "c" ∷ codes "d" ∷ []

pub record RequestsMeant : Type 0 where
  pub find : read (codes "find" ∷ codes "a" ∷ codes "b" ∷ []) ≡ of_file (asked.Find b None)
  pub attribute : read (codes "find" ∷ codes "a" ∷ codes "b" ∷ codes "c" ∷ []) ≡ of_file (asked.Find b (Some (lying (codes "c"))))
  pub show : read (codes "show" ∷ codes "a" ∷ codes "b" ∷ []) ≡ of_file (asked.Show b)
  pub why : read (codes "why" ∷ codes "a" ∷ codes "b" ∷ []) ≡ of_file (asked.Why b)
  pub list : read (codes "list" ∷ codes "a" ∷ []) ≡ of_file (asked.List false false)
  pub in_json : read (codes "list" ∷ codes "--json" ∷ codes "a" ∷ []) ≡ of_file (asked.List false true)
  pub branch : read (codes "branch" ∷ codes "a" ∷ codes "b" ∷ []) ≡ of_file (asked.Branch b false)
  pub types : read (codes "type" ∷ codes "a" ∷ []) ≡ of_file (asked.Types None false)
  pub one_type : read (codes "type" ∷ codes "a" ∷ codes "b" ∷ codes "--json" ∷ []) ≡ of_file (asked.Types (Some b) true)
  pub check : read (codes "check" ∷ codes "a" ∷ []) ≡ of_file asked.Check
  pub plain : read (codes "plain" ∷ codes "a" ∷ []) ≡ of_file asked.Plain
  pub compare : read (codes "compare" ∷ codes "a" ∷ codes "b" ∷ []) ≡ of_file (asked.Compare b false)
  pub salvage : read (codes "salvage" ∷ codes "a" ∷ codes "b" ∷ []) ≡ of_file (asked.Salvage b)
  pub bind : read bound ≡ of_file (asked.Bind b (record { line = line bound; first = 3 }) false)
  pub split : read (codes "captures" ∷ codes "split" ∷ codes "a" ∷ codes "--hex" ∷ []) ≡ Ok (request.Captures (lying (codes "a")) (Some Hexadecimal) Split)
  pub each : read (codes "captures" ∷ codes "each" ∷ codes "a" ∷ []) ≡ Ok (request.Captures (lying (codes "a")) None Each)
  pub join : read (codes "captures" ∷ codes "join" ∷ codes "a" ∷ []) ≡ Ok (request.Captures (lying (codes "a")) None Join)
  pub sheet : read (codes "sheet" ∷ codes "export" ∷ codes "a" ∷ codes "--binary" ∷ []) ≡ Ok (request.SheetExport (lying (codes "a")) (Some Binary))
  pub upload : read (codes "sheet" ∷ codes "import" ∷ codes "a" ∷ codes "b" ∷ []) ≡ Ok (request.SheetImport (lying (codes "a")) b)
  pub room : read (codes "room" ∷ codes "0120" ∷ []) ≡ Ok (request.Room 120)
  pub longest : read (codes "room" ∷ codes "18446744073709551615" ∷ []) ≡ Ok (request.Room 18446744073709551615)
  pub options : read (codes "--hex" ∷ codes "list" ∷ codes "--sorted" ∷ codes "a" ∷ codes "--checked" ∷ [])
      ≡ Ok (request.Run (record { file = lying (codes "a"); form = Some Hexadecimal; mode = Checked; asked = asked.List true false }))
  pub help : read (codes "find" ∷ codes "-h" ∷ []) ≡ Ok request.Help
  pub version : read (codes "--version" ∷ []) ≡ Ok request.Version
  pub dashes : read (codes "show" ∷ codes "a" ∷ codes "--" ∷ codes "--help" ∷ []) ≡ of_file (asked.Show (lying (codes "--help")))
  pub find_given : read (codes "find" ∷ codes "a" ∷ codes "b" ∷ given) ≡ with_given (asked.Find b None)
  pub show_given : read (codes "show" ∷ codes "a" ∷ codes "b" ∷ given) ≡ with_given (asked.Show b)
  pub why_given : read (codes "why" ∷ codes "a" ∷ codes "b" ∷ given) ≡ with_given (asked.Why b)
  pub branch_given : read (codes "branch" ∷ codes "a" ∷ codes "b" ∷ codes "--json" ∷ given) ≡ with_given (asked.Branch b true)
  pub types_given : read (codes "type" ∷ codes "a" ∷ given) ≡ with_given (asked.Types None false)
  pub check_given : read (codes "check" ∷ codes "a" ∷ given) ≡ with_given asked.Check
  pub compare_given : read (codes "compare" ∷ codes "a" ∷ codes "b" ∷ codes "--json" ∷ given) ≡ with_given (asked.Compare b true)
  pub salvage_given : read (codes "salvage" ∷ codes "a" ∷ codes "b" ∷ given) ≡ with_given (asked.Salvage b)
  pub bind_given : read (bound ++ (codes "--json" ∷ given)) ≡ with_given (asked.Bind b (record { line = line (bound ++ (codes "--json" ∷ given)); first = 3 }) true)
  pub plain_given : read (codes "plain" ∷ codes "a" ∷ codes "--binary" ∷ []) ≡ Ok (request.Run (record { file = lying (codes "a"); form = Some Binary; mode = Present; asked = asked.Plain }))
  pub zeros : read (codes "room" ∷ codes "007" ∷ []) ≡ Ok (request.Room 7)
  -- what is wrong
  pub no_command : read (codes "--json" ∷ []) ≡ Err (Against HasCommand)
  pub lacks : read (codes "find" ∷ codes "a" ∷ []) ≡ Err (Lacks (lying (codes "find")) Symbol)
  pub extra : read (codes "check" ∷ codes "a" ∷ codes "b" ∷ []) ≡ Err (Extra (lying (codes "check")) b)
  pub not_for : read (codes "check" ∷ codes "a" ∷ codes "--json" ∷ []) ≡ Err (NotFor flag.Json (lying (codes "check")))
  pub once : read (codes "compare" ∷ codes "-" ∷ codes "-" ∷ []) ≡ Err (Against CompareOnce)
  pub bound_once : read (codes "bind" ∷ codes "-" ∷ codes "-" ∷ codes "c" ∷ []) ≡ Err (Against BindOnce)
  pub signed : read (codes "room" ∷ codes "+1" ∷ []) ≡ Err (Unfit Digits (lying (codes "+1")))
  pub longer : read (codes "room" ∷ codes "18446744073709551616" ∷ []) ≡ Err (Unfit Length (lying (codes "18446744073709551616")))
