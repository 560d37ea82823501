-- docs/FORMAT.md, "The command's text": what the words of a line mean, by their bytes.
use Rattle.std.specs.Prelude.{ℕ, ◌≡◌, ◌≢◌, ◌+◌, ◌&&◌, nat_le, not, Bool, true, false, List, [], ◌∷◌, ◌++◌, Some, None, Ok, Err, is_ok, replicate, codes, map}
use Rattle.std.specs.List.{list_all, list_any}
use Rattle.std.specs.Str.{bytes_eq}
use Rattle.upload.specs.declared.Form.TheVariants.{Binary, Hexadecimal}
use Rattle.refusal.specs.declared.Mode.TheVariants.{Present, Checked}
use Rattle.arguments.specs.declared.options.Flag.{Flag}
use Rattle.arguments.specs.declared.options.Options.{Options}
use Rattle.arguments.specs.declared.options.Said.TheVariants.{Help, Version, Given}
use Rattle.arguments.specs.declared.misuse.Misuse.TheVariants.{UnknownOption, UnknownLetters, Valued, Against, Unfit}
use Rattle.arguments.specs.declared.misuse.Rule.TheVariants.{OneForm}
use Rattle.arguments.specs.declared.misuse.Expected.TheVariants.{Command}
use Rattle.arguments.specs.Words.{Word, operands_of}
use Rattle.arguments.specs.Options.{word_of, flag_of, options_from, options_of}
use Rattle.arguments.specs.Request.{read_of}

-- standard input, no text, or what does not begin with a dash
pub data IsOperand : List ℕ → Type 0 where
  dash : IsOperand (45 ∷ [])
  empty : IsOperand []
  other : {b : ℕ} {more : List ℕ} → b ≢ 45 → IsOperand (b ∷ more)

-- a line, the options in it and the operands, both in their order: an option may stand anywhere before `--`, and all behind that are operands
pub data IsSorted : List Word → List Word → List Word → Type 0 where
  nothing : IsSorted [] [] []
  operand : {w : Word} {line options operands : List Word} → IsOperand w.now → IsSorted line options operands → IsSorted (w ∷ line) options (w ∷ operands)
  option : {w : Word} {line options operands : List Word} {b : ℕ} {more : List ℕ} → w.now ≡ 45 ∷ b ∷ more → w.now ≢ codes "--"
      → IsSorted line options operands → IsSorted (w ∷ line) (w ∷ options) operands
  ended : {w : Word} {rest : List Word} → w.now ≡ codes "--" → IsSorted (w ∷ rest) [] rest

-- each line is sorted in one way, and asks for what its options say and its operands name
pub record WordsSorted : Type 0 where
  pub each : (line : List Word) → (options : List Word) × IsSorted line options (operands_of line)
  pub one : (line options operands : List Word) → IsSorted line options operands → (operands_of line ≡ operands) × (options_of line ≡ options_of options)

-- the options that go with a command
abbrev pub flags : List (List ℕ)
flags = codes "--binary" ∷ codes "--hex" ∷ codes "--checked" ∷ codes "--json" ∷ codes "--sorted" ∷ []

pub data IsFlag : List ℕ → Type 0 where
  binary : IsFlag (codes "--binary")
  hex : IsFlag (codes "--hex")
  checked : IsFlag (codes "--checked")
  json : IsFlag (codes "--json")
  sorted : IsFlag (codes "--sorted")

-- a word that lies somewhere
abbrev pub lying : List ℕ → Word
lying text = record { ref_ptr = (0, 0); now = text }

abbrev pub none : Options
none = record { form = None; mode = Present; json = false; sorted = false }

-- which of two stands first is all one; what each says; and what is none
pub record OptionsMeant : Type 0 where
  -- the word that is told for an option is read as that option
  pub told : (f : Flag) → flag_of (word_of f) ≡ Some f
  pub any_order : (o : Options) (v w : Word) (line : List Word) → IsFlag v.now → IsFlag w.now → options_from o (v ∷ w ∷ line) ≡ options_from o (w ∷ v ∷ line)
  pub no_word : options_of [] ≡ Ok (Given none)
  pub binary : options_of (lying (codes "--binary") ∷ []) ≡ Ok (Given (record none { form = Some Binary }))
  pub hex : options_of (lying (codes "--hex") ∷ []) ≡ Ok (Given (record none { form = Some Hexadecimal }))
  pub checked : options_of (lying (codes "--checked") ∷ []) ≡ Ok (Given (record none { mode = Checked }))
  pub json : options_of (lying (codes "--json") ∷ []) ≡ Ok (Given (record none { json = true }))
  pub sorted : options_of (lying (codes "--sorted") ∷ []) ≡ Ok (Given (record none { sorted = true }))
  pub both : options_of (lying (codes "--hex") ∷ lying (codes "--binary") ∷ []) ≡ Err (Against OneForm)
  pub twice : options_of (lying (codes "--hex") ∷ lying (codes "--hex") ∷ []) ≡ Ok (Given (record none { form = Some Hexadecimal }))
  pub help : options_of (lying (codes "--help") ∷ lying (codes "--what") ∷ []) ≡ Ok Help
  pub short_help : options_of (lying (codes "-h") ∷ []) ≡ Ok Help
  pub version : options_of (lying (codes "--version") ∷ lying (codes "--what") ∷ []) ≡ Ok Version
  pub short_version : options_of (lying (codes "-V") ∷ []) ≡ Ok Version
  pub unknown : options_of (lying (codes "--hexa") ∷ lying (codes "--help") ∷ []) ≡ Err (UnknownOption (lying (codes "--hexa")))
  pub letter : options_of (lying (codes "-x") ∷ []) ≡ Err (UnknownLetters (lying (codes "-x")))
  pub letters : options_of (lying (codes "-hex") ∷ []) ≡ Err (UnknownLetters (lying (codes "-hex")))
  pub more_letters : options_of (lying (codes "-Vx") ∷ []) ≡ Err (UnknownLetters (lying (codes "-Vx")))
  pub valued : options_of (lying (codes "--hex=yes") ∷ []) ≡ Err (Valued (lying (codes "--hex=yes")))
  pub valued_help : options_of (lying (codes "--help=no") ∷ []) ≡ Err (Valued (lying (codes "--help=no")))
  pub valued_version : options_of (lying (codes "--version=1") ∷ []) ≡ Err (Valued (lying (codes "--version=1")))

-- a command: its word and what must stand behind that, the operands that it wants then, those that it can do without, and the options that are for it
pub record Row : Type 0 where
  pub words : List (List ℕ)
  pub wants : ℕ
  pub spares : ℕ
  pub accepts : List (List ℕ)

abbrev row : List (List ℕ) → ℕ → ℕ → List (List ℕ) → Row
row words wants spares accepts = record { words = words; wants = wants; spares = spares; accepts = accepts }

abbrev of_a_file : List (List ℕ)
of_a_file = codes "--binary" ∷ codes "--hex" ∷ codes "--checked" ∷ []

abbrev of_a_form : List (List ℕ)
of_a_form = codes "--binary" ∷ codes "--hex" ∷ []

-- `bind` takes any number of paths, and here five
abbrev pub commands : List Row
commands =
    row (codes "find" ∷ []) 2 1 of_a_file
    ∷ row (codes "show" ∷ []) 2 0 of_a_file
    ∷ row (codes "why" ∷ []) 2 0 of_a_file
    ∷ row (codes "list" ∷ []) 1 0 flags
    ∷ row (codes "branch" ∷ []) 2 0 (codes "--json" ∷ of_a_file)
    ∷ row (codes "type" ∷ []) 1 1 (codes "--json" ∷ of_a_file)
    ∷ row (codes "check" ∷ []) 1 0 of_a_file
    ∷ row (codes "plain" ∷ []) 1 0 of_a_form
    ∷ row (codes "compare" ∷ []) 2 0 (codes "--json" ∷ of_a_file)
    ∷ row (codes "salvage" ∷ []) 2 0 of_a_file
    ∷ row (codes "bind" ∷ []) 3 4 (codes "--json" ∷ of_a_file)
    ∷ row (codes "captures" ∷ codes "split" ∷ []) 1 0 of_a_form
    ∷ row (codes "captures" ∷ codes "each" ∷ []) 1 0 []
    ∷ row (codes "captures" ∷ codes "join" ∷ []) 1 0 []
    ∷ row (codes "sheet" ∷ codes "export" ∷ []) 1 0 of_a_form
    ∷ row (codes "sheet" ∷ codes "import" ∷ []) 2 0 []
    ∷ row (codes "room" ∷ []) 1 0 []
    ∷ []

-- both hold, or neither does
abbrev agree : Bool → Bool → Bool
agree true b = b
agree false b = not b

-- whether a line asks for something
abbrev asks : List Word → Bool
asks line = is_ok (read_of (record { ref_ptr = (0, 0); now = line }))

-- a command with so many operands, each the text 7
abbrev with_operands : Row → ℕ → List Word
with_operands r n = map lying (r.words ++ replicate n (codes "7"))

-- of 0 to 7 operands it has those that the row tells, and no others
abbrev pub counts : Row → Bool
counts r = list_all (λ n. agree (asks (with_operands r n)) (nat_le r.wants n && nat_le n (r.wants + r.spares))) (0 ∷ 1 ∷ 2 ∷ 3 ∷ 4 ∷ 5 ∷ 6 ∷ 7 ∷ [])

-- so of the options, before all and behind all
abbrev pub suits : Row → Bool
suits r =
    let given : List Word = with_operands r r.wants in
    list_all (λ flag. let accepted = list_any (bytes_eq flag) r.accepts in agree (asks (lying flag ∷ given)) accepted && agree (asks (given ++ (lying flag ∷ []))) accepted) flags

abbrev pub names : List (List ℕ)
names =
    codes "find" ∷ codes "show" ∷ codes "why" ∷ codes "list" ∷ codes "branch" ∷ codes "type" ∷ codes "check" ∷ codes "plain" ∷ codes "compare"
    ∷ codes "salvage" ∷ codes "bind" ∷ codes "captures" ∷ codes "sheet" ∷ codes "room" ∷ []

-- each command has its operands and its options, and no other; a word that is none of them is told
pub record CommandsMeant : Type 0 where
  pub operands : list_all counts commands ≡ true
  pub options : list_all suits commands ≡ true
  pub unknown : (p : ℕ × ℕ) (w : Word) (line : List Word) (o : Options) → IsOperand w.now → list_any (bytes_eq w.now) names ≡ false → options_of line ≡ Ok (Given o)
      → read_of (record { ref_ptr = p; now = w ∷ line }) ≡ Err (Unfit Command w)
