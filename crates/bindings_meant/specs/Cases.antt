-- docs/FORMAT.md, "Binding": names of symbols and members are found in any case, and so a path leads to the same in any case.
use Rattle.std.specs.Prelude.{ℕ, ◌≡◌, List}
use Rattle.std.specs.Borrow.{Bor}
use Rattle.refusal.specs.declared.Mode.{Mode}
use Rattle.names.specs.Meaning.{SameLetters}
use Rattle.bind.specs.declared.Upload.{Upload}
use Rattle.bind.specs.Found.{symbol_found, type_found}
use Rattle.bind.specs.Binding.{Finder, binding}

-- a name is found as in any other case
abbrev pub FindsAnyCase : Finder → Type 0
FindsAnyCase find = (name typed : List ℕ) → SameLetters name typed → find name ≡ find typed

-- two paths that are the same letter by letter, wherever they lie, give the same address or the same refusal: where symbols are found in any case, and so of every upload
pub record AnyCase : Type 0 where
  pub finders : (find_symbol find_type : Finder) (symbols types path typed : Bor (List ℕ)) → FindsAnyCase find_symbol → SameLetters path.now typed.now
      → binding find_symbol find_type symbols types path ≡ binding find_symbol find_type symbols types typed
  pub found : (mode : Mode) (symbols types : Upload) (path typed : Bor (List ℕ)) → SameLetters path.now typed.now
      → binding (symbol_found mode symbols) (type_found mode types) symbols.bytes types.bytes path ≡ binding (symbol_found mode symbols) (type_found mode types) symbols.bytes types.bytes typed
