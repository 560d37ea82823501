-- docs/FORMAT.md, "Binding": which symbol a path begins with.
use Rattle.std.specs.Prelude.{ℕ, ◌+◌, ◌<◌, ◌≤◌, ◌≡◌, List, Ok, length, take, drop}
use Rattle.path.specs.Texts.{Ends}
use Rattle.bind.specs.Binding.{Finder, longest}

-- a finder answers a name with a place
abbrev pub Answers : Finder → List ℕ → ℕ → Type 0
Answers find name at = find name ≡ Ok at

-- so many bytes of a path, up to its end, a dot or an opening bracket, are the name of the symbol at a place; and no more of them, up to such a place, are any symbol's
pub record NamesSymbol (Named : List ℕ → ℕ → Type 0) (path : List ℕ) (symbol : ℕ × ℕ) : Type 0 where
  pub within : symbol.0 ≤ length path
  pub is_found : Named (take symbol.0 path) symbol.1
  pub is_whole : Ends (drop symbol.0 path)
  pub none_longer : (n : ℕ) → symbol.0 < n → n ≤ length path → Ends (drop n path) → (at : ℕ) → ¬ Named (take n path) at

-- what a path is taken to begin with is that, and nothing else is
abbrev pub LongestMeant : Type 0
LongestMeant =
    (find : Finder) (path : List ℕ) (symbol : ℕ × ℕ)
    → (longest find path (length path + 1) ≡ Ok symbol → NamesSymbol (Answers find) path symbol) × (NamesSymbol (Answers find) path symbol → longest find path (length path + 1) ≡ Ok symbol)
