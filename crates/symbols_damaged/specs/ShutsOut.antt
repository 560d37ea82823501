-- docs/FORMAT.md, "One bad entry". Wrong versions of finding, of halving and of a listing, which what stays shuts out.
use Rattle.std.specs.Prelude.{ℕ, ◌+◌, ◌≡◌, not, List, [], ◌∷◌, Result, is_ok, ok_or, if◌then◌else◌}
use Rattle.std.specs.List.{find as first_of, take_while}
use Rattle.std.specs.Borrow.{Bor}
use Rattle.refusal.specs.declared.Mode.{Mode}
use Rattle.refusal.specs.declared.Refusal.{Refusal}
use Rattle.refusal.specs.declared.Refusal.TheVariants.{NameNotFound}
use Rattle.entry.specs.Walk.{steps}
use Rattle.walk.specs.declared.Piece.{Piece}
use Rattle.walk.specs.Pieces.{pieces}
use Rattle.index.specs.Steps.{gives}
use Rattle.symbol.specs.declared.AdsSymbolInfo.{AdsSymbolInfo}
use Rattle.symbol.specs.Symbol.{symbol_of}
use Rattle.name_order.specs.Order.{named_before}
use Rattle.named.specs.Kinds.{symbol_places}
use Rattle.symbol_find.specs.Find.{is_named}
use Rattle.listing.specs.Listing.{lying}
use Rattle.symbols_damaged.specs.Finding.{FindingStays}
use Rattle.symbols_damaged.specs.Listed.{Row, row_of, ListingStays}

-- finding that ends at a refused entry: it looks at the steps before the first that gives no symbol
abbrev pub ends_at_refused : Mode → Bor (List ℕ) → List ℕ → Result ℕ Refusal
ends_at_refused mode s name = ok_or (first_of (is_named mode s name) (take_while (gives (symbol_of mode) s) (steps s.now))) NameNotFound

-- halving that answers the slot where it ends, the first with no name before the one that is asked for, without a look at the name there
abbrev pub answers_unseen : Mode → Bor (List ℕ) → List ℕ → List ℕ → Result ℕ Refusal → Type 0
answers_unseen mode s slots name r = r ≡ ok_or (first_of (λ at. not (named_before symbol_places s.now name at)) slots) NameNotFound

-- a listing whose line number is told by entry: it counts the entries that are accepted
abbrev pub counted : ℕ → List (Piece AdsSymbolInfo) → List Row
counted line [] = []
counted line (p ∷ ps) = row_of line p ∷ counted (if is_ok p.answer then line + 1 else line) ps

abbrev pub by_entry : Mode → ℕ → List ℕ → List Row
by_entry mode line s = counted line (pieces (symbol_of mode) (lying s))

pub record SymbolsShutOut : Type 0 where
  -- whatever is answered through an index, and where nothing is said of halving
  pub ends : (indexed : Mode → Bor (List ℕ) → List ℕ → List ℕ → Result ℕ Refusal) → FindingStays ends_at_refused indexed (λ mode s slots name r. ⊥) → ⊥
  -- whatever is answered without one and through one
  pub unseen :
      (walked : Mode → Bor (List ℕ) → List ℕ → Result ℕ Refusal) (indexed : Mode → Bor (List ℕ) → List ℕ → List ℕ → Result ℕ Refusal)
      → FindingStays walked indexed answers_unseen → ⊥
  pub numbers : ListingStays by_entry → ⊥
