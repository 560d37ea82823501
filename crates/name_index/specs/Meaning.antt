-- docs/FORMAT.md, "Name index". What a name index means, and what is found through it.
use Rattle.std.specs.Borrow.{Bor}
use Rattle.std.specs.Prelude.{ℕ, ◌<◌, ◌≤◌, ◌≡◌, true, false, List, Result, Ok, Err, length, take, drop, filter}
use Rattle.std.specs.List.{list_any}
use Rattle.std.specs.List.Sorted.{IsPermutation}
use Rattle.refusal.specs.Refusal.{limit}
use Rattle.refusal.specs.declared.Mode.{Mode}
use Rattle.refusal.specs.declared.Refusal.{Refusal}
use Rattle.refusal.specs.declared.Refusal.TheVariants.{TooLarge, OutputTooSmall, ZeroEntryLength}
use Rattle.entry.specs.Walk.{stands, steps}
use Rattle.writing.specs.Writing.{Writes}
use Rattle.symbol.specs.Symbol.{symbol_of}
use Rattle.index.specs.Index.{indexing}
use Rattle.index.specs.Steps.{gives}
use Rattle.index.specs.Meaning.{needed}
use Rattle.symbol_find.specs.Find as symbols
use Rattle.name_order.specs.declared.places.NamePlaces.{NamePlaces}
use Rattle.name_order.specs.Letters.{IsInNameOrder}
use Rattle.named.specs.Kinds.{symbol_places}
use Rattle.name_find.specs.Find.{find, find_indexed}
use Rattle.name_index.specs.Index.{name_indexing, InOrder, Halves}

module _ {R : Type 0} (w : NamePlaces) (read : Bor (List ℕ) → Result R Refusal) where
  -- the first n slots are the name index: the places of the steps that give a record, in the order of their names, and the only such list; behind them the slots are as they were
  pub record IsNameIndex (s : Bor (List ℕ)) (old new : List ℕ) (n : ℕ) : Type 0 where
    pub counts : n ≡ needed read s
    pub fits : n ≤ length new
    pub same : IsPermutation (filter (gives read s) (steps s.now)) (take n new)
    pub in_order : IsInNameOrder w s.now (take n new)
    pub only : (other : List ℕ) → IsPermutation (filter (gives read s) (steps s.now)) other → IsInNameOrder w s.now other → other ≡ take n new
    pub ordered : InOrder w read s (take n new)
    pub behind : drop n new ≡ drop n old

  -- the answer to each upload, in four cases of which exactly one holds: above the limit; a step of its walk stands; too few slots; none of these
  pub record Meant (s : Bor (List ℕ)) (old new : List ℕ) (r : Result ℕ Refusal) : Type 0 where
    pub too_large : limit < length s.now → r ≡ Err (TooLarge (length s.now))
    pub zero_claim : length s.now ≤ limit → list_any (stands s.now) (steps s.now) ≡ true → r ≡ Err ZeroEntryLength
    pub too_few : length s.now ≤ limit → list_any (stands s.now) (steps s.now) ≡ false → length old < needed read s → r ≡ Err (OutputTooSmall (needed read s) (length old))
    pub enough : length s.now ≤ limit → list_any (stands s.now) (steps s.now) ≡ false → needed read s ≤ length old → r ≡ Ok (needed read s)
    pub built : (n : ℕ) → r ≡ Ok n → IsNameIndex s old new n
    pub refused : (why : Refusal) → r ≡ Err why → new ≡ old

  abbrev pub NameIndexMeant : Type 0
  NameIndexMeant = (s : Bor (List ℕ)) (old new : List ℕ) (r : Result ℕ Refusal) → Writes (name_indexing w read s) old new r → Meant s old new r

  -- through a name index that was built a name is found by halving as through the index of the upload, and as without one
  abbrev pub SameHalved : (R → List ℕ) → Type 0
  SameHalved name_of =
      (s : Bor (List ℕ)) (old new : List ℕ) (n : ℕ) → Writes (name_indexing w read s) old new (Ok n)
      → (lent plain : List ℕ) (m : ℕ) → Writes (indexing read s) lent plain (Ok m)
      → (name : List ℕ) (r : Result ℕ Refusal) → Halves w read name_of s (take n new) name r → (r ≡ find_indexed name_of read s (take m plain) name) × (r ≡ find name_of read s name)

-- of symbols what is found is what finding of symbols finds: through any slots, and by halving through a name index as without one
pub record SymbolsFound : Type 0 where
  pub indexed : (mode : Mode) (s : Bor (List ℕ)) (slots name : List ℕ) → find_indexed symbols.own_name (symbol_of mode) s slots name ≡ symbols.find_indexed mode s slots name
  pub walked : (mode : Mode) (s : Bor (List ℕ)) (old new : List ℕ) (n : ℕ) → Writes (name_indexing symbol_places (symbol_of mode) s) old new (Ok n) → (name : List ℕ) (r : Result ℕ Refusal) → Halves symbol_places (symbol_of mode) symbols.own_name s (take n new) name r → r ≡ symbols.find mode s name
