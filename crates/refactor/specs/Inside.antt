-- docs/FORMAT.md, "Refactor records": where the records that are listed lie, what a chain has, and what an answer to a number means.
use Rattle.std.specs.Prelude.{ℕ, ◌+◌, ◌<◌, ◌≤◌, ◌≡◌, List, [], ◌∷◌, ◌++◌, Ok, ltb, length}
use Rattle.std.specs.Borrow.{Bor}
use Rattle.part.specs.End.{IsEnd, IsString, rest_at}
use Rattle.refusal.specs.ByNumber.{IsNumbered}
use Rattle.refactor.specs.declared.AdsRefactorInfo.{AdsRefactorInfo}
use Rattle.refactor.specs.Refactor.{listed, chain_of, numbered}

-- records one after another from a place of an entry on up to another: the packed count, the name's length, the name with its end byte
abbrev pub RefactorsLie : Bor (List ℕ) → ℕ → List AdsRefactorInfo → ℕ → Type 0
RefactorsLie e at [] to = at ≡ to
RefactorsLie e at (r ∷ more) to = IsString e (at + 6) r.name × RefactorsLie e (at + 6 + length r.name.now + 1) more to

-- those that are listed of an entry's last bytes lie so from where these begin on
pub record AreInside (e s : Bor (List ℕ)) (count : ℕ) : Type 0 where
  pub end : ℕ
  pub lie : RefactorsLie e (rest_at e s) (listed s count) end
  pub whole : end ≤ length e.now

abbrev pub RefactorsInside : Type 0
RefactorsInside = (e s : Bor (List ℕ)) (count : ℕ) → IsEnd e s → AreInside e s count

-- a chain has as many records as it counts, one at least; each tells a follower exactly where others stand behind it; the bytes after it are the entry's last, from
-- where its records end on
pub record IsChain (e s : Bor (List ℕ)) (count : ℕ) (rest : Bor (List ℕ)) : Type 0 where
  pub some : 0 < count
  pub long : length (listed s count) ≡ count
  pub followed : (before behind : List AdsRefactorInfo) (r : AdsRefactorInfo) → listed s count ≡ before ++ (r ∷ behind) → r.next_refactor_info ≡ ltb 0 (length behind)
  pub lie : RefactorsLie e (rest_at e s) (listed s count) (rest_at e rest)
  pub after_it : IsEnd e rest

abbrev pub ChainsCounted : Type 0
ChainsCounted = (e s : Bor (List ℕ)) (count : ℕ) (rest : Bor (List ℕ)) → IsEnd e s → chain_of s ≡ Ok (count, rest) → IsChain e s count rest

-- by number
abbrev pub RefactorsShown : Type 0
RefactorsShown = (all : List AdsRefactorInfo) (number : ℕ) → IsNumbered all number (numbered all (length all) number)
