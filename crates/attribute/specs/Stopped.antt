-- docs/FORMAT.md, "Symbol entries": why a list of attributes ends.
use Rattle.std.specs.Prelude.{ℕ, ◌<◌, ◌≡◌, ◌⊎◌, List, None, Some, Err, length}
use Rattle.std.specs.Borrow.{Bor}
use Rattle.refusal.specs.declared.Refusal.{Refusal}
use Rattle.attribute.specs.Attribute.{first_of, listed, after_listed, stopped}

-- the list has its count; or the bytes end behind an attribute before that: as many are owed as are not listed; or the next is refused: where the list has none, or bytes
-- are left behind it
pub data WhyItEnds (s : Bor (List ℕ)) (count : ℕ) : Type 0 where
  all : length (listed s count) ≡ count → stopped s count ≡ None → WhyItEnds s count
  at_end : 0 < length (listed s count) → length (listed s count) < count → length (after_listed s count).now ≡ 0 → stopped s count ≡ None → WhyItEnds s count
  refused : (why : Refusal) → length (listed s count) < count → (length (listed s count) ≡ 0) ⊎ (0 < length (after_listed s count).now) → first_of (after_listed s count) ≡ Err why
      → stopped s count ≡ Some why → WhyItEnds s count

abbrev pub AttributesStopped : Type 0
AttributesStopped = (s : Bor (List ℕ)) (count : ℕ) → WhyItEnds s count
