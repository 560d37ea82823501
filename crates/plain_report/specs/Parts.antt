-- docs/FORMAT.md, "Symbol entries" and "Plain form": what stands where an entry can depart, by its bytes.
use Rattle.std.specs.Prelude.{ℕ, ◌+◌, ◌<◌, ◌≤◌, ◌≡◌, true, List, if◌then◌else◌}
use Rattle.std.specs.Borrow.{Bor}
use Rattle.le.specs.Le.{le2, has}
use Rattle.symbol.specs.Inside.{is_there}
use Rattle.plain_report.specs.declared.Part.{Part}
use Rattle.plain_report.specs.declared.Part.TheVariants.{Length, NameEnd, TypeEnd, CommentEnd, Count}

module _ (e : Bor (List ℕ)) where
  -- where the sections begin, and behind a GUID the count of the attributes
  abbrev pub sections : ℕ
  sections = 33 + le2 e.now 24 + le2 e.now 26 + le2 e.now 28

  abbrev pub count : ℕ
  count = sections + (if is_there e 0x0008 sections 16 then 16 else 0)

  -- a part stands at a place
  pub data StandsAt (at : ℕ) : Part → Type 0 where
    length : at < 4 → StandsAt at Length
    name_end : at ≡ 30 + le2 e.now 24 → StandsAt at NameEnd
    type_end : at ≡ 31 + le2 e.now 24 + le2 e.now 26 → StandsAt at TypeEnd
    comment_end : at ≡ 32 + le2 e.now 24 + le2 e.now 26 + le2 e.now 28 → StandsAt at CommentEnd
    count_bytes : has (le2 e.now 20) 0x1000 ≡ true → count ≤ at → at < count + 2 → StandsAt at Count
