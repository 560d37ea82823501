-- docs/FORMAT.md, "Writing": what an inner writer does is one thing.
use Rattle.std.specs.Prelude.{ℕ, ◌≡◌, List}
use Rattle.le.specs.Put.{Wrote}

abbrev pub OneWrite : Type 0
OneWrite = (old bs new new' : List ℕ) (at next next' : ℕ) → Wrote old at bs new next → Wrote old at bs new' next' → (next ≡ next') × (new ≡ new')
