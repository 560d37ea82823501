-- docs/FORMAT.md, "Writing": what a writer's promise allows is one answer, and one buffer afterwards.
use Rattle.std.specs.Prelude.{ℕ, ◌≡◌, List, Result}
use Rattle.refusal.specs.declared.Refusal.{Refusal}
use Rattle.writing.specs.Writing.{Writes}

abbrev pub OneWriting : Type 0
OneWriting = (w : Result (List ℕ) Refusal) (old new new' : List ℕ) (r r' : Result ℕ Refusal) → Writes w old new r → Writes w old new' r' → (r ≡ r') × (new ≡ new')
