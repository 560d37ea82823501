-- docs/FORMAT.md, "Refusals", and bindings/c/vindaskot.h, "How a call answers": what one promise of a call allows is one, status, answer and buffers.
use Rattle.std.specs.Prelude.{ℕ, ◌≡◌, List, Result}
use Rattle.refusal.specs.declared.Figures.{Figures}
use Rattle.refusal.specs.declared.Refusal.{Refusal}
use Rattle.salvage.specs.Both.{Writings}
use Rattle.told.specs.Told.{Tells, WritesTold, WritesBothTold}

abbrev pub OneTelling : Type 0
OneTelling =
    (f : Figures) (status status' : ℕ) (answer answer' : List ℕ) → Tells f status answer → Tells f status' answer' → (status ≡ status') × (answer ≡ answer')

abbrev pub OneWriting : Type 0
OneWriting =
    (w : Result (List ℕ) Refusal) (old new new' : List ℕ) (status status' : ℕ) (answer answer' : List ℕ)
    → WritesTold w old new status answer → WritesTold w old new' status' answer' → (status ≡ status') × ((answer ≡ answer') × (new ≡ new'))

abbrev pub OneWritingBoth : Type 0
OneWritingBoth =
    (w : Writings) (out runs out' runs' out'' runs'' : List ℕ) (status status' : ℕ) (answer answer' : List ℕ)
    → WritesBothTold w out runs out' runs' status answer → WritesBothTold w out runs out'' runs'' status' answer'
    → (status ≡ status') × ((answer ≡ answer') × ((out' ≡ out'') × (runs' ≡ runs'')))
