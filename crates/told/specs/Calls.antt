-- docs/FORMAT.md, "Modes" and "Refusals", and bindings/c/vindaskot.h, "How a call answers": the mode that a call is given, and its two numbers where it did what it is for.
use Rattle.std.specs.Prelude.{ℕ, ◌≡◌, true, false, Ok, Err}
use Rattle.refusal.specs.Refusal.{numbered, figures_of}
use Rattle.refusal.specs.declared.Mode.TheVariants.{Present, Checked}
use Rattle.refusal.specs.declared.Refusal.{Refusal}
use Rattle.salvage.specs.declared.Salvaged.{Salvaged}
use Rattle.told.specs.Told.{mode_of, number_told, salvaged_told}

-- a number is the first of the two, and 0 the second; of a salvage the bytes are told before the slots; a refusal is told as it is
pub record CallsTold : Type 0 where
  pub checked : mode_of true ≡ Checked
  pub present : mode_of false ≡ Present
  pub number : (n : ℕ) → number_told (Ok n) ≡ numbered 0 n 0
  pub number_refused : (why : Refusal) → number_told (Err why) ≡ figures_of why
  pub salvaged : (wrote : Salvaged) → salvaged_told (Ok wrote) ≡ numbered 0 wrote.bytes wrote.slots
  pub salvage_refused : (why : Refusal) → salvaged_told (Err why) ≡ figures_of why
