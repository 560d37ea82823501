-- What a call tells in numbers: a status and two figures. A refusal's are its own (docs/FORMAT.md, "Refusals"); 0 is no refusal, and a walk ends in two ways more.
use Rattle.std.specs.Prelude.{ℕ, ◌≡◌, Bool, true, false, List, [], ◌∷◌, length, Option, Some, None, Result, Ok, Err}
use Rattle.refusal.specs.Refusal.{numbered, figures_of}
use Rattle.refusal.specs.declared.Figures.{Figures}
use Rattle.refusal.specs.declared.Mode.{Mode}
use Rattle.refusal.specs.declared.Mode.TheVariants.{Present, Checked}
use Rattle.refusal.specs.declared.Refusal.{Refusal}
use Rattle.entry.specs.declared.WalkEnd.{WalkEnd}
use Rattle.entry.specs.declared.WalkEnd.TheVariants.{Finished, OutOfSteps}
use Rattle.writing.specs.Writing as writing
use Rattle.salvage.specs.declared.Salvaged.{Salvaged}
use Rattle.salvage.specs.Both.{Writings}
use Rattle.salvage.specs.Both as both

-- the mode that a call is given
abbrev pub mode_of : Bool → Mode
mode_of true = Checked
mode_of false = Present

-- the promise of every call: its status, and the answer's two numbers at exit
pub record Tells (f : Figures) (status : ℕ) (answer : List ℕ) : Type 0 where
  pub is : status ≡ f.number
  pub numbers : answer ≡ f.expected ∷ f.got ∷ []

-- the call did what it is for, and says two numbers
abbrev pub done : ℕ → ℕ → Figures
done first second = numbered 0 first second

abbrev pub finished : Figures
finished = numbered 100 0 0

abbrev pub out_of_steps : Figures
out_of_steps = numbered 101 0 0

-- a number that was found, as how much was written, a place, a word; two of them
abbrev pub number_told : Result ℕ Refusal → Figures
number_told (Ok n) = done n 0
number_told (Err why) = figures_of why

abbrev pub numbers_told : Result (ℕ × ℕ) Refusal → Figures
numbers_told (Ok p) = done p.0 p.1
numbers_told (Err why) = figures_of why

-- a record, which is told in slots
abbrev pub record_told : {A : Type 0} → Result A Refusal → Figures
record_told (Ok r) = done 0 0
record_told (Err why) = figures_of why

-- a step, which gives nothing at the end
abbrev pub step_told : {A : Type 0} → Option (Result A Refusal) → Figures
step_told None = finished
step_told (Some found) = record_told found

-- how a bounded walk ended
abbrev pub end_told : Result WalkEnd Refusal → Figures
end_told (Ok Finished) = finished
end_told (Ok OutOfSteps) = out_of_steps
end_told (Err why) = figures_of why

-- the promise of a writer's call: besides, the lent buffer before and after
pub record WritesTold (w : Result (List ℕ) Refusal) (old new : List ℕ) (status : ℕ) (answer : List ℕ) : Type 0 where
  pub tells : Tells (number_told (writing.answer w (length old))) status answer
  pub left : new ≡ writing.leaves w old

-- how many bytes and how many slots were written
abbrev pub salvaged_told : Result Salvaged Refusal → Figures
salvaged_told (Ok wrote) = done wrote.bytes wrote.slots
salvaged_told (Err why) = figures_of why

-- the promise of a call that writes into two lent buffers: each before and after
pub record WritesBothTold (w : Writings) (out runs out' runs' : List ℕ) (status : ℕ) (answer : List ℕ) : Type 0 where
  pub tells : Tells (salvaged_told (both.answer w (length out) (length runs))) status answer
  pub left_bytes : out' ≡ (both.leaves w out runs).0
  pub left_slots : runs' ≡ (both.leaves w out runs).1
