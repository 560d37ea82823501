-- docs/FORMAT.md, "Refusals": what the text of a number and two figures is.
use Rattle.std.specs.Prelude.{ℕ, ◌≡◌, ◌<◌, ◌≤◌, ◌^◌, List, length, Ok, Err}
use Rattle.refusal.specs.declared.Refusal.{Refusal}
use Rattle.refusal.specs.declared.Refusal.TheVariants.{NoSuchNumber, EndByte}
use Rattle.refusal.specs.Refusal.{figures_of}
use Rattle.refusal.specs.Text.{text_of}
use Rattle.refusal_text.specs.Told.{writing_text}

-- a refusal's own number and figures give its text; 0 and what is above 24 no refusal has; figures of 64 bits give at most 128 bytes
pub record TextsMeant : Type 0 where
  pub own : (why : Refusal) → ((place byte : ℕ) → why ≡ EndByte place byte → byte < 256)
      → writing_text (figures_of why).number (figures_of why).expected (figures_of why).got ≡ Ok (text_of why)
  pub none : (e g : ℕ) → writing_text 0 e g ≡ Err (NoSuchNumber 24 0)
  pub past : (number e g : ℕ) → 24 < number → writing_text number e g ≡ Err (NoSuchNumber 24 number)
  pub short : (number e g : ℕ) → e < 2 ^ 64 → g < 2 ^ 64 → (text : List ℕ) → writing_text number e g ≡ Ok text → length text ≤ 128
