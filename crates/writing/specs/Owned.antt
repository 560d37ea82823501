-- docs/FORMAT.md, "Writing": why an entry is not written into memory of its own.
use Rattle.std.specs.Prelude.{ℕ, ◌≡◌, List, Result, Ok, Err, codes}
use Rattle.refusal.specs.declared.Refusal.{Refusal}
use Rattle.refusal.specs.Text.{text_of}
use Rattle.writing.specs.declared.error.WriteError.{WriteError}
use Rattle.writing.specs.declared.error.WriteError.TheVariants.{Refused, OutOfMemory}

abbrev pub error_text : WriteError → List ℕ
error_text (Refused why) = text_of why
error_text OutOfMemory = codes "out of memory"

-- of what is to be written: it is refused by what the error tells, or there is no refusal, and memory ran out
abbrev pub NotWritten : Result (List ℕ) Refusal → WriteError → Type 0
NotWritten w (Refused why) = w ≡ Err why
NotWritten w OutOfMemory = (bytes : List ℕ) × (w ≡ Ok bytes)
