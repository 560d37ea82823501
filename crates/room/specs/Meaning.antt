-- docs/FORMAT.md, "Room". What room for an index means, in both modes.
use Rattle.std.specs.Prelude.{ℕ, ◌+◌, ◌/◌, ◌<◌, ◌≤◌, ◌≡◌, true, false, List, Some, Result, Ok, Err, ltb, leb, length, filter, if◌then◌else◌}
use Rattle.std.specs.List.{list_any}
use Rattle.std.specs.Borrow.{Bor}
use Rattle.refusal.specs.Refusal.{limit}
use Rattle.refusal.specs.declared.Mode.{Mode}
use Rattle.refusal.specs.declared.Refusal.{Refusal}
use Rattle.refusal.specs.declared.Refusal.TheVariants.{TooLarge, OutputTooSmall, ZeroEntryLength}
use Rattle.entry.specs.declared.WalkEnd.TheVariants.{Finished}
use Rattle.entry.specs.Walk.{stands, steps, walk}
use Rattle.entry.specs.Bounded.{bounded_walk}
use Rattle.writing.specs.Writing.{Writes}
use Rattle.walk.specs.declared.Stepped.{Stepped}
use Rattle.walk.specs.Step.{step_at}
use Rattle.walk.specs.Pieces.{pieces}
use Rattle.walk.specs.Theorems.{cursor_of}
use Rattle.symbol.specs.declared.AdsSymbolInfo.{AdsSymbolInfo}
use Rattle.symbol.specs.Symbol.{symbol_of}
use Rattle.index.specs.Index.{starts, indexing}
use Rattle.index.specs.Steps.{is_record}
use Rattle.room.specs.Room.{least, room_for}

-- how many of the answers of some steps are records
unfoldable pub records : List (Stepped AdsSymbolInfo) → ℕ
records made = length (filter (λ t. is_record t.answer) made)

-- the records of a walk over symbols from the first byte that may make so many steps
abbrev pub walked_records : Mode → Bor (List ℕ) → ℕ → ℕ
walked_records mode s allowed = records (walk (step_at (symbol_of mode)) cursor_of s 0 allowed)

-- such a walk, of an upload of any length: it makes no more steps than there are bytes, and no more of its answers are records than there is
-- room for entries of the least length. A walk that ends finished is one of these; neither bound needs it
pub record Bounds (mode : Mode) (s : Bor (List ℕ)) (allowed : ℕ) : Type 0 where
  pub steps : (bounded_walk s.now 0 allowed).steps ≤ length s.now
  pub accepts : walked_records mode s allowed ≤ length s.now / least

-- what building an index answers where slots never lack: 5, 10, or that it wrote all starts; 6 is not among these
pub data Unhindered (mode : Mode) (s : Bor (List ℕ)) : Result ℕ Refusal → Type 0 where
  too_large : limit < length s.now → Unhindered mode s (Err (TooLarge (length s.now)))
  zero_claim : length s.now ≤ limit → list_any (stands s.now) (steps s.now) ≡ true → Unhindered mode s (Err ZeroEntryLength)
  done : length s.now ≤ limit → list_any (stands s.now) (steps s.now) ≡ false → Unhindered mode s (Ok (length (starts (pieces (symbol_of mode) s))))

-- an upload of so many bytes (none of its numbers is above 255) whose walk ends finished and whose index needs so many slots: with fewer it is refused by 6
pub record Needs (n slots : ℕ) : Type 0 where
  pub upload : List ℕ
  pub long : length upload ≡ n
  pub bytes : list_any (leb 256) upload ≡ false
  pub finished : (bounded_walk upload 0 n).end ≡ Ok Finished
  pub answers : (mode : Mode) (s : Bor (List ℕ)) → s.now ≡ upload → (old new : List ℕ) (r : Result ℕ Refusal) → Writes (indexing (symbol_of mode) s) old new r
      → r ≡ (if ltb (length old) slots then Err (OutputTooSmall slots (length old)) else Ok slots)

-- what an operation that answers a length has to meet
pub record Meant (room : ℕ → Result ℕ Refusal) : Type 0 where
  -- an index that is lent as many slots as are answered for the length of its upload, or more, is never refused by 6; nor is one of a length that gets no answer
  pub enough : (mode : Mode) (s : Bor (List ℕ)) (old new : List ℕ) (r : Result ℕ Refusal) → ((slots : ℕ) → room (length s.now) ≡ Ok slots → slots ≤ length old) → Writes (indexing (symbol_of mode) s) old new r → Unhindered mode s r
  -- no fewer are enough: of every length that is answered there is an upload that needs them all
  pub tight : (n slots : ℕ) → room n ≡ Ok slots → Needs n slots
  -- where a length is refused, every index of an upload of that length is refused alike
  pub refused : (mode : Mode) (s : Bor (List ℕ)) (old new : List ℕ) (r : Result ℕ Refusal) (why : Refusal) → room (length s.now) ≡ Err why → Writes (indexing (symbol_of mode) s) old new r → r ≡ Err why

-- the bounds of every walk; the operation meets what is asked of it, and no other does
pub record RoomMeant : Type 0 where
  -- a step that gives a record moves by the least bytes of an entry or more
  pub long : (mode : Mode) (s : Bor (List ℕ)) (at : ℕ) (symbol : AdsSymbolInfo) → (step_at (symbol_of mode) s at).answer ≡ Some (Ok symbol) → at + least ≤ (step_at (symbol_of mode) s at).cursor.at
  pub bounds : (mode : Mode) (s : Bor (List ℕ)) (allowed : ℕ) → Bounds mode s allowed
  -- an index stores as many starts as the steps of the whole walk give records
  pub stored : (mode : Mode) (s : Bor (List ℕ)) → length (starts (pieces (symbol_of mode) s)) ≡ walked_records mode s (bounded_walk s.now 0 (length s.now)).steps
  pub meant : Meant room_for
  pub only : (room : ℕ → Result ℕ Refusal) → Meant room → (n : ℕ) → room n ≡ room_for n
