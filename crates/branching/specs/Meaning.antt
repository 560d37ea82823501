-- docs/FORMAT.md, "The command's text" and "Name index". What `branch` and `list --sorted` write, by the entries' bytes and the letters of their names.
use Rattle.std.specs.Prelude.{ℕ, ◌<◌, ◌≤◌, ◌≡◌, true, false, List, [], ◌∷◌, ◌++◌, codes, length, map, Result, Ok, Err}
use Rattle.std.specs.List.{flat_map, list_any}
use Rattle.std.specs.List.Sorted.{IsPermutation}
use Rattle.part.specs.Slice.{part}
use Rattle.refusal.specs.Refusal.{limit}
use Rattle.refusal.specs.declared.Refusal.{Refusal}
use Rattle.refusal.specs.declared.Refusal.TheVariants.{TooLarge, ZeroEntryLength}
use Rattle.entry.specs.Walk.{stands, steps}
use Rattle.walk.specs.declared.Piece.{Piece}
use Rattle.walk.specs.Pieces.{pieces}
use Rattle.symbol.specs.declared.AdsSymbolInfo.{AdsSymbolInfo}
use Rattle.symbol.specs.Symbol.{symbol_of}
use Rattle.name_order.specs.Letters.{IsInNameOrder}
use Rattle.named.specs.Kinds.{symbol_places}
use Rattle.name_index.specs.BranchMeaning.{HasBranch, Picks}
use Rattle.report.specs.declared.Upload.{Upload}
use Rattle.report.specs.Meant.{object, symbol_members}
use Rattle.report.specs.Report.{json_line, tally_of}
use Rattle.branching.specs.Ordered.{branch, sorted}
use Rattle.branching.specs.Lines.{entries_at, lines, table}
use Rattle.branching.specs.Tables.{IsTable}

-- an answer in the order of the names, in three cases of which exactly one holds: above the limit; a step of the walk stands; neither, and something is so of the starts
pub data Answers (u : Upload) (IsSo : List ℕ → Type 0) : Result (List ℕ) Refusal → Type 0 where
  too_large : limit < length u.bytes.now → Answers u IsSo (Err (TooLarge (length u.bytes.now)))
  zero_claim : length u.bytes.now ≤ limit → list_any (stands u.bytes.now) (steps u.bytes.now) ≡ true → Answers u IsSo (Err ZeroEntryLength)
  in_order : {starts : List ℕ} → length u.bytes.now ≤ limit → list_any (stands u.bytes.now) (steps u.bytes.now) ≡ false → IsSo starts → Answers u IsSo (Ok starts)

-- an entry that is accepted by itself begins at a place, its name begins with a text, letter by letter in any case, and a line tells the members of docs/FORMAT.md by its bytes
pub record Tells (u : Upload) (text : List ℕ) (at : ℕ) (line : List ℕ) : Type 0 where
  pub has : HasBranch 30 (symbol_of u.mode) (λ r. r.length) (λ r. r.name.now) u.bytes text at
  pub is : line ≡ object (symbol_members at (part u.bytes at has.entry.length).now has.entry) ++ codes "\n"

-- a line for each of some places, one behind another
pub data TellsEach (u : Upload) (text : List ℕ) : List ℕ → List ℕ → Type 0 where
  done : TellsEach u text [] []
  next : {at : ℕ} {places line rest : List ℕ} → Tells u text at line → TellsEach u text places rest → TellsEach u text (at ∷ places) (line ++ rest)

-- what is written of a branch: a line of JSON, and in a table one, for each of the upload's entries whose names begin so, each once, in the order of the names
pub record BranchTold (u : Upload) (text starts written : List ℕ) : Type 0 where
  pub each : TellsEach u text starts written
  pub in_order : IsInNameOrder symbol_places u.bytes.now starts
  pub all : List ℕ
  pub every : Picks 30 (symbol_of u.mode) (λ r. r.length) (λ r. r.name.now) u.bytes text (steps u.bytes.now) all
  pub once : IsPermutation all starts
  pub tabled : IsTable u starts (table u starts)

-- those of some entries that were refused, in their order
pub data Refusals : List (Piece AdsSymbolInfo) → List (Piece AdsSymbolInfo) → Type 0 where
  done : Refusals [] []
  accepted : {p : Piece AdsSymbolInfo} {symbol : AdsSymbolInfo} {all refused : List (Piece AdsSymbolInfo)} → p.answer ≡ Ok symbol → Refusals all refused → Refusals (p ∷ all) refused
  refused : {p : Piece AdsSymbolInfo} {why : Refusal} {all refused : List (Piece AdsSymbolInfo)} → p.answer ≡ Err why → Refusals all refused → Refusals (p ∷ all) (p ∷ refused)

-- what is written of all entries, and counted: the lines that `list` writes, each once, those of the accepted in the order of the names, and behind them those of the refused in the upload's order; in a table too
pub record SortedTold (u : Upload) (starts : List ℕ) : Type 0 where
  pub accepted : List (Piece AdsSymbolInfo)
  pub refused : List (Piece AdsSymbolInfo)
  pub once : IsPermutation (pieces (symbol_of u.mode) u.bytes) (accepted ++ refused)
  pub in_order : IsInNameOrder symbol_places u.bytes.now (map (λ p. p.start) accepted)
  pub behind : Refusals (pieces (symbol_of u.mode) u.bytes) refused
  pub are : map (λ p. p.start) (accepted ++ refused) ≡ starts
  pub tabled : IsTable u starts (table u starts)
  pub written : lines u starts ≡ flat_map json_line (accepted ++ refused)
  pub counted : tally_of (entries_at u starts) ≡ tally_of (pieces (symbol_of u.mode) u.bytes)

abbrev pub BranchWritten : Type 0
BranchWritten = (u : Upload) (text : List ℕ) → Answers u (λ starts. BranchTold u text starts (lines u starts)) (branch u text)

abbrev pub SortedWritten : Type 0
SortedWritten = (u : Upload) → Answers u (SortedTold u) (sorted u)
