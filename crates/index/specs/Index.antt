-- The index of starts (docs/FORMAT.md, "Index").
use Rattle.std.specs.Borrow.{Bor}
use Rattle.std.specs.Prelude.{ℕ, Result, Bool, false, List, map, filter, ltb, length, is_ok, Ok, Err, if◌then◌else◌}
use Rattle.std.specs.List.{list_any}
use Rattle.refusal.specs.Refusal.{limit}
use Rattle.refusal.specs.declared.Refusal.{Refusal}
use Rattle.refusal.specs.declared.Refusal.TheVariants.{TooLarge, ZeroEntryLength}
use Rattle.walk.specs.Zero.{is_zero}
use Rattle.walk.specs.declared.Piece.{Piece}
use Rattle.walk.specs.Pieces.{pieces}

abbrev pub is_stop : {R : Type 0} → Result R Refusal → Bool
is_stop (Ok r) = false
is_stop (Err why) = is_zero why

-- a piece that is refused with 10
abbrev pub stops : {R : Type 0} → Piece R → Bool
stops p = is_stop p.answer

abbrev pub accepts : {R : Type 0} → Piece R → Bool
accepts p = is_ok p.answer

abbrev pub stopped : {R : Type 0} → List (Piece R) → Bool
stopped ps = list_any stops ps

-- the start of every accepted entry, in order
unfoldable pub starts : {R : Type 0} → List (Piece R) → List ℕ
starts ps = map (λ p. p.start) (filter accepts ps)

-- how many there are, unless a zero claim is met
unfoldable pub tally_of : {R : Type 0} → List (Piece R) → Result ℕ Refusal
tally_of ps = if stopped ps then Err ZeroEntryLength else Ok (length (starts ps))

-- what index building writes into the lent slots: 5, then 10; 6 is the writer's
unfoldable pub indexing : {R : Type 0} → (Bor (List ℕ) → Result R Refusal) → Bor (List ℕ) → Result (List ℕ) Refusal
indexing read s =
    if ltb limit (length s.now) then Err (TooLarge (length s.now))
    else if stopped (pieces read s) then Err ZeroEntryLength
    else Ok (starts (pieces read s))
