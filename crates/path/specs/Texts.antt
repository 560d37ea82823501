-- docs/FORMAT.md, "Binding": what a part of a path is, by its bytes.
use Rattle.std.specs.Prelude.{ℕ, ◌+◌, ◌-◌, ◌*◌, ◌<◌, ◌≤◌, ◌≡◌, ◌≢◌, min, Bool, true, false, List, [], ◌∷◌, ◌++◌, Ok, length}
use Rattle.std.specs.List.{All}
use Rattle.std.specs.Borrow.{Bor}
use Rattle.part.specs.Slice.{part}
use Rattle.part.specs.End.{IsEnd}
use Rattle.path.specs.declared.Split.{Split}
use Rattle.path.specs.declared.Part.TheVariants.{Member, Element}
use Rattle.path.specs.Path.{split_at, first_part}

-- a text has ended, or goes on with `.` or `[`
pub data Ends : List ℕ → Type 0 where
  ended : Ends []
  dotted : {more : List ℕ} → Ends (46 ∷ more)
  opened : {more : List ℕ} → Ends (91 ∷ more)

-- a subscript stands behind `[` or `,`
pub data Opens : ℕ → Type 0 where
  first : Opens 91
  next : Opens 44

-- perhaps with `-` before it
pub data Signs : Bool → List ℕ → Type 0 where
  unsigned : Signs false []
  minus : Signs true (45 ∷ [])

-- and ends before a `,`, which is left, or at a `]`, behind which the text ends or goes on
pub data Closes (rest : List ℕ) : List ℕ → Type 0 where
  before_comma : {more : List ℕ} → rest ≡ 44 ∷ more → Closes rest rest
  at_bracket : Ends rest → Closes rest (93 ∷ rest)

abbrev pub IsName : List ℕ → Type 0
IsName name = (0 < length name) × All (λ b. (b ≢ 46) × (b ≢ 91)) name

abbrev pub AreDigits : List ℕ → Type 0
AreDigits digits = (0 < length digits) × All (λ b. (48 ≤ b) × (b ≤ 57)) digits

-- the number that digits write behind those that wrote a number
unfoldable pub decimal : ℕ → List ℕ → ℕ
decimal n [] = n
decimal n (digit ∷ more) = decimal (10 * n + (digit - 48)) more

-- the part at the start of a text, and what is left of it; a name and what is left lie where they stand in the text
pub data IsPart (text : Bor (List ℕ)) : Split → Type 0 where
  member : (name rest : Bor (List ℕ)) → IsName name.now → Ends rest.now → text.now ≡ 46 ∷ (name.now ++ rest.now) → name ≡ part text 1 (length name.now) → IsEnd text rest → IsPart text (split_at (Member name) rest)
  element : (opening n : ℕ) (negative : Bool) (sign digits behind : List ℕ) (rest : Bor (List ℕ)) → Opens opening → Signs negative sign → AreDigits digits → Closes rest.now behind
      → n ≡ min (decimal 0 digits) 8589934592 → text.now ≡ opening ∷ (sign ++ (digits ++ behind)) → IsEnd text rest → IsPart text (split_at (Element (record { negative = negative; magnitude = n })) rest)

-- what is read as a part is that part, and each part is read as itself; so what begins with none is refused, and no text begins with two
abbrev pub PartsMeant : Type 0
PartsMeant = (s : Bor (List ℕ)) (p : Split) → (first_part s ≡ Ok p → IsPart s p) × (IsPart s p → first_part s ≡ Ok p)
