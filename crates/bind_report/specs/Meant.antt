-- docs/FORMAT.md, "The command's text": what the lines of JSON of `bind` mean, and which part of a path a refusal tells.
use Rattle.std.specs.Prelude.{ℕ, ◌≡◌, ◌≢◌, ◌<◌, ◌==◌, ◌||◌, List, [], ◌∷◌, ◌++◌, codes, decimal, length, Option, Some, None, Ok, Err, if◌then◌else◌}
use Rattle.std.specs.List.{All}
use Rattle.std.specs.Borrow.{Bor}
use Rattle.part.specs.Slice.{part}
use Rattle.refusal.specs.Refusal.{figures_of}
use Rattle.refusal.specs.declared.Figures.{Figures}
use Rattle.refusal.specs.declared.Refusal.{Refusal}
use Rattle.refusal.specs.declared.Refusal.TheVariants.{NoSuchNumber}
use Rattle.wording.specs.Text.{quoted}
use Rattle.wording.specs.Wording.{refusal_text}
use Rattle.report.specs.Meant.{member, object}
use Rattle.bind.specs.declared.Address.{Address}
use Rattle.bind.specs.declared.reading.Place.{Place}
use Rattle.bind.specs.declared.reading.Place.TheVariants.{Symbol, DataType}
use Rattle.bind_report.specs.declared.Bound.{Bound}
use Rattle.bind_report.specs.Words.{reason_text, refused_part}
use Rattle.bind_report.specs.Json.{json_line}

-- by the table of refusals: where in the path it was met, if it was met in a part
abbrev pub met_at : Figures → Option ℕ
met_at f =
    if f.number == 14 then Some f.got
    else if f.number == 13 then (if f.got == 0 then None else Some f.expected)
    else if f.number == 20 || f.number == 21 || f.number == 22 || f.number == 24 then Some f.expected
    else None

-- the path ends, or goes on with `.`, `[`, `]` or `,`
pub data GoesOn : List ℕ → Type 0 where
  ended : GoesOn []
  dot : {more : List ℕ} → GoesOn (46 ∷ more)
  opening : {more : List ℕ} → GoesOn (91 ∷ more)
  closing : {more : List ℕ} → GoesOn (93 ∷ more)
  comma : {more : List ℕ} → GoesOn (44 ∷ more)

-- the part that begins at a place of a path
pub record IsPartAt (path : List ℕ) (place : ℕ) (text : List ℕ) : Type 0 where
  pub before : List ℕ
  pub rest : List ℕ
  pub is : path ≡ before ++ (text ++ rest)
  pub there : length before ≡ place
  pub inside : All (λ b. (b ≢ 46) × (b ≢ 91) × (b ≢ 93) × (b ≢ 44)) text
  pub behind : GoesOn rest

pub record PartsMeant : Type 0 where
  pub at : (path : Bor (List ℕ)) (why : Refusal) (place : ℕ) (text : List ℕ) → met_at (figures_of why) ≡ Some place → IsPartAt path.now place text
      → refused_part path why ≡ Some (part path place (length text))
  pub past : (path : Bor (List ℕ)) (why : Refusal) (place : ℕ) → met_at (figures_of why) ≡ Some place → length path.now < place → refused_part path why ≡ None
  pub none : (path : Bor (List ℕ)) (why : Refusal) → met_at (figures_of why) ≡ None → refused_part path why ≡ None

-- the members of a path that has an address, and of one that has none, whose part is told in JSON
abbrev pub entry_members : Place → List (List ℕ)
entry_members (Symbol at) = member (codes "upload") (codes "\"symbols\"") ∷ member (codes "place") (decimal at) ∷ []
entry_members (DataType at) = member (codes "upload") (codes "\"types\"") ∷ member (codes "place") (decimal at) ∷ []

abbrev pub address_members : List ℕ → Address → List (List ℕ)
address_members path a =
    member (codes "path") (quoted path)
    ∷ member (codes "group") (decimal a.group.0)
    ∷ member (codes "offset") (decimal a.offset.0)
    ∷ member (codes "bit") (decimal a.bit)
    ∷ member (codes "size") (decimal a.size)
    ∷ member (codes "size_in_bits") (if a.size_in_bits then codes "true" else codes "false")
    ∷ member (codes "type") (quoted a.type_name.now)
    ∷ member (codes "entry") (object (entry_members a.place))
    ∷ []

abbrev pub refused_members : List ℕ → Refusal → List ℕ → List (List ℕ)
refused_members path why part =
    member (codes "path") (quoted path)
    ∷ member (codes "refused") (decimal (figures_of why).number)
    ∷ member (codes "expected") (decimal (figures_of why).expected)
    ∷ member (codes "got") (decimal (figures_of why).got)
    ∷ member (codes "reason") (codes "\"" ++ (reason_text why ++ codes "\""))
    ∷ member (codes "part") part
    ∷ []

pub record PathLinesMeant : Type 0 where
  pub bound : (b : Bound) (a : Address) → b.answer ≡ Ok a → json_line b ≡ object (address_members b.path.now a) ++ codes "\n"
  pub part : (b : Bound) (why : Refusal) (p : Bor (List ℕ)) → b.answer ≡ Err why → refused_part b.path why ≡ Some p
      → json_line b ≡ object (refused_members b.path.now why (quoted p.now)) ++ codes "\n"
  pub none : (b : Bound) (why : Refusal) → b.answer ≡ Err why → refused_part b.path why ≡ None → json_line b ≡ object (refused_members b.path.now why (codes "null")) ++ codes "\n"

-- the words of a refusal are those that it has anywhere, but for 14, whose second figure is a place in the path
pub record ReasonsMeant : Type 0 where
  pub subscript : reason_text (NoSuchNumber 1234 5678) ≡ codes "refusal 14, no such number: 1,234 elements there, and none is the subscript at byte 5,678 of the path"
  pub all_else : (why : Refusal) → (figures_of why).number ≢ 14 → reason_text why ≡ refusal_text why
