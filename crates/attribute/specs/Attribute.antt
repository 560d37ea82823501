-- docs/FORMAT.md, "Attributes": name length, value length (1 byte each), name, end byte, value, end byte.
use Rattle.std.specs.Prelude.{ℕ, zero, suc, ◌+◌, ◌-◌, ◌≡◌, List, [], ◌∷◌, ◌++◌, ok_or, find, nat_eq, Option, Some, None, Result, Ok, Err, eqb, ltb, length, get_or, slice_get, if◌then◌else◌}
use Rattle.std.specs.Iterator.{YieldsFirst}
use Rattle.std.specs.Cmp.Lexicographic.{pointwise}
use Rattle.std.specs.Borrow.{Bor}
use Rattle.part.specs.Slice.{part, after}
use Rattle.part.specs.Outcome.{outcome, and_then}
use Rattle.refusal.specs.Refusal.{limit}
use Rattle.refusal.specs.EndBytes.{ended, in_mode}
use Rattle.refusal.specs.declared.Mode.{Mode}
use Rattle.refusal.specs.declared.Refusal.{Refusal}
use Rattle.refusal.specs.declared.Refusal.TheVariants.{TooShort, UnexpectedLength, TooLarge, NameNotFound, NoSuchNumber}
use Rattle.attribute.specs.declared.AdsAttribute.{AdsAttribute}
use Rattle.attribute.specs.declared.Attributes.{Attributes}

-- one at the start of some bytes, whose strings have these lengths, and the bytes after it. Under 4 bytes: 2; under the whole: 1
abbrev pub sized : Bor (List ℕ) → ℕ → ℕ → Result (AdsAttribute × Bor (List ℕ)) Refusal
sized s n v =
    if ltb (length s.now) 4 then Err (TooShort 4 (length s.now))
    else if ltb (length s.now) (n + v + 4) then Err (UnexpectedLength (n + v + 4) (length s.now))
    else Ok (record { name = part s 2 n; value = part s (n + 3) v }, after s (n + v + 4))

unfoldable pub first_of : Bor (List ℕ) → Result (AdsAttribute × Bor (List ℕ)) Refusal
first_of s = sized s (get_or s.now 0 0) (get_or s.now 1 0)

-- at most so many, one after another, up to one that is refused
unfoldable pub listed : Bor (List ℕ) → ℕ → List AdsAttribute
listed s zero = []
listed s (suc left) = outcome (first_of s) (λ p. p.0 ∷ listed p.1 left) (λ why. [])

-- the bytes after them
unfoldable pub after_listed : Bor (List ℕ) → ℕ → Bor (List ℕ)
after_listed s zero = s
after_listed s (suc left) = outcome (first_of s) (λ p. after_listed p.1 left) (λ why. s)

-- all that an iterator has left; and the iterator after it was asked for one: the bytes after that one and a count less, or a count of 0 where none can be read
abbrev pub left : Attributes → List AdsAttribute
left a = listed a.bytes a.count

unfoldable pub after_next : Attributes → Attributes
after_next a =
    if eqb a.count 0 then a
    else outcome (first_of a.bytes) (λ p. record { bytes = p.1; count = a.count - 1 }) (λ why. record { bytes = a.bytes; count = 0 })

-- asked for one, it gives the first of those, if there is any, and is then that iterator
abbrev pub NextGives : Attributes → Option AdsAttribute → Attributes → Type 0
NextGives a given next = YieldsFirst left a given next × (next ≡ after_next a)

-- why the list ended before its count, if one was refused: where the bytes end after one, none is missed
unfoldable pub stopped : Bor (List ℕ) → ℕ → Option Refusal
stopped s zero = None
stopped s (suc left) = outcome (first_of s) (λ p. if eqb (length p.1.now) 0 then None else stopped p.1 left) Some

-- the end bytes of one that begins at a place of an entry, with their places: of its name, then of its value
abbrev pub ends_of : Bor (List ℕ) → ℕ → AdsAttribute → List (ℕ × ℕ)
ends_of s at a =
    let n : ℕ = 2 + length a.name.now in
    let v : ℕ = n + 1 + length a.value.now in
    (at + n, get_or s.now n 0) ∷ (at + v, get_or s.now v 0) ∷ []

-- the place after it
abbrev pub next_place : ℕ → AdsAttribute → ℕ
next_place at a = at + (2 + length a.name.now + 1 + length a.value.now) + 1

-- those of so many, where the first begins at a place
unfoldable pub ends : Bor (List ℕ) → ℕ → ℕ → List (ℕ × ℕ)
ends s at zero = []
ends s at (suc left) = outcome (first_of s) (λ p. ends_of s at p.0 ++ ends p.1 (next_place at p.0) left) (λ why. [])

-- the end bytes of the first alone, and then the bytes and the place after it
unfoldable pub turn : Bor (List ℕ) → ℕ → Result (Option (Bor (List ℕ) × ℕ)) Refusal
turn s at = outcome (first_of s) (λ p. and_then (ended (ends_of s at p.0)) (λ _. Ok (Some (p.1, next_place at p.0)))) (λ why. Ok None)

-- of some attributes the one with a number, counted from 0; and the first with a name
abbrev pub numbered : List AdsAttribute → ℕ → ℕ → Result AdsAttribute Refusal
numbered all count number = ok_or (slice_get all number) (NoSuchNumber count number)

abbrev pub named : List AdsAttribute → List ℕ → Result AdsAttribute Refusal
named all name = ok_or (find (λ a. pointwise nat_eq a.name.now name) all) NameNotFound

-- one that stands alone, which other bytes may follow, in a mode
abbrev pub alone : Mode → Bor (List ℕ) → Result AdsAttribute Refusal
alone mode s =
    if ltb limit (length s.now) then Err (TooLarge (length s.now))
    else and_then (first_of s) (λ p. and_then (in_mode mode (ended (ends s 0 1))) (λ _. Ok p.0))
