-- docs/FORMAT.md, "Refactor records": packed 4, name length 2, name, end byte. A chain is records up to the first that none follows.
use Rattle.std.specs.Prelude.{ℕ, zero, suc, ◌+◌, ◌-◌, ◌≡◌, List, [], ◌∷◌, slice_get, ok_or, Option, Some, None, Result, Ok, Err, eqb, ltb, length, get_or, bit_and, if◌then◌else◌}
use Rattle.std.specs.Iterator.{YieldsFirst}
use Rattle.std.specs.Borrow.{Bor}
use Rattle.le.specs.Le.{le2, le4, has}
use Rattle.part.specs.Slice.{part, after}
use Rattle.part.specs.Outcome.{outcome, and_then}
use Rattle.refusal.specs.Refusal.{limit}
use Rattle.refusal.specs.EndBytes.{ended, in_mode}
use Rattle.refusal.specs.declared.Mode.{Mode}
use Rattle.refusal.specs.declared.Refusal.{Refusal}
use Rattle.refusal.specs.declared.Refusal.TheVariants.{TooShort, TooLarge, NoSuchNumber}
use Rattle.refactor.specs.declared.AdsRefactorInfo.{AdsRefactorInfo}
use Rattle.refactor.specs.declared.RefactorInfos.{RefactorInfos}

-- the count is packed with this mask, which holds the follower's bit
abbrev pub mask : ℕ
mask = 0x01111111

abbrev pub follower : ℕ
follower = 0x01000000

-- one at the start of some bytes, with a name of this length, and the bytes after it. Under 7 bytes, or under the whole: 2
abbrev pub sized : Bor (List ℕ) → ℕ → Result (AdsRefactorInfo × Bor (List ℕ)) Refusal
sized s n =
    if ltb (length s.now) 7 then Err (TooShort 7 (length s.now))
    else if ltb (length s.now) (n + 7) then Err (TooShort (n + 7) (length s.now))
    else Ok (record { refactor_count = bit_and (le4 s.now 0) mask; next_refactor_info = has (le4 s.now 0) follower; name = part s 6 n }, after s (n + 7))

unfoldable pub first_of : Bor (List ℕ) → Result (AdsRefactorInfo × Bor (List ℕ)) Refusal
first_of s = sized s (le2 s.now 4)

-- at most so many, one after another, up to one that is refused
unfoldable pub listed : Bor (List ℕ) → ℕ → List AdsRefactorInfo
listed s zero = []
listed s (suc left) = outcome (first_of s) (λ p. p.0 ∷ listed p.1 left) (λ why. [])

-- all that an iterator has left; and the iterator after it was asked for one: the bytes after that one and a count less, or a count of 0 where none can be read
abbrev pub left : RefactorInfos → List AdsRefactorInfo
left c = listed c.bytes c.count

unfoldable pub after_next : RefactorInfos → RefactorInfos
after_next c =
    if eqb c.count 0 then c
    else outcome (first_of c.bytes) (λ p. record { bytes = p.1; count = c.count - 1 }) (λ why. record { bytes = c.bytes; count = 0 })

-- asked for one, it gives the first of those, if there is any, and is then that iterator
abbrev pub NextGives : RefactorInfos → Option AdsRefactorInfo → RefactorInfos → Type 0
NextGives c given next = YieldsFirst left c given next × (next ≡ after_next c)

-- a chain, after so many of its records: how many it has, and the bytes after it. Each takes at least a byte of those that are left
unfoldable pub chained : Bor (List ℕ) → ℕ → ℕ → Result (ℕ × Bor (List ℕ)) Refusal
chained s count zero = Err (TooShort 7 0)
chained s count (suc left) = outcome (first_of s) (λ p. if p.0.next_refactor_info then chained p.1 (count + 1) left else Ok (count + 1, p.1)) Err

abbrev pub chain_of : Bor (List ℕ) → Result (ℕ × Bor (List ℕ)) Refusal
chain_of s = chained s 0 (length s.now)

-- with its records
abbrev pub infos_of : Bor (List ℕ) → Result (RefactorInfos × Bor (List ℕ)) Refusal
infos_of s = and_then (chain_of s) (λ p. Ok (record { bytes = s; count = p.0 }, p.1))

-- the end bytes of its records up to one that is refused, with their places in an entry where the chain begins at a place
unfoldable pub ends_from : Bor (List ℕ) → ℕ → ℕ → List (ℕ × ℕ)
ends_from s at zero = []
ends_from s at (suc left) = outcome (first_of s) (λ p.
    let n : ℕ = 6 + length p.0.name.now in
    (at + n, get_or s.now n 0) ∷ (if p.0.next_refactor_info then ends_from p.1 (at + n + 1) left else []))
    (λ why. [])

abbrev pub ends : Bor (List ℕ) → ℕ → List (ℕ × ℕ)
ends s at = ends_from s at (length s.now)

-- the end byte of one, and then the bytes and the place of the next, if another follows
unfoldable pub turn : Bor (List ℕ) → ℕ → Result (Option (Bor (List ℕ) × ℕ)) Refusal
turn s at = outcome (first_of s) (λ p.
    let n : ℕ = 6 + length p.0.name.now in
    and_then (ended ((at + n, get_or s.now n 0) ∷ [])) (λ _. Ok (if p.0.next_refactor_info then Some (p.1, at + n + 1) else None)))
    (λ why. Ok None)

abbrev pub numbered : List AdsRefactorInfo → ℕ → ℕ → Result AdsRefactorInfo Refusal
numbered all count number = ok_or (slice_get all number) (NoSuchNumber count number)

-- one that stands alone, which other bytes may follow, in a mode
abbrev pub alone : Mode → Bor (List ℕ) → Result AdsRefactorInfo Refusal
alone mode s =
    if ltb limit (length s.now) then Err (TooLarge (length s.now))
    else and_then (first_of s) (λ p. and_then (in_mode mode (ended ((6 + length p.0.name.now, get_or s.now (6 + length p.0.name.now) 0) ∷ []))) (λ _. Ok p.0))

-- and a chain: an end byte is met before a later record that is refused
abbrev pub chain_alone : Mode → Bor (List ℕ) → Result (RefactorInfos × Bor (List ℕ)) Refusal
chain_alone mode s =
    if ltb limit (length s.now) then Err (TooLarge (length s.now))
    else and_then (in_mode mode (ended (ends s 0))) (λ _. infos_of s)
