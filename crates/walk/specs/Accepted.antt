-- docs/FORMAT.md, "Walking". An entry of which nothing is kept but its length, and what a walk asks of the kind.
use Rattle.std.proofs.Common.{ℕ, ◌<◌, ◌≤◌, ◌≡◌, refl, sym, ap, ◌∙◌, List, length, Bor}
use Rattle.std.specs.Prelude.{false, Result, Ok, Err}
use Rattle.refusal.specs.declared.Mode.{Mode}
use Rattle.refusal.specs.declared.Refusal.{Refusal}
use Rattle.refusal.specs.declared.Refusal.TheVariants.{TooShort}
use Rattle.walk.specs.Zero.{is_zero}
use Rattle.walk.specs.Mapped.{map_ok}
use Rattle.walk.specs.declared.accepted.Accepted.{Accepted}

module _ {R : Type 0} (length_of : R → ℕ) where
  abbrev pub accepted : R → Accepted R
  accepted r = record { length = length_of r; kind = record {} }

  module _ (read : Mode → Bor (List ℕ) → Result R Refusal) where
    unfoldable pub accepted_of : Mode → Bor (List ℕ) → Result (Accepted R) Refusal
    accepted_of mode e = map_ok accepted (read mode e)

    -- it is accepted as its record is
    read_by : (t : Result R Refusal) (a : Accepted R) → map_ok accepted t ≡ Ok a → (r : R) × (t ≡ Ok r) × (accepted r ≡ a)
    read_by (Ok r) a h = (r, refl, cc)
    read_by (Err why) a h = cc

    refused_by : (t : Result R Refusal) (why : Refusal) → map_ok accepted t ≡ Err why → t ≡ Err why
    refused_by (Ok r) why h = cc
    refused_by (Err w) why h = cc

    pub long : ((mode : Mode) (e : Bor (List ℕ)) (r : R) → read mode e ≡ Ok r → length_of r ≡ length e.now)
        → (mode : Mode) (e : Bor (List ℕ)) (a : Accepted R) → accepted_of mode e ≡ Ok a → a.length ≡ length e.now
    unfolding accepted_of
    long own mode e a h = let s = read_by (read mode e) a h in ap (λ a. a.length) (sym s.2) ∙ own mode e s.0 s.1

    pub room : {header : ℕ} → ((mode : Mode) (e : Bor (List ℕ)) (r : R) → read mode e ≡ Ok r → header ≤ length e.now)
        → (mode : Mode) (e : Bor (List ℕ)) (a : Accepted R) → accepted_of mode e ≡ Ok a → header ≤ length e.now
    unfolding accepted_of
    room own mode e a h = let s = read_by (read mode e) a h in own mode e s.0 s.1

    pub short : {header : ℕ} → ((mode : Mode) (e : Bor (List ℕ)) → length e.now < header → read mode e ≡ Err (TooShort header (length e.now)))
        → (mode : Mode) (e : Bor (List ℕ)) → length e.now < header → accepted_of mode e ≡ Err (TooShort header (length e.now))
    unfolding accepted_of
    short own mode e h = ap (map_ok accepted) (own mode e h)

    pub never_zero : ((mode : Mode) (e : Bor (List ℕ)) (why : Refusal) → read mode e ≡ Err why → is_zero why ≡ false)
        → (mode : Mode) (e : Bor (List ℕ)) (why : Refusal) → accepted_of mode e ≡ Err why → is_zero why ≡ false
    unfolding accepted_of
    never_zero own mode e why h = own mode e why (refused_by (read mode e) why h)
