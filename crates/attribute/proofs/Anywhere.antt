-- What attributes tell does not depend on where they lie in memory.
use Rattle.std.proofs.Common.{◌≡◌, ℕ, zero, suc, ◌+◌, ◌⊎◌, inl, inr, Bool, true, false, List, ◌∷◌, length, refl, ap, Bor}
use Rattle.std.specs.Prelude.{None, Result, Ok, Err, ltb, eqb, get_or, if◌then◌else◌}
use Rattle.part.specs.Slice.{part, after}
use Rattle.refusal.specs.declared.Refusal.{Refusal}
use Rattle.refusal.specs.declared.Refusal.TheVariants.{TooShort, UnexpectedLength}
use Rattle.attribute.specs.declared.AdsAttribute.{AdsAttribute}
use Rattle.attribute.specs.declared.Attributes.{Attributes}
use Rattle.attribute.specs.Attribute.{sized, first_of, listed, stopped, ends, after_listed}
use Rattle.attribute.specs.Told.{told_of, told}

-- the same bytes at another place
abbrev pub moved : ℕ × ℕ → Bor (List ℕ) → Bor (List ℕ)
moved m s = record { ref_ptr = m; now = s.now }

abbrev pub on : ℕ × ℕ → ℕ → ℕ × ℕ
on m k = (m.0, m.1 + k)

-- bytes that were moved, and to where
abbrev pub Moved : Bor (List ℕ) → Bor (List ℕ) → Type 0
Moved s t = (m : ℕ × ℕ) × (t ≡ moved m s)

abbrev pub attributes_at : ℕ × ℕ → Attributes → Attributes
attributes_at m a = record { bytes = moved m a.bytes; count = a.count }

abbrev attribute_in : ℕ → ℕ → Bor (List ℕ) → AdsAttribute
attribute_in n v s = record { name = part s 2 n; value = part s (n + 3) v }

-- the first of them: the same refusal, or its strings and the bytes after it, as many further on
abbrev First : ℕ × ℕ → Bor (List ℕ) → Result (AdsAttribute × Bor (List ℕ)) Refusal → Result (AdsAttribute × Bor (List ℕ)) Refusal → Type 0
First m s a b =
    ((why : Refusal) × (a ≡ Err why) × (b ≡ Err why))
    ⊎ ((n : ℕ) × (v : ℕ) × (k : ℕ) × (a ≡ Ok (attribute_in n v (moved m s), after (moved m s) k)) × (b ≡ Ok (attribute_in n v s, after s k)))

first_by : (m : ℕ × ℕ) (s : Bor (List ℕ)) (n v : ℕ) (b c : Bool) → ltb (length s.now) 4 ≡ b → ltb (length s.now) (n + v + 4) ≡ c → First m s (sized (moved m s) n v) (sized s n v)
first_by m s n v true c p q = inl (TooShort 4 (length s.now), rw p refl, rw p refl)
first_by m s n v false true p q = inl (UnexpectedLength (n + v + 4) (length s.now), rw (p, q) refl, rw (p, q) refl)
first_by m s n v false false p q = inr (n, v, n + v + 4, rw (p, q) refl, rw (p, q) refl)

first_moved : (m : ℕ × ℕ) (s : Bor (List ℕ)) → First m s (first_of (moved m s)) (first_of s)
unfolding first_of
first_moved m s = first_by m s (get_or s.now 0 0) (get_or s.now 1 0) _ _ refl refl

pub count_moved : (m : ℕ × ℕ) (s : Bor (List ℕ)) (n : ℕ) → length (listed (moved m s) n) ≡ length (listed s n)
unfolding listed
count_moved m s zero = refl
count_moved m s (suc n) = elim (first_moved m s) [
  | inl w ↦ rw (w.1, w.2) refl
  | inr w ↦ rw (w.3, w.4) (ap suc (count_moved (on m w.2) (after s w.2) n))
]

pub stopped_moved : (m : ℕ × ℕ) (s : Bor (List ℕ)) (n : ℕ) → stopped (moved m s) n ≡ stopped s n
unfolding stopped
stopped_moved m s zero = refl
stopped_moved m s (suc n) = elim (first_moved m s) [
  | inl w ↦ rw (w.1, w.2) refl
  | inr w ↦ rw (w.3, w.4) (ap (λ o. if eqb (length (after s w.2).now) 0 then None else o) (stopped_moved (on m w.2) (after s w.2) n))
]

pub attributes_end : (m : ℕ × ℕ) (s : Bor (List ℕ)) (at n : ℕ) → ends (moved m s) at n ≡ ends s at n
unfolding ends
attributes_end m s at zero = refl
attributes_end m s at (suc n) = elim (first_moved m s) [
  | inl w ↦ rw (w.1, w.2) refl
  | inr w ↦ rw (w.3, w.4, attributes_end (on m w.2) (after s w.2) _ n) refl
]

pub attributes_told : (m : ℕ × ℕ) (s : Bor (List ℕ)) (n : ℕ) → told (listed (moved m s) n) ≡ told (listed s n)
unfolding listed
attributes_told m s zero = refl
attributes_told m s (suc n) = elim (first_moved m s) [
  | inl w ↦ rw (w.1, w.2) refl
  | inr w ↦ rw (w.3, w.4) (ap (λ l. told_of (attribute_in w.0 w.1 s) ∷ l) (attributes_told (on m w.2) (after s w.2) n))
]

-- what stands after them
pub rest_moved : (m : ℕ × ℕ) (s : Bor (List ℕ)) (n : ℕ) → Moved (after_listed s n) (after_listed (moved m s) n)
unfolding after_listed
rest_moved m s zero = (m, refl)
rest_moved m s (suc n) = elim (first_moved m s) [
  | inl w ↦ rw (w.1, w.2) (m, refl)
  | inr w ↦ rw (w.3, w.4) (rest_moved (on m w.2) (after s w.2) n)
]
