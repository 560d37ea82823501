-- There is one cover of an upload.
use Rattle.std.proofs.Common.{ℕ, ◌≤◌, ◌≡◌, refl, sym, ap, ◌∙◌, List, ◌∷◌, ◌++◌, length, arith, Bor, Result}
use mathlib.Core.Path.{ap₂}
use Rattle.le.specs.Le.{part}
use Rattle.refusal.specs.declared.Refusal.{Refusal}
use Rattle.refusal.specs.declared.Figures.{Figures}
use Rattle.regrown.specs.Regrown.{Tells, Entry, Refused}
use Rattle.salvage.specs.Meaning.{told_at, Cover, done, entry, run, zero_claim, CoverOnce}

-- what a step tells is one thing
same_size : {S : Type 0} {r r' : S} {l k n n' : ℕ} → ◌≡◌ {A = Tells S} (Entry r l n) (Entry r' k n') → l ≡ k
same_size e = cc

same_next : {S : Type 0} {w w' : Figures} {n n' : ℕ} → ◌≡◌ {A = Tells S} (Refused w n) (Refused w' n') → n ≡ n'
same_next e = cc

same_why : {S : Type 0} {w w' : Figures} {n n' : ℕ} → ◌≡◌ {A = Tells S} (Refused w n) (Refused w' n') → w ≡ w'
same_why e = cc

never : {S : Type 0} {r : S} {w : Figures} {l n n' : ℕ} → ◌≡◌ {A = Tells S} (Entry r l n) (Refused w n') → ⊥
never e = let z : ◌≡◌ {A = ℕ} 0 1 = cc in omega arith

-- so the first pieces of two covers from one place are the same, and what follows them
abbrev slots : ℕ → ℕ → ℕ → List ℕ → List ℕ
slots a l n r = a ∷ l ∷ n ∷ r

same_slots : {a b l k n n' : ℕ} {r r' : List ℕ} → a ≡ b → l ≡ k → n ≡ n' → r ≡ r' → slots a l n r ≡ slots b k n' r'
same_slots e f g h = ap₂ (λ (x : ℕ) (y : List ℕ). x ∷ y) e (ap₂ (λ (x : ℕ) (y : List ℕ). x ∷ y) f (ap₂ (λ (x : ℕ) (y : List ℕ). x ∷ y) g h))

module _ {R S : Type 0} (read : Bor (List ℕ) → Result R Refusal) (length_of : R → ℕ) (told : R → S) (Reason : ℕ → Type 0) (s : Bor (List ℕ)) where
  abbrev C : ℕ → List ℕ → List ℕ → List ℕ → Type 0
  C = Cover read length_of told Reason s

  abbrev tell : ℕ → Tells S
  tell = told_at read length_of told Reason s

  -- no piece begins beyond the end
  ends_in : {at : ℕ} {more new runs : List ℕ} → C at more new runs → at ≤ length s.now
  ends_in done = omega arith
  ends_in (entry h t c) = omega (arith, ends_in c)
  ends_in (run h t r c) = omega (arith, ends_in c)
  ends_in (zero_claim h t e c) = omega (arith, ends_in c)

  once : {at at' : ℕ} {m n r m' n' r' : List ℕ} → C at m n r → C at' m' n' r' → at ≡ at' → (m ≡ m') × (n ≡ n') × (r ≡ r')
  once done done e = (refl, refl, refl)
  once done (entry h t c) e = absurd (let z : ⊥ = omega (arith, ends_in c) in z)
  once done (run h t x c) e = absurd (let z : ⊥ = omega (arith, ends_in c) in z)
  once done (zero_claim h t x c) e = absurd (let z : ⊥ = omega (arith, ends_in c) in z)
  once (entry h t c) done e = absurd (let z : ⊥ = omega (arith, ends_in c) in z)
  once (run h t x c) done e = absurd (let z : ⊥ = omega (arith, ends_in c) in z)
  once (zero_claim h t x c) done e = absurd (let z : ⊥ = omega (arith, ends_in c) in z)
  once (entry {at = a} {long = l} h t c) (entry {at = b} {long = k} h' t' c') e =
      let q : l ≡ k = same_size (sym t ∙ (ap tell e ∙ t')) in
      let i = once c c' (omega (arith, e, q)) in
      (ap₂ (λ (x : ℕ) (y : List ℕ). x ∷ y) e i.0, ap₂ (λ (x y : List ℕ). x ++ y) (ap₂ (part s.now) e q) i.1, i.2)
  once (entry {at = a} {long = l} h t c) (run {at = b} {long = k} h' t' x' c') e = absurd (never (sym t ∙ (ap tell e ∙ t')))
  once (entry {at = a} {long = l} h t c) (zero_claim {at = b} {long = k} h' t' x' c') e = absurd (never (sym t ∙ (ap tell e ∙ t')))
  once (run {at = a} {long = l} h t x c) (entry {at = b} {long = k} h' t' c') e = absurd (never (sym t' ∙ (ap tell (sym e) ∙ t)))
  once (zero_claim {at = a} {long = l} h t x c) (entry {at = b} {long = k} h' t' c') e = absurd (never (sym t' ∙ (ap tell (sym e) ∙ t)))
  once (run {at = a} {long = l} h t x c) (run {at = b} {long = k} h' t' x' c') e =
      let p = sym t ∙ (ap tell e ∙ t') in
      let q : l ≡ k = omega (arith, e, same_next p) in
      let i = once c c' (omega (arith, e, q)) in
      (i.0, i.1, same_slots e q (ap (λ (f : Figures). f.number) (same_why p)) i.2)
  once (run {at = a} {long = l} h t x c) (zero_claim {at = b} {long = k} h' t' x' c') e =
      absurd (let z : ⊥ = omega (arith, e, h, same_next (sym t ∙ (ap tell e ∙ t'))) in z)
  once (zero_claim {at = a} {long = l} h t x c) (run {at = b} {long = k} h' t' x' c') e =
      absurd (let z : ⊥ = omega (arith, e, h', same_next (sym t ∙ (ap tell e ∙ t'))) in z)
  once (zero_claim {at = a} {long = l} h t x c) (zero_claim {at = b} {long = k} h' t' x' c') e =
      let q : l ≡ k = omega (arith, e, x, x') in
      let i = once c c' (omega (arith, e, q)) in
      (i.0, i.1, same_slots e q refl i.2)

pub cover_once_of : {R S : Type 0} (read : Bor (List ℕ) → Result R Refusal) (length_of : R → ℕ) (told : R → S) (Reason : ℕ → Type 0) → CoverOnce read length_of told Reason
cover_once_of read length_of told Reason s at more new runs more' new' runs' c d = once read length_of told Reason s c d refl
