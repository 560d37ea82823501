-- What the look at end bytes means: proved.
use Rattle.std.proofs.Common.{ℕ, ◌≡◌, refl, ap, ◌∙◌, Bool, true, false, List, [], ◌∷◌, ◌++◌, Ok, Err, Result}
use Rattle.std.specs.Prelude.{eqb, if◌then◌else◌}
use Rattle.std.proofs.lemmas.List.Elements.{All-nil, All-cons, All-head, All-tail}
use borrow.Author.Tests.{eqb-true, eqb-false, ne_eqb}
use Rattle.refusal.specs.declared.Refusal.{Refusal}
use Rattle.refusal.specs.declared.Refusal.TheVariants.{EndByte}
use Rattle.refusal.specs.EndBytes.{ended}
use Rattle.refusal.specs.EndsMeant.{AllZero, FirstNot, EndsMeant}

abbrev is_zero : ℕ × ℕ → Type 0
is_zero b = b.1 ≡ 0

pub zero_passes : (ends : List (ℕ × ℕ)) → AllZero ends → ended ends ≡ Ok tt
unfolding ended
zero_passes [] z = refl
zero_passes (b ∷ ends) z = simp (All-head is_zero b ends z) (zero_passes ends (All-tail is_zero b ends z))

passed_by : (b : ℕ × ℕ) (ends : List (ℕ × ℕ)) → (ended ends ≡ Ok tt → AllZero ends) → (t : Bool) → eqb b.1 0 ≡ t
    → ◌≡◌ {A = Result Unit Refusal} (if t then ended ends else Err (EndByte b.0 b.1)) (Ok tt) → AllZero (b ∷ ends)
passed_by b ends on true t h = All-cons is_zero b ends (eqb-true b.1 0 t) (on h)
passed_by b ends on false t h = cc

pub passed_zero : (ends : List (ℕ × ℕ)) → ended ends ≡ Ok tt → AllZero ends
unfolding ended
passed_zero [] h = All-nil is_zero
passed_zero (b ∷ ends) h = passed_by b ends (passed_zero ends) (eqb b.1 0) refl h

pub first_refused : (before after : List (ℕ × ℕ)) (b : ℕ × ℕ) → AllZero before → (b.1 ≡ 0 → ⊥) → ended (before ++ (b ∷ after)) ≡ Err (EndByte b.0 b.1)
unfolding ended
first_refused [] after b z n = simp (ne_eqb b.1 0 n)
first_refused (x ∷ before) after b z n = simp (All-head is_zero x before z) (first_refused before after b (All-tail is_zero x before z) n)

-- what is refused was met first
abbrev Refused : List (ℕ × ℕ) → Refusal → Type 0
Refused ends why = (e : ℕ × ℕ) × (FirstNot ends e × (why ≡ EndByte e.0 e.1))

refused_by : (b : ℕ × ℕ) (ends : List (ℕ × ℕ)) (why : Refusal) → (ended ends ≡ Err why → Refused ends why) → (t : Bool) → eqb b.1 0 ≡ t
    → ◌≡◌ {A = Result Unit Refusal} (if t then ended ends else Err (EndByte b.0 b.1)) (Err why) → Refused (b ∷ ends) why
refused_by b ends why on true t h =
    let r = on h in
    let f = r.1.0 in
    (r.0, (record { before = b ∷ f.before; behind = f.behind; among = ap (λ (l : List (ℕ × ℕ)). b ∷ l) f.among; zero = All-cons is_zero b f.before (eqb-true b.1 0 t) f.zero; not = f.not }, r.1.1))
refused_by b ends why on false t h = (b, (record { before = []; behind = ends; among = refl; zero = All-nil is_zero; not = eqb-false b.1 0 t }, cc))

refused_first : (ends : List (ℕ × ℕ)) (why : Refusal) → ended ends ≡ Err why → Refused ends why
unfolding ended
refused_first [] why h = cc
refused_first (b ∷ ends) why h = refused_by b ends why (refused_first ends why) (eqb b.1 0) refl h

pub ends_meant : EndsMeant
ends_meant ends = record { passes = zero_passes ends; passed = passed_zero ends; refuses = λ e f. ap ended f.among ∙ first_refused f.before f.behind e f.zero f.not; refused = refused_first ends }
