-- Why bytes and a text are refused: above the limit, and at the first fault. Assumes nothing.
use Rattle.std.proofs.Common.{◌≡◌, refl, sym, ap, ◌∙◌, subst, ◌⊎◌, ⊎_elim, Ok, Err, List, [], ◌++◌, Bool, true, false, ltb, ℕ, ◌+◌, ◌<◌, arith, length, take, drop, length-append, length-take-le, take-append-drop, ltb-true, if◌then◌else◌}
use lib.Seq.{drop-append_seam, take-append_seam}
use Rattle.refusal.specs.Refusal.{limit}
use Rattle.refusal.specs.declared.Refusal.{Refusal}
use Rattle.refusal.specs.declared.Refusal.TheVariants.{TooLarge, BadText}
use Rattle.text.specs.Text.{decoded, decoding, encoded_from, encoding}
use Rattle.text.specs.Faults.{IsNoUtf8, HasNoByte, IsFirstFault, FaultsMeant}
use Rattle.text.proofs.Laws.{too_large, in_limit}
use Rattle.text.proofs.Back.{encoded_nothing, prefixed}
use Rattle.text.proofs.Theory.{Fault, Split, Parted, parted, encoded_front, encoded_fault, source_of, within_of}

first_fault : (t : List ℕ) (why : Refusal) → encoded_from 0 t ≡ Err why → (place : ℕ) × (kind : ℕ) × (why ≡ BadText place kind) × IsFirstFault t place kind
first_fault t why e = ⊎_elim none some u.end
  where
    p : Parted t
    p = parted t

    u : Split t
    u = p.split

    front : List ℕ
    front = decoded u.bytes

    none : u.rest ≡ [] → (place : ℕ) × (kind : ℕ) × (why ≡ BadText place kind) × IsFirstFault t place kind
    none h =
        let v : Ok (u.bytes ++ []) ≡ Err why = ap (prefixed u.bytes) (sym (ap (encoded_from (length front)) h ∙ encoded_nothing (length front))) ∙ sym p.written ∙ e in
        let z : ◌≡◌ {A = ℕ} 0 1 = cc in
        absurd (omega arith)

    some : (kind : ℕ) × Fault u.rest kind → (place : ℕ) × (kind : ℕ) × (why ≡ BadText place kind) × IsFirstFault t place kind
    some f =
        let v : Err (BadText (length front) f.0) ≡ Err why = ap (prefixed u.bytes) (sym (encoded_fault (length front) u.rest f.0 f.1)) ∙ sym p.written ∙ e in
        let rest : drop (length front) t ≡ u.rest = ap (drop (length front)) u.is ∙ drop-append_seam front u.rest in
        let start : take (length front) t ≡ front = ap (take (length front)) u.is ∙ take-append_seam front u.rest in
        let is : why ≡ BadText (length front) f.0 = cc in (
          length front,
          f.0,
          is,
          record {
            inside = omega (arith, ap length u.is, length-append front u.rest, f.1.some);
            before = let w = within_of u.bytes u.are in (w.0, w.1, start ∙ w.2);
            here = subst (λ (l : List ℕ). ((f.0 ≡ 1) × IsNoUtf8 l) ⊎ ((f.0 ≡ 2) × HasNoByte l)) (sym rest) f.1.here;
          },
        )

at_fault : (t : List ℕ) (place kind : ℕ) → IsFirstFault t place kind → encoded_from 0 t ≡ Err (BadText place kind)
at_fault t place kind f =
    let c = source_of f.before.0 f.before.1 in
    let s : List ℕ = c.string in
    let is : take place t ≡ decoded s = f.before.2 ∙ sym c.told in
    let n : 0 + length (decoded s) ≡ place = omega (arith, ap length is, length-take-le place t (omega (arith, f.inside))) in
    let some : 0 < length (drop place t) = omega (arith, f.inside, ap length (take-append-drop place t), length-append (take place t) (drop place t), length-take-le place t (omega (arith, f.inside))) in
    ap (encoded_from 0) (sym (take-append-drop place t) ∙ ap (λ (l : List ℕ). l ++ drop place t) is)
    ∙ encoded_front s (drop place t) 0 c.bytes
    ∙ ap (λ (m : ℕ). prefixed s (encoded_from m (drop place t))) n
    ∙ ap (prefixed s) (encoded_fault place (drop place t) kind (record { some = some; here = f.here }))

-- ---- both directions, with their limit
too_long : (b : Bool) (s bs : List ℕ) (why : Refusal) → ltb limit (length s) ≡ b → (if b then Err (TooLarge (length s)) else Ok bs) ≡ Err why → (16777216 < length s) × (why ≡ TooLarge (length s))
too_long true s bs why h e = (ltb-true limit (length s) h, cc)
too_long false s bs why h e = cc

pub faults_meant : FaultsMeant
unfolding decoding encoding
faults_meant = record {
  bytes = λ s why. (too_long (ltb limit (length s)) s (decoded s) why refl, λ h. too_large s (Ok (decoded s)) h.0 ∙ ap Err (sym h.1));
  large = λ t h. too_large t (encoded_from 0 t) h;
  faults = λ t why l. (
    λ e. first_fault t why (sym (in_limit t (encoded_from 0 t) l) ∙ e),
    λ h. in_limit t (encoded_from 0 t) l ∙ at_fault t h.0 h.1 h.3 ∙ ap Err (sym h.2),
  );
}
