-- Entries that were written one behind another: where they start.
use Rattle.std.proofs.Common.{ℕ, zero, suc, ◌+◌, min, ◌<◌, ◌≤◌, ◌≡◌, ◌≢◌, refl, sym, ap, ap₂, subst, ◌∙◌, Bool, false, List, [], ◌∷◌, ◌++◌, length, length-append, take, drop, arith, Bor, if◌then◌else◌, ne_eqb}
use Rattle.std.specs.Prelude.{Some, Ok, eqb}
use Rattle.std.proofs.Math.Seq.{drop-append_seam, take-append_seam}
use Rattle.std.proofs.lemmas.List.{append_assoc}
use native.Mathlib.Nat.{add-zero}
use borrow.Author.Tests.{le-leb, lt-leb}
use Rattle.le.specs.Le.{le4}
use Rattle.le.proofs.Laws.{le4_bytes4}
use Rattle.le.proofs.Inside.{le4_inside}
use Rattle.refusal.specs.Refusal.{limit}
use Rattle.entry.specs.Entry.{claim_at, claimed}
use Rattle.entry.specs.declared.Claimed.{Claimed}
use Rattle.entry.specs.Walk.{stands, steps_from}
use Rattle.writing.specs.Layout.{entry_bytes}
use Rattle.writing.proofs.Entry.{length_entry}
use Rattle.regrown.specs.Regrown.{Grown, entry_of, upload}
use Rattle.regrown.proofs.Whole.{Whole, claim_whole}
use Rattle.bind.specs.Reading.{behind, own_of}

-- an entry claims its own length
pub whole_entry : (e body : List ℕ) → e ≡ entry_bytes body → length e ≤ limit → Whole e
unfolding entry_bytes
whole_entry e body is small =
    let long : length e ≡ length (entry_bytes body) = ap (λ (l : List ℕ). length l) is in
    let fits : length body + 4 < 4294967296 = omega (arith, long, length_entry body, small) in
    subst Whole (sym is) record { claims = le4_bytes4 (length body + 4) body fits ∙ sym (length_entry body); long = omega (arith, length_entry body) }

-- the claim of an entry among others, and its own bytes
claim_of : (p e q : List ℕ) → Whole e → le4 (p ++ (e ++ q)) (length p) ≡ length e
claim_of p e q w = rw add-zero at (le4_inside p e q 0 w.long) ∙ w.claims

pub own_first : (s : Bor (List ℕ)) (e q : List ℕ) → s.now ≡ e ++ q → Whole e → ((own_of s).now ≡ e) × ((behind s (le4 s.now 0)).now ≡ q)
own_first s e q is w =
    let claim : le4 s.now 0 ≡ length e = ap (λ (l : List ℕ). le4 l 0) is ∙ claim_of [] e q w in
    let long : length s.now ≡ length e + length q = ap (λ (l : List ℕ). length l) is ∙ length-append e q in
    let all : min (le4 s.now 0) (length s.now) ≡ length e = omega (arith, claim, long) in (
      ap₂ (λ (n : ℕ) (l : List ℕ). take n l) claim is ∙ take-append_seam e q,
      ap₂ (λ (n : ℕ) (l : List ℕ). drop n l) all is ∙ drop-append_seam e q,
    )

pub own_among : (s : Bor (List ℕ)) (p e q : List ℕ) → s.now ≡ p ++ (e ++ q) → Whole e → (own_of (behind s (length p))).now ≡ e
own_among s p e q is w =
    let long : length s.now ≡ length p + length (e ++ q) = ap (λ (l : List ℕ). length l) is ∙ length-append p (e ++ q) in
    let at : min (length p) (length s.now) ≡ length p = omega (arith, long) in
    let there : (behind s (length p)).now ≡ e ++ q = ap₂ (λ (n : ℕ) (l : List ℕ). drop n l) at is ∙ drop-append_seam p (e ++ q) in
    (own_first (behind s (length p)) e q there w).0

module _ {P : Type 0} (Fit : P → Type 0) (written : P → List ℕ) (body : Grown Fit → List ℕ) (entry_is : (g : Grown Fit) → entry_of Fit written g ≡ entry_bytes (body g)) where
  abbrev pub entry : Grown Fit → List ℕ
  entry = entry_of Fit written

  abbrev pub all : List (Grown Fit) → List ℕ
  all = upload Fit written

  pub whole : (g : Grown Fit) → length (entry g) ≤ limit → Whole (entry g)
  whole g small = whole_entry (entry g) (body g) (entry_is g) small

  -- where each starts
  abbrev pub places : ℕ → List (Grown Fit) → List ℕ
  places at [] = []
  places at (g ∷ gs) = at ∷ places (at + length (entry g)) gs

  pub upload_split : (before : List (Grown Fit)) (g : Grown Fit) (later : List (Grown Fit)) → all (before ++ (g ∷ later)) ≡ all before ++ (entry g ++ all later)
  upload_split [] g later = refl
  upload_split (b ∷ before) g later = ap (λ (l : List ℕ). entry b ++ l) (upload_split before g later) ∙ sym (append_assoc (entry b) (all before) (entry g ++ all later))

  pub places_split : (at : ℕ) (before : List (Grown Fit)) (g : Grown Fit) (later : List (Grown Fit))
      → places at (before ++ (g ∷ later)) ≡ places at before ++ ((at + length (all before)) ∷ places (at + length (all before) + length (entry g)) later)
  places_split at [] g later = let none : at ≡ at + length (all []) = omega arith in ap (λ (k : ℕ). k ∷ places (k + length (entry g)) later) none
  places_split at (b ∷ before) g later =
      let more : at + length (entry b) + length (all before) ≡ at + length (all (b ∷ before)) = omega (arith, length-append (entry b) (all before)) in
      ap (λ (l : List ℕ). at ∷ l) (places_split (at + length (entry b)) before g later)
      ∙ ap (λ (k : ℕ). at ∷ (places (at + length (entry b)) before ++ (k ∷ places (k + length (entry g)) later))) more

  pub steps_are : (p : List ℕ) (gs : List (Grown Fit)) (n : ℕ) → length (p ++ all gs) ≤ limit → length (all gs) ≤ n → steps_from (p ++ all gs) (length p) n ≡ places (length p) gs
  unfolding steps_from
  steps_are p [] zero l h = refl
  steps_are p [] (suc n) l h =
      let end : length (p ++ []) ≤ length p = omega (arith, length-append p []) in
      ap (λ (t : Bool). if t then [] else length p ∷ (if stands (p ++ []) (length p) then [] else steps_from (p ++ []) (claim_at (p ++ []) (length p)).next n)) (le-leb (length (p ++ [])) (length p) end)
  steps_are p (g ∷ gs) zero l h =
      let all_long = length-append (entry g) (all gs) in
      let w = whole g (omega (arith, l, length-append p (all (g ∷ gs)), all_long)) in
      absurd (omega (arith, h, all_long, w.long))
  steps_are p (g ∷ gs) (suc n) l h =
      let e : List ℕ = entry g in
      let q : List ℕ = all gs in
      let s : List ℕ = p ++ (e ++ q) in
      let at : ℕ = length p in
      let all_long : length (e ++ q) ≡ length e + length q = length-append e q in
      let long : length s ≡ length p + length (e ++ q) = length-append p (e ++ q) in
      let w : Whole e = whole g (omega (arith, l, long, all_long)) in
      let c : claim_at s at ≡ claimed (Some (Ok (length e))) (at + length e) = claim_whole p e q w l in
      let next : (claim_at s at).next ≡ at + length e = ap (λ (x : Claimed). x.next) c in
      let inside : at < length s = omega (arith, long, all_long, w.long) in
      let moved : at + length e ≢ at = omega (arith, w.long) in
      let goes : stands s at ≡ false = ap (λ (k : ℕ). eqb k at) next ∙ ne_eqb (at + length e) at moved in
      let same : s ≡ (p ++ e) ++ q = sym (append_assoc p e q) in
      let more = steps_are (p ++ e) gs n (omega (arith, l, ap (λ (x : List ℕ). length x) same)) (omega (arith, h, all_long, w.long)) in
      let there : length (p ++ e) ≡ at + length e = length-append p e in
      ap (λ (t : Bool). if t then [] else at ∷ (if stands s at then [] else steps_from s (claim_at s at).next n)) (lt-leb (length s) at inside)
      ∙ ap (λ (t : Bool). at ∷ (if t then [] else steps_from s (claim_at s at).next n)) goes
      ∙ ap₂ (λ (k : ℕ) (x : List ℕ). at ∷ steps_from x k n) (next ∙ sym there) same
      ∙ ap (λ (x : List ℕ). at ∷ x) more
      ∙ ap (λ (k : ℕ). at ∷ places k gs) there
