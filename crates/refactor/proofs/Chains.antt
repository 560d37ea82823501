-- The records that a chain meets: what is refused or not ended among them decides the chain.
use Rattle.std.proofs.Common.{◌≡◌, ℕ, zero, suc, ◌+◌, ◌<◌, ◌≤◌, Bool, true, false, List, length, drop, Ok, Err, Result, refl, sym, ap, ◌∙◌, arith, Bor}
use Rattle.std.specs.Prelude.{ltb}
use borrow.Author.Tests.{ltb-true, ltb-false}
use native.Mathlib.Nat.{zero-add}
use Rattle.le.proofs.Laws.{not_both}
use Rattle.part.specs.Slice.{after}
use Rattle.refusal.specs.EndBytes.{ended}
use Rattle.refusal.specs.declared.Refusal.{Refusal}
use Rattle.refusal.specs.declared.Refusal.TheVariants.{TooShort, EndByte}
use Rattle.refactor.specs.declared.AdsRefactorInfo.{AdsRefactorInfo}
use Rattle.refactor.specs.Refactor.{first_of, infos_of, ends}
use Rattle.refactor.specs.Laid.{size, name_end, byte, followed, parts, Stands, here, behind}
use Rattle.refactor.specs.Read.{First, first_short, first_cut, first_whole, Chain, chain_short, chain_cut, chain_whole, AllEnded, Ended, EndsRead, all_zero, at_name}
use Rattle.refactor.specs.Chains.{IsRefused, ChainsRefused}
use Rattle.refactor.proofs.Read.{read_whole, first_read, refactors_read}

module _ (s : List ℕ) where
  -- no record is met behind a place
  abbrev Stops : ℕ → Type 0
  Stops at = size (drop at s) ≤ length (drop at s) → followed (drop at s) ≡ true → ⊥

  same_stop : (from at to n m : ℕ) → Stands s from at n → Stands s from to m → Stops at → Stops to → at ≡ to
  same_stop from at to zero zero here here p q = refl
  same_stop from at to zero (suc m) here (behind t b u) p q = absurd (p t b)
  same_stop from at to (suc n) zero (behind t b u) here p q = absurd (q t b)
  same_stop from at to (suc n) (suc m) (behind t b u) (behind v c w) p q = same_stop (from + size (drop from s)) at to n m u w p q

  -- behind so many
  same_place : (from at to n : ℕ) → Stands s from at n → Stands s from to n → at ≡ to
  same_place from at to zero here here = refl
  same_place from at to (suc n) (behind t b u) (behind v c w) = same_place (from + size (drop from s)) at to n u w

is_short : (q : Bor (List ℕ)) → length q.now < 7 → first_of q ≡ Err (TooShort 7 (length q.now))
is_short q l = by_first (first_read q)
  where
    by_first : First q → first_of q ≡ Err (TooShort 7 (length q.now))
    by_first (first_short h e) = e
    by_first (first_cut h k e) = absurd (omega arith)
    by_first (first_whole h e) = absurd (omega arith)

is_cut : (q : Bor (List ℕ)) → 7 ≤ length q.now → length q.now < size q.now → first_of q ≡ Err (TooShort (size q.now) (length q.now))
is_cut q k l = by_first (first_read q)
  where
    by_first : First q → first_of q ≡ Err (TooShort (size q.now) (length q.now))
    by_first (first_short h e) = absurd (omega arith)
    by_first (first_cut h m e) = e
    by_first (first_whole h e) = absurd (omega arith)

not_whole : (q : Bor (List ℕ)) (why : Refusal) → first_of q ≡ Err why → size q.now ≤ length q.now → ⊥
not_whole q why e h = let z : ◌≡◌ {A = Result (AdsRefactorInfo × Bor (List ℕ)) Refusal} (Ok (parts q, after q (size q.now))) (Err why) = sym (read_whole q h) ∙ e in cc

module _ (s : Bor (List ℕ)) (why : Refusal) where
  module _ (i : IsRefused s why) where
    -- where the chain stops, it is at this record
    met_at : (at before : ℕ) → Stands s.now 0 at before → Stops s.now at → first_of (after s at) ≡ Err why
    met_at at before st p = ap (λ (k : ℕ). first_of (after s k)) (same_stop s.now 0 at i.at before i.before st i.met p (λ h b. not_whole (after s i.at) why i.refused h)) ∙ i.refused

    told_of : (at : ℕ) (y : Refusal) → first_of (after s at) ≡ Err y → first_of (after s at) ≡ Err why → infos_of s ≡ Err y → infos_of s ≡ Err why
    told_of at y e f h = let same : y ≡ why = (let z : ◌≡◌ {A = Result (AdsRefactorInfo × Bor (List ℕ)) Refusal} (Err y) (Err why) = sym e ∙ f in cc) in h ∙ ap Err same

    whole_by : Chain s → infos_of s ≡ Err why
    whole_by (chain_short at before st l e) = told_of at _ (is_short (after s at) l) (met_at at before st (λ h b. omega arith)) e
    whole_by (chain_cut at before st k l e) = told_of at _ (is_cut (after s at) k l) (met_at at before st (λ h b. omega arith)) e
    whole_by (chain_whole at before st h b e) = absurd (not_whole (after s at) why (met_at at before st (λ k c. not_both c b)) h)

  only_by : Chain s → infos_of s ≡ Err why → IsRefused s why
  only_by (chain_short at before st l e) h =
      let same : TooShort 7 (length (drop at s.now)) ≡ why = (let z = sym e ∙ h in cc) in
      record { at = at; before = before; met = st; refused = is_short (after s at) l ∙ ap Err same }
  only_by (chain_cut at before st k l e) h =
      let same : TooShort (size (drop at s.now)) (length (drop at s.now)) ≡ why = (let z = sym e ∙ h in cc) in
      record { at = at; before = before; met = st; refused = is_cut (after s at) k l ∙ ap Err same }
  only_by (chain_whole at before st k b e) h = let z = sym e ∙ h in cc

pub chains_refused : ChainsRefused
chains_refused s why = record { whole = λ i. whole_by s why i (refactors_read.chain s); only = only_by s why (refactors_read.chain s) }

-- the end bytes of a chain that begins at place 0
module _ (s : Bor (List ℕ)) where
  abbrev answer : Result Unit Refusal
  answer = ended (ends s 0)

  pub all_pass : AllEnded s.now 0 → answer ≡ Ok tt
  all_pass z = by_ends (refactors_read.ends s 0)
    where
      by_ends : EndsRead s.now 0 0 answer → answer ≡ Ok tt
      by_ends (all_zero rest e) = e
      by_ends (at_name at before st whole rest not e) = absurd (not (z at before st whole))

  pub zero_ends : answer ≡ Ok tt → AllEnded s.now 0
  zero_ends h = by_ends (refactors_read.ends s 0)
    where
      by_ends : EndsRead s.now 0 0 answer → AllEnded s.now 0
      by_ends (all_zero rest e) = rest
      by_ends (at_name at before st whole rest not e) = let z = sym h ∙ e in cc

  module _ (at before : ℕ) (st : Stands s.now 0 at before) (whole : size (drop at s.now) ≤ length (drop at s.now)) (rest : Ended s.now 0 before)
      (not : byte (drop at s.now) (name_end (drop at s.now)) ≡ 0 → ⊥) where
    abbrev told : ℕ → Result Unit Refusal
    told k = Err (EndByte (k + name_end (drop k s.now)) (byte (drop k s.now) (name_end (drop k s.now))))

    by_order : (to n : ℕ) → Stands s.now 0 to n → size (drop to s.now) ≤ length (drop to s.now) → Ended s.now 0 n → (byte (drop to s.now) (name_end (drop to s.now)) ≡ 0 → ⊥)
        → (t : Bool) → ltb before n ≡ t → (u : Bool) → ltb n before ≡ u → at ≡ to
    by_order to n other w others nor true f u g = absurd (not (others at before st (ltb-true before n f) whole))
    by_order to n other w others nor false f true g = absurd (nor (rest to n other (ltb-true n before g) w))
    by_order to n other w others nor false f false g =
        let same : n ≡ before = (let x = ltb-false before n f in let y = ltb-false n before g in omega arith) in
        same_place s.now 0 at to before st (rw same at other)

    pub refused_first : answer ≡ told at
    refused_first = by_ends (refactors_read.ends s 0)
      where
        by_ends : EndsRead s.now 0 0 answer → answer ≡ told at
        by_ends (all_zero z e) = absurd (not (z at before st whole))
        by_ends (at_name to n other w others nor e) =
            e ∙ ap (λ (k : ℕ). Err (EndByte (k + name_end (drop to s.now)) (byte (drop to s.now) (name_end (drop to s.now))))) (zero-add to)
            ∙ ap told (sym (by_order to n other w others nor (ltb before n) refl (ltb n before) refl))
