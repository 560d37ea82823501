-- The reason of a chain, by its bytes, and beside its reader: proved.
use Rattle.std.proofs.Common.{◌≡◌, ℕ, zero, suc, ◌+◌, ◌-◌, ◌<◌, ◌≤◌, Bool, true, false, List, length, drop, Ok, Err, Result, refl, sym, ap, ap₂, ◌∙◌, subst, arith, length-drop, Bor}
use Rattle.std.specs.Prelude.{Some, None, leb, eqb, if◌then◌else◌}
use Rattle.std.proofs.lemmas.Bool.{leb-false}
use borrow.Author.Tests.{leb-true, eqb-true, eqb-false}
use Rattle.le.specs.Le.{le2, le4, has}
use Rattle.part.specs.Slice.{after}
use Rattle.part.specs.Outcome.{outcome}
use Rattle.part.specs.End.{IsEnd, rest_at}
use Rattle.part.proofs.Slice.{after_after}
use Rattle.refusal.specs.declared.Refusal.{Refusal}
use Rattle.refusal.specs.declared.Refusal.TheVariants.{TooShort}
use Rattle.refactor.specs.declared.AdsRefactorInfo.{AdsRefactorInfo}
use Rattle.refactor.specs.Laid as refactor
use Rattle.refactor.specs.Laid.{Stands, here, behind, followed}
use Rattle.refactor.specs.Refactor.{first_of, chained, chain_of}
use Rattle.refactor.specs.Read.{First, first_short, first_cut, first_whole}
use Rattle.refactor.proofs.Read.{first_read}
use Rattle.why.specs.declared.Reason.{Reason}
use Rattle.why.specs.declared.Reason.TheVariants.{NotFlagged, NoRoom, Whole, Refused}
use Rattle.why.specs.Reasons.{chain_from, met_chain_reason, flagged_chain_reason, chain_reason_by}
use Rattle.why.specs.Meant.{IsFlagged, IsCutRecord, least_record, cut_record, IsChain, chain_no_flags, chain_short_flags, chain_unflagged, chain_no_byte, chain_refused, chain_whole}
use Rattle.why.specs.Shown.{kept_of}

-- what a chain meets from a place on, before which it has so many records
data Meets (e : List ℕ) (at from c : ℕ) (x : Reason) : Type 0 where
  meets_refused : (to before : ℕ) (why : Refusal) → Stands e from to before → IsCutRecord (drop to e) why → x ≡ Refused (c + before) to why → Meets e at from c x
  meets_last : (to before : ℕ) → Stands e from to before → refactor.size (drop to e) ≤ length (drop to e) → followed (drop to e) ≡ false → x ≡ Whole at (c + suc before) → Meets e at from c x

module _ (e : Bor (List ℕ)) (at from c f : ℕ) (within : from ≤ length e.now) where
  abbrev q : Bor (List ℕ)
  q = after e from

  place : length e.now - length q.now ≡ from
  place = let d = length-drop from e.now in omega arith

  stops : (why : Refusal) → first_of q ≡ Err why → chain_from (length e.now) at q c (suc f) ≡ Refused c from why
  unfolding chain_from
  stops why g = simp g (ap (λ (k : ℕ). Refused c k why) place)

  at_refused : (why : Refusal) → first_of q ≡ Err why → IsCutRecord q.now why → Meets e.now at from c (chain_from (length e.now) at q c (suc f))
  at_refused why g d = meets_refused from 0 why here d (stops why g ∙ ap (λ (k : ℕ). Refused k from why) (omega arith))

  module _ (h : refactor.size q.now ≤ length q.now) (g : first_of q ≡ Ok (refactor.parts q, after q (refactor.size q.now))) where
    goes_on : followed q.now ≡ true → chain_from (length e.now) at q c (suc f) ≡ chain_from (length e.now) at (after e (from + refactor.size q.now)) (c + 1) f
    unfolding chain_from
    goes_on b = simp (g, b) (ap (λ (x : Bor (List ℕ)). chain_from (length e.now) at x (c + 1) f) (after_after e from (refactor.size q.now)))

    is_last : followed q.now ≡ false → chain_from (length e.now) at q c (suc f) ≡ Whole at (c + 1)
    unfolding chain_from
    is_last b = simp (g, b)

    more : (x : Reason) → followed q.now ≡ true → Meets e.now at (from + refactor.size q.now) (c + 1) x → Meets e.now at from c x
    more x b (meets_refused to before why st d z) = meets_refused to (suc before) why (behind h b st) d (z ∙ ap (λ (k : ℕ). Refused k to why) (omega arith))
    more x b (meets_last to before st t n z) = meets_last to (suc before) (behind h b st) t n (z ∙ ap (λ (k : ℕ). Whole at k) (omega arith))

    by_follower : (b : Bool) → followed q.now ≡ b → (followed q.now ≡ true → Meets e.now at (from + refactor.size q.now) (c + 1) (chain_from (length e.now) at (after e (from + refactor.size q.now)) (c + 1) f))
        → Meets e.now at from c (chain_from (length e.now) at q c (suc f))
    by_follower true b on = subst (Meets e.now at from c) (sym (goes_on b)) (more _ b (on b))
    by_follower false b on = meets_last from 0 here h b (is_last b ∙ ap (λ (k : ℕ). Whole at k) (omega arith))

  by_first : First q → (refactor.size q.now ≤ length q.now → Meets e.now at (from + refactor.size q.now) (c + 1) (chain_from (length e.now) at (after e (from + refactor.size q.now)) (c + 1) f))
      → Meets e.now at from c (chain_from (length e.now) at q c (suc f))
  by_first (first_short h g) on = at_refused _ g (least_record h)
  by_first (first_cut h k g) on = at_refused _ g (cut_record h k)
  by_first (first_whole h g) on = by_follower h g (followed q.now) refl (λ b. on h)

nothing_left : (e : Bor (List ℕ)) (at from c : ℕ) → from ≤ length e.now → length (drop from e.now) ≤ 0 → chain_from (length e.now) at (after e from) c 0 ≡ Refused c from (TooShort 7 (length (drop from e.now)))
unfolding chain_from
nothing_left e at from c l h = ap₂ (λ (k m : ℕ). Refused c k (TooShort 7 m)) (let d = length-drop from e.now in omega arith) (omega arith)

meets : (f : ℕ) (e : Bor (List ℕ)) (at from c : ℕ) → from ≤ length e.now → length (drop from e.now) ≤ f → Meets e.now at from c (chain_from (length e.now) at (after e from) c f)
meets zero e at from c l h = meets_refused from 0 _ here (least_record (omega arith)) (nothing_left e at from c l h ∙ ap (λ (k : ℕ). Refused k from (TooShort 7 (length (drop from e.now)))) (omega arith))
meets (suc f) e at from c l h =
    by_first e at from c f l (first_read (after e from))
    (λ w. let d = length-drop from e.now in let d2 = length-drop (from + refactor.size (drop from e.now)) e.now in meets f e at (from + refactor.size (drop from e.now)) (c + 1) (omega arith) (omega arith))

-- the chain of a symbol, by the place where the extended flags would stand
module _ (e : Bor (List ℕ)) (at : ℕ) (f : IsFlagged e.now 0x8000) (room : at + 4 ≤ length e.now) (b : has (le4 e.now at) 0x0004 ≡ true) where
  met_by : at + 4 < length e.now → (x : Reason) → Meets e.now (at + 4) (at + 4) 0 x → IsChain e.now at x
  met_by l x (meets_refused to before why st d z) = subst (IsChain e.now at) (sym (z ∙ ap (λ (k : ℕ). Refused k to why) (omega arith))) (chain_refused f l b st d)
  met_by l x (meets_last to before st t n z) = subst (IsChain e.now at) (sym (z ∙ ap (λ (k : ℕ). Whole (at + 4) k) (omega arith))) (chain_whole f l b st t n)

  abbrev s : Bor (List ℕ)
  s = after e (at + 4)

  by_byte : (t : Bool) → eqb (length s.now) 0 ≡ t → IsChain e.now at (if t then NoRoom (length e.now) 0 else met_chain_reason (length e.now) s)
  by_byte true g =
      let z : at + 4 ≡ length e.now = (let d = length-drop (at + 4) e.now in let n = eqb-true (length s.now) 0 g in omega arith) in
      subst (λ (k : ℕ). IsChain e.now at (NoRoom k 0)) z (chain_no_byte f z b)
  by_byte false g =
      let d = length-drop (at + 4) e.now in
      let n = eqb-false (length s.now) 0 g in
      let p : length e.now - length s.now ≡ at + 4 = omega arith in
      let m : Meets e.now (at + 4) (at + 4) 0 (chain_from (length e.now) (at + 4) s 0 (length s.now)) = meets (length s.now) e (at + 4) (at + 4) 0 room (omega arith) in
      met_by (omega arith) _ (subst (λ (k : ℕ). Meets e.now (at + 4) (at + 4) 0 (chain_from (length e.now) k s 0 (length s.now))) (sym p) m)

  pub flagged_true : IsChain e.now at (flagged_chain_reason e s)
  flagged_true = by_byte (eqb (length s.now) 0) refl

module _ (e q : Bor (List ℕ)) (at : ℕ) (t : IsEnd e q) (l : at ≤ length e.now) where
  chain_flag : IsFlagged e.now 0x8000 → at + 4 ≤ length e.now → q ≡ after e (at + 4) → (d : Bool) → has (le4 e.now at) 0x0004 ≡ d
      → IsChain e.now at (if d then flagged_chain_reason e q else NotFlagged)
  chain_flag f room z false b = chain_unflagged f room b
  chain_flag f room z true b = subst (λ (x : Bor (List ℕ)). IsChain e.now at (flagged_chain_reason e x)) (sym z) (flagged_true e at f room b)

  pub chain_by : (b c : Bool) → has (le2 e.now 20) 0x8000 ≡ b → leb 4 (length e.now - at) ≡ c → rest_at e q ≡ at + (if (if b then c else false) then 4 else 0)
      → IsChain e.now at (chain_reason_by e q (if (if b then c else false) then Some (record { 0 = le4 e.now at }) else None))
  chain_by false c f g z = chain_no_flags f
  chain_by true false f g z = chain_short_flags (let m = leb-false 4 (length e.now - at) g in omega arith)
  chain_by true true f g z = chain_flag f (let m = leb-true 4 (length e.now - at) g in omega arith) (t.is ∙ ap (after e) z) (has (le4 e.now at) 0x0004) refl

-- as many as its reader counts, and none where it drops the chain
kept_by : (whole at : ℕ) (s : Bor (List ℕ)) (c f : ℕ) (w : Result (AdsRefactorInfo × Bor (List ℕ)) Refusal) → first_of s ≡ w
    → ((p : Bor (List ℕ)) → kept_of (chain_from whole at p (c + 1) f) ≡ outcome (chained p (c + 1) f) (λ x. x.0) (λ why. 0))
    → (b : Bool) → outcome w (λ p. p.0.next_refactor_info) (λ why. false) ≡ b → kept_of (chain_from whole at s c (suc f)) ≡ outcome (chained s c (suc f)) (λ x. x.0) (λ why. 0)
unfolding chain_from chained
kept_by whole at s c f (Err why) e on b g = rw e refl
kept_by whole at s c f (Ok p) e on true g = rw e (rw g (on p.1))
kept_by whole at s c f (Ok p) e on false g = rw e (rw g refl)

nothing_kept : (whole at : ℕ) (s : Bor (List ℕ)) (c : ℕ) → kept_of (chain_from whole at s c 0) ≡ outcome (chained s c 0) (λ x. x.0) (λ why. 0)
unfolding chain_from chained
nothing_kept whole at s c = refl

kept_chain : (f whole at : ℕ) (s : Bor (List ℕ)) (c : ℕ) → kept_of (chain_from whole at s c f) ≡ outcome (chained s c f) (λ x. x.0) (λ why. 0)
kept_chain zero whole at s c = nothing_kept whole at s c
kept_chain (suc f) whole at s c = kept_by whole at s c f (first_of s) refl (λ p. kept_chain f whole at p (c + 1)) _ refl

-- none is kept of a chain of no bytes
none_chained : (s : Bor (List ℕ)) → length s.now ≡ 0 → chain_of s ≡ Err (TooShort 7 0)
unfolding chained
none_chained s z = rw z refl

pub kept_flagged : (e s : Bor (List ℕ)) → kept_of (flagged_chain_reason e s) ≡ outcome (chain_of s) (λ x. x.0) (λ why. 0)
kept_flagged e s = by (eqb (length s.now) 0) refl
  where
    by : (t : Bool) → eqb (length s.now) 0 ≡ t → kept_of (if t then NoRoom (length e.now) 0 else met_chain_reason (length e.now) s) ≡ outcome (chain_of s) (λ x. x.0) (λ why. 0)
    by true g = sym (ap (λ (w : Result (ℕ × Bor (List ℕ)) Refusal). outcome w (λ x. x.0) (λ why. 0)) (none_chained s (eqb-true (length s.now) 0 g)))
    by false g = kept_chain (length s.now) (length e.now) (length e.now - length s.now) s 0
