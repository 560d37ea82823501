-- What an index means: proved.
use Rattle.std.proofs.Common.{ℕ, zero, suc, ◌+◌, ◌<◌, ◌≤◌, ◌≡◌, refl, sym, ap, subst, ◌∙◌, Bool, true, false, List, [], ◌∷◌, ◌++◌, length, take, drop, arith, Bor, Result, if◌then◌else◌}
use Rattle.std.specs.Prelude.{leb, ltb, filter, Ok, Err}
use Rattle.std.specs.List.{list_any}
use Rattle.std.proofs.lemmas.List.Sums.{length-filter}
use Rattle.std.proofs.Math.ListN.{length-append}
use lib.Seq.{drop_at}
use borrow.Author.Tests.{leb-false, eqb-false, ltb-false, le-ltb, lt-ltb}
use Rattle.refusal.specs.Refusal.{limit}
use Rattle.refusal.specs.declared.Refusal.{Refusal}
use Rattle.refusal.specs.declared.Refusal.TheVariants.{TooLarge, ZeroEntryLength, OutputTooSmall}
use Rattle.entry.specs.Entry.{claim_at}
use Rattle.entry.specs.Walk.{stands, steps_from, steps}
use Rattle.entry.proofs.Claims.{moves_on}
use Rattle.writing.specs.Writing.{answer, Writes}
use Rattle.walk.specs.Pieces.{pieces}
use Rattle.index.specs.Index.{starts, stopped, indexing}
use Rattle.index.specs.Steps.{gives, BySteps}
use Rattle.index.specs.Meaning.{Ascends, done, next, needed, StartsAscend, IsIndex, IndexMeant}
use Rattle.index.proofs.Laws.{index_large, index_zero, index_starts}

weaker : (least less : ℕ) {l : List ℕ} → less ≤ least → Ascends least l → Ascends less l
weaker least less h done = done
weaker least less h (next {at = at} k a) = let m : less ≤ at = omega arith in next m a

steps_ascend : (s : List ℕ) (at left : ℕ) → Ascends at (steps_from s at left)
unfolding steps_from
steps_ascend s at zero = done
steps_ascend s at (suc left) = turn (steps_ascend s (claim_at s at).next left) (leb (length s) at) (stands s at) refl refl
  where
    turn : Ascends (claim_at s at).next (steps_from s (claim_at s at).next left) → (end stand : Bool) → leb (length s) at ≡ end → stands s at ≡ stand → Ascends at (if end then [] else at ∷ (if stand then [] else steps_from s (claim_at s at).next left))
    turn on true stand p q = done
    turn on false true p q = let l : at ≤ at = omega arith in next l done
    turn on false false p q =
        let b : at < (claim_at s at).next = omega (arith, moves_on s at (leb-false (length s) at p), eqb-false (claim_at s at).next at q) in
        let l : at ≤ at = omega arith in
        next l (weaker (claim_at s at).next (suc at) (omega arith) on)

filter_ascends : (test : ℕ → Bool) (least : ℕ) {l : List ℕ} → Ascends least l → Ascends least (filter test l)
filter_ascends test least done = done
filter_ascends test least (next {at = at} {more = more} h a) = turn (test at) (filter_ascends test (suc at) a)
  where
    turn : (t : Bool) → Ascends (suc at) (filter test more) → Ascends least (if t then at ∷ filter test more else filter test more)
    turn true b = next h b
    turn false b = weaker (suc at) least (omega arith) b

-- what is known where an index was built
pub record Built {R : Type 0} (read : Bor (List ℕ) → Result R Refusal) (s : Bor (List ℕ)) (old new : List ℕ) (n : ℕ) : Type 0 where
  pub small : length s.now ≤ limit
  pub none_stood : stopped (pieces read s) ≡ false
  pub long : length (starts (pieces read s)) ≡ n
  pub first : take n new ≡ starts (pieces read s)
  pub fits : n ≤ length new
  pub rest : drop n new ≡ drop n old

take_front : (xs ys : List ℕ) → take (length xs) (xs ++ ys) ≡ xs
take_front [] ys = refl
take_front (x ∷ xs) ys = ap (λ (l : List ℕ). x ∷ l) (take_front xs ys)

module _ {R : Type 0} (read : Bor (List ℕ) → Result R Refusal) (s : Bor (List ℕ)) (old new : List ℕ) (n : ℕ) where
  wrote : (xs : List ℕ) (b : Bool) → Ok n ≡ (if b then Err (OutputTooSmall (length xs) (length old)) else Ok (length xs)) → new ≡ (if b then old else xs ++ drop (length xs) old)
      → (length xs ≡ n) × (take n new ≡ xs) × (n ≤ length new) × (drop n new ≡ drop n old)
  wrote xs true h l = absurd (let z : ◌≡◌ {A = ℕ} 0 1 = cc in omega arith)
  wrote xs false h l =
      let e : length xs ≡ n = cc in
      let m : length new ≡ length xs + length (drop (length xs) old) = ap length l ∙ length-append xs (drop (length xs) old) in
      (e, simp (← e, l) (take_front xs (drop (length xs) old)), omega (arith, e, m), ap (drop n) l ∙ drop_at xs (drop (length xs) old) n e ∙ ap (λ (k : ℕ). drop k old) e)

  built_by : (p q : Bool) → ltb limit (length s.now) ≡ p → stopped (pieces read s) ≡ q
      → Writes (if p then Err (TooLarge (length s.now)) else if q then Err ZeroEntryLength else Ok (starts (pieces read s))) old new (Ok n) → Built read s old new n
  built_by true q e f w = absurd (let h = w.said in let z : ◌≡◌ {A = ℕ} 0 1 = cc in omega arith)
  built_by false true e f w = absurd (let h = w.said in let z : ◌≡◌ {A = ℕ} 0 1 = cc in omega arith)
  built_by false false e f w =
      let x = wrote (starts (pieces read s)) (ltb (length old) (length (starts (pieces read s)))) w.said w.left in
      record { small = ltb-false limit (length s.now) e; none_stood = f; long = x.0; first = x.1; fits = x.2; rest = x.3 }

  pub built : Writes (indexing read s) old new (Ok n) → Built read s old new n
  unfolding indexing
  built w = built_by (ltb limit (length s.now)) (stopped (pieces read s)) refl refl w

-- a refusal leaves the slots
untouched_by : {old new : List ℕ} (xs : List ℕ) {why : Refusal} (b : Bool) (x : Refusal) (n : ℕ)
    → ◌≡◌ {A = Result ℕ Refusal} (Err why) (if b then Err x else Ok n) → new ≡ (if b then old else xs) → new ≡ old
untouched_by xs true x n e l = l
untouched_by xs false x n e l = absurd (let z : ◌≡◌ {A = ℕ} 0 1 = cc in omega arith)

untouched : {old new : List ℕ} {why : Refusal} (w : Result (List ℕ) Refusal) → Writes w old new (Err why) → new ≡ old
untouched {old} (Ok xs) w = untouched_by (xs ++ drop (length xs) old) (ltb (length old) (length xs)) _ _ w.said w.left
untouched (Err x) w = w.left

module _ {R : Type 0} (read : Bor (List ℕ) → Result R Refusal) (steps_are : BySteps read) where
  pub starts_ascend_of : StartsAscend read
  unfolding steps
  starts_ascend_of s = subst (λ (l : List ℕ). Ascends 0 l) (sym (steps_are.starts_are s)) (filter_ascends (gives read s) 0 (steps_ascend s.now 0 (length s.now)))

  number_is : (s : Bor (List ℕ)) → length (starts (pieces read s)) ≡ needed read s
  number_is s = ap length (steps_are.starts_are s) ∙ length-filter (gives read s) (steps s.now)

  index_of : (s : Bor (List ℕ)) (old new : List ℕ) (n : ℕ) → Writes (indexing read s) old new (Ok n) → IsIndex read s old new n
  index_of s old new n w =
      let b = built read s old new n w in
      record { counts = sym b.long ∙ number_is s; fits = b.fits; holds = b.first ∙ steps_are.starts_are s; behind = b.rest }

  -- the answer where the upload is within the limit and no step stands, by whether the slots are too few
  answered : (s : Bor (List ℕ)) (old new : List ℕ) (r : Result ℕ Refusal) → Writes (indexing read s) old new r → length s.now ≤ limit → list_any (stands s.now) (steps s.now) ≡ false
      → r ≡ (if ltb (length old) (needed read s) then Err (OutputTooSmall (needed read s) (length old)) else Ok (needed read s))
  answered s old new r w small none = w.said ∙ simp (index_starts read s small (steps_are.stopped_is s ∙ none), number_is s)

  pub index_meant_of : IndexMeant read
  index_meant_of s old new r w =
      record {
        too_large = λ large. w.said ∙ ap (λ x. answer x (length old)) (index_large read s large);
        zero_claim = λ small stood. w.said ∙ ap (λ x. answer x (length old)) (index_zero read s small (steps_are.stopped_is s ∙ stood));
        too_few = λ small none few. answered s old new r w small none ∙ simp (lt-ltb (length old) (needed read s) few);
        enough = λ small none fits. answered s old new r w small none ∙ simp (le-ltb (length old) (needed read s) fits);
        built = λ n e. index_of s old new n (subst (Writes (indexing read s) old new) e w);
        refused = λ why e. untouched (indexing read s) (subst (Writes (indexing read s) old new) e w);
      }
