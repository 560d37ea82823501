-- What is read of a refactor record and of a chain, by their bytes: proved.
use Rattle.std.proofs.Common.{◌≡◌, inl, inr, ℕ, zero, suc, ◌+◌, ◌<◌, ◌≤◌, Bool, true, false, List, [], ◌∷◌, length, drop, Ok, Err, Result, refl, sym, ap, ap₂, ◌∙◌, subst, arith, length-drop, Bor}
use Rattle.std.specs.Prelude.{eqb, ltb, slice_get, Some, if◌then◌else◌}
use Rattle.std.proofs.lemmas.List.Elements.{All-nil}
use native.Mathlib.Nat.{zero-add, add-zero, add_assoc}
use borrow.Author.Tests.{ltb-true, ltb-false, eqb-true, eqb-false}
use Rattle.le.proofs.Laws.{not_both}
use Rattle.part.specs.Slice.{after}
use Rattle.part.specs.Outcome.{and_then}
use Rattle.refusal.specs.Refusal.{limit}
use Rattle.refusal.specs.EndBytes.{ended}
use Rattle.refusal.specs.declared.Mode.{Mode}
use Rattle.refusal.specs.declared.Mode.TheVariants.{Present, Checked}
use Rattle.refusal.specs.declared.Refusal.{Refusal}
use Rattle.refusal.specs.declared.Refusal.TheVariants.{TooShort, EndByte}
use Rattle.refusal.proofs.EndBytes.{ended_passed, ended_none}
use Rattle.refusal.proofs.EndsMeant.{first_refused}
use Rattle.refactor.specs.declared.AdsRefactorInfo.{AdsRefactorInfo}
use Rattle.refactor.specs.Refactor.{first_of, alone, listed, chained, chain_of, ends, ends_from}
use Rattle.refactor.specs.Laid.{size, name_end, byte, followed, parts, Stands, here, behind}
use Rattle.refactor.specs.Read.{First, first_short, first_cut, first_whole, Alone, too_large, short, cut, name_refused, accepted, Chain, chain_short, chain_cut, chain_whole, AllEnded, Ended, EndsRead, all_zero, at_name, ChainAlone, chain_large, chain_present, chain_refused, chain_ended, RefactorsRead}
use Rattle.refactor.proofs.Again as again
use Rattle.part.proofs.Slice.{after_after, after_zero}
use Rattle.refactor.proofs.Again.{n_of, first_here, length_name, listed_here}
use Rattle.refactor.proofs.Turn.{end_passes, ends_refused, nothing_ended}

module _ (s : Bor (List ℕ)) where
  pub read_whole : size s.now ≤ length s.now → first_of s ≡ Ok (parts s, after s (size s.now))
  read_whole h = first_here s (omega arith) ∙ ap (λ (k : ℕ). Ok (parts s, after s k)) (omega arith)

  first_by : (t : Bool) → ltb (length s.now) 7 ≡ t → (u : Bool) → ltb (length s.now) (n_of s + 7) ≡ u → First s
  unfolding first_of
  first_by true e u f = first_short (ltb-true (length s.now) 7 e) (simp e)
  first_by false e true f =
      let l = ltb-true (length s.now) (n_of s + 7) f in
      first_cut (ltb-false (length s.now) 7 e) (omega arith) (simp (e, f) (ap (λ (k : ℕ). Err (TooShort k (length s.now))) (omega arith)))
  first_by false e false f =
      let l = ltb-false (length s.now) (n_of s + 7) f in
      first_whole (omega arith) (read_whole (omega arith))

  pub first_read : First s
  first_read = first_by (ltb (length s.now) 7) refl (ltb (length s.now) (n_of s + 7)) refl

-- one that is read alone
module _ (s : Bor (List ℕ)) (l : ltb limit (length s.now) ≡ false) where
  within : length s.now ≤ 16777216
  within = ltb-false limit (length s.now) l

  module _ (h : size s.now ≤ length s.now) (e : first_of s ≡ Ok (parts s, after s (size s.now))) where
    abbrev end : ℕ × ℕ
    end = (6 + length (parts s).name.now, byte s.now (6 + length (parts s).name.now))

    end_is : end ≡ (name_end s.now, byte s.now (name_end s.now))
    end_is = ap (λ (k : ℕ). (6 + k, byte s.now (6 + k))) (length_name s (omega arith))

    checked : alone Checked s ≡ and_then (ended ((name_end s.now, byte s.now (name_end s.now)) ∷ [])) (λ _. Ok (parts s))
    checked = simp (l, e) (ap (λ (x : ℕ × ℕ). and_then (ended (x ∷ [])) (λ _. Ok (parts s))) end_is)

    whole_by : (mode : Mode) → (t : Bool) → eqb (byte s.now (name_end s.now)) 0 ≡ t → Alone mode s
    whole_by Present t f = accepted within h (inl refl) (simp (l, e))
    whole_by Checked false f =
        let not = eqb-false (byte s.now (name_end s.now)) 0 f in
        name_refused within h refl not (checked
        ∙ ap (λ (x : Result Unit Refusal). and_then x (λ _. Ok (parts s))) (first_refused [] [] (name_end s.now, byte s.now (name_end s.now)) (All-nil (λ (x : ℕ × ℕ). x.1 ≡ 0)) not))
    whole_by Checked true f =
        let z = eqb-true (byte s.now (name_end s.now)) 0 f in
        accepted within h (inr z) (checked ∙ ap (λ (x : Result Unit Refusal). and_then x (λ _. Ok (parts s))) (end_passes (name_end s.now) (byte s.now (name_end s.now)) z))

  alone_by : (mode : Mode) → First s → Alone mode s
  alone_by mode (first_short h e) = short h (simp (l, e))
  alone_by mode (first_cut h k e) = cut within h k (simp (l, e))
  alone_by mode (first_whole h e) = whole_by h e mode (eqb (byte s.now (name_end s.now)) 0) refl

alone_read : (mode : Mode) (s : Bor (List ℕ)) (t : Bool) → ltb limit (length s.now) ≡ t → Alone mode s
alone_read mode s true l = too_large (ltb-true limit (length s.now) l) (simp l)
alone_read mode s false l = alone_by s l mode (first_read s)

-- a chain from a place on, before which it has so many records
data From (w : Bor (List ℕ)) (from c : ℕ) (r : Result (ℕ × Bor (List ℕ)) Refusal) : Type 0 where
  short_from : (at before : ℕ) → Stands w.now from at before → length (drop at w.now) < 7 → r ≡ Err (TooShort 7 (length (drop at w.now))) → From w from c r
  cut_from : (at before : ℕ) → Stands w.now from at before → 7 ≤ length (drop at w.now) → length (drop at w.now) < size (drop at w.now)
      → r ≡ Err (TooShort (size (drop at w.now)) (length (drop at w.now))) → From w from c r
  whole_from : (at before : ℕ) → Stands w.now from at before → size (drop at w.now) ≤ length (drop at w.now) → followed (drop at w.now) ≡ false
      → r ≡ Ok (c + suc before, after w (at + size (drop at w.now))) → From w from c r

module _ (w : Bor (List ℕ)) (from c f : ℕ) where
  abbrev rest : Bor (List ℕ)
  rest = after w from

  stops : (why : Refusal) → first_of rest ≡ Err why → chained rest c (suc f) ≡ Err why
  unfolding chained
  stops why e = simp e

  module _ (h : size rest.now ≤ length rest.now) (e : first_of rest ≡ Ok (parts rest, after rest (size rest.now))) where
    goes_on : followed rest.now ≡ true → chained rest c (suc f) ≡ chained (after w (from + size rest.now)) (c + 1) f
    unfolding chained
    goes_on b = simp (e, b) (ap (λ (x : Bor (List ℕ)). chained x (c + 1) f) (after_after w from (size rest.now)))

    is_last : followed rest.now ≡ false → chained rest c (suc f) ≡ Ok (c + 1, after w (from + size rest.now))
    unfolding chained
    is_last b = simp (e, b) (ap (λ (x : Bor (List ℕ)). Ok (c + 1, x)) (after_after w from (size rest.now)))

    more : (r : Result (ℕ × Bor (List ℕ)) Refusal) → followed rest.now ≡ true → From w (from + size rest.now) (c + 1) r → From w from c r
    more r b (short_from at before st l q) = short_from at (suc before) (behind h b st) l q
    more r b (cut_from at before st k l q) = cut_from at (suc before) (behind h b st) k l q
    more r b (whole_from at before st k l q) = whole_from at (suc before) (behind h b st) k l (q ∙ ap (λ (k : ℕ). Ok (k, after w (at + size (drop at w.now)))) (omega arith))

    by_follower : (b : Bool) → followed rest.now ≡ b → From w (from + size rest.now) (c + 1) (chained (after w (from + size rest.now)) (c + 1) f) → From w from c (chained rest c (suc f))
    by_follower true b on = subst (From w from c) (sym (goes_on b)) (more _ b on)
    by_follower false b on = whole_from from 0 here h b (is_last b)

  by_first : First rest → (size rest.now ≤ length rest.now → From w (from + size rest.now) (c + 1) (chained (after w (from + size rest.now)) (c + 1) f)) → From w from c (chained rest c (suc f))
  by_first (first_short h e) on = short_from from 0 here h (stops _ e)
  by_first (first_cut h k e) on = cut_from from 0 here h k (stops _ e)
  by_first (first_whole h e) on = by_follower h e (followed rest.now) refl (on h)

nothing : (w : Bor (List ℕ)) (from c : ℕ) → length (drop from w.now) ≤ 0 → chained (after w from) c 0 ≡ Err (TooShort 7 (length (drop from w.now)))
unfolding chained
nothing w from c h = ap (λ (k : ℕ). Err (TooShort 7 k)) (omega arith)

from_here : (f : ℕ) (w : Bor (List ℕ)) (from c : ℕ) → length (drop from w.now) ≤ f → From w from c (chained (after w from) c f)
from_here zero w from c h = short_from from 0 here (omega arith) (nothing w from c h)
from_here (suc f) w from c h =
    by_first w from c f (first_read (after w from))
    (λ t. from_here f w (from + size (drop from w.now)) (c + 1) (omega (arith, length-drop from w.now, length-drop (from + size (drop from w.now)) w.now)))

chain_by : (s : Bor (List ℕ)) → From s 0 0 (chain_of s) → Chain s
chain_by s (short_from at before st l e) = chain_short at before st l (simp e)
chain_by s (cut_from at before st k l e) = chain_cut at before st k l (simp e)
chain_by s (whole_from at before st k l e) = chain_whole at before st k l (simp e (ap (λ (k : ℕ). Ok (record { bytes = s; count = k }, after s (at + size (drop at s.now)))) (zero-add (suc before))))

chain_read : (s : Bor (List ℕ)) → Chain s
chain_read s = chain_by s (subst (λ x. From s 0 0 (chained x 0 (length s.now))) (sym (after_zero s)) (from_here (length s.now) s 0 0 (omega arith)))

-- a record of a chain, by the number of those before it
behind_one : (w : Bor (List ℕ)) (from : ℕ) → (again.here (after w from)).1 ≡ after w (from + size (drop from w.now))
behind_one w from = ap (after (after w from)) (omega arith) ∙ after_after w from (size (drop from w.now))

each_at : (w : Bor (List ℕ)) (from at before count : ℕ) → Stands w.now from at before → before < count → size (drop at w.now) ≤ length (drop at w.now)
    → slice_get (listed (after w from) count) before ≡ Some (parts (after w at))
each_at w from at before zero st l h = absurd (omega arith)
each_at w from at zero (suc count) here l h = ap (λ (x : List AdsRefactorInfo). slice_get x 0) (listed_here (after w from) count (omega arith))
each_at w from at (suc before) (suc count) (behind t b st) l h =
    ap (λ (x : List AdsRefactorInfo). slice_get x (suc before)) (listed_here (after w from) count (omega arith))
    ∙ ap (λ (x : Bor (List ℕ)). slice_get (listed x count) before) (behind_one w from)
    ∙ each_at w (from + size (drop from w.now)) at before count st (omega arith) h

-- the end bytes of a chain from a place on
module _ (s : Bor (List ℕ)) (at left : ℕ) (h : size s.now ≤ length s.now) where
  abbrev end_at : ℕ × ℕ
  end_at = (at + name_end s.now, byte s.now (name_end s.now))

  ends_laid : (b : Bool) → followed s.now ≡ b → ends_from s at (suc left) ≡ end_at ∷ (if b then ends_from (after s (size s.now)) (at + size s.now) left else [])
  unfolding ends_from
  ends_laid true e = simp (read_whole s h, e, length_name s (omega arith)) (ap (λ (k : ℕ). end_at ∷ ends_from (after s (size s.now)) k left) (omega arith))
  ends_laid false e = simp (read_whole s h, e, length_name s (omega arith))

  end_refused : (byte s.now (name_end s.now) ≡ 0 → ⊥) → ended (ends_from s at (suc left)) ≡ Err (EndByte (at + name_end s.now) (byte s.now (name_end s.now)))
  end_refused not = ap ended (ends_laid (followed s.now) refl) ∙ first_refused [] _ end_at (All-nil (λ (x : ℕ × ℕ). x.1 ≡ 0)) not

  end_passed : byte s.now (name_end s.now) ≡ 0 → followed s.now ≡ true → ended (ends_from s at (suc left)) ≡ ended (ends_from (after s (size s.now)) (at + size s.now) left)
  end_passed z b = ap ended (ends_laid true b) ∙ ended_passed end_at _ (end_passes (at + name_end s.now) (byte s.now (name_end s.now)) z)

  last_passed : byte s.now (name_end s.now) ≡ 0 → followed s.now ≡ false → ended (ends_from s at (suc left)) ≡ Ok tt
  last_passed z b = ap ended (ends_laid false b) ∙ end_passes (at + name_end s.now) (byte s.now (name_end s.now)) z

none_there : (s : List ℕ) (from at before : ℕ) → Stands s from at before → length (drop from s) < size (drop from s) → size (drop at s) ≤ length (drop at s) → ⊥
none_there s from at zero here l whole = omega arith
none_there s from at (suc before) (behind t b st) l whole = omega arith

nothing_met : (s : List ℕ) (from : ℕ) → Ended s from 0
nothing_met s from at before st l whole = absurd (omega arith)

module _ (s : List ℕ) (from : ℕ) (z : byte (drop from s) (name_end (drop from s)) ≡ 0) where
  all_more : AllEnded s (from + size (drop from s)) → (at before : ℕ) → Stands s from at before → size (drop at s) ≤ length (drop at s) → byte (drop at s) (name_end (drop at s)) ≡ 0
  all_more rest at zero here whole = z
  all_more rest at (suc before) (behind t b st) whole = rest at before st whole

  ended_more : (most : ℕ) → Ended s (from + size (drop from s)) most → (at before : ℕ) → Stands s from at before → before < suc most → size (drop at s) ≤ length (drop at s)
      → byte (drop at s) (name_end (drop at s)) ≡ 0
  ended_more most rest at zero here l whole = z
  ended_more most rest at (suc before) (behind t b st) l whole = rest at before st (omega arith) whole

  one_alone : followed (drop from s) ≡ false → (at before : ℕ) → Stands s from at before → size (drop at s) ≤ length (drop at s) → byte (drop at s) (name_end (drop at s)) ≡ 0
  one_alone f at zero here whole = z
  one_alone f at (suc before) (behind t b st) whole = absurd (not_both b f)

  ends_more : (place : ℕ) (r : Result Unit Refusal) → size (drop from s) ≤ length (drop from s) → followed (drop from s) ≡ true → EndsRead s place (from + size (drop from s)) r → EndsRead s place from r
  ends_more place r h b (all_zero rest e) = all_zero (all_more rest) e
  ends_more place r h b (at_name at before st whole rest not e) = at_name at (suc before) (behind h b st) whole (ended_more before rest) not e

module _ (w : Bor (List ℕ)) (place from left : ℕ) where
  abbrev chain_rest : Bor (List ℕ)
  chain_rest = after w from

  abbrev answer : Result Unit Refusal
  answer = ended (ends_from chain_rest (place + from) (suc left))

  abbrev answer_behind : Result Unit Refusal
  answer_behind = ended (ends_from (after w (from + size chain_rest.now)) (place + (from + size chain_rest.now)) left)

  by_next : size chain_rest.now ≤ length chain_rest.now → byte chain_rest.now (name_end chain_rest.now) ≡ 0 → (b : Bool) → followed chain_rest.now ≡ b
      → EndsRead w.now place (from + size chain_rest.now) answer_behind → EndsRead w.now place from answer
  by_next h z true b on =
      let e : answer ≡ answer_behind =
      end_passed chain_rest (place + from) left h z b ∙ ap₂ (λ (x : Bor (List ℕ)) (k : ℕ). ended (ends_from x k left)) (after_after w from (size chain_rest.now)) (add_assoc place from (size chain_rest.now)) in
      subst (EndsRead w.now place from) (sym e) (ends_more w.now from z place answer_behind h b on)
  by_next h z false b on = all_zero (one_alone w.now from z b) (last_passed chain_rest (place + from) left h z b)

  by_byte : size chain_rest.now ≤ length chain_rest.now → (t : Bool) → eqb (byte chain_rest.now (name_end chain_rest.now)) 0 ≡ t
      → EndsRead w.now place (from + size chain_rest.now) answer_behind → EndsRead w.now place from answer
  by_byte h false t on = at_name from 0 here h (nothing_met w.now from) (eqb-false _ 0 t) (end_refused chain_rest (place + from) left h (eqb-false _ 0 t))
  by_byte h true t on = by_next h (eqb-true (byte chain_rest.now (name_end chain_rest.now)) 0 t) (followed chain_rest.now) refl on

  ends_stop : (why : Refusal) → first_of chain_rest ≡ Err why → answer ≡ Ok tt
  ends_stop why e = ap ended (ends_refused chain_rest (place + from) (suc left) why e) ∙ ended_none

  ends_by : First chain_rest → (size chain_rest.now ≤ length chain_rest.now → EndsRead w.now place (from + size chain_rest.now) answer_behind) → EndsRead w.now place from answer
  ends_by (first_short h e) on = all_zero (λ at before st whole. absurd (none_there w.now from at before st (omega arith) whole)) (ends_stop _ e)
  ends_by (first_cut h k e) on = all_zero (λ at before st whole. absurd (none_there w.now from at before st k whole)) (ends_stop _ e)
  ends_by (first_whole h e) on = by_byte h (eqb (byte chain_rest.now (name_end chain_rest.now)) 0) refl (on h)

ends_read : (left : ℕ) (w : Bor (List ℕ)) (place from : ℕ) → length (drop from w.now) ≤ left → EndsRead w.now place from (ended (ends_from (after w from) (place + from) left))
ends_read zero w place from h = all_zero (λ at before st whole. absurd (none_there w.now from at before st (omega arith) whole)) (nothing_ended (after w from) (place + from))
ends_read (suc left) w place from h =
    ends_by w place from left (first_read (after w from))
    (λ t. ends_read left w place (from + size (drop from w.now)) (omega (arith, length-drop from w.now, length-drop (from + size (drop from w.now)) w.now)))

-- a chain that is read alone
module _ (s : Bor (List ℕ)) (l : ltb limit (length s.now) ≡ false) where
  checked_by : (t : Result Unit Refusal) → ended (ends s 0) ≡ t → ChainAlone Checked s
  checked_by (Ok u) e = chain_ended (ltb-false limit (length s.now) l) refl e (simp (l, e))
  checked_by (Err why) e = chain_refused (ltb-false limit (length s.now) l) refl why e (simp (l, e))

  chain_in : (mode : Mode) → ChainAlone mode s
  chain_in Present = chain_present (ltb-false limit (length s.now) l) refl (simp l)
  chain_in Checked = checked_by (ended (ends s 0)) refl

chain_alone_read : (mode : Mode) (s : Bor (List ℕ)) (t : Bool) → ltb limit (length s.now) ≡ t → ChainAlone mode s
chain_alone_read mode s true l = chain_large (ltb-true limit (length s.now) l) (simp l)
chain_alone_read mode s false l = chain_in s l mode

pub refactors_read : RefactorsRead
refactors_read = record {
  first = first_read;
  alone = λ mode s. alone_read mode s (ltb limit (length s.now)) refl;
  chain = chain_read;
  ends = λ s place. subst (EndsRead s.now place 0) (ap₂ (λ (x : Bor (List ℕ)) (k : ℕ). ended (ends_from x k (length s.now))) (sym (after_zero s)) (add-zero place)) (ends_read (length s.now) s place 0 (omega arith));
  chain_alone = λ mode s. chain_alone_read mode s (ltb limit (length s.now)) refl;
  listed = λ s count at before st l h. ap (λ (x : Bor (List ℕ)). slice_get (listed x count) before) (after_zero s) ∙ each_at s 0 at before count st l h;
}
