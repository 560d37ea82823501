-- What is read of an attribute, by its bytes: proved.
use Rattle.std.proofs.Common.{◌≡◌, ◌⊎◌, inl, inr, ℕ, zero, suc, ◌+◌, ◌<◌, ◌≤◌, Bool, true, false, List, [], ◌∷◌, length, drop, Ok, Err, Result, refl, sym, ap, ap₂, ◌∙◌, subst, arith, Bor}
use Rattle.std.specs.Prelude.{eqb, ltb, slice_get, Some}
use Rattle.std.proofs.lemmas.List.Elements.{All-nil, All-cons}
use native.Mathlib.Nat.{add-zero, zero-add, add_assoc}
use borrow.Author.Tests.{ltb-true, ltb-false, eqb-true, eqb-false}
use Rattle.part.specs.Slice.{part, after}
use Rattle.refusal.specs.Refusal.{limit}
use Rattle.refusal.specs.EndBytes.{ended}
use Rattle.refusal.specs.declared.Mode.{Mode}
use Rattle.refusal.specs.declared.Mode.TheVariants.{Present, Checked}
use Rattle.refusal.specs.declared.Refusal.{Refusal}
use Rattle.refusal.specs.declared.Refusal.TheVariants.{UnexpectedLength, EndByte}
use Rattle.refusal.proofs.EndBytes.{ended_none}
use Rattle.refusal.proofs.EndsMeant.{first_refused}
use Rattle.attribute.specs.declared.AdsAttribute.{AdsAttribute}
use Rattle.attribute.specs.Attribute.{first_of, listed, after_listed, ends}
use Rattle.attribute.specs.Laid.{size, name_end, value_end, byte, parts, Stands, here, behind}
use Rattle.attribute.specs.Read.{First, first_short, first_cut, first_whole, Alone, too_large, short, cut, name_refused, value_refused, accepted, Ended, EndsRead, all_zero, at_name, at_value, IsListed, AttributesRead}
use Rattle.attribute.proofs.Laws.{listed_more, listed_stop, listed_none, after_more, after_stop, after_none}
use Rattle.part.proofs.Slice.{after_after, after_zero}
use Rattle.attribute.proofs.Again.{n_of, v_of, first_here, ends_here, two_zero}

module _ (s : Bor (List ℕ)) where
  read_whole : size s.now ≤ length s.now → first_of s ≡ Ok (parts s, after s (size s.now))
  read_whole h =
      first_here s (omega arith)
      ∙ ap₂ (λ (k m : ℕ). Ok (record { name = part s 2 (n_of s); value = part s k (v_of s) }, after s m)) (omega arith) (omega arith)

  first_by : (t : Bool) → ltb (length s.now) 4 ≡ t → (u : Bool) → ltb (length s.now) (n_of s + v_of s + 4) ≡ u → First s
  unfolding first_of
  first_by true e u f = first_short (ltb-true (length s.now) 4 e) (simp e)
  first_by false e true f =
      let l = ltb-true (length s.now) (n_of s + v_of s + 4) f in
      first_cut (ltb-false (length s.now) 4 e) (omega arith) (simp (e, f) (ap (λ (k : ℕ). Err (UnexpectedLength k (length s.now))) (omega arith)))
  first_by false e false f =
      let l = ltb-false (length s.now) (n_of s + v_of s + 4) f in
      first_whole (omega arith) (read_whole (omega arith))

  pub first_read : First s
  first_read = first_by (ltb (length s.now) 4) refl (ltb (length s.now) (n_of s + v_of s + 4)) refl

-- the end bytes of a whole one at the start, and then those behind it
module _ (s : Bor (List ℕ)) (h : size s.now ≤ length s.now) where
  ends_laid : (at left : ℕ) → ends s at (suc left)
      ≡ (at + name_end s.now, byte s.now (name_end s.now)) ∷ (at + value_end s.now, byte s.now (value_end s.now)) ∷ ends (after s (size s.now)) (at + size s.now) left
  ends_laid at left =
      ends_here s at left (omega arith)
      ∙ ap₂ (λ (k m : ℕ). (at + (2 + n_of s), byte s.now (2 + n_of s)) ∷ (at + k, byte s.now k) ∷ ends (after s m) (at + k + 1) left) (omega arith) (omega arith)
      ∙ ap (λ (k : ℕ). (at + name_end s.now, byte s.now (name_end s.now)) ∷ (at + value_end s.now, byte s.now (value_end s.now)) ∷ ends (after s (size s.now)) k left) (omega arith)

  module _ (at left : ℕ) where
    is_refused : (byte s.now (name_end s.now) ≡ 0 → ⊥) → ended (ends s at (suc left)) ≡ Err (EndByte (at + name_end s.now) (byte s.now (name_end s.now)))
    is_refused not = ap ended (ends_laid at left) ∙ first_refused [] _ (at + name_end s.now, byte s.now (name_end s.now)) (All-nil (λ (x : ℕ × ℕ). x.1 ≡ 0)) not

    then_refused : byte s.now (name_end s.now) ≡ 0 → (byte s.now (value_end s.now) ≡ 0 → ⊥) → ended (ends s at (suc left)) ≡ Err (EndByte (at + value_end s.now) (byte s.now (value_end s.now)))
    then_refused z not =
        ap ended (ends_laid at left)
        ∙ first_refused ((at + name_end s.now, byte s.now (name_end s.now)) ∷ []) _ (at + value_end s.now, byte s.now (value_end s.now)) (All-cons (λ (x : ℕ × ℕ). x.1 ≡ 0) (at + name_end s.now, byte s.now (name_end s.now)) [] z (All-nil (λ (x : ℕ × ℕ). x.1 ≡ 0))) not

    goes_on : byte s.now (name_end s.now) ≡ 0 → byte s.now (value_end s.now) ≡ 0 → ended (ends s at (suc left)) ≡ ended (ends (after s (size s.now)) (at + size s.now) left)
    goes_on z w = ap ended (ends_laid at left) ∙ two_zero _ _ _ z w

ends_none : (s : Bor (List ℕ)) (at : ℕ) → ended (ends s at 0) ≡ Ok tt
unfolding ends
ends_none s at = ended_none

ends_stop : (s : Bor (List ℕ)) (at left : ℕ) (why : Refusal) → first_of s ≡ Err why → ended (ends s at (suc left)) ≡ Ok tt
unfolding ends
ends_stop s at left why e = rw e ended_none

-- one that is read alone
module _ (s : Bor (List ℕ)) (l : ltb limit (length s.now) ≡ false) where
  within : length s.now ≤ 16777216
  within = ltb-false limit (length s.now) l

  whole_by : (mode : Mode) → size s.now ≤ length s.now → first_of s ≡ Ok (parts s, after s (size s.now))
      → (t : Bool) → eqb (byte s.now (name_end s.now)) 0 ≡ t → (u : Bool) → eqb (byte s.now (value_end s.now)) 0 ≡ u → Alone mode s
  whole_by Present h e t f u g = accepted within h (inl refl) (simp (l, e))
  whole_by Checked h e false f u g =
      let not = eqb-false (byte s.now (name_end s.now)) 0 f in
      name_refused within h refl not (simp (l, e, is_refused s h 0 0 not) (ap (λ (k : ℕ). Err (EndByte k (byte s.now (name_end s.now)))) (zero-add (name_end s.now))))
  whole_by Checked h e true f false g =
      let z = eqb-true (byte s.now (name_end s.now)) 0 f in
      let not = eqb-false (byte s.now (value_end s.now)) 0 g in
      value_refused within h refl z not (simp (l, e, then_refused s h 0 0 z not) (ap (λ (k : ℕ). Err (EndByte k (byte s.now (value_end s.now)))) (zero-add (value_end s.now))))
  whole_by Checked h e true f true g =
      let z = eqb-true (byte s.now (name_end s.now)) 0 f in
      let w = eqb-true (byte s.now (value_end s.now)) 0 g in
      accepted within h (inr (z, w)) (simp (l, e, goes_on s h 0 0 z w, ends_none (after s (size s.now)) (0 + size s.now)))

  alone_by : (mode : Mode) → First s → Alone mode s
  alone_by mode (first_short h e) = short h (simp (l, e))
  alone_by mode (first_cut h k e) = cut within h k (simp (l, e))
  alone_by mode (first_whole h e) = whole_by mode h e (eqb (byte s.now (name_end s.now)) 0) refl (eqb (byte s.now (value_end s.now)) 0) refl

alone_read : (mode : Mode) (s : Bor (List ℕ)) (t : Bool) → ltb limit (length s.now) ≡ t → Alone mode s
alone_read mode s true l = too_large (ltb-true limit (length s.now) l) (simp l)
alone_read mode s false l = alone_by s l mode (first_read s)

-- the end bytes of the attributes from a place on
at_one : (s : List ℕ) (from at before most : ℕ) → Stands s from at before → byte (drop from s) (name_end (drop from s)) ≡ 0 → byte (drop from s) (value_end (drop from s)) ≡ 0
    → Ended s (from + size (drop from s)) most → before < suc most → size (drop at s) ≤ length (drop at s)
    → (byte (drop at s) (name_end (drop at s)) ≡ 0) × (byte (drop at s) (value_end (drop at s)) ≡ 0)
at_one s from at zero most here z w rest below whole = (z, w)
at_one s from at (suc before) most (behind t st) z w rest below whole = rest at before st (omega arith) whole

ended_more : (s : List ℕ) (from most : ℕ) → byte (drop from s) (name_end (drop from s)) ≡ 0 → byte (drop from s) (value_end (drop from s)) ≡ 0 → Ended s (from + size (drop from s)) most → Ended s from (suc most)
ended_more s from most z w rest at before st below whole = at_one s from at before most st z w rest below whole

none_there : (s : List ℕ) (from at before : ℕ) → Stands s from at before → length (drop from s) < size (drop from s) → size (drop at s) ≤ length (drop at s) → ⊥
none_there s from at zero here l whole = omega arith
none_there s from at (suc before) (behind t st) l whole = omega arith

more : (s : List ℕ) (place from left : ℕ) (r : Result Unit Refusal) → size (drop from s) ≤ length (drop from s) → byte (drop from s) (name_end (drop from s)) ≡ 0 → byte (drop from s) (value_end (drop from s)) ≡ 0
    → EndsRead s place (from + size (drop from s)) left r → EndsRead s place from (suc left) r
more s place from left r h z w (all_zero rest e) = all_zero (ended_more s from left z w rest) e
more s place from left r h z w (at_name at before st below whole rest not e) = at_name at (suc before) (behind h st) (omega arith) whole (ended_more s from before z w rest) not e
more s place from left r h z w (at_value at before st below whole rest y not e) = at_value at (suc before) (behind h st) (omega arith) whole (ended_more s from before z w rest) y not e

nothing_ended : (s : List ℕ) (from : ℕ) → Ended s from 0
nothing_ended s from at before st below whole = absurd (omega arith)

module _ (w : Bor (List ℕ)) (place from left : ℕ) where
  abbrev rest : Bor (List ℕ)
  rest = after w from

  by_bytes : size rest.now ≤ length rest.now → (t : Bool) → eqb (byte rest.now (name_end rest.now)) 0 ≡ t → (u : Bool) → eqb (byte rest.now (value_end rest.now)) 0 ≡ u
      → EndsRead w.now place (from + size rest.now) left (ended (ends (after w (from + size rest.now)) (place + (from + size rest.now)) left))
      → EndsRead w.now place from (suc left) (ended (ends rest (place + from) (suc left)))
  by_bytes h false f u g on = at_name from 0 here (omega arith) h (nothing_ended w.now from) (eqb-false _ 0 f) (is_refused rest h (place + from) left (eqb-false _ 0 f))
  by_bytes h true f false g on =
      let z = eqb-true (byte rest.now (name_end rest.now)) 0 f in
      at_value from 0 here (omega arith) h (nothing_ended w.now from) z (eqb-false _ 0 g) (then_refused rest h (place + from) left z (eqb-false _ 0 g))
  by_bytes h true f true g on =
      let z = eqb-true (byte rest.now (name_end rest.now)) 0 f in
      let y = eqb-true (byte rest.now (value_end rest.now)) 0 g in
      let e : ended (ends rest (place + from) (suc left)) ≡ ended (ends (after w (from + size rest.now)) (place + (from + size rest.now)) left) =
      goes_on rest h (place + from) left z y ∙ ap₂ (λ (x : Bor (List ℕ)) (k : ℕ). ended (ends x k left)) (after_after w from (size rest.now)) (add_assoc place from (size rest.now)) in
      subst (λ r. EndsRead w.now place from (suc left) r) (sym e) (more w.now place from left _ h z y on)

  by_first : First rest → EndsRead w.now place (from + size rest.now) left (ended (ends (after w (from + size rest.now)) (place + (from + size rest.now)) left))
      → EndsRead w.now place from (suc left) (ended (ends rest (place + from) (suc left)))
  by_first (first_short h e) on = all_zero (λ at before st below whole. absurd (none_there w.now from at before st (omega arith) whole)) (ends_stop rest (place + from) left _ e)
  by_first (first_cut h k e) on = all_zero (λ at before st below whole. absurd (none_there w.now from at before st k whole)) (ends_stop rest (place + from) left _ e)
  by_first (first_whole h e) on = by_bytes h (eqb (byte rest.now (name_end rest.now)) 0) refl (eqb (byte rest.now (value_end rest.now)) 0) refl on

ends_read : (left : ℕ) (w : Bor (List ℕ)) (place from : ℕ) → EndsRead w.now place from left (ended (ends (after w from) (place + from) left))
ends_read zero w place from = all_zero (nothing_ended w.now from) (ends_none (after w from) (place + from))
ends_read (suc left) w place from = by_first w place from left (first_read (after w from)) (ends_read left w place (from + size (drop from w.now)))

-- the attributes that are listed from a place on
record ListedFrom (w : Bor (List ℕ)) (from count : ℕ) : Type 0 where
  end : ℕ
  many : ℕ
  stands : Stands w.now from end many
  most : many ≤ count
  ends : (many ≡ count) ⊎ (length (drop end w.now) < size (drop end w.now))
  long : length (listed (after w from) count) ≡ many
  rest : after_listed (after w from) count ≡ after w end
  each : (at before : ℕ) → Stands w.now from at before → before < many → slice_get (listed (after w from) count) before ≡ Some (parts (after w at))

nothing_listed : (w : Bor (List ℕ)) (from : ℕ) → ListedFrom w from 0
nothing_listed w from = record {
  end = from;
  many = 0;
  stands = here;
  most = omega arith;
  ends = inl refl;
  long = ap length (listed_none (after w from));
  rest = after_none (after w from);
  each = λ at before st l. absurd (omega arith);
}

module _ (w : Bor (List ℕ)) (from left : ℕ) where
  abbrev q : Bor (List ℕ)
  q = after w from

  stop_here : (why : Refusal) → first_of q ≡ Err why → length q.now < size q.now → ListedFrom w from (suc left)
  stop_here why e h = record {
    end = from;
    many = 0;
    stands = here;
    most = omega arith;
    ends = inr h;
    long = ap length (listed_stop q left why e);
    rest = after_stop q left why e;
    each = λ at before st l. absurd (omega arith);
  }

  module _ (h : size q.now ≤ length q.now) (e : first_of q ≡ Ok (parts q, after q (size q.now))) where
    listed_is : listed q (suc left) ≡ parts q ∷ listed (after w (from + size q.now)) left
    listed_is = listed_more q left (parts q, after q (size q.now)) e ∙ ap (λ (x : Bor (List ℕ)). parts q ∷ listed x left) (after_after w from (size q.now))

    after_is : after_listed q (suc left) ≡ after_listed (after w (from + size q.now)) left
    after_is = after_more q left (parts q, after q (size q.now)) e ∙ ap (λ (x : Bor (List ℕ)). after_listed x left) (after_after w from (size q.now))

    module _ (r : ListedFrom w (from + size q.now) left) where
      each_at : (at before : ℕ) → Stands w.now from at before → before < suc r.many → slice_get (listed q (suc left)) before ≡ Some (parts (after w at))
      each_at at zero here l = ap (λ (x : List AdsAttribute). slice_get x 0) listed_is
      each_at at (suc before) (behind t st) l = ap (λ (x : List AdsAttribute). slice_get x (suc before)) listed_is ∙ r.each at before st (omega arith)

      listed_on : ListedFrom w from (suc left)
      listed_on = record {
        end = r.end;
        many = suc r.many;
        stands = behind h r.stands;
        most = let m = r.most in omega arith;
        ends = by_end r.ends;
        long = ap length listed_is ∙ ap suc r.long;
        rest = after_is ∙ r.rest;
        each = each_at;
      }
        where
          by_end : (r.many ≡ left) ⊎ (length (drop r.end w.now) < size (drop r.end w.now)) → (suc r.many ≡ suc left) ⊎ (length (drop r.end w.now) < size (drop r.end w.now))
          by_end (inl z) = inl (ap suc z)
          by_end (inr z) = inr z

  listed_by : First q → ((k : ℕ) → ListedFrom w k left) → ListedFrom w from (suc left)
  listed_by (first_short h e) on = stop_here _ e (omega arith)
  listed_by (first_cut h k e) on = stop_here _ e k
  listed_by (first_whole h e) on = listed_on h e (on (from + size q.now))

listed_read : (count : ℕ) (w : Bor (List ℕ)) (from : ℕ) → ListedFrom w from count
listed_read zero w from = nothing_listed w from
listed_read (suc left) w from = listed_by w from left (first_read (after w from)) (λ k. listed_read left w k)

listed_whole : (s : Bor (List ℕ)) (count : ℕ) → IsListed s count
listed_whole s count =
    let r = listed_read count s 0 in
    let z = after_zero s in
    record {
      end = r.end;
      many = r.many;
      stands = r.stands;
      most = r.most;
      ends = r.ends;
      long = ap (λ (x : Bor (List ℕ)). length (listed x count)) z ∙ r.long;
      rest = ap (λ (x : Bor (List ℕ)). after_listed x count) z ∙ r.rest;
      each = λ at before st l. ap (λ (x : Bor (List ℕ)). slice_get (listed x count) before) z ∙ r.each at before st l;
    }

pub attributes_read : AttributesRead
attributes_read = record {
  first = first_read;
  alone = λ mode s. alone_read mode s (ltb limit (length s.now)) refl;
  listed = listed_whole;
  ends = λ s place count. subst (λ r. EndsRead s.now place 0 count r) (ap₂ (λ (x : Bor (List ℕ)) (k : ℕ). ended (ends x k count)) (sym (after_zero s)) (add-zero place)) (ends_read count s place 0);
}
